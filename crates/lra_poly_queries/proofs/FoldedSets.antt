-- The hull of the points along some dimensions and along others.
use Rattle.std.proofs.Common.{◌≡◌, ℕ, List, length, ap, sym, ◌∙◌, subst, inl, inr}
use Rattle.lra_poly_queries.specs.Crates.lra_linear_spec.Points.{IsWithin, PointSet, SameSet}
use Rattle.lra_poly_queries.specs.Crates.{lra_linear_spec.Descriptions.Con, lra_linear_spec.OperationStrain.HullStrains, lra_linear_spec.Polyhedra.IsPolyhedronOf, lra_linear_spec.Polyhedra.Polyhedron}
use Rattle.lra_poly_queries.specs.Crates.{lra_linear_spec.SetOperations.Hull, lra_linear_spec.SetOperations.Union, lra_linear_spec.Strain.Loss}
use Rattle.lra_poly.proofs.PolyLemmas.{same_polyhedron}
use Rattle.lra_poly.specs.Outcomes.{Becomes, IfExact, IfFlagged, first_of}
use Rattle.lra_poly.specs.{declared.outcome.Outcome.Outcome, declared.outcome.Outcome.TheVariants.Exact, declared.outcome.Outcome.TheVariants.Flagged}
use Rattle.lra_poly_queries.specs.{Folded.FoldStrains, Folded.Folded, Moved.MapDimsStrains, Moved.Moved}

-- ---- three calls in a row
three_exact : (P Q R G : Type 0) → (P → Q → R → G) → (first second third : Outcome) → IfExact P first →
    IfExact Q second → IfExact R third → IfExact G (first_of first (first_of second third))
three_exact P Q R G f Exact Exact Exact p q r = f p q r
three_exact P Q R G f Exact Exact (Flagged loss) p q r = tt
three_exact P Q R G f Exact (Flagged loss) third p q r = tt
three_exact P Q R G f (Flagged loss) second third p q r = tt

three_flagged : (P Q : Type 0) (A B C G : Loss → Type 0) → ((loss : Loss) → A loss → G loss) →
    ((loss : Loss) → B loss → G loss) → ((loss : Loss) → P → Q → C loss → G loss) →
    (first second third : Outcome) → IfExact P first → IfExact Q second → IfFlagged A first → IfFlagged B second →
    IfFlagged C third → IfFlagged G (first_of first (first_of second third))
three_flagged P Q A B C G f g h Exact Exact Exact p q a b c = tt
three_flagged P Q A B C G f g h Exact Exact (Flagged loss) p q a b c = h loss p q c
three_flagged P Q A B C G f g h Exact (Flagged loss) third p q a b c = g loss b
three_flagged P Q A B C G f g h (Flagged loss) second third p q a b c = f loss a

-- ---- hulls
hull_within : (n : ℕ) (P Q R S : PointSet) → IsWithin n P R → IsWithin n Q S →
    IsWithin n (Hull n (Union P Q)) (Hull n (Union R S))
hull_within n P Q R S f g x i h = λ c w valid. h c w (λ y j m. elim m [
  | inl p ↦ valid y j (inl (f y j p))
  | inr q ↦ valid y j (inr (g y j q))
])

hull_same : (n : ℕ) (P Q R S : PointSet) → SameSet n P R → SameSet n Q S →
    SameSet n (Hull n (Union P Q)) (Hull n (Union R S))
hull_same n P Q R S f g = (hull_within n P Q R S f.0 g.0, hull_within n R S P Q f.1 g.1)

-- ---- as the code states it
fold_exact : (p : Polyhedron) (kept folded : List ℕ) (one two new : Polyhedron)
    (first second third later all : Outcome) → all ≡ first_of first later → later ≡ first_of second third →
    one.dims ≡ length kept → length folded ≡ length kept →
    IfExact (IsPolyhedronOf (length kept) (Moved p.dims kept (Con p.rows)) one) first →
    IfExact (IsPolyhedronOf (length folded) (Moved p.dims folded (Con p.rows)) two) second →
    IfExact (IsPolyhedronOf one.dims (Hull one.dims (Union (Con one.rows) (Con two.rows))) new) third →
    IfExact (IsPolyhedronOf (length kept) (Folded p kept folded) new) all
fold_exact p kept folded one two new first second third later all ea el d n a b c =
    let A : PointSet = Moved p.dims kept (Con p.rows) in
    let B : PointSet = Moved p.dims folded (Con p.rows) in
    subst (IfExact (IsPolyhedronOf (length kept) (Folded p kept folded) new)) (sym (ea ∙ ap (first_of first) el))
    (three_exact (IsPolyhedronOf (length kept) A one) (IsPolyhedronOf (length kept) B two)
    (IsPolyhedronOf (length kept) (Hull (length kept) (Union (Con one.rows) (Con two.rows))) new)
    (IsPolyhedronOf (length kept) (Folded p kept folded) new)
    (λ is_one is_two is. same_polyhedron (length kept) (Folded p kept folded)
    (Hull (length kept) (Union (Con one.rows) (Con two.rows))) new
    (hull_same (length kept) A B (Con one.rows) (Con two.rows) is_one.points is_two.points) is)
    first second third a
    (subst (λ (m : ℕ). IfExact (IsPolyhedronOf m B two) second) n b)
    (subst (λ (m : ℕ). IfExact (IsPolyhedronOf m (Hull m (Union (Con one.rows) (Con two.rows))) new) third) d c))

fold_within : (p : Polyhedron) (kept folded : List ℕ) (one two new : Polyhedron) →
    one.dims ≡ length kept → length folded ≡ length kept →
    IsWithin (length kept) (Moved p.dims kept (Con p.rows)) (Con one.rows) →
    IsWithin (length folded) (Moved p.dims folded (Con p.rows)) (Con two.rows) →
    IsWithin one.dims (Hull one.dims (Union (Con one.rows) (Con two.rows))) (Con new.rows) →
    IsWithin (length kept) (Folded p kept folded) (Con new.rows)
fold_within p kept folded one two new d n a b c =
    let A : PointSet = Moved p.dims kept (Con p.rows) in
    let B : PointSet = Moved p.dims folded (Con p.rows) in
    let second = subst (λ (m : ℕ). IsWithin m B (Con two.rows)) n b in
    let all = subst (λ (m : ℕ). IsWithin m (Hull m (Union (Con one.rows) (Con two.rows))) (Con new.rows)) d c in
    λ x i h. all x i (hull_within (length kept) A B (Con one.rows) (Con two.rows) a second x i h)

fold_strain : (p : Polyhedron) (kept folded : List ℕ) (one two new : Polyhedron)
    (first second third later all : Outcome) → all ≡ first_of first later → later ≡ first_of second third →
    length folded ≡ length kept →
    IfExact (IsPolyhedronOf (length kept) (Moved p.dims kept (Con p.rows)) one) first →
    IfExact (IsPolyhedronOf (length folded) (Moved p.dims folded (Con p.rows)) two) second →
    IfFlagged (MapDimsStrains kept p) first → IfFlagged (MapDimsStrains folded p) second →
    IfFlagged (HullStrains one two) third → IfFlagged (FoldStrains kept folded p) all
fold_strain p kept folded one two new first second third later all ea el n a b fa fb fc =
    let A : PointSet = Moved p.dims kept (Con p.rows) in
    let B : PointSet = Moved p.dims folded (Con p.rows) in
    subst (IfFlagged (FoldStrains kept folded p)) (sym (ea ∙ ap (first_of first) el))
    (three_flagged (IsPolyhedronOf (length kept) A one) (IsPolyhedronOf (length kept) B two) (MapDimsStrains kept p)
    (MapDimsStrains folded p) (HullStrains one two) (FoldStrains kept folded p) (λ loss s. inl s)
    (λ loss s. inr (inl s))
    (λ loss is_one is_two s. inr (inr (record { one = one; is_one = is_one; two = two; is_two = is_two; strains = s })))
    first second third a (subst (λ (m : ℕ). IfExact (IsPolyhedronOf m B two) second) n b) fa fb fc)

pub fold_becomes : (p : Polyhedron) (kept folded : List ℕ) (one two new : Polyhedron)
    (first second third later all : Outcome) → all ≡ first_of first later → later ≡ first_of second third →
    length folded ≡ length kept →
    Becomes (length kept) (Moved p.dims kept (Con p.rows)) (MapDimsStrains kept p) one first →
    Becomes (length folded) (Moved p.dims folded (Con p.rows)) (MapDimsStrains folded p) two second →
    Becomes one.dims (Hull one.dims (Union (Con one.rows) (Con two.rows))) (HullStrains one two) new third →
    Becomes (length kept) (Folded p kept folded) (FoldStrains kept folded p) new all
fold_becomes p kept folded one two new first second third later all ea el n a b c = record {
  dims = c.dims ∙ a.dims;
  canonical = c.canonical;
  within = fold_within p kept folded one two new a.dims n a.within b.within c.within;
  exact = fold_exact p kept folded one two new first second third later all ea el a.dims n a.exact b.exact c.exact;
  flagged = fold_strain p kept folded one two new first second third later all ea el n a.exact b.exact a.flagged
      b.flagged c.flagged;
}
