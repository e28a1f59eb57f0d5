-- A coordinate whose new values stand to the old point as a constraint reports.
use Rattle.std.proofs.Common.{◌≡◌, ℕ, zero, suc, ◌+◌, List, [], ◌∷◌, ◌++◌, length, replicate, slice_set, ap, refl, sym, ◌∙◌, subst, ℤ, inl, inr}
use Rattle.lra_poly_queries.specs.Crates.lra_linear_spec.Polyhedra.{IsPolyhedron, IsPolyhedronOf, Polyhedron}
use Rattle.lra_poly_queries.specs.Crates.{lra_linear_spec.Descriptions.Con, lra_linear_spec.Descriptions.LinearRow, lra_linear_spec.Kinds.is_equality, lra_linear_spec.Points.IsWithin}
use Rattle.lra_poly_queries.specs.Crates.{lra_linear_spec.Points.PointSet, lra_linear_spec.Points.SameSet, lra_linear_spec.Strain.Loss, lra_linear_spec.declared.ConKind.ConKind}
use Rattle.lra_poly_queries.proofs.Crates.{lra_linear_spec.Descriptions.con_cons, lra_linear_spec.Descriptions.con_head, lra_linear_spec.Descriptions.con_none, lra_linear_spec.SetOperations.meet_con}
use Rattle.lra_poly.proofs.PolyLemmas.{same_polyhedron}
use Rattle.lra_poly.specs.Outcomes.{Becomes, IfExact, IfFlagged, first_of}
use Rattle.lra_poly.specs.{declared.outcome.Outcome.Outcome, declared.outcome.Outcome.TheVariants.Exact, declared.outcome.Outcome.TheVariants.Flagged}
use Rattle.lra_systems.specs.LinearSystems.{LinearSystem, constraints, rows_by_kind}
use Rattle.lra_systems.proofs.LinearRows.{constraints_pushed}
use Rattle.lra_poly_queries.specs.Related.{ExtendStrains, Extended, ImageRelationStrains, Related, extended, replaced}
use Rattle.lra_poly_queries.specs.{Joined.counted, Moved.MapDimsStrains, Moved.Moved, Moved.moved}
use Rattle.lra_poly_queries.proofs.{JoinedSets.counted_length, JoinedSets.first_rows, TakenRows.TakesRows}

-- ---- one further coordinate
extended_rows : (p : Polyhedron) (g : LinearRow) → IsPolyhedron p →
    SameSet (p.dims + 1) (Extended p.dims g (Con p.rows)) (Con (extended g p))
extended_rows p g h =
    let both = meet_con (p.dims + 1) (moved (counted (p.dims + 1) 0) p.rows) (g ∷ []) in (
      λ x i m. both.0 x i ((first_rows p 1 h x).1 m.0, con_cons g [] x m.1 (con_none x)),
      λ x i m. let b = both.1 x i m in ((first_rows p 1 h x).0 b.0, con_head g [] x b.1),
    )

pub extended_takes : (p : Polyhedron) (start own more ps : LinearSystem ConKind) (first : List ℕ) (n : ℕ) (row : List ℤ)
    (k : ConKind) → IsPolyhedron p → n ≡ p.dims → start.rows ≡ [] → start.dims ≡ n + 1 → own.dims ≡ start.dims →
    first ≡ replicate 0 0 ++ counted (n + 1) 0 → constraints ps ≡ p.rows →
    constraints own ≡ constraints start ++ moved first (constraints ps) → length own.kinds ≡ length own.rows →
    more.dims ≡ own.dims → more.rows ≡ own.rows ++ row ∷ [] → more.kinds ≡ own.kinds ++ k ∷ [] →
    TakesRows (p.dims + 1) (Extended p.dims (record { row = row; equal = is_equality k }) (Con p.rows))
    (extended (record { row = row; equal = is_equality k }) p) more
extended_takes p start own more ps first n row k h en er ed eo ef ep go c dm rm km = record {
  dimensions = dm ∙ eo ∙ ed ∙ ap (λ (d : ℕ). d + 1) en;
  are = constraints_pushed own more row k c rm km
      ∙ ap (λ (l : List LinearRow). l ++ (let g : LinearRow = record { row = row; equal = is_equality k } in g) ∷ [])
      (go ∙ ap (λ (l : List (List ℤ)). rows_by_kind is_equality l start.kinds ++ moved first (constraints ps)) er
      ∙ ap (λ (f : List ℕ). moved f (constraints ps)) (ef ∙ ap (λ (d : ℕ). counted (d + 1) 0) en)
      ∙ ap (moved (counted (p.dims + 1) 0)) ep);
  same = extended_rows p (record { row = row; equal = is_equality k }) h;
}

-- ---- that coordinate in place of another
moved_within : (n m : ℕ) (dims : List ℕ) (P Q : PointSet) → IsWithin n P Q →
    IsWithin m (Moved n dims P) (Moved n dims Q)
moved_within n m dims P Q h x i f =
    record { from = f.from; is_point = f.is_point; inside = h f.from f.is_point f.inside; same = f.same }

moved_same : (n m : ℕ) (dims : List ℕ) (P Q : PointSet) → SameSet n P Q → SameSet m (Moved n dims P) (Moved n dims Q)
moved_same n m dims P Q s = (moved_within n m dims P Q s.0, moved_within n m dims Q P s.1)

pub two_exact : (P Q G : Type 0) → (P → Q → G) → (first second : Outcome) → IfExact P first → IfExact Q second →
    IfExact G (first_of first second)
two_exact P Q G f Exact Exact p q = f p q
two_exact P Q G f Exact (Flagged loss) p q = tt
two_exact P Q G f (Flagged loss) second p q = tt

pub two_flagged : (P : Type 0) (A B G : Loss → Type 0) → ((loss : Loss) → A loss → G loss) →
    ((loss : Loss) → P → B loss → G loss) → (first second : Outcome) → IfExact P first → IfFlagged A first →
    IfFlagged B second → IfFlagged G (first_of first second)
two_flagged P A B G f g Exact Exact p a b = tt
two_flagged P A B G f g Exact (Flagged loss) p a b = g loss p b
two_flagged P A B G f g (Flagged loss) second p a b = f loss a

-- the lengths
pub replaced_length : (n k : ℕ) → length (replaced n k) ≡ n
replaced_length n k = set_length (counted n 0) k n ∙ counted_length n 0
  where
    set_length : (l : List ℕ) (k d : ℕ) → length (slice_set l k d) ≡ length l
    set_length [] k d = refl
    set_length (x ∷ l) zero d = refl
    set_length (x ∷ l) (suc k) d = ap suc (set_length l k d)

pub dims_replaced : (dims kept : List ℕ) (n k m : ℕ) → dims ≡ replicate 0 0 ++ counted n 0 →
    kept ≡ slice_set dims k n → n ≡ m → kept ≡ replaced m k
dims_replaced dims kept n k m ed ek en = ek ∙ ap (λ (l : List ℕ). slice_set l k n) ed ∙
    ap (λ (d : ℕ). slice_set (counted d 0) k d) en

related_exact : (p longer new : Polyhedron) (k : ℕ) (g : LinearRow) (kept : List ℕ) (first second all : Outcome) →
    all ≡ first_of first second → kept ≡ replaced p.dims k → longer.dims ≡ p.dims + 1 →
    IfExact (IsPolyhedronOf (p.dims + 1) (Extended p.dims g (Con p.rows)) longer) first →
    IfExact (IsPolyhedronOf (length kept) (Moved longer.dims kept (Con longer.rows)) new) second →
    IfExact (IsPolyhedronOf p.dims (Related p.dims k g (Con p.rows)) new) all
related_exact p longer new k g kept first second all ea ek ed a b =
    subst (IfExact (IsPolyhedronOf p.dims (Related p.dims k g (Con p.rows)) new)) (sym ea)
    (two_exact (IsPolyhedronOf (p.dims + 1) (Extended p.dims g (Con p.rows)) longer)
    (IsPolyhedronOf p.dims (Moved (p.dims + 1) (replaced p.dims k) (Con longer.rows)) new)
    (IsPolyhedronOf p.dims (Related p.dims k g (Con p.rows)) new)
    (λ is_longer is. same_polyhedron p.dims (Related p.dims k g (Con p.rows))
    (Moved (p.dims + 1) (replaced p.dims k) (Con longer.rows)) new
    (moved_same (p.dims + 1) p.dims (replaced p.dims k) (Extended p.dims g (Con p.rows)) (Con longer.rows)
    is_longer.points) is)
    first second a
    (subst (λ (m : ℕ). IfExact (IsPolyhedronOf m (Moved (p.dims + 1) (replaced p.dims k) (Con longer.rows)) new) second)
    (replaced_length p.dims k)
    (subst (λ (l : List ℕ). IfExact (IsPolyhedronOf (length l) (Moved (p.dims + 1) l (Con longer.rows)) new) second) ek
    (subst (λ (d : ℕ). IfExact (IsPolyhedronOf (length kept) (Moved d kept (Con longer.rows)) new) second) ed b))))

related_within : (p longer new : Polyhedron) (k : ℕ) (g : LinearRow) (kept : List ℕ) →
    kept ≡ replaced p.dims k → longer.dims ≡ p.dims + 1 →
    IsWithin (p.dims + 1) (Extended p.dims g (Con p.rows)) (Con longer.rows) →
    IsWithin (length kept) (Moved longer.dims kept (Con longer.rows)) (Con new.rows) →
    IsWithin p.dims (Related p.dims k g (Con p.rows)) (Con new.rows)
related_within p longer new k g kept ek ed a b =
    let rest = subst (λ (m : ℕ). IsWithin m (Moved (p.dims + 1) (replaced p.dims k) (Con longer.rows)) (Con new.rows))
    (replaced_length p.dims k)
    (subst (λ (l : List ℕ). IsWithin (length l) (Moved (p.dims + 1) l (Con longer.rows)) (Con new.rows)) ek
    (subst (λ (d : ℕ). IsWithin (length kept) (Moved d kept (Con longer.rows)) (Con new.rows)) ed b)) in
    λ x i f. rest x i (moved_within (p.dims + 1) p.dims (replaced p.dims k) (Extended p.dims g (Con p.rows))
    (Con longer.rows) a x i f)

related_strain : (p longer : Polyhedron) (k : ℕ) (g : LinearRow) (kept : List ℕ) (first second all : Outcome) →
    all ≡ first_of first second → kept ≡ replaced p.dims k →
    IfExact (IsPolyhedronOf (p.dims + 1) (Extended p.dims g (Con p.rows)) longer) first →
    IfFlagged (ExtendStrains g p) first → IfFlagged (MapDimsStrains kept longer) second →
    IfFlagged (ImageRelationStrains k g p) all
related_strain p longer k g kept first second all ea ek a fa fb =
    subst (IfFlagged (ImageRelationStrains k g p)) (sym ea)
    (two_flagged (IsPolyhedronOf (p.dims + 1) (Extended p.dims g (Con p.rows)) longer) (ExtendStrains g p)
    (MapDimsStrains (replaced p.dims k) longer) (ImageRelationStrains k g p) (λ loss s. inl s)
    (λ loss is s. inr (record { longer = longer; is_longer = is; strains = s })) first second a fa
    (subst (λ (l : List ℕ). IfFlagged (MapDimsStrains l longer) second) ek fb))

pub related_becomes : (p longer new : Polyhedron) (k : ℕ) (g : LinearRow) (kept : List ℕ) (first second all : Outcome) →
    all ≡ first_of first second → kept ≡ replaced p.dims k →
    Becomes (p.dims + 1) (Extended p.dims g (Con p.rows)) (ExtendStrains g p) longer first →
    Becomes (length kept) (Moved longer.dims kept (Con longer.rows)) (MapDimsStrains kept longer) new second →
    Becomes p.dims (Related p.dims k g (Con p.rows)) (ImageRelationStrains k g p) new all
related_becomes p longer new k g kept first second all ea ek a b = record {
  dims = b.dims ∙ ap (λ (l : List ℕ). length l) ek ∙ replaced_length p.dims k;
  canonical = b.canonical;
  within = related_within p longer new k g kept ek a.dims a.within b.within;
  exact = related_exact p longer new k g kept first second all ea ek a.dims a.exact b.exact;
  flagged = related_strain p longer k g kept first second all ea ek a.exact a.flagged b.flagged;
}
