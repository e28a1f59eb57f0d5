-- How many equalities hold on a polyhedron.
use Rattle.std.proofs.Common.{◌≡◌, ℕ, zero, suc, ◌<◌, ◌≤◌, ◌+◌, ◌-◌, Bool, true, false, List, [], ◌∷◌, ◌++◌, length, ap, refl, sym, ◌∙◌, subst, ℤ, pos, neg_ℤ, ◌<ℤ◌, ◌≤ℤ◌, inl, inr, arith}
use Rattle.std.proofs.{lemmas.Bool.cases_lt, lemmas.List.Elements.Contains-append_left}
use Rattle.std.specs.List.{Contains, prefix_len}
use Rattle.lra_poly_queries.specs.Crates.lra_linear_spec.Descriptions.{LinearRow, Con, equality, rows_as, rays_of, system_of}
use Rattle.lra_poly_queries.specs.Crates.lra_linear_spec.Vectors.{dot, entry, negated, product}
use Rattle.lra_poly_queries.specs.Crates.{lra_linear_spec.Cones.Generated, lra_linear_spec.Cones.all_rows, lra_linear_spec.Echelon.IsEchelon, lra_linear_spec.Echelon.HasPivot}
use Rattle.lra_poly_queries.specs.Crates.{lra_linear_spec.Echelon.Spanned, lra_linear_spec.Kinds.is_equality, lra_linear_spec.Points.IsEmptySet, lra_linear_spec.Points.IsPoint}
use Rattle.lra_poly_queries.specs.Crates.{lra_linear_spec.Polyhedra.HasPoint, lra_linear_spec.Polyhedra.IsPolyhedron, lra_linear_spec.Polyhedra.Polyhedron, lra_linear_spec.SetOperations.ValidOn}
use Rattle.lra_poly_queries.specs.Crates.{lra_linear_spec.declared.ConKind.ConKind, lra_linear_spec.declared.ConKind.TheVariants.Eq, lra_linear_spec.declared.ConKind.TheVariants.Ge}
use Rattle.lra_poly_queries.proofs.Crates.lra_linear_spec.CanonicalForms.{lines_are_all, spanned_in_cone, spanned_negative}
use Rattle.lra_poly_queries.proofs.Crates.lra_linear_spec.Polyhedra.{con_gen, generators_lines, generators_rays}
use Rattle.lra_poly_queries.proofs.Crates.lra_linear_spec.Products.{dot_minus, entry_negated, negated_dot, negated_length, product_comm, dot_first}
use Rattle.lra_poly_queries.proofs.Crates.lra_linear_spec.SetOperations.{has_vertex, valid_on_rows}
use Rattle.lra_poly_queries.proofs.Crates.lra_linear_spec.Signs.{between_opposites, not_both, opposite_of_zero, times_positive, zero_at_least}
use Rattle.lra_poly_queries.proofs.Crates.{lra_duality.PolyhedronLemmas.given_width, lra_duality.PolyhedronLemmas.with_point, lra_linear_spec.Combinations.generated_same}
use Rattle.lra_poly_queries.proofs.Crates.{lra_linear_spec.Descriptions.in_system, lra_linear_spec.LinearMaps.generated_nonneg, lra_linear_spec.Membership.contains_head}
use Rattle.lra_poly_queries.proofs.Crates.{lra_linear_spec.Membership.contains_tail, lra_linear_spec.OneSpelling.cone_solved, lra_linear_spec.OneSpelling.given_has, lra_linear_spec.Spans.leads_inside}
use Rattle.lra_systems.specs.LinearSystems.{LinearSystem, constraints, rows_by_kind}
use Rattle.lra_poly_queries.specs.Shapes.{AffineDimension}

-- ---- an echelon form none of whose rows leads in column 0 has fewer rows than columns

fewer_above : (w lo : ℕ) (rows : List (List ℤ)) (ps : List ℕ) → ((t : List ℤ) → Contains rows t → length t ≡ w) →
    IsEchelon rows ps → ((t : List ℤ) → Contains rows t → ¬ (HasPivot t 0)) →
    ((t : List ℤ) → Contains rows t → (j : ℕ) → 0 < j → j ≤ lo → entry t j ≡ pos 0) → lo < w → length rows + lo < w
fewer_above w lo [] ps width ech none low h = omega (arith, h)
fewer_above w lo (r ∷ rows) [] width ech none low h = absurd ech
fewer_above w lo (r ∷ rows) (zero ∷ ps) width ech none low h = absurd (none r (contains_head r rows) ech.0)
fewer_above w lo (r ∷ rows) (suc p ∷ ps) width ech none low h =
    let inside : suc p < w = subst (λ (n : ℕ). suc p < n) (width r (contains_head r rows)) (leads_inside r (suc p) ech.0) in
    let above : lo < suc p = elim (cases_lt lo (suc p)) [
      | inl k ↦ k
      | inr k ↦ absurd (not_both (entry r (suc p)) ech.0.here (low r (contains_head r rows) (suc p) (omega arith) k))
    ] in
    let i = fewer_above w (suc p) rows ps (λ t k. width t (contains_tail r t rows k)) ech.4
    (λ t k. none t (contains_tail r t rows k))
    (λ t k j a b. ech.2 t k j (elim (cases_lt j (suc p)) [ inl m ↦ inl (a, inl m) | inr m ↦ inr (omega (arith, b, m)) ]))
    inside in
    omega (arith, i, above)

-- ---- an equality that a point meets doesn't lead in column 0
not_leading : (n : ℕ) (c x : List ℤ) → IsPoint n x → product c x ≡ pos 0 → ¬ (HasPivot c 0)
not_leading n c x i z l = not_both (product c x)
    (subst (λ (y : ℤ). pos 0 <ℤ y) (sym (dot_first c (entry x) (λ j h. l.before j (h, inr refl))))
    (times_positive (entry c 0) (entry x 0) l.here i.divisor)) z

equality_has : (p : Polyhedron) (h : HasPoint p) (c : List ℤ) → Contains h.equalities c → Contains p.rows (equality c)
equality_has p h c k = subst (λ (l : List LinearRow). Contains l (equality c)) (sym h.rows_are)
    (Contains-append_left (rows_as true h.equalities) (rows_as false h.inequalities) (equality c)
    (given_has true h.equalities c k))

pub few_equalities : (p : Polyhedron) (h : HasPoint p) (x : List ℤ) → IsPoint p.dims x → Con p.rows x →
    length h.equalities ≤ p.dims
few_equalities p h x i c =
    let less = fewer_above (suc p.dims) 0 h.equalities h.constraints_canonical.pivots
    (λ t k. given_width p (inr h) (equality t) (equality_has p h t k)) h.constraints_canonical.echelon
    (λ t k. not_leading p.dims t x i (c (equality t) (equality_has p h t k))) (λ t k j a b. absurd (omega (arith, a, b)))
    (omega arith) in
    omega (arith, less)

-- ---- the equalities span all that hold
cone_rows : (p : Polyhedron) (h : HasPoint p) (t : List ℤ) → Contains (all_rows h.lines (h.points ++ h.rays)) t →
    Contains (system_of p.generators) t
cone_rows p h t k = in_system p.generators t
    (subst (λ (ls : List (List ℤ)). Contains (all_rows ls (rays_of p.generators)) t) (sym (generators_lines p h))
    (subst (λ (rs : List (List ℤ)). Contains (all_rows h.lines rs) t) (sym (generators_rays p h)) k))

valid_generated : (p : Polyhedron) (h : HasPoint p) (c : List ℤ) → length c ≡ suc p.dims →
    ((x : List ℤ) → IsPoint p.dims x → Con p.rows x → pos 0 ≤ℤ product c x) →
    Generated (all_rows h.equalities h.facets) (entry c)
valid_generated p h c e valid = h.dual.consequences c e (λ t k. subst (λ (z : ℤ). pos 0 ≤ℤ z) (product_comm c t)
    (valid_on_rows p.dims p.generators (has_vertex p h) c
    (λ y i gen. valid y i ((con_gen p (inr h)).1 y i gen)) t (cone_rows p h t k)))

spans_valid : (p : Polyhedron) (h : HasPoint p) (c : List ℤ) → length c ≡ suc p.dims →
    ValidOn p.dims (Con p.rows) (equality c) → Spanned h.equalities (entry c)
spans_valid p h c e v = lines_are_all h.equalities h.facets h.constraints_canonical (entry c)
    (valid_generated p h c e (λ x i k. zero_at_least (product c x) (v x i k)))
    (generated_same (all_rows h.equalities h.facets) (entry (negated c)) (λ j. neg_ℤ (entry c j)) (entry_negated c)
    (valid_generated p h (negated c) (negated_length c ∙ e) (λ x i k.
    opposite_of_zero (product c x) (product (negated c) x) (negated_dot c (entry x)) (v x i k))))

valid_spanned : (p : Polyhedron) (h : HasPoint p) (c : List ℤ) → Spanned h.equalities (entry c) →
    ValidOn p.dims (Con p.rows) (equality c)
valid_spanned p h c s x i k =
    between_opposites (product c x) (dot x (λ j. neg_ℤ (entry c j)))
    (dot_minus x (entry c) ∙ ap neg_ℤ (product_comm x c))
    (subst (λ (z : ℤ). pos 0 ≤ℤ z) (product_comm x c)
    (generated_nonneg x (all_rows h.equalities h.facets) (entry c) solved
    (spanned_in_cone h.equalities h.facets (entry c) s)))
    (generated_nonneg x (all_rows h.equalities h.facets) (λ j. neg_ℤ (entry c j)) solved
    (spanned_in_cone h.equalities h.facets (λ j. neg_ℤ (entry c j)) (spanned_negative h.equalities (entry c) s)))
  where
    solved : (r : List ℤ) → Contains (all_rows h.equalities h.facets) r → pos 0 ≤ℤ product x r
    solved r m = subst (λ (z : ℤ). pos 0 ≤ℤ z) (product_comm r x) (cone_solved p h x i k r m)

-- ---- as the code states it
prefix_of : (rows : List (List ℤ)) (kinds : List ConKind) (es is : List (List ℤ)) →
    rows_by_kind is_equality rows kinds ≡ rows_as true es ++ rows_as false is → length kinds ≡ length rows →
    prefix_len is_equality kinds ≡ length es
prefix_of [] [] [] is e n = refl
prefix_of [] [] (c ∷ es) is e n = cc
prefix_of [] (x ∷ kinds) es is e n = absurd (omega (arith, n))
prefix_of (r ∷ rows) [] es is e n = absurd (omega (arith, n))
prefix_of (r ∷ rows) (Ge ∷ kinds) [] is e n = refl
prefix_of (r ∷ rows) (Eq ∷ kinds) [] [] e n = cc
prefix_of (r ∷ rows) (Eq ∷ kinds) [] (c ∷ is) e n = let z : true ≡ false = first_kind e in cc
  where
    kind_of : List LinearRow → Bool
    kind_of [] = true
    kind_of (g ∷ gs) = g.equal

    first_kind : {xs ys : List LinearRow} → xs ≡ ys → kind_of xs ≡ kind_of ys
    first_kind e = ap kind_of e
prefix_of (r ∷ rows) (Ge ∷ kinds) (c ∷ es) is e n = let z : false ≡ true = ap kind_of e in cc
  where
    kind_of : List LinearRow → Bool
    kind_of [] = true
    kind_of (g ∷ gs) = g.equal
prefix_of (r ∷ rows) (Eq ∷ kinds) (c ∷ es) is e n =
    one_more (prefix_len is_equality kinds) (length es) (prefix_of rows kinds es is (ap behind e) (omega (arith, n)))
  where
    one_more : (a b : ℕ) → a ≡ b → 1 + a ≡ suc b
    one_more a b e = omega (arith, e)

    behind : List LinearRow → List LinearRow
    behind [] = []
    behind (g ∷ gs) = gs

record Counted (p : Polyhedron) (n : ℕ) : Type 0 where
  point : HasPoint p
  is : n ≡ length point.equalities

counted : (p : Polyhedron) (list : LinearSystem ConKind) (kinds : List ConKind) (n : ℕ) → HasPoint p →
    constraints list ≡ p.rows → kinds ≡ list.kinds → length kinds ≡ length list.rows →
    n ≡ prefix_len is_equality kinds → Counted p n
counted p list kinds n h e ek l is = record {
  point = h;
  is = is ∙ prefix_of list.rows kinds h.equalities h.inequalities
      (ap (rows_by_kind is_equality list.rows) ek ∙ e ∙ h.rows_are) l;
}

some_point : (p : Polyhedron) (h : HasPoint p) → ¬ (length h.equalities ≤ p.dims) → IsEmptySet p.dims (Con p.rows)
some_point p h n x i c = n (few_equalities p h x i c)

pub at_most_dims : (p : Polyhedron) (list : LinearSystem ConKind) (kinds : List ConKind) (n : ℕ) → IsPolyhedron p →
    ¬ (IsEmptySet p.dims (Con p.rows)) → constraints list ≡ p.rows → kinds ≡ list.kinds →
    length kinds ≡ length list.rows → n ≡ prefix_len is_equality kinds → n ≤ p.dims
at_most_dims p list kinds n h some e ek l is =
    let t = counted p list kinds n (with_point p h some) e ek l is in
    elim (cases_lt p.dims n) [
      | inl more ↦ absurd (some (some_point p t.point (λ few. let k = t.is in omega (arith, few, more, k))))
      | inr few ↦ few
    ]

pub dimension_told : (p : Polyhedron) (list : LinearSystem ConKind) (kinds : List ConKind) (n d : ℕ) → IsPolyhedron p →
    ¬ (IsEmptySet p.dims (Con p.rows)) → constraints list ≡ p.rows → kinds ≡ list.kinds →
    length kinds ≡ length list.rows → n ≡ prefix_len is_equality kinds → d ≡ p.dims - n → AffineDimension p d
dimension_told p list kinds n d h some e ek l is ed =
    let t = counted p list kinds n (with_point p h some) e ek l is in
    let few = at_most_dims p list kinds n h some e ek l is in
    let k = t.is in
    record {
      equalities = t.point.equalities;
      pivots = t.point.constraints_canonical.pivots;
      echelon = t.point.constraints_canonical.echelon;
      spans = λ c w. (spans_valid p t.point c w, valid_spanned p t.point c);
      count = omega (arith, few, k, ed);
    }
