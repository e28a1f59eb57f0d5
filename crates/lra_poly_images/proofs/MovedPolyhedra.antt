-- The image of a polyhedron under an assignment that can be inverted: both canonical lists, moved and made canonical
-- again.
use Rattle.std.proofs.Common.{◌≡◌, ℕ, suc, ◌<◌, ◌≤◌, arith, cond, List, [], ◌∷◌, ◌++◌, length, map, ap, refl, sym, ◌∙◌, subst, ℤ, pos, ◌<ℤ◌, ◌≤ℤ◌, inl, inr, ◌⊎◌}
use Rattle.std.proofs.lemmas.List.{length-map}
use Rattle.std.proofs.lemmas.List.Elements.{All-contains, Contains-append_cases, Contains-append_left, Contains-append_right}
use Rattle.std.specs.{List.Contains, List.Sorted.IsPermutation, Ordering.is_eq, declared.cmp.Ordering.Ordering}
use Rattle.lra_poly_images.specs.Crates.lra_descriptions.ShownLists.{ListsGenerators, ShowsConstraints, ShowsGenerators, without}
use Rattle.lra_poly_images.specs.Crates.lra_linear_spec.Cones.{AreDual, Generated, all_rows, both_ways}
use Rattle.lra_poly_images.specs.Crates.lra_linear_spec.Descriptions.{Con, LinearRow, lines_of, rays_of, system_of}
use Rattle.lra_poly_images.specs.Crates.lra_linear_spec.Points.{IsEmptySet, IsPoint}
use Rattle.lra_poly_images.specs.Crates.lra_linear_spec.Polyhedra.{HasPoint, IsPolyhedron, IsPolyhedronOf, Polyhedron, positivity}
use Rattle.lra_poly_images.specs.Crates.lra_systems.LinearSystems.{FitKinds, LinearSystem, constraints, generators}
use Rattle.lra_poly_images.specs.Crates.{lra_canonical.Echelons.HaveWidth, lra_canonical.Reduced.IsReducedBy, lra_description_pair.OwnLists.AreReducedBy, lra_linear_spec.Canonical.IsCanonical}
use Rattle.lra_poly_images.specs.Crates.{lra_linear_spec.ConeStrain.row_limit, lra_linear_spec.Echelon.IsEchelonOf, lra_linear_spec.OperationStrain.mapped, lra_linear_spec.Representable.KeepsLimit}
use Rattle.lra_poly_images.specs.Crates.{lra_linear_spec.RowOrder.row_cmp, lra_linear_spec.SetOperations.Image, lra_linear_spec.SetOperations.assigned, lra_linear_spec.Vectors.entry}
use Rattle.lra_poly_images.specs.Crates.{lra_linear_spec.Vectors.substituted, lra_linear_spec.declared.ConKind.ConKind, lra_linear_spec.declared.GenKind.GenKind}
use Rattle.lra_poly_images.proofs.Crates.lra_description_pair.GeneratorLists.{flat_rows, listed_counted, listed_have, nothing_generated, system_of_generators}
use Rattle.lra_poly_images.proofs.Crates.lra_duality.KeptFacets.{ascending_once, lines_split, rays_split}
use Rattle.lra_poly_images.proofs.Crates.lra_linear_spec.Descriptions.{dual_flipped, gen_generated, generated_gen, in_all_rows, in_system}
use Rattle.lra_poly_images.proofs.Crates.lra_linear_spec.Membership.{NoRepeat, at_most, contains_cases, contains_head, contains_none, contains_tail, map_from, map_has}
use Rattle.lra_poly_images.proofs.Crates.lra_linear_spec.OneSpelling.{columns_of, positivity_product, some_member}
use Rattle.lra_poly_images.proofs.Crates.lra_linear_spec.Polyhedra.{con_gen, generators_lines, generators_rays}
use Rattle.lra_poly_images.proofs.Crates.{lra_canonical.Orders.tied_itself, lra_cone.Reordered.canonical_again, lra_cone.Reordered.dual_again, lra_description_pair.ConstraintLists.listed_facets}
use Rattle.lra_poly_images.proofs.Crates.{lra_description_pair.ConstraintLists.listed_hold, lra_description_pair.OwnRows.reduced_length, lra_description_pair.PairLists.few_lists}
use Rattle.lra_poly_images.proofs.Crates.{lra_description_pair.PairLists.has_point, lra_duality.PolyhedronLemmas.falsity_is_empty, lra_duality.PolyhedronLemmas.with_point}
use Rattle.lra_poly_images.proofs.Crates.{lra_linear_spec.CanonicalForms.same_from_dual, lra_linear_spec.Combinations.generated_row, lra_linear_spec.LinearMaps.generated_nonneg}
use Rattle.lra_poly_images.proofs.Crates.{lra_linear_spec.LinearMaps.generated_through, lra_linear_spec.Lines.in_lines, lra_linear_spec.Lines.signed_from, lra_linear_spec.Products.negated_length}
use Rattle.lra_poly_images.proofs.Crates.{lra_linear_spec.RowOrder.row_cmp_total, lra_linear_spec.Signs.positive_is_nonnegative, lra_linear_spec.Signs.zero_at_least}
use Rattle.lra_mapped_systems.specs.Moving.{IsAssignedList, IsSubstitutedList, IsInverse}
use Rattle.lra_poly_images.proofs.MovedPairs.{assigned_negated, from_form, map_all_rows, mapped_dual, moved_dual, to_form}
use Rattle.lra_poly_images.proofs.{AssignedSets.assigned_generators, MovedFacets.pivots_above, MovedFacets.positivity_reduced, MovedFacets.positivity_stays, MovedFacets.positivity_width}
use Rattle.lra_mapped_systems.proofs.TakenBack.{assigned_reversible, assigned_width, first_stays, substituted_reversible, substituting}
use Rattle.lra_mapped_systems.proofs.{Assigning.assigning, MovedForms.canonical_moved, Sums.system_mapped}

-- ---- the facets as a list: the inequalities, with the positivity row before them if it is one
-- some of them is the row, or all are others
some_or_others : (P : List ℤ → Type 0) (r : List ℤ) (rows : List (List ℤ)) → ((t : List ℤ) → Contains rows t → (t ≡ r) ⊎ P t) → Contains rows r ⊎ ((t : List ℤ) → Contains rows t → P t)
some_or_others P r [] h = inr (λ t k. absurd (contains_none t k))
some_or_others P r (x ∷ rows) h = elim (h x (contains_head x rows)) [
  | inl e ↦ inl (subst (Contains (x ∷ rows)) e (contains_head x rows))
  | inr p ↦ elim (some_or_others P r rows (λ t k. h t (contains_tail x t rows k))) [
    | inl k ↦ inl (contains_tail x r rows k)
    | inr all ↦ inr (λ t k. elim (contains_cases x t rows k) [ inl e ↦ subst P e p | inr m ↦ all t m ])
  ]
]

pub record Facets (p : Polyhedron) (h : HasPoint p) (listed : List (List ℤ)) : Type 0 where
  pub canonical : IsCanonical h.equalities listed
  pub dual : AreDual (suc p.dims) (all_rows h.equalities listed) (all_rows h.lines (h.points ++ h.rays))
  pub few : length listed ≤ length h.facets

facets_listed : (p : Polyhedron) (h : HasPoint p) → Facets p h h.inequalities ⊎ Facets p h (positivity p.dims ∷ h.inequalities)
facets_listed p h = elim (some_or_others (Contains h.inequalities) (positivity p.dims) h.facets h.all_shown) [
  | inl k ↦ inr (facets (positivity p.dims ∷ h.inequalities) (
    (λ m. (h.shown (positivity p.dims) m).1 refl),
    ascending_once h.inequalities h.inequalities_ascend,
  )
      (λ t m. elim (h.all_shown t m) [
        | inl e ↦ subst (Contains (positivity p.dims ∷ h.inequalities)) (sym e) (contains_head (positivity p.dims) h.inequalities)
        | inr i ↦ contains_tail (positivity p.dims) t h.inequalities i
      ])
      (λ t m. elim (contains_cases (positivity p.dims) t h.inequalities m) [ inl e ↦ subst (Contains h.facets) e k | inr i ↦ (h.shown t i).0 ]))
  | inr all ↦ inl (facets h.inequalities (ascending_once h.inequalities h.inequalities_ascend) all (λ t m. (h.shown t m).0))
]
  where
    facets : (listed : List (List ℤ)) → NoRepeat listed → ((t : List ℤ) → Contains h.facets t → Contains listed t) → ((t : List ℤ) → Contains listed t → Contains h.facets t) → Facets p h listed
    facets listed once to from = record {
      canonical = canonical_again h.equalities h.facets listed to from once h.constraints_canonical;
      dual = dual_flipped (suc p.dims) (all_rows h.lines (h.points ++ h.rays)) (all_rows h.equalities listed)
          (dual_again (suc p.dims) (all_rows h.lines (h.points ++ h.rays)) h.equalities h.facets listed to from
          (dual_flipped (suc p.dims) (all_rows h.equalities h.facets) (all_rows h.lines (h.points ++ h.rays)) h.dual));
      few = at_most listed h.facets once from;
    }

-- ---- both lists moved
-- the constraints with g put in, the generators with the value of f, both made canonical again
pub record AreMoved (p : Polyhedron) (k : ℕ) (f g : List ℤ) (eqs ineqs lines rays : List (List ℤ)) : Type 0 where
  pub column : 0 < k
  pub back : IsInverse k (suc p.dims) f g
  pub equalities : IsEchelonOf eqs (map (substituted k g) (lines_of p.rows))
  pub inequalities : AreReducedBy eqs (map (substituted k g) (rays_of p.rows)) ineqs
  pub lines_form : IsEchelonOf lines (map (assigned k f) (lines_of p.generators))
  pub rays_reduced : AreReducedBy lines (map (assigned k f) (rays_of p.generators)) rays
  pub constraint_widths : (t : List ℤ) → Contains (all_rows eqs ineqs) t → length t ≡ suc p.dims
  pub generator_widths : (t : List ℤ) → Contains (all_rows lines rays) t → length t ≡ suc p.dims

abbrev generators_of : (p : Polyhedron) → HasPoint p → List (List ℤ)
generators_of p h = h.points ++ h.rays

-- the same of a polyhedron with a point
record Moved (p : Polyhedron) (h : HasPoint p) (k : ℕ) (f g : List ℤ) (eqs ineqs lines rays : List (List ℤ)) : Type 0 where
  column : 0 < k
  back : IsInverse k (suc p.dims) f g
  equalities : IsEchelonOf eqs (map (substituted k g) h.equalities)
  inequalities : AreReducedBy eqs (map (substituted k g) h.inequalities) ineqs
  lines_form : IsEchelonOf lines (map (assigned k f) h.lines)
  rays_reduced : AreReducedBy lines (map (assigned k f) (h.points ++ h.rays)) rays
  constraint_widths : (t : List ℤ) → Contains (all_rows eqs ineqs) t → length t ≡ suc p.dims
  generator_widths : (t : List ℤ) → Contains (all_rows lines rays) t → length t ≡ suc p.dims

moved : (p : Polyhedron) (h : HasPoint p) (k : ℕ) (f g : List ℤ) (eqs ineqs lines rays : List (List ℤ)) → AreMoved p k f g eqs ineqs lines rays → Moved p h k f g eqs ineqs lines rays
moved p h k f g eqs ineqs lines rays m = record {
  column = m.column;
  back = m.back;
  equalities = subst (λ (l : List (List ℤ)). IsEchelonOf eqs (map (substituted k g) l)) (ap lines_of h.rows_are ∙ lines_split h.equalities h.inequalities) m.equalities;
  inequalities = subst (λ (l : List (List ℤ)). AreReducedBy eqs (map (substituted k g) l) ineqs) (ap rays_of h.rows_are ∙ rays_split h.equalities h.inequalities) m.inequalities;
  lines_form = subst (λ (l : List (List ℤ)). IsEchelonOf lines (map (assigned k f) l)) (generators_lines p h) m.lines_form;
  rays_reduced = subst (λ (l : List (List ℤ)). AreReducedBy lines (map (assigned k f) l) rays) (generators_rays p h) m.rays_reduced;
  constraint_widths = m.constraint_widths;
  generator_widths = m.generator_widths;
}

-- the facets moved, in the list that is shown and the positivity row if it is one
record FacetsMoved (p : Polyhedron) (h : HasPoint p) (eqs ineqs lines rays facets : List (List ℤ)) : Type 0 where
  canonical : IsCanonical eqs facets
  dual : AreDual (suc p.dims) (all_rows eqs facets) (all_rows lines rays)
  shows : (rows : LinearSystem ConKind) → ShowsConstraints p.dims eqs ineqs rows → ShowsConstraints p.dims eqs facets rows
  few : length facets ≤ length h.facets

-- as many rows as before
moved_length : (form : List (List ℤ)) (m : List ℤ → List ℤ) (rows ts : List (List ℤ)) → AreReducedBy form (map m rows) ts → length ts ≡ length rows
moved_length form m rows ts are = reduced_length form (map m rows) ts are ∙ length-map rows m

facets_moved_by : (p : Polyhedron) (h : HasPoint p) (k : ℕ) (f g : List ℤ) (eqs ineqs lines rays listed facets : List (List ℤ)) → Moved p h k f g eqs ineqs lines rays → Facets p h listed →
    AreReducedBy eqs (map (substituted k g) listed) facets → ((t : List ℤ) → Contains (all_rows eqs facets) t → length t ≡ suc p.dims) →
    ((rows : LinearSystem ConKind) → ShowsConstraints p.dims eqs ineqs rows → ShowsConstraints p.dims eqs facets rows) →
    FacetsMoved p h eqs ineqs lines rays facets
facets_moved_by p h k f g eqs ineqs lines rays listed facets m x are widths shows =
    let w = suc p.dims in
    record {
      canonical = canonical_moved (substituting k g) (substituting k f) (substituted k g) w h.equalities listed eqs facets
          (record {
            reversible = substituted_reversible k w f g m.back;
            widths = λ t i. x.dual.system_widths t (Contains-append_right listed (both_ways h.equalities) t (in_lines h.equalities t i));
            is_form = m.equalities;
          })
          (λ t i. x.dual.system_widths t (Contains-append_left listed (both_ways h.equalities) t i)) x.canonical are;
      dual = moved_dual k w f g h.equalities listed h.lines (h.points ++ h.rays) eqs facets lines rays m.back x.dual
          (record { is_form = m.equalities; are_reduced = are; widths = widths })
          (record { is_form = m.lines_form; are_reduced = m.rays_reduced; widths = m.generator_widths });
      shows = shows;
      few = subst (λ (c : ℕ). c ≤ length h.facets) (sym (moved_length eqs (substituted k g) listed facets are)) x.few;
    }

facets_moved : (p : Polyhedron) (h : HasPoint p) (k : ℕ) (f g : List ℤ) (eqs ineqs lines rays : List (List ℤ)) → Moved p h k f g eqs ineqs lines rays →
    (facets : List (List ℤ)) × FacetsMoved p h eqs ineqs lines rays facets
facets_moved p h k f g eqs ineqs lines rays m = elim (facets_listed p h) [
  | inl x ↦ (ineqs, facets_moved_by p h k f g eqs ineqs lines rays h.inequalities ineqs m x m.inequalities m.constraint_widths (λ rows s. s))
  | inr x ↦ (positivity n ∷ ineqs, facets_moved_by p h k f g eqs ineqs lines rays (positivity n ∷ h.inequalities) (positivity n ∷ ineqs) m x (stays x, m.inequalities) wide with_positive)
]
  where
    n : ℕ
    n = p.dims

    vertex : (v : List ℤ) × Contains h.points v
    vertex = some_member h.points h.some_point

    stays : Facets p h (positivity p.dims ∷ h.inequalities) → IsReducedBy eqs (substituted k g (positivity p.dims)) (positivity p.dims)
    stays x =
        let low = m.back.column in
        let v = vertex in
        subst (λ (y : List ℤ). IsReducedBy eqs y (positivity p.dims)) (sym (positivity_stays k p.dims g m.column low m.back.back_width))
        (positivity_reduced p.dims eqs (pivots_above (suc p.dims) (map (substituted k g) h.equalities) (map (substituted k g) h.facets)
        (all_rows (map (assigned k f) h.lines) (map (assigned k f) (h.points ++ h.rays))) eqs (assigned k f v.0)
        (mapped_dual k (suc p.dims) f g h.equalities h.facets h.lines (h.points ++ h.rays) m.back h.dual) m.equalities
        (Contains-append_left (map (assigned k f) (h.points ++ h.rays)) (both_ways (map (assigned k f) h.lines)) (assigned k f v.0)
        (map_has (assigned k f) (h.points ++ h.rays) v.0 (Contains-append_left h.points h.rays v.0 v.1)))
        (subst (λ (z : ℤ). pos 0 <ℤ z) (sym (first_stays k f v.0 m.column)) (h.divisors v.0 v.1))))

    wide : (t : List ℤ) → Contains (all_rows eqs (positivity p.dims ∷ ineqs)) t → length t ≡ suc p.dims
    wide t i = elim (contains_cases (positivity p.dims) t (all_rows eqs ineqs) i) [ inl e ↦ ap length (sym e) ∙ positivity_width p.dims | inr o ↦ m.constraint_widths t o ]

    left_out : (r : List ℤ) (rows : List (List ℤ)) → without r (r ∷ rows) ≡ without r rows
    left_out r rows = ap (λ (b : Ordering). cond (is_eq b) (without r rows) (r ∷ without r rows)) (tied_itself row_cmp row_cmp_total r)

    with_positive : (rows : LinearSystem ConKind) → ShowsConstraints p.dims eqs ineqs rows → ShowsConstraints p.dims eqs (positivity p.dims ∷ ineqs) rows
    with_positive rows s = record {
      inequalities = s.inequalities;
      rows_are = s.rows_are;
      kinds_are = s.kinds_are;
      inequalities_are = subst (λ (l : List (List ℤ)). IsPermutation l s.inequalities) (sym (left_out (positivity p.dims) ineqs)) s.inequalities_are;
      sorted = s.sorted;
    }

-- ---- the cone of the generators
generators_moved : (p : Polyhedron) (h : HasPoint p) (k : ℕ) (f g : List ℤ) (eqs ineqs lines rays : List (List ℤ)) → Moved p h k f g eqs ineqs lines rays → IsCanonical lines rays
generators_moved p h k f g eqs ineqs lines rays m =
    let w = suc p.dims in
    canonical_moved (assigning k f) (assigning k g) (assigned k f) w h.lines (h.points ++ h.rays) lines rays
    (record {
      reversible = assigned_reversible k w f g m.back;
      widths = λ t i. h.dual.row_widths t (Contains-append_right (h.points ++ h.rays) (both_ways h.lines) t (in_lines h.lines t i));
      is_form = m.lines_form;
    })
    (λ t i. h.dual.row_widths t (Contains-append_left (h.points ++ h.rays) (both_ways h.lines) t i)) h.generators_canonical m.rays_reduced

-- column 0 of none of them is below 0
columns_moved : (p : Polyhedron) (h : HasPoint p) (k : ℕ) (f g : List ℤ) (eqs ineqs lines rays : List (List ℤ)) → Moved p h k f g eqs ineqs lines rays →
    (t : List ℤ) → Contains (all_rows lines rays) t → pos 0 ≤ℤ entry t 0
columns_moved p h k f g eqs ineqs lines rays m t i =
    subst (λ (z : ℤ). pos 0 ≤ℤ z) (positivity_product p.dims t)
    (generated_nonneg (positivity p.dims) (map (assigned k f) (all_rows h.lines (h.points ++ h.rays))) (entry t)
    (λ r o. let x = map_from (assigned k f) (all_rows h.lines (h.points ++ h.rays)) r o in
    subst (λ (z : ℤ). pos 0 ≤ℤ z) (sym (positivity_product p.dims r ∙ ap (λ (y : List ℤ). entry y 0) (sym x.2) ∙ first_stays k f x.0 m.column)) (nonneg x.0 (columns_of p h x.0 x.1)))
    (subst (λ (l : List (List ℤ)). Generated l (entry t)) (sym (map_all_rows (assigned k f) h.lines (h.points ++ h.rays) (λ x o. assigned_negated k f x)))
    (from_form (map (assigned k f) h.lines) (map (assigned k f) (h.points ++ h.rays)) lines rays m.lines_form m.rays_reduced t i)))
  where
    nonneg : (t : List ℤ) → (pos 0 <ℤ entry t 0) ⊎ (entry t 0 ≡ pos 0) → pos 0 ≤ℤ entry t 0
    nonneg t (inl a) = positive_is_nonnegative (entry t 0) a
    nonneg t (inr z) = zero_at_least (entry t 0) z

-- the generators as rows of the cone
in_cone : (p : Polyhedron) (h : HasPoint p) (t : List ℤ) → Contains (system_of p.generators) t → Contains (all_rows h.lines (h.points ++ h.rays)) t
in_cone p h t i =
    subst (λ (l : List (List ℤ)). Contains (all_rows l (h.points ++ h.rays)) t) (generators_lines p h)
    (subst (λ (r : List (List ℤ)). Contains (all_rows (lines_of p.generators) r) t) (generators_rays p h) (in_all_rows p.generators t i))

from_cone : (p : Polyhedron) (h : HasPoint p) (t : List ℤ) → Contains (all_rows h.lines (h.points ++ h.rays)) t → Contains (system_of p.generators) t
from_cone p h t i = in_system p.generators t
    (subst (λ (l : List (List ℤ)). Contains (all_rows l (rays_of p.generators)) t) (sym (generators_lines p h))
    (subst (λ (r : List (List ℤ)). Contains (all_rows h.lines r) t) (sym (generators_rays p h)) i))

-- the mapped generators generate the same
mapped_there : (p : Polyhedron) (h : HasPoint p) (k : ℕ) (f g : List ℤ) (eqs ineqs lines rays : List (List ℤ)) → Moved p h k f g eqs ineqs lines rays →
    (u : ℕ → ℤ) → Generated (system_of (mapped k f p.generators)) u → Generated (all_rows lines rays) u
mapped_there p h k f g eqs ineqs lines rays m u x =
    generated_through (all_rows lines rays) (map (assigned k f) (system_of p.generators)) u (λ t i.
    let r = map_from (assigned k f) (system_of p.generators) t i in
    to_form (map (assigned k f) h.lines) (map (assigned k f) (h.points ++ h.rays)) lines rays m.lines_form m.rays_reduced t
    (subst (λ (l : List (List ℤ)). Contains l t) (map_all_rows (assigned k f) h.lines (h.points ++ h.rays) (λ y o. assigned_negated k f y))
    (subst (Contains (map (assigned k f) (all_rows h.lines (h.points ++ h.rays)))) r.2
    (map_has (assigned k f) (all_rows h.lines (h.points ++ h.rays)) r.0 (in_cone p h r.0 r.1)))))
    (subst (λ (l : List (List ℤ)). Generated l u) (system_mapped (assigned k f) (assigned_negated k f) p.generators) x)

mapped_back : (p : Polyhedron) (h : HasPoint p) (k : ℕ) (f g : List ℤ) (eqs ineqs lines rays : List (List ℤ)) → Moved p h k f g eqs ineqs lines rays →
    (u : ℕ → ℤ) → Generated (all_rows lines rays) u → Generated (system_of (mapped k f p.generators)) u
mapped_back p h k f g eqs ineqs lines rays m u x =
    let source = map (assigned k f) (system_of p.generators) in
    let cone = all_rows (map (assigned k f) h.lines) (map (assigned k f) (h.points ++ h.rays)) in
    subst (λ (l : List (List ℤ)). Generated l u) (sym (system_mapped (assigned k f) (assigned_negated k f) p.generators))
    (generated_through source cone u (λ t i.
    let r = map_from (assigned k f) (all_rows h.lines (h.points ++ h.rays)) t
    (subst (λ (l : List (List ℤ)). Contains l t) (sym (map_all_rows (assigned k f) h.lines (h.points ++ h.rays) (λ y o. assigned_negated k f y))) i) in
    generated_row source t (subst (Contains source) r.2 (map_has (assigned k f) (system_of p.generators) r.0 (from_cone p h r.0 r.1))))
    (generated_through cone (all_rows lines rays) u (from_form (map (assigned k f) h.lines) (map (assigned k f) (h.points ++ h.rays)) lines rays m.lines_form m.rays_reduced) x))

-- ---- the polyhedron
some_listed : (p : Polyhedron) (h : HasPoint p) (k : ℕ) (f g : List ℤ) (eqs ineqs lines rays : List (List ℤ)) (list : LinearSystem GenKind) → Moved p h k f g eqs ineqs lines rays →
    ShowsGenerators lines rays list → ListsGenerators lines rays list
some_listed p h k f g eqs ineqs lines rays list m (inr l) = l
some_listed p h k f g eqs ineqs lines rays list m (inl none) =
    let v = some_member h.points h.some_point in
    let t = assigned k f v.0 in
    let here : Contains (h.points ++ h.rays) v.0 = Contains-append_left h.points h.rays v.0 v.1 in
    let is_point : IsPoint p.dims t = record {
      width = assigned_width k f v.0 ∙ h.dual.row_widths v.0 (Contains-append_left (h.points ++ h.rays) (both_ways h.lines) v.0 here);
      divisor = subst (λ (z : ℤ). pos 0 <ℤ z) (sym (first_stays k f v.0 m.column)) (h.divisors v.0 v.1);
    } in
    absurd (nothing_generated p.dims (all_rows lines rays) t is_point (flat_rows lines rays (columns_moved p h k f g eqs ineqs lines rays m) none.2)
    (to_form (map (assigned k f) h.lines) (map (assigned k f) (h.points ++ h.rays)) lines rays m.lines_form m.rays_reduced t
    (Contains-append_left (map (assigned k f) (h.points ++ h.rays)) (both_ways (map (assigned k f) h.lines)) t (map_has (assigned k f) (h.points ++ h.rays) v.0 here))))

pub moved_polyhedron : (p : Polyhedron) (h : HasPoint p) (k : ℕ) (f g : List ℤ) (eqs ineqs lines rays : List (List ℤ)) (rows : LinearSystem ConKind) (list : LinearSystem GenKind) →
    AreMoved p k f g eqs ineqs lines rays → ShowsConstraints p.dims eqs ineqs rows → ShowsGenerators lines rays list →
    IsPolyhedronOf p.dims (Image p.dims k f (Con p.rows)) (record { dims = p.dims; rows = constraints rows; generators = generators list }) × FitKinds list.rows list.kinds
moved_polyhedron p h k f g eqs ineqs lines rays rows list am sc sg =
    let m = moved p h k f g eqs ineqs lines rays am in
    let n = p.dims in
    let w = suc n in
    let x = facets_moved p h k f g eqs ineqs lines rays m in
    let system = all_rows eqs x.0 in
    let cone = all_rows lines rays in
    let have = listed_have n system lines rays list x.1.dual (generators_moved p h k f g eqs ineqs lines rays m) (columns_moved p h k f g eqs ineqs lines rays m)
    (some_listed p h k f g eqs ineqs lines rays list m sg) in
    let g0 = have.0 in
    let shown = all_rows g0.lines (g0.points ++ g0.rays) in
    let hold = listed_hold n shown eqs x.0 rows (dual_flipped w system shown g0.dual) x.1.canonical (x.1.shows rows sc) in
    let q : Polyhedron = record { dims = n; rows = constraints rows; generators = generators list } in
    let canonical : IsPolyhedron q = inr (has_point q system g0 hold) in
    let image = assigned_generators p k f (inr h) m.column m.back.column in
    let listed : system_of (generators list) ≡ shown = system_of_generators n system (generators list) g0 in (
      record {
        dimensions = refl;
        canonical = canonical;
        points = (
          λ y i s. (con_gen q canonical).1 y i (generated_gen (generators list) (entry y)
              (subst (λ (l : List (List ℤ)). Generated l (entry y)) (sym listed)
              (same_from_dual w system cone shown x.1.dual g0.dual (entry y)
              (mapped_there p h k f g eqs ineqs lines rays m (entry y) (gen_generated (mapped k f p.generators) (entry y) (image.0 y i s)))))),
          λ y i s. image.1 y i (generated_gen (mapped k f p.generators) (entry y)
              (mapped_back p h k f g eqs ineqs lines rays m (entry y)
              (same_from_dual w system shown cone g0.dual x.1.dual (entry y)
              (subst (λ (l : List (List ℤ)). Generated l (entry y)) listed
              (gen_generated (generators list) (entry y) ((con_gen q canonical).0 y i s)))))),
        );
      },
      have.1,
    )

-- the lists keep the limit that those of P keep
moved_limit : (p : Polyhedron) (h : HasPoint p) (k : ℕ) (f g : List ℤ) (eqs ineqs lines rays : List (List ℤ)) (rows : LinearSystem ConKind)
    (list : LinearSystem GenKind) →
    AreMoved p k f g eqs ineqs lines rays → ShowsConstraints p.dims eqs ineqs rows → ShowsGenerators lines rays list → length h.facets ≤ row_limit → length (h.points ++ h.rays) ≤ row_limit →
    KeepsLimit (record { dims = p.dims; rows = constraints rows; generators = generators list })
moved_limit p h k f g eqs ineqs lines rays rows list am sc sg few less =
    let m = moved p h k f g eqs ineqs lines rays am in
    let n = p.dims in
    let w = suc n in
    let x = facets_moved p h k f g eqs ineqs lines rays m in
    let system = all_rows eqs x.0 in
    let have = listed_counted n system lines rays list x.1.dual (generators_moved p h k f g eqs ineqs lines rays m) (columns_moved p h k f g eqs ineqs lines rays m)
    (some_listed p h k f g eqs ineqs lines rays list m sg) in
    let g0 = have.0 in
    let shown = all_rows g0.lines (g0.points ++ g0.rays) in
    let hold = listed_facets n shown eqs x.0 rows (dual_flipped w system shown g0.dual) x.1.canonical (x.1.shows rows sc) in
    few_lists (record { dims = n; rows = constraints rows; generators = generators list }) system g0 hold.0 (length x.0) (length rays) (ap length hold.1) have.2
    (within (length x.0) (length h.facets) x.1.few few)
    (subst (λ (c : ℕ). c ≤ row_limit) (sym (moved_length lines (assigned k f) (h.points ++ h.rays) rays m.rays_reduced)) less)
  where
    within : (a b : ℕ) → a ≤ b → b ≤ row_limit → a ≤ row_limit
    within a b e f = omega (arith, e, f)

-- ---- as the code states it
-- the lists that are made of a polyhedron's
pub record IsMoving (p : Polyhedron) (k : ℕ) (f g : List ℤ) (rows : LinearSystem ConKind) (list : LinearSystem GenKind) : Type 0 where
  pub canonical : IsPolyhedron p
  pub some : ¬ (IsEmptySet p.dims (Con p.rows))
  pub above : 0 < k
  pub back : IsInverse k (suc p.dims) f g
  pub constraints_moved : IsSubstitutedList p.dims k g p.rows rows
  pub generators_moved : IsAssignedList p.dims k f p.generators list
  pub dims : rows.dims ≡ p.dims

pub is_moving : (p : Polyhedron) (given : LinearSystem ConKind) (by : LinearSystem GenKind) (k : ℕ) (f g : List ℤ) (rows : LinearSystem ConKind)
    (list : LinearSystem GenKind) →
    IsPolyhedron p → ¬ (IsEmptySet p.dims (Con p.rows)) → 0 < k → IsInverse k (suc p.dims) f g → given.dims ≡ p.dims → constraints given ≡ p.rows → by.dims ≡ p.dims → generators by ≡ p.generators →
    IsSubstitutedList given.dims k g (constraints given) rows → IsAssignedList by.dims k f (generators by) list → rows.dims ≡ given.dims → IsMoving p k f g rows list
is_moving p given by k f g rows list h some above back ed er eb eg cs gs d = record {
  canonical = h;
  some = some;
  above = above;
  back = back;
  constraints_moved = subst (λ (l : List LinearRow). IsSubstitutedList p.dims k g l rows) er (subst (λ (n : ℕ). IsSubstitutedList n k g (constraints given) rows) ed cs);
  generators_moved = subst (λ (l : List LinearRow). IsAssignedList p.dims k f l list) eg (subst (λ (n : ℕ). IsAssignedList n k f (generators by) list) eb gs);
  dims = d ∙ ed;
}

-- rows of one width, and with them the first in both directions
both_wide : (w : ℕ) (lines rays : List (List ℤ)) → HaveWidth w lines → HaveWidth w rays → (t : List ℤ) → Contains (all_rows lines rays) t → length t ≡ w
both_wide w lines rays hl hr t k = elim (Contains-append_cases rays (both_ways lines) t k) [
  | inl a ↦ All-contains (λ (r : List ℤ). length r ≡ w) rays t hr a
  | inr a ↦
      let l = signed_from lines t a in
      let wide : length l.line ≡ w = All-contains (λ (r : List ℤ). length r ≡ w) lines l.line hl l.has in
      elim l.sign [ inl e ↦ ap length e ∙ wide | inr e ↦ ap length e ∙ negated_length l.line ∙ wide ]
]

are_moved : (p : Polyhedron) (k : ℕ) (f g : List ℤ) (rows : LinearSystem ConKind) (list : LinearSystem GenKind) (m : IsMoving p k f g rows list) →
    AreMoved p k f g m.constraints_moved.lines m.constraints_moved.rays m.generators_moved.lines m.generators_moved.rays
are_moved p k f g rows list m = let c = m.constraints_moved in let r = m.generators_moved in record {
  column = m.above;
  back = m.back;
  equalities = c.is_form;
  inequalities = c.are_reduced;
  lines_form = r.is_form;
  rays_reduced = r.are_reduced;
  constraint_widths = both_wide (suc p.dims) c.lines c.rays c.line_widths c.ray_widths;
  generator_widths = both_wide (suc p.dims) r.lines r.rays r.line_widths r.ray_widths;
}

pub moved_image : (p : Polyhedron) (k : ℕ) (f g : List ℤ) (rows : LinearSystem ConKind) (list : LinearSystem GenKind) → IsMoving p k f g rows list →
    IsPolyhedronOf p.dims (Image p.dims k f (Con p.rows)) (record { dims = rows.dims; rows = constraints rows; generators = generators list }) × FitKinds list.rows list.kinds
moved_image p k f g rows list m =
    let c = m.constraints_moved in
    let r = m.generators_moved in
    subst (λ (n : ℕ). IsPolyhedronOf p.dims (Image p.dims k f (Con p.rows)) (record { dims = n; rows = constraints rows; generators = generators list }) × FitKinds list.rows list.kinds) (sym m.dims)
    (moved_polyhedron p (with_point p m.canonical m.some) k f g c.lines c.rays r.lines r.rays rows list
    (are_moved p k f g rows list m) c.shown r.shown)

pub image_limit : (p : Polyhedron) (k : ℕ) (f g : List ℤ) (rows : LinearSystem ConKind) (list : LinearSystem GenKind) → IsMoving p k f g rows list →
    KeepsLimit p →
    KeepsLimit (record { dims = rows.dims; rows = constraints rows; generators = generators list })
image_limit p k f g rows list m (inl none) = absurd (m.some (falsity_is_empty p.dims p.rows none.0))
image_limit p k f g rows list m (inr (h, few, less)) =
    let c = m.constraints_moved in
    let r = m.generators_moved in
    subst (λ (n : ℕ). KeepsLimit (record { dims = n; rows = constraints rows; generators = generators list })) (sym m.dims)
    (moved_limit p h k f g c.lines c.rays r.lines r.rays rows list (are_moved p k f g rows list m) c.shown r.shown few less)
