-- The canonical lists of a polyhedron are the description of a cone, in which the positivity row is added first.
use Rattle.std.proofs.Common.{◌≡◌, ◌≢◌, ◌≤◌, ℕ, suc, Bool, [], true, false, List, ◌∷◌, ◌++◌, length, cond, ap, sym, ◌∙◌, subst, refl, ℤ, pos, ◌≤ℤ◌, ◌<ℤ◌, ◌⊎◌, inl, inr, arith}
use Rattle.std.proofs.{lemmas.Int.ints, lemmas.List.Elements.Contains-append_cases, lemmas.List.Elements.Contains-append_left, lemmas.List.Elements.Contains-append_right}
use Rattle.std.specs.List.{Contains}
use Rattle.lra_duality.specs.Crates.lra_linear_spec.Cones.{AreDual, Generated, both_ways, all_rows}
use Rattle.lra_duality.specs.Crates.lra_linear_spec.Descriptions.{LinearRow, inequality, rows_as, lines_of, rays_of, system_of}
use Rattle.lra_duality.specs.Crates.lra_linear_spec.Polyhedra.{HasPoint, IsPolyhedron, Polyhedron, positivity}
use Rattle.lra_duality.specs.Crates.{lra_linear_spec.Canonical.IsCanonical, lra_linear_spec.ConeStrain.row_limit, lra_linear_spec.Vectors.entry, lra_linear_spec.Vectors.product}
use Rattle.lra_duality.specs.Crates.{lra_linear_spec.declared.ConKind.ConKind, lra_systems.LinearSystems.LinearSystem, lra_systems.LinearSystems.constraints}
use Rattle.lra_duality.proofs.Crates.lra_linear_spec.Descriptions.{dual_flipped, system_from, system_there}
use Rattle.lra_duality.proofs.Crates.lra_linear_spec.Membership.{contains_cases, contains_head, contains_tail}
use Rattle.lra_duality.proofs.Crates.lra_linear_spec.OneSpelling.{columns_of, dual_same_cone, given_from, given_has, positivity_product}
use Rattle.lra_duality.proofs.Crates.{lra_linear_spec.Combinations.generated_row, lra_linear_spec.Lines.in_lines, lra_linear_spec.Lines.in_lines_negated, lra_linear_spec.Lines.signed_from}
use Rattle.lra_duality.proofs.Crates.{lra_linear_spec.Lines.zeros_length, lra_linear_spec.Polyhedra.generators_lines, lra_linear_spec.Polyhedra.generators_rays, lra_linear_spec.Products.product_comm}
use Rattle.lra_cone.specs.Cones.{IsCone, ConeContent}
use Rattle.lra_duality.proofs.PolyhedronLemmas.{rows_width}

-- ---- the rows with the positivity row, and the facets with the equalities
-- the one list, and the other
facet_taken : (p : Polyhedron) (h : HasPoint p) (t : List ℤ) → Contains (all_rows h.equalities h.facets) t →
    Contains (system_of (inequality (positivity p.dims) ∷ p.rows)) t
facet_taken p h t k = elim (Contains-append_cases h.facets (both_ways h.equalities) t k) [
  | inl f ↦ elim (h.all_shown t f) [
    | inl e ↦ subst (Contains (positivity p.dims ∷ system_of p.rows)) (sym e) (contains_head (positivity p.dims) (system_of p.rows))
    | inr i ↦ contains_tail (positivity p.dims) t (system_of p.rows) (system_there p.rows t (record {
      given = inequality t;
      has = subst (λ (l : List LinearRow). Contains l (inequality t)) (sym h.rows_are)
          (Contains-append_right (rows_as true h.equalities) (rows_as false h.inequalities) (inequality t) (given_has false h.inequalities t i));
      sign = inl refl;
    }))
  ]
  | inr b ↦
      let s = signed_from h.equalities t b in
      let g : LinearRow = record { row = s.line; equal = true } in
      contains_tail (positivity p.dims) t (system_of p.rows) (system_there p.rows t (record {
        given = g;
        has = subst (λ (l : List LinearRow). Contains l g) (sym h.rows_are)
            (Contains-append_left (rows_as true h.equalities) (rows_as false h.inequalities) g (given_has true h.equalities s.line s.has));
        sign = elim s.sign [ inl q ↦ inl q | inr q ↦ inr (refl, q) ];
      }))
]

row_facet : (p : Polyhedron) (h : HasPoint p) (t : List ℤ) → Contains (system_of p.rows) t → Contains (all_rows h.equalities h.facets) t
row_facet p h t k =
    let f = system_from p.rows t k in
    elim (Contains-append_cases (rows_as true h.equalities) (rows_as false h.inequalities) f.given (subst (λ (l : List LinearRow). Contains l f.given) h.rows_are f.has)) [
      | inl e ↦
          let m = (given_from true h.equalities f.given e).1 in
          Contains-append_right h.facets (both_ways h.equalities) t (elim f.sign [
            | inl q ↦ subst (Contains (both_ways h.equalities)) (sym q) (in_lines h.equalities f.given.row m)
            | inr q ↦ subst (Contains (both_ways h.equalities)) (sym q.1) (in_lines_negated h.equalities f.given.row m)
          ])
      | inr i ↦
          let m = given_from false h.inequalities f.given i in
          Contains-append_left h.facets (both_ways h.equalities) t (elim f.sign [
            | inl q ↦ subst (Contains h.facets) (sym q) (h.shown f.given.row m.1).0
            | inr q ↦ let no : false ≡ true = sym m.0 ∙ q.0 in cc
          ])
    ]

-- the positivity row is valid on the generators
pub positivity_generated : (p : Polyhedron) (h : HasPoint p) → Generated (all_rows h.equalities h.facets) (entry (positivity p.dims))
positivity_generated p h = h.dual.consequences (positivity p.dims) (ap suc (zeros_length p.dims)) (λ t k.
    at_least (product t (positivity p.dims)) (entry t 0) (product_comm t (positivity p.dims) ∙ positivity_product p.dims t) (columns_of p h t k))
  where
    at_least : (z d : ℤ) → z ≡ d → (pos 0 <ℤ d) ⊎ (d ≡ pos 0) → pos 0 ≤ℤ z
    at_least z d e (inl a) = omega (arith, ints, e, a)
    at_least z d e (inr a) = omega (arith, ints, e, a)

taken_generated : (p : Polyhedron) (h : HasPoint p) (t : List ℤ) → Contains (system_of (inequality (positivity p.dims) ∷ p.rows)) t →
    Generated (all_rows h.equalities h.facets) (entry t)
taken_generated p h t k = elim (contains_cases (positivity p.dims) t (system_of p.rows) k) [
  | inl e ↦ subst (λ (y : List ℤ). Generated (all_rows h.equalities h.facets) (entry y)) e (positivity_generated p h)
  | inr m ↦ generated_row (all_rows h.equalities h.facets) t (row_facet p h t m)
]

taken_width : (p : Polyhedron) (h : HasPoint p) (t : List ℤ) → Contains (system_of (inequality (positivity p.dims) ∷ p.rows)) t → length t ≡ suc p.dims
taken_width p h t k = elim (contains_cases (positivity p.dims) t (system_of p.rows) k) [
  | inl e ↦ subst (λ (y : List ℤ). length y ≡ suc p.dims) e (ap suc (zeros_length p.dims))
  | inr m ↦ rows_width p (inr h) t m
]

-- ---- the cone
kept_dual : (p : Polyhedron) (h : HasPoint p) → AreDual (suc p.dims) (system_of (inequality (positivity p.dims) ∷ p.rows)) (all_rows h.lines (h.points ++ h.rays))
kept_dual p h =
    let w = suc p.dims in
    let facets = all_rows h.equalities h.facets in
    let vectors = all_rows h.lines (h.points ++ h.rays) in
    let taken = system_of (inequality (positivity p.dims) ∷ p.rows) in
    dual_flipped w vectors taken (dual_same_cone w vectors facets taken (dual_flipped w facets vectors h.dual) (taken_width p h)
    (λ t k. generated_row taken t (facet_taken p h t k)) (taken_generated p h))

pub kept_cone : (p : Polyhedron) → HasPoint p → length (rays_of p.generators) ≤ row_limit →
    IsCone (record { dims = p.dims; taken = inequality (positivity p.dims) ∷ p.rows; lines = lines_of p.generators; rays = rays_of p.generators })
kept_cone p h few = record {
  dual = subst (λ (l : List (List ℤ)). AreDual (suc p.dims) (system_of (inequality (positivity p.dims) ∷ p.rows)) (all_rows l (rays_of p.generators))) (sym (generators_lines p h))
      (subst (λ (r : List (List ℤ)). AreDual (suc p.dims) (system_of (inequality (positivity p.dims) ∷ p.rows)) (all_rows h.lines r)) (sym (generators_rays p h)) (kept_dual p h));
  canonical = subst (λ (l : List (List ℤ)). IsCanonical l (rays_of p.generators)) (sym (generators_lines p h))
      (subst (λ (r : List (List ℤ)). IsCanonical h.lines r) (sym (generators_rays p h)) h.generators_canonical);
  few = few;
}

-- ---- as the code states it
pub fewer_rays : (list : List LinearRow) → length (rays_of list) ≤ length list
fewer_rays [] = omega arith
fewer_rays (g ∷ list) = by_kind g.equal (fewer_rays list)
  where
    by_kind : (b : Bool) → length (rays_of list) ≤ length list → length (cond b (rays_of list) (g.row ∷ rays_of list)) ≤ suc (length list)
    by_kind true h = omega (arith, h)
    by_kind false h = omega (arith, h)

pub with_some : (p : Polyhedron) → IsPolyhedron p → p.generators ≢ [] → HasPoint p
with_some p (inl none) some = absurd (some none.1)
with_some p (inr h) some = h

pub start_cone : (n : ℕ) (rows generators : List LinearRow) (taken : LinearSystem ConKind) (lines rays : List (List ℤ)) →
    IsPolyhedron (record { dims = n; rows = rows; generators = generators }) → generators ≢ [] → length generators ≤ row_limit → taken.dims ≡ n →
    constraints taken ≡ inequality (positivity n) ∷ rows → lines ≡ lines_of generators → rays ≡ rays_of generators →
    IsCone (record { dims = taken.dims; taken = constraints taken; lines = lines; rays = rays })
start_cone n rows generators taken lines rays h some few ed et el er =
    let p : Polyhedron = record { dims = n; rows = rows; generators = generators } in
    let short : length (rays_of generators) ≤ row_limit = let f = fewer_rays generators in omega (arith, f, few) in
    let made : ConeContent = record { dims = n; taken = inequality (positivity n) ∷ rows; lines = lines_of generators; rays = rays_of generators } in
    let same : made ≡ record { dims = taken.dims; taken = constraints taken; lines = lines; rays = rays } =
    ap (λ (m : ℕ). (let s : ConeContent = record { dims = m; taken = inequality (positivity n) ∷ rows; lines = lines_of generators; rays = rays_of generators } in s)) (sym ed) ∙
    ap (λ (t : List LinearRow). (let s : ConeContent = record { dims = taken.dims; taken = t; lines = lines_of generators; rays = rays_of generators } in s))
    (sym et) ∙
    ap (λ (l : List (List ℤ)). (let s : ConeContent = record { dims = taken.dims; taken = constraints taken; lines = l; rays = rays_of generators } in s))
    (sym el) ∙
    ap (λ (l : List (List ℤ)). (let s : ConeContent = record { dims = taken.dims; taken = constraints taken; lines = lines; rays = l } in s)) (sym er) in
    subst IsCone same (kept_cone p (with_some p h some) short)
