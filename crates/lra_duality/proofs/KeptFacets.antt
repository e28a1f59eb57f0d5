-- The canonical lists of a polyhedron are the description of the cone of what is valid on its generators. The positivity row is one of the facets exactly if no inequality is tight wherever it is.
use Rattle.std.proofs.Common.{◌≡◌, ◌≤◌, suc, true, false, [], List, ◌∷◌, ◌++◌, length, ap, sym, ◌∙◌, subst, refl, ℤ, pos, neg_ℤ, ◌<ℤ◌, ◌≤ℤ◌, inl, inr, arith}
use Rattle.std.proofs.{lemmas.Int.ints, lemmas.List.Elements.Contains-append_cases, lemmas.List.Elements.Contains-append_left, lemmas.List.Elements.Contains-append_right}
use Rattle.std.specs.List.{Contains}
use Rattle.lra_duality.specs.Crates.lra_linear_spec.Cones.{AreDual, Generated, all_rows, both_ways}
use Rattle.lra_duality.specs.Crates.lra_linear_spec.Descriptions.{LinearRow, inequality, rows_as, lines_of, rays_of, system_of}
use Rattle.lra_duality.specs.Crates.lra_linear_spec.Polyhedra.{HasPoint, Polyhedron, positivity}
use Rattle.lra_duality.specs.Crates.lra_linear_spec.Vectors.{dot, entry, negated, product}
use Rattle.lra_duality.specs.Crates.{lra_linear_spec.Canonical.IsCanonical, lra_linear_spec.ConeStrain.row_limit, lra_linear_spec.RowOrder.Ascends, lra_linear_spec.RowOrder.inequality_cmp}
use Rattle.lra_duality.proofs.Crates.lra_linear_spec.Descriptions.{dual_flipped, in_all_rows, in_system}
use Rattle.lra_duality.proofs.Crates.lra_linear_spec.Lines.{in_lines, in_lines_negated, signed_from}
use Rattle.lra_duality.proofs.Crates.lra_linear_spec.Membership.{NoRepeat, contains_cases, contains_head, contains_none, contains_split, contains_tail}
use Rattle.lra_duality.proofs.Crates.lra_linear_spec.OneSpelling.{given_from, given_has, positivity_product}
use Rattle.lra_duality.proofs.Crates.lra_linear_spec.Polyhedra.{generators_lines, generators_rays}
use Rattle.lra_duality.proofs.Crates.{lra_linear_spec.FlatRows.generated_flat, lra_linear_spec.Products.dot_negated, lra_linear_spec.Products.product_comm, lra_linear_spec.Redundancy.drop_keeps}
use Rattle.lra_duality.proofs.Crates.{lra_linear_spec.Redundancy.redundant_tight, lra_linear_spec.RowOrder.inequality_cmp_total, lra_linear_spec.RowOrder.never_both}
use Rattle.lra_duality.proofs.Crates.{lra_linear_spec.Saturation.TightToo, lra_linear_spec.SetOperations.has_vertex, lra_linear_spec.Signs.between_opposites}
use Rattle.lra_cone.specs.Cones.{IsCone}
use Rattle.lra_cone.proofs.{RayCase.beside_place, RayCase.rows_same, Reordered.canonical_again, Reordered.dual_again}
use Rattle.lra_duality.proofs.KeptCones.{positivity_generated}

-- ---- the facets and the generators
vectors_are : (p : Polyhedron) (h : HasPoint p) → all_rows (lines_of p.generators) (rays_of p.generators) ≡ all_rows h.lines (h.points ++ h.rays)
vectors_are p h = ap (λ (l : List (List ℤ)). all_rows l (rays_of p.generators)) (generators_lines p h) ∙ ap (all_rows h.lines) (generators_rays p h)

facets_dual : (p : Polyhedron) (h : HasPoint p) → AreDual (suc p.dims) (system_of p.generators) (all_rows h.equalities h.facets)
facets_dual p h =
    let facets = all_rows h.equalities h.facets in
    let vectors = all_rows h.lines (h.points ++ h.rays) in
    let system = system_of p.generators in
    dual_flipped (suc p.dims) facets system (rows_same (suc p.dims) facets vectors system
    (λ t k. in_system p.generators t (subst (λ (l : List (List ℤ)). Contains l t) (sym (vectors_are p h)) k))
    (λ t k. subst (λ (l : List (List ℤ)). Contains l t) (vectors_are p h) (in_all_rows p.generators t k)) h.dual)

-- an equality has product 0 with each generator
equality_flat : (p : Polyhedron) (h : HasPoint p) (g : List ℤ) → Contains (system_of p.generators) g → (t : List ℤ) → Contains (both_ways h.equalities) t → dot g (entry t) ≡ pos 0
equality_flat p h g k t m =
    let x = signed_from h.equalities t m in
    let at : (y : List ℤ) → Contains (both_ways h.equalities) y → pos 0 ≤ℤ dot g (entry y) =
    λ y n. (facets_dual p h).meets y (Contains-append_right h.facets (both_ways h.equalities) y n) g k in
    let z : dot g (entry x.line) ≡ pos 0 = between_opposites (product g x.line) (product g (negated x.line)) (dot_negated g x.line) (at x.line (in_lines h.equalities x.line x.has))
    (at (negated x.line) (in_lines_negated h.equalities x.line x.has)) in
    elim x.sign [
      | inl e ↦ ap (λ (y : List ℤ). product g y) e ∙ z
      | inr e ↦ ap (λ (y : List ℤ). product g y) e ∙ dot_negated g x.line ∙ ap neg_ℤ z ∙ omega (arith, ints)
    ]

-- so the positivity row, which has another product with a point, is no sum of equalities
positivity_off : (p : Polyhedron) (h : HasPoint p) → ¬ (Generated (both_ways h.equalities) (entry (positivity p.dims)))
positivity_off p h g =
    let v = has_vertex p h in
    let z : product v.vertex (positivity p.dims) ≡ pos 0 = generated_flat v.vertex (both_ways h.equalities) (entry (positivity p.dims)) (λ t m. equality_flat p h v.vertex v.has t m) g in
    never (entry v.vertex 0) (product v.vertex (positivity p.dims)) v.divisor (product_comm v.vertex (positivity p.dims) ∙ positivity_product p.dims v.vertex) z
  where
    never : (d z : ℤ) → pos 0 <ℤ d → z ≡ d → z ≡ pos 0 → ⊥
    never d z h e f = omega (arith, ints, h, e, f)

-- ---- whether the positivity row is a facet
abbrev pub IsTightToo : Polyhedron → List ℤ → Type 0
IsTightToo p r = TightToo (system_of p.generators) (entry (positivity p.dims)) (entry r)

is_facet : (p : Polyhedron) (h : HasPoint p) → ((r : List ℤ) → Contains h.inequalities r → ¬ (IsTightToo p r)) → Contains h.facets (positivity p.dims)
is_facet p h alone =
    let x = redundant_tight (suc p.dims) (system_of p.generators) h.equalities h.facets (positivity p.dims) (λ t m. (facets_dual p h).meets t m) (positivity_off p h) (positivity_generated p h) in
    elim (h.all_shown x.0 x.1) [ inl e ↦ subst (Contains h.facets) e x.1 | inr i ↦ absurd (alone x.0 i x.2) ]

no_facet : (p : Polyhedron) (h : HasPoint p) (r : List ℤ) → Contains h.inequalities r → IsTightToo p r → ¬ (Contains h.facets (positivity p.dims))
no_facet p h r m tight k =
    let system = system_of p.generators in
    let s = contains_split h.facets (positivity p.dims) k in
    let c : IsCanonical h.equalities (s.front ++ positivity p.dims ∷ s.back) = subst (IsCanonical h.equalities) s.is h.constraints_canonical in
    let i : Contains (s.front ++ s.back) r = beside_place s.front (positivity p.dims) s.back r (subst (λ (l : List (List ℤ)). Contains l r) s.is (h.shown r m).0) (h.shown r m).1 in
    c.needed s.front (positivity p.dims) s.back refl (drop_keeps (suc p.dims) system h.equalities s.front (positivity p.dims) s.back
    (subst (λ (l : List (List ℤ)). AreDual (suc p.dims) system (all_rows h.equalities l)) s.is (facets_dual p h)) c.pointed r i tight)

-- ---- no row twice
pub ascending_once : (rows : List (List ℤ)) → Ascends inequality_cmp rows → NoRepeat rows
ascending_once [] a = tt
ascending_once (x ∷ rows) a = ((λ k. never_both inequality_cmp inequality_cmp_total x x (a.0 x k) (a.0 x k)), ascending_once rows a.1)

once_end : (rows : List (List ℤ)) (x : List ℤ) → NoRepeat rows → ¬ (Contains rows x) → NoRepeat (rows ++ x ∷ [])
once_end [] x n fresh = ((λ k. contains_none x k), tt)
once_end (y ∷ rows) x n fresh = (
  (λ k. elim (Contains-append_cases rows (x ∷ []) y k) [
    | inl m ↦ n.0 m
    | inr m ↦ elim (contains_cases x y [] m) [ inl e ↦ fresh (subst (Contains (y ∷ rows)) (sym e) (contains_head y rows)) | inr o ↦ contains_none y o ]
  ]),
  once_end rows x n.1 (λ k. fresh (contains_tail y x rows k)),
)

-- ---- the constraints of both kinds
pub lines_split : (equalities inequalities : List (List ℤ)) → lines_of (rows_as true equalities ++ rows_as false inequalities) ≡ equalities
lines_split [] [] = refl
lines_split [] (r ∷ inequalities) = lines_split [] inequalities
lines_split (r ∷ equalities) inequalities = ap (λ (l : List (List ℤ)). r ∷ l) (lines_split equalities inequalities)

pub rays_split : (equalities inequalities : List (List ℤ)) → rays_of (rows_as true equalities ++ rows_as false inequalities) ≡ inequalities
rays_split [] [] = refl
rays_split [] (r ∷ inequalities) = ap (λ (l : List (List ℤ)). r ∷ l) (rays_split [] inequalities)
rays_split (r ∷ equalities) inequalities = rays_split equalities inequalities

equalities_are : (p : Polyhedron) (h : HasPoint p) → lines_of p.rows ≡ h.equalities
equalities_are p h = ap lines_of h.rows_are ∙ lines_split h.equalities h.inequalities

inequalities_are : (p : Polyhedron) (h : HasPoint p) → rays_of p.rows ≡ h.inequalities
inequalities_are p h = ap rays_of h.rows_are ∙ rays_split h.equalities h.inequalities

inequality_in : (p : Polyhedron) (h : HasPoint p) (r : List ℤ) → Contains p.rows (inequality r) → Contains h.inequalities r
inequality_in p h r k =
    elim (Contains-append_cases (rows_as true h.equalities) (rows_as false h.inequalities) (inequality r) (subst (λ (l : List LinearRow). Contains l (inequality r)) h.rows_are k)) [
      | inl e ↦ let no : false ≡ true = (given_from true h.equalities (inequality r) e).0 in cc
      | inr i ↦ (given_from false h.inequalities (inequality r) i).1
    ]

inequality_there : (p : Polyhedron) (h : HasPoint p) (r : List ℤ) → Contains h.inequalities r → Contains p.rows (inequality r)
inequality_there p h r i = subst (λ (l : List LinearRow). Contains l (inequality r)) (sym h.rows_are)
    (Contains-append_right (rows_as true h.equalities) (rows_as false h.inequalities) (inequality r) (given_has false h.inequalities r i))

-- ---- the cone
of_facets : (p : Polyhedron) (h : HasPoint p) (rays : List (List ℤ)) → ((t : List ℤ) → Contains h.facets t → Contains rays t) → ((t : List ℤ) → Contains rays t → Contains h.facets t) →
    NoRepeat rays → length rays ≤ row_limit → IsCone (record { dims = p.dims; taken = p.generators; lines = lines_of p.rows; rays = rays })
of_facets p h rays to from once few = record {
  dual = subst (λ (l : List (List ℤ)). AreDual (suc p.dims) (system_of p.generators) (all_rows l rays)) (sym (equalities_are p h))
      (dual_again (suc p.dims) (system_of p.generators) h.equalities h.facets rays to from (facets_dual p h));
  canonical = subst (λ (l : List (List ℤ)). IsCanonical l rays) (sym (equalities_are p h)) (canonical_again h.equalities h.facets rays to from once h.constraints_canonical);
  few = few;
}

-- if an inequality is tight wherever the positivity row is
pub covered_cone : (p : Polyhedron) (h : HasPoint p) (r : List ℤ) → Contains p.rows (inequality r) → IsTightToo p r → length (rays_of p.rows) ≤ row_limit →
    IsCone (record { dims = p.dims; taken = p.generators; lines = lines_of p.rows; rays = rays_of p.rows })
covered_cone p h r m tight few =
    let e = inequalities_are p h in
    of_facets p h (rays_of p.rows)
    (λ t k. elim (h.all_shown t k) [
      | inl q ↦ absurd (no_facet p h r (inequality_in p h r m) tight (subst (Contains h.facets) q k))
      | inr i ↦ subst (λ (l : List (List ℤ)). Contains l t) (sym e) i
    ])
    (λ t k. (h.shown t (subst (λ (l : List (List ℤ)). Contains l t) e k)).0) (subst NoRepeat (sym e) (ascending_once h.inequalities h.inequalities_ascend)) few

-- if none is
pub alone_cone : (p : Polyhedron) (h : HasPoint p) → ((r : List ℤ) → Contains p.rows (inequality r) → ¬ (IsTightToo p r)) → length (rays_of p.rows ++ positivity p.dims ∷ []) ≤ row_limit →
    IsCone (record { dims = p.dims; taken = p.generators; lines = lines_of p.rows; rays = rays_of p.rows ++ positivity p.dims ∷ [] })
alone_cone p h alone few =
    let e = inequalities_are p h in
    let x = positivity p.dims in
    let facet : Contains h.facets x = is_facet p h (λ r m. alone r (inequality_there p h r m)) in
    of_facets p h (rays_of p.rows ++ x ∷ [])
    (λ t k. elim (h.all_shown t k) [
      | inl q ↦ Contains-append_right (rays_of p.rows) (x ∷ []) t (subst (Contains (x ∷ [])) (sym q) (contains_head x []))
      | inr i ↦ Contains-append_left (rays_of p.rows) (x ∷ []) t (subst (λ (l : List (List ℤ)). Contains l t) (sym e) i)
    ])
    (λ t k. elim (Contains-append_cases (rays_of p.rows) (x ∷ []) t k) [
      | inl i ↦ (h.shown t (subst (λ (l : List (List ℤ)). Contains l t) e i)).0
      | inr i ↦ elim (contains_cases x t [] i) [ inl q ↦ subst (Contains h.facets) q facet | inr o ↦ absurd (contains_none t o) ]
    ])
    (once_end (rays_of p.rows) x (subst NoRepeat (sym e) (ascending_once h.inequalities h.inequalities_ascend))
    (λ k. (h.shown x (subst (λ (l : List (List ℤ)). Contains l x) e k)).1 refl))
    few
