-- The faces of a polyhedron with a point, given by its generators: what is 0 on all of them is spanned by the
-- equalities, and what is at least 0 on them and 0 where a facet is stands beside that facet.
use Rattle.std.proofs.Common.{Bool, List, [], ap, arith, false, inl, inr, length, neg_ℤ, negsuc, pos, refl, subst, suc, sym, true, zero, ℕ, ℤ, ◌*ℤ◌, ◌++◌, ◌+ℤ◌, ◌<◌, ◌∙◌, ◌∷◌, ◌≡◌, ◌≤ℤ◌, ◌⊎◌}
use Rattle.std.proofs.{lemmas.Int.ints, lemmas.List.Elements.Contains-append_left, lemmas.List.Elements.Contains-append_right}
use Rattle.std.specs.{Bool.beq, Cmp.signed_Decides, List.Contains, List.list_all, Ordering.int_eq}
use Rattle.lra_poly_widening.specs.Crates.lra_linear_spec.Cones.{Generated, Solves, all_rows, both_ways}
use Rattle.lra_poly_widening.specs.Crates.lra_linear_spec.Descriptions.{Con, LinearRow, lines_of, rays_of, system_of}
use Rattle.lra_poly_widening.specs.Crates.lra_linear_spec.Polyhedra.{HasPoint, Polyhedron}
use Rattle.lra_poly_widening.specs.Crates.lra_linear_spec.Vectors.{blend, dot, entry, negated, product, signed_sum}
use Rattle.lra_poly_widening.specs.Crates.lra_linear_spec.Widening.{is_tight_as, is_valid, saturates}
use Rattle.lra_poly_widening.specs.Crates.{lra_linear_spec.Echelon.Spanned, lra_linear_spec.Points.IsPoint, lra_linear_spec.Points.IsWithin, lra_linear_spec.SetOperations.ValidOn}
use Rattle.lra_poly_widening.proofs.Crates.lra_linear_spec.CanonicalForms.{lines_are_all, ray_extreme, spanned_in_cone}
use Rattle.lra_poly_widening.proofs.Crates.lra_linear_spec.Descriptions.{holds_at_least, in_all_rows, in_system, system_from, system_has}
use Rattle.lra_poly_widening.proofs.Crates.lra_linear_spec.Membership.{contains_head, contains_tail, list_all_at, list_all_from}
use Rattle.lra_poly_widening.proofs.Crates.lra_linear_spec.Polyhedra.{con_gen, generators_lines, generators_rays}
use Rattle.lra_poly_widening.proofs.Crates.lra_linear_spec.Products.{blend_length, dot_negated, dot_plus, dot_same, dot_scale, dot_zero, entry_blend, entry_negated, negated_dot, negated_length}
use Rattle.lra_poly_widening.proofs.Crates.lra_linear_spec.Saturation.{Beside, IsExtreme, TightToo, room}
use Rattle.lra_poly_widening.proofs.Crates.lra_linear_spec.Signs.{between_opposites, no_product, opposite_of_zero, zero_at_least}
use Rattle.lra_poly_widening.proofs.Crates.{lra_cone.Taking.same_test, lra_linear_spec.Combinations.generated_same, lra_linear_spec.LinearMaps.generated_nonneg, lra_linear_spec.Lines.in_lines}
use Rattle.lra_poly_widening.proofs.Crates.{lra_linear_spec.Lines.in_lines_negated, lra_linear_spec.Lines.signed_from, lra_linear_spec.OneSpelling.cone_solved, lra_linear_spec.Products.product_comm}
use Rattle.lra_poly_widening.proofs.Crates.{lra_linear_spec.Ring.ring, lra_linear_spec.Ring.v, lra_linear_spec.Ring.◌⊕◌, lra_linear_spec.Ring.◌⊗◌, lra_linear_spec.SetOperations.has_vertex}
use Rattle.lra_poly_widening.proofs.Crates.{lra_linear_spec.SetOperations.valid_on_rows, lra_linear_spec.Spans.spanned_through, lra_linear_spec.Widening.valid_decides}

-- the rows of the constraints, and of the generators, those of both signs in both directions
abbrev pub con : (p : Polyhedron) → HasPoint p → List (List ℤ)
con p h = all_rows h.equalities h.facets

abbrev pub gen : (p : Polyhedron) → HasPoint p → List (List ℤ)
gen p h = all_rows h.lines (h.points ++ h.rays)

-- the product with each of the rows is at least 0; is 0
abbrev pub IsAbove : List (List ℤ) → List ℤ → Type 0
IsAbove rows c = (t : List ℤ) → Contains rows t → pos 0 ≤ℤ product c t

abbrev pub IsFlat : List (List ℤ) → List ℤ → Type 0
IsFlat rows c = (t : List ℤ) → Contains rows t → product c t ≡ pos 0

-- ---- what is valid on the generators
pub above_generated : (p : Polyhedron) (h : HasPoint p) (c : List ℤ) → length c ≡ suc p.dims → IsAbove (gen p h) c → Generated (con p h) (entry c)
above_generated p h c l a = h.dual.consequences c l (λ t k. subst (λ z. pos 0 ≤ℤ z) (product_comm c t) (a t k))

negated_above : (rows : List (List ℤ)) (c : List ℤ) → IsFlat rows c → IsAbove rows (negated c)
negated_above rows c f t k = opposite_of_zero (product c t) (product (negated c) t) (negated_dot c (entry t)) (f t k)

pub flat_spanned : (p : Polyhedron) (h : HasPoint p) (c : List ℤ) → length c ≡ suc p.dims → IsFlat (gen p h) c → Spanned h.equalities (entry c)
flat_spanned p h c l f =
    lines_are_all h.equalities h.facets h.constraints_canonical (entry c) (above_generated p h c l (λ t k. zero_at_least (product c t) (f t k)))
    (generated_same (con p h) (entry (negated c)) (λ j. neg_ℤ (entry c j)) (entry_negated c)
    (above_generated p h (negated c) (negated_length c ∙ l) (negated_above (gen p h) c f)))

-- the equalities are 0 on the generators
pub equality_flat : (p : Polyhedron) (h : HasPoint p) (e : List ℤ) → Contains h.equalities e → IsFlat (gen p h) e
equality_flat p h e k t m =
    between_opposites (product e t) (dot (negated e) (entry t)) (negated_dot e (entry t))
    (h.dual.meets t m e (Contains-append_right h.facets (both_ways h.equalities) e (in_lines h.equalities e k)))
    (h.dual.meets t m (negated e) (Contains-append_right h.facets (both_ways h.equalities) (negated e) (in_lines_negated h.equalities e k)))

-- what rows span that are 0 on a vector is 0 there
pub sum_dot : (t : List ℤ) (rows : List (List ℤ)) → ((e : List ℤ) → Contains rows e → product t e ≡ pos 0) → (zs : List ℤ) → dot t (signed_sum zs rows) ≡ pos 0
sum_dot t rows h [] = dot_zero t
sum_dot t [] h (z ∷ zs) = dot_zero t
sum_dot t (r ∷ rows) h (z ∷ zs) =
    dot_plus t z (entry r) (signed_sum zs rows) ∙ ap (λ y. (z *ℤ y) +ℤ dot t (signed_sum zs rows)) (h r (contains_head r rows)) ∙
    ap (λ y. (z *ℤ pos 0) +ℤ y) (sum_dot t rows (λ e k. h e (contains_tail r e rows k)) zs) ∙ ring (v z ⊗ v (pos 0) ⊕ v (pos 0)) (v (pos 0)) (omega arith)

pub spanned_dot : (t : List ℤ) (rows : List (List ℤ)) → ((e : List ℤ) → Contains rows e → product t e ≡ pos 0) → (u : ℕ → ℤ) → Spanned rows u → dot t u ≡ pos 0
spanned_dot t rows h u g =
    no_product g.multiple (dot t u) g.positive (sym (dot_scale t (pos g.multiple) u) ∙ dot_same t (λ j. pos g.multiple *ℤ u j) (signed_sum g.factors rows) g.is_sum ∙ sum_dot t rows h g.factors)

pub lines_dot : (t : List ℤ) (lines : List (List ℤ)) → ((e : List ℤ) → Contains lines e → product t e ≡ pos 0) → (u : ℕ → ℤ) → Generated (both_ways lines) u → dot t u ≡ pos 0
lines_dot t lines h u g =
    between_opposites (dot t u) (dot (negated t) u) (negated_dot t u) (generated_nonneg t (both_ways lines) u (λ r k. zero_at_least (product t r) (both r k)) g)
    (generated_nonneg (negated t) (both_ways lines) u (λ r k. opposite_of_zero (product t r) (product (negated t) r) (negated_dot t (entry r)) (both r k)) g)
  where
    both : (r : List ℤ) → Contains (both_ways lines) r → product t r ≡ pos 0
    both r k =
        let s = signed_from lines r k in
        elim s.sign [
          | inl e ↦ subst (λ y. product t y ≡ pos 0) (sym e) (h s.line s.has)
          | inr e ↦ subst (λ y. product t y ≡ pos 0) (sym e) (dot_negated t s.line ∙ ap neg_ℤ (h s.line s.has))
        ]

-- ---- beside a facet
-- what is 0 on the generators at which a facet is stands beside the facet
pub same_face : (p : Polyhedron) (h : HasPoint p) (s c : List ℤ) → Contains h.facets s → length c ≡ suc p.dims → IsAbove (gen p h) c →
    ((t : List ℤ) → Contains (gen p h) t → product s t ≡ pos 0 → product c t ≡ pos 0) → Beside (both_ways h.equalities) s c
same_face p h s c k l above zeros =
    let g = gen p h in
    let in_con : Contains (con p h) s = Contains-append_left h.facets (both_ways h.equalities) s k in
    let ls : length s ≡ suc p.dims = h.dual.system_widths s in_con in
    let us : Solves g (entry s) = λ t m. subst (λ z. pos 0 ≤ℤ z) (product_comm s t) (h.dual.meets t m s in_con) in
    let uc : Solves g (entry c) = λ t m. subst (λ z. pos 0 ≤ℤ z) (product_comm c t) (above t m) in
    let tight : TightToo g (entry s) (entry c) = λ t m e. product_comm t c ∙ zeros t m (product_comm s t ∙ e) in
    let x = room g (entry s) (entry c) us uc tight in
    let n = x.0 in
    let y = blend (pos n) (negsuc 0) s c in
    let widths : length s ≡ length c = ls ∙ sym l in
    let ye : (j : ℕ) → entry y j ≡ (pos n *ℤ entry s j) +ℤ (negsuc 0 *ℤ entry c j) = entry_blend (pos n) (negsuc 0) s c widths in
    let solves : Solves g (entry y) = λ t m. subst (λ z. pos 0 ≤ℤ z) (sym (dot_same t (entry y) (λ j. (pos n *ℤ entry s j) +ℤ (negsuc 0 *ℤ entry c j)) ye)) (x.1 n (omega arith) t m) in
    let gy : Generated (con p h) (entry y) = h.dual.consequences y (blend_length (pos n) (negsuc 0) s c widths ∙ ls) solves in
    let ext : IsExtreme (con p h) (both_ways h.equalities) s = ray_extreme h.equalities h.facets s h.constraints_canonical k in
    ext.splits n c (entry y) (above_generated p h c l above) gy
    (λ j. ap (λ z. entry c j +ℤ z) (ye j) ∙ ring (v (entry c j) ⊕ (v (pos n) ⊗ v (entry s j) ⊕ v (negsuc 0) ⊗ v (entry c j))) (v (pos n) ⊗ v (entry s j)) (omega arith))

-- products of what stands beside, if the line is 0
pub beside_product : (lines : List (List ℤ)) (s c : List ℤ) (b : Beside lines s c) (t : List ℤ) → dot t b.line ≡ pos 0 → pos b.times *ℤ product t c ≡ pos b.other *ℤ product t s
beside_product lines s c b t e =
    sym (dot_scale t (pos b.times) (entry c)) ∙ dot_same t (λ j. pos b.times *ℤ entry c j) (λ j. (pos b.other *ℤ entry s j) +ℤ b.line j) b.is_beside ∙ dot_plus t (pos b.other) (entry s) b.line ∙
    ap (λ z. (pos b.other *ℤ product t s) +ℤ z) e ∙ ring (v (pos b.other) ⊗ v (product t s) ⊕ v (pos 0)) (v (pos b.other) ⊗ v (product t s)) (omega arith)

scaled_zero : (m n : ℕ) (y z : ℤ) → 0 < m → pos m *ℤ y ≡ pos n *ℤ z → z ≡ pos 0 → y ≡ pos 0
scaled_zero m n y z h e f = no_product m y h (e ∙ ap (λ x. pos n *ℤ x) f ∙ ring (v (pos n) ⊗ v (pos 0)) (v (pos 0)) (omega arith))

pub beside_zero : (lines : List (List ℤ)) (s c : List ℤ) (b : Beside lines s c) (t : List ℤ) → dot t b.line ≡ pos 0 → product s t ≡ pos 0 → product c t ≡ pos 0
beside_zero lines s c b t e z = product_comm c t ∙ scaled_zero b.times b.other (product t c) (product t s) b.positive (beside_product lines s c b t e) (product_comm t s ∙ z)

pub beside_back : (lines : List (List ℤ)) (s c : List ℤ) (b : Beside lines s c) → 0 < b.other → (t : List ℤ) → dot t b.line ≡ pos 0 → product c t ≡ pos 0 → product s t ≡ pos 0
beside_back lines s c b h t e z = product_comm s t ∙ scaled_zero b.other b.times (product t s) (product t c) h (sym (beside_product lines s c b t e)) (product_comm t c ∙ z)

-- ---- a facet isn't 0 on all generators
pub facet_not_flat : (p : Polyhedron) (h : HasPoint p) (s : List ℤ) → Contains h.facets s → ¬ (IsFlat (gen p h) s)
facet_not_flat p h s k f =
    let ls : length s ≡ suc p.dims = h.dual.system_widths s (Contains-append_left h.facets (both_ways h.equalities) s k) in
    (ray_extreme h.equalities h.facets s h.constraints_canonical k).apart (spanned_in_cone h.equalities [] (entry s) (flat_spanned p h s ls f))

-- so what stands beside it and isn't 0 on all of them is a multiple that isn't 0
pub line_flat : (p : Polyhedron) (h : HasPoint p) (u : ℕ → ℤ) → Generated (both_ways h.equalities) u → (t : List ℤ) → Contains (gen p h) t → dot t u ≡ pos 0
line_flat p h u g t k = lines_dot t h.equalities (λ e m. product_comm t e ∙ equality_flat p h e m t k) u g

pub true_multiple : (p : Polyhedron) (h : HasPoint p) (s c : List ℤ) (b : Beside (both_ways h.equalities) s c) → ¬ (IsFlat (gen p h) c) → 0 < b.other
true_multiple p h s c b n = by_value b.other refl
  where
    by_value : (m : ℕ) → b.other ≡ m → 0 < m
    by_value (suc m) e = omega arith
    by_value zero e = absurd (n (λ t k. product_comm c t ∙ no_product b.times (product t c) b.positive
        (beside_product (both_ways h.equalities) s c b t (line_flat p h b.line b.on_line t k) ∙ ap (λ (x : ℕ). pos x *ℤ product t s) e ∙
        ring (v (pos 0) ⊗ v (product t s)) (v (pos 0)) (omega arith))))

-- ---- generators as they are listed
pub in_gen : (p : Polyhedron) (h : HasPoint p) (t : List ℤ) → Contains (system_of p.generators) t → Contains (gen p h) t
in_gen p h t k =
    subst (λ l. Contains (all_rows l (h.points ++ h.rays)) t) (generators_lines p h)
    (subst (λ r. Contains (all_rows (lines_of p.generators) r) t) (generators_rays p h) (in_all_rows p.generators t k))

pub from_gen : (p : Polyhedron) (h : HasPoint p) (t : List ℤ) → Contains (gen p h) t → Contains (system_of p.generators) t
from_gen p h t k =
    in_system p.generators t
    (subst (λ l. Contains (all_rows l (rays_of p.generators)) t) (sym (generators_lines p h)) (subst (λ r. Contains (all_rows h.lines r) t) (sym (generators_rays p h)) k))

-- a product with a row of either sign
sign_zero : (c g t : List ℤ) (b : Bool) → (t ≡ g) ⊎ ((b ≡ true) × (t ≡ negated g)) → product c g ≡ pos 0 → product c t ≡ pos 0
sign_zero c g t b (inl e) z = ap (product c) e ∙ z
sign_zero c g t b (inr e) z = ap (product c) e.1 ∙ dot_negated c g ∙ ap neg_ℤ z

zero_sign : (c g t : List ℤ) (b : Bool) → (t ≡ g) ⊎ ((b ≡ true) × (t ≡ negated g)) → product c t ≡ pos 0 → product c g ≡ pos 0
zero_sign c g t b (inl e) z = ap (product c) (sym e) ∙ z
zero_sign c g t b (inr e) z = opposite_zero (product c g) (sym (dot_negated c g) ∙ ap (product c) (sym e.1) ∙ z)
  where
    opposite_zero : (z : ℤ) → neg_ℤ z ≡ pos 0 → z ≡ pos 0
    opposite_zero z e = omega (arith, ints, e)

beq_said : (a b : Bool) → beq a b ≡ true → a ≡ b
beq_said true true e = refl
beq_said true false e = cc
beq_said false true e = cc
beq_said false false e = refl

beq_from : (a b : Bool) → a ≡ b → beq a b ≡ true
beq_from true true e = refl
beq_from true false e = cc
beq_from false true e = cc
beq_from false false e = refl

zero_tests : (y z : ℤ) → int_eq y (pos 0) ≡ int_eq z (pos 0) → y ≡ pos 0 → z ≡ pos 0
zero_tests y z e f = (signed_Decides z (pos 0)).0 (sym e ∙ (signed_Decides y (pos 0)).1 f)

-- two rows saturate the same generators
pub tight_as_said : (p : Polyhedron) (h : HasPoint p) (r s : LinearRow) → is_tight_as p.generators r s ≡ true → (t : List ℤ) → Contains (gen p h) t → product r.row t ≡ pos 0 → product s.row t ≡ pos 0
tight_as_said p h r s e t k z =
    let f = system_from p.generators t (from_gen p h t k) in
    let same = beq_said (saturates r f.given) (saturates s f.given) (list_all_at (λ g. beq (saturates r g) (saturates s g)) p.generators e f.given f.has) in
    sign_zero s.row f.given.row t f.given.equal f.sign (zero_tests (product r.row f.given.row) (product s.row f.given.row) same (zero_sign r.row f.given.row t f.given.equal f.sign z))

pub tight_as_back : (p : Polyhedron) (h : HasPoint p) (r s : LinearRow) → is_tight_as p.generators r s ≡ true → (t : List ℤ) → Contains (gen p h) t → product s.row t ≡ pos 0 → product r.row t ≡ pos 0
tight_as_back p h r s e t k z =
    let f = system_from p.generators t (from_gen p h t k) in
    let same = beq_said (saturates r f.given) (saturates s f.given) (list_all_at (λ g. beq (saturates r g) (saturates s g)) p.generators e f.given f.has) in
    sign_zero r.row f.given.row t f.given.equal f.sign (zero_tests (product s.row f.given.row) (product r.row f.given.row) (sym same) (zero_sign s.row f.given.row t f.given.equal f.sign z))

pub tight_as_from : (p : Polyhedron) (h : HasPoint p) (r s : LinearRow) → ((t : List ℤ) → Contains (gen p h) t → product r.row t ≡ pos 0 → product s.row t ≡ pos 0) →
    ((t : List ℤ) → Contains (gen p h) t → product s.row t ≡ pos 0 → product r.row t ≡ pos 0) → is_tight_as p.generators r s ≡ true
tight_as_from p h r s there back = list_all_from (λ g. beq (saturates r g) (saturates s g)) p.generators (λ g k.
    let m = in_gen p h g.row (system_has p.generators g k) in
    beq_from (saturates r g) (saturates s g) (same_test (product r.row g.row) (product s.row g.row) (there g.row m) (back g.row m)))

-- a row saturates all
pub flat_said : (p : Polyhedron) (h : HasPoint p) (r : LinearRow) → list_all (saturates r) p.generators ≡ true → IsFlat (gen p h) r.row
flat_said p h r e t k =
    let f = system_from p.generators t (from_gen p h t k) in
    sign_zero r.row f.given.row t f.given.equal f.sign ((signed_Decides (product r.row f.given.row) (pos 0)).0 (list_all_at (saturates r) p.generators e f.given f.has))

-- ---- what is valid on the points
pub valid_above : (p : Polyhedron) (h : HasPoint p) (r : LinearRow) → ValidOn p.dims (Con p.rows) r → IsAbove (gen p h) r.row
valid_above p h r valid t k =
    valid_on_rows p.dims p.generators (has_vertex p h) r.row (λ y i g. holds_at_least r.equal (product r.row y) (valid y i ((con_gen p (inr h)).1 y i g))) t (from_gen p h t k)

pub test_above : (p : Polyhedron) (h : HasPoint p) (r : LinearRow) → is_valid p r ≡ true → IsAbove (gen p h) r.row
test_above p h r e = valid_above p h r ((valid_decides p h r).0 e)

-- the constraints of a polyhedron that P lies in
pub within_above : (p r : Polyhedron) (h : HasPoint p) (k : HasPoint r) → r.dims ≡ p.dims → IsWithin p.dims (Con p.rows) (Con r.rows) → (c : List ℤ) → Contains (con r k) c → IsAbove (gen p h) c
within_above p r h k e w c m t i =
    valid_on_rows p.dims p.generators (has_vertex p h) c
    (λ y is_point g. cone_solved r k y (subst (λ (n : ℕ). IsPoint n y) (sym e) is_point) (w y is_point ((con_gen p (inr h)).1 y is_point g)) c m) t (from_gen p h t i)

pub within_flat : (p r : Polyhedron) (h : HasPoint p) (k : HasPoint r) → r.dims ≡ p.dims → IsWithin p.dims (Con p.rows) (Con r.rows) → (e : List ℤ) → Contains k.equalities e → IsFlat (gen p h) e
within_flat p r h k d w e m t i =
    between_opposites (product e t) (dot (negated e) (entry t)) (negated_dot e (entry t))
    (within_above p r h k d w e (Contains-append_right k.facets (both_ways k.equalities) e (in_lines k.equalities e m)) t i)
    (within_above p r h k d w (negated e) (Contains-append_right k.facets (both_ways k.equalities) (negated e) (in_lines_negated k.equalities e m)) t i)

-- its equalities are spanned by those of P
pub within_spans : (p r : Polyhedron) (h : HasPoint p) (k : HasPoint r) → r.dims ≡ p.dims → IsWithin p.dims (Con p.rows) (Con r.rows) → (u : ℕ → ℤ) → Spanned k.equalities u → Spanned h.equalities u
within_spans p r h k d w u g = spanned_through k.equalities h.equalities u (λ e m.
    flat_spanned p h e (k.dual.system_widths e (Contains-append_right k.facets (both_ways k.equalities) e (in_lines k.equalities e m)) ∙ ap suc d) (within_flat p r h k d w e m)) g
