-- Images by a form without the coordinate: that coordinate is anything, and then it is the form.
use Rattle.std.proofs.Common.{◌≡◌, ◌≢◌, ℕ, zero, suc, ◌<◌, true, List, [], ◌∷◌, length, ap, sym, ◌∙◌, subst, ℤ, pos, negsuc, neg_ℤ, ◌+ℤ◌, ◌*ℤ◌, ◌<ℤ◌, arith, ◌⊎◌, inl, inr, refl}
use Rattle.std.proofs.lemmas.Bool.{cases_eq}
use Rattle.std.specs.Prelude.{slice_set, IfSome, Option, None, Some}
use Rattle.lra_poly_images.specs.Crates.lra_linear_spec.Polyhedra.{IsPolyhedronOf, Polyhedron}
use Rattle.lra_poly_images.specs.Crates.lra_linear_spec.SetOperations.{Forget, Image, Meet, assigned}
use Rattle.lra_poly_images.specs.Crates.{lra_linear_spec.Descriptions.Con, lra_linear_spec.Descriptions.LinearRow, lra_linear_spec.Descriptions.Holds, lra_linear_spec.Points.IsPoint}
use Rattle.lra_poly_images.specs.Crates.{lra_linear_spec.Points.PointSet, lra_linear_spec.Points.SameSet, lra_linear_spec.Vectors.dot, lra_linear_spec.Vectors.entry, lra_linear_spec.Vectors.product}
use Rattle.lra_poly_images.proofs.Crates.lra_linear_spec.Products.{dot_same, dot_scale, entry_set_other, entry_set_same}
use Rattle.lra_poly_images.proofs.Crates.lra_linear_spec.Ring.{ring, v, ⊖, ◌⊕◌, ◌⊗◌}
use Rattle.lra_poly_images.proofs.Crates.lra_linear_spec.Signs.{as_nat, cancel_same, positive_is_nonnegative, positive_nat}
use Rattle.lra_poly.proofs.PolyLemmas.{same_polyhedron}
use Rattle.lra_poly_images.proofs.AssignedSets.{image_forgets}

-- ---- the value of a form without the column
dot_but : (c : List ℤ) (k : ℕ) (u w : ℕ → ℤ) → entry c k ≡ pos 0 → ((j : ℕ) → j ≢ k → u j ≡ w j) → dot c u ≡ dot c w
dot_but [] k u w z e = refl
dot_but (x ∷ c) zero u w z e =
    let d : ℤ = dot c (λ j. u (suc j)) in
    ap (λ (a : ℤ). (a *ℤ u 0) +ℤ d) z ∙ ring (v (pos 0) ⊗ v (u 0) ⊕ v d) (v (pos 0) ⊗ v (w 0) ⊕ v d) (omega arith) ∙
    ap (λ (a : ℤ). (a *ℤ w 0) +ℤ d) (sym z) ∙
    ap (λ (s : ℤ). (x *ℤ w 0) +ℤ s) (dot_same c (λ j. u (suc j)) (λ j. w (suc j)) (λ j. e (suc j) (λ q. omega (arith, q))))
dot_but (x ∷ c) (suc k) u w z e =
    ap (λ (a : ℤ). (x *ℤ a) +ℤ dot c (λ j. u (suc j))) (e 0 (λ q. omega (arith, q))) ∙
    ap (λ (s : ℤ). (x *ℤ w 0) +ℤ s)
    (dot_but c k (λ j. u (suc j)) (λ j. w (suc j)) z (λ j n. e (suc j) (λ q. n (omega (arith, q)))))

same_value : (c x y : List ℤ) (k : ℕ) (a b : ℤ) → entry c k ≡ pos 0 → ((j : ℕ) → j ≢ k → entry x j *ℤ a ≡ entry y j *ℤ b) →
    product c x *ℤ a ≡ product c y *ℤ b
same_value c x y k a b z e =
    turned (product c x) a ∙ sym (dot_scale c a (entry x)) ∙
    dot_but c k (λ j. a *ℤ entry x j) (λ j. b *ℤ entry y j) z
    (λ j n. turned a (entry x j) ∙ e j n ∙ turned (entry y j) b) ∙
    dot_scale c b (entry y) ∙ turned b (product c y)
  where
    turned : (p q : ℤ) → p *ℤ q ≡ q *ℤ p
    turned p q = ring (v p ⊗ v q) (v q ⊗ v p) (omega arith)

-- ---- the row that asks the coordinate to be the form
set_dot : (c : List ℤ) (u : ℕ → ℤ) (k : ℕ) (z : ℤ) → entry c k ≡ pos 0 → k < length c →
    dot (slice_set c k z) u ≡ dot c u +ℤ (z *ℤ u k)
set_dot [] u k z e h = absurd (omega (arith, h))
set_dot (x ∷ c) u zero z e h =
    let d : ℤ = dot c (λ j. u (suc j)) in
    ring (v z ⊗ v (u 0) ⊕ v d) ((v (pos 0) ⊗ v (u 0) ⊕ v d) ⊕ v z ⊗ v (u 0)) (omega arith) ∙
    ap (λ (a : ℤ). ((a *ℤ u 0) +ℤ d) +ℤ (z *ℤ u 0)) (sym e)
set_dot (x ∷ c) u (suc k) z e h =
    let d : ℤ = dot c (λ j. u (suc j)) in
    ap (λ (s : ℤ). (x *ℤ u 0) +ℤ s) (set_dot c (λ j. u (suc j)) k z e (omega (arith, h))) ∙
    ring (v x ⊗ v (u 0) ⊕ (v d ⊕ v z ⊗ v (u (suc k)))) ((v x ⊗ v (u 0) ⊕ v d) ⊕ v z ⊗ v (u (suc k))) (omega arith)

difference : (value x : ℤ) → x ≡ value → value +ℤ (negsuc 0 *ℤ x) ≡ pos 0
difference value x e = ap (λ (z : ℤ). value +ℤ (negsuc 0 *ℤ z)) e ∙ ring (v value ⊕ v (negsuc 0) ⊗ v value) (v (pos 0)) (omega arith)

no_difference : (value x : ℤ) → value +ℤ (negsuc 0 *ℤ x) ≡ pos 0 → x ≡ value
no_difference value x e =
    ring (v x) (v value ⊕ ⊖ (v value ⊕ v (negsuc 0) ⊗ v x)) (omega arith) ∙ ap (λ (z : ℤ). value +ℤ neg_ℤ z) e ∙
    ring (v value ⊕ ⊖ (v (pos 0))) (v value) (omega arith)

cancelled : (x value d : ℤ) → pos 0 <ℤ d → x *ℤ d ≡ value *ℤ d → x ≡ value
cancelled x value d h e =
    let n = as_nat d (positive_is_nonnegative d h) in
    cancel_same n.0 x value (positive_nat d n.0 h n.1)
    (ap (λ (z : ℤ). z *ℤ x) (sym n.1) ∙ ring (v d ⊗ v x) (v x ⊗ v d) (omega arith) ∙ e ∙
    ring (v value ⊗ v d) (v d ⊗ v value) (omega arith) ∙ ap (λ (z : ℤ). z *ℤ value) n.1)

-- ---- the sets
abbrev pub is_value : ℕ → List ℤ → LinearRow
is_value k form = record { row = slice_set form k (negsuc 0); equal = true }

image_holds : (n k : ℕ) (form : List ℤ) (P : PointSet) → 0 < k → k < suc n → length form ≡ suc n → entry form k ≡ pos 0 →
    (x : List ℤ) → IsPoint n x → Image n k form P x → Holds (is_value k form) x
image_holds n k form P above low wide none x i f =
    let value = product form f.from in
    let at : entry (assigned k form f.from) k ≡ value = entry_set_same f.from k value
    (let w = f.is_point.width in omega (arith, w, low)) in
    let first : entry (assigned k form f.from) 0 ≡ entry f.from 0 = entry_set_other f.from k 0 value (λ e. omega (arith, e, above)) in
    let own : entry x k *ℤ entry f.from 0 ≡ value *ℤ entry x 0 =
    ap (λ (z : ℤ). entry x k *ℤ z) (sym first) ∙ f.same k ∙ ap (λ (z : ℤ). z *ℤ entry x 0) at in
    let along = same_value form x f.from k (entry f.from 0) (entry x 0) none
    (λ j n. ap (λ (z : ℤ). entry x j *ℤ z) (sym first) ∙ f.same j ∙
    ap (λ (z : ℤ). z *ℤ entry x 0) (entry_set_other f.from k j value n)) in
    set_dot form (entry x) k (negsuc 0) none (omega (arith, low, wide)) ∙
    difference (product form x) (entry x k) (cancelled (entry x k) (product form x) (entry f.from 0) f.is_point.divisor (own ∙ sym along))

solved_image : (n k : ℕ) (form : List ℤ) (P : PointSet) → 0 < k → k < suc n → length form ≡ suc n → entry form k ≡ pos 0 →
    (x : List ℤ) → Forget n k P x → Holds (is_value k form) x → Image n k form P x
solved_image n k form P above low wide none x f holds = record {
  from = f.from;
  is_point = f.is_point;
  inside = f.inside;
  same = λ j. column j (cases_eq j k);
}
  where
    value : ℤ
    value = product form f.from

    at : entry (slice_set f.from k (product form f.from)) k ≡ product form f.from
    at = entry_set_same f.from k (product form f.from) (let w = f.is_point.width in omega (arith, w, low))

    first : entry (slice_set f.from k (product form f.from)) 0 ≡ entry f.from 0
    first = entry_set_other f.from k 0 (product form f.from) (λ e. omega (arith, e, above))

    own : entry x k ≡ product form x
    own = no_difference (product form x) (entry x k) (sym (set_dot form (entry x) k (negsuc 0) none (omega (arith, low, wide))) ∙ holds)

    column : (j : ℕ) → (j ≡ k) ⊎ (j ≢ k) → entry x j *ℤ entry (slice_set f.from k (product form f.from)) 0 ≡
        entry (slice_set f.from k (product form f.from)) j *ℤ entry x 0
    column j (inl e) = subst (λ (i : ℕ). entry x i *ℤ entry (slice_set f.from k (product form f.from)) 0 ≡
        entry (slice_set f.from k (product form f.from)) i *ℤ entry x 0) (sym e)
        (ap (λ (z : ℤ). entry x k *ℤ z) first ∙ ap (λ (z : ℤ). z *ℤ entry f.from 0) own ∙
        same_value form x f.from k (entry f.from 0) (entry x 0) none f.same ∙ ap (λ (z : ℤ). z *ℤ entry x 0) (sym at))
    column j (inr n) = ap (λ (z : ℤ). entry x j *ℤ z) first ∙ f.same j n ∙
        ap (λ (z : ℤ). z *ℤ entry x 0) (sym (entry_set_other f.from k j (product form f.from) n))

pub image_meets : (n k : ℕ) (form : List ℤ) (P : PointSet) → 0 < k → k < suc n → length form ≡ suc n → entry form k ≡ pos 0 →
    SameSet n (Image n k form P) (Meet (Forget n k P) (Holds (is_value k form)))
image_meets n k form P above low wide none = (
  λ x i f. (image_forgets n k form P above x i f, image_holds n k form P above low wide none x i f),
  λ x i both. solved_image n k form P above low wide none x both.0 both.1,
)

-- ---- as the code states it
forgotten_met : (n k : ℕ) (form : List ℤ) (P : PointSet) (free : Polyhedron) → IsPolyhedronOf n (Forget n k P) free →
    SameSet n (Meet (Forget n k P) (Holds (is_value k form))) (Meet (Con free.rows) (Holds (is_value k form)))
forgotten_met n k form P free h = (
  λ x i both. (h.points.0 x i both.0, both.1),
  λ x i both. (h.points.1 x i both.0, both.1),
)

pub image_solved : (p free : Polyhedron) (made : Option Polyhedron) (x : ℕ) (form : List ℤ) → x < p.dims → length form ≡ suc p.dims →
    entry form (suc x) ≡ pos 0 → IsPolyhedronOf p.dims (Forget p.dims (suc x) (Con p.rows)) free →
    IfSome made (IsPolyhedronOf free.dims (Meet (Con free.rows) (Holds (is_value (suc x) form)))) →
    IfSome made (IsPolyhedronOf p.dims (Image p.dims (suc x) form (Con p.rows)))
image_solved p free None x form low wide none h m = tt
image_solved p free (Some q) x form low wide none h m =
    let n = p.dims in
    let k = suc x in
    let P = Con p.rows in
    let met : IsPolyhedronOf n (Meet (Con free.rows) (Holds (is_value k form))) q =
    subst (λ (d : ℕ). IsPolyhedronOf d (Meet (Con free.rows) (Holds (is_value k form))) q) h.dimensions m in
    same_polyhedron n (Image n k form P) (Meet (Forget n k P) (Holds (is_value k form))) q
    (image_meets n k form P (omega arith) (omega (arith, low)) wide none)
    (same_polyhedron n (Meet (Forget n k P) (Holds (is_value k form))) (Meet (Con free.rows) (Holds (is_value k form))) q
    (forgotten_met n k form P free h) met)
