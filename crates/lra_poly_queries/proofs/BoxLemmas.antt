-- The least box: no product of a unit row passes, and extents are reported one by one.
use Rattle.std.proofs.Common.{◌≡◌, ℕ, zero, suc, ◌+◌, Bool, true, false, cond, List, [], ◌∷◌, ◌++◌, length, ap, refl, sym, ◌∙◌, subst, inl, inr, ◌⊎◌, arith, ℤ, pos, negsuc, neg_ℤ, ◌+ℤ◌, ◌*ℤ◌, Result}
use Rattle.std.proofs.{Common.Ok, Common.Err, Common.IsOk, Common.slice_get, Common.slice_set, Common.Some, Common.replicate, Common.length-append, Common.true≢false, lemmas.Int.ints}
use Rattle.std.specs.List.{All, Contains}
use Rattle.lra_poly_queries.specs.Crates.lra_linear_spec.CheckedArithmetic.{checked_product, checked_product_from}
use Rattle.lra_poly_queries.specs.Crates.lra_linear_spec.OperationStrain.{MaximiseStrains, ProductsPass, unit_row}
use Rattle.lra_poly_queries.specs.Crates.{lra_linear_forms.Form.Form, lra_linear_forms.Form.form_row, lra_linear_spec.Descriptions.LinearRow, lra_linear_spec.Descriptions.inequality}
use Rattle.lra_poly_queries.specs.Crates.{lra_linear_spec.Polyhedra.Polyhedron, lra_linear_spec.Range.InRange, lra_linear_spec.Range.in_range, lra_linear_spec.Representable.AreInRange}
use Rattle.lra_poly_queries.specs.Crates.{lra_linear_spec.Vectors.negated, lra_linear_spec.Vectors.zeros, lra_linear_spec.declared.Excess.Excess}
use Rattle.lra_poly_queries.proofs.Crates.lra_linear_spec.Membership.{contains_cases, contains_none}
use Rattle.lra_poly_queries.proofs.Crates.{lra_linear_spec.CheckedArithmetic.in_range_yes, lra_linear_spec.UnitRows.zeros_are}
use Rattle.lra_poly_queries.specs.{Boxed.IsExtent, Boxed.IsLeastBox, Boxed.coordinate_form, declared.boxes.Extent.Extent}

-- ---- products with a unit row, or its opposite
abbrev Number : Type 0
Number = Result ℤ Excess

both_pass : (b d : Bool) (rest : Number) (f g : Excess) → b ≡ true → d ≡ true → IsOk rest →
    IsOk (cond {A = Number} b (cond {A = Number} d rest (Err f)) (Err g))
both_pass true true rest f g eb ed h = h
both_pass true false rest f g eb ed h = absurd (true≢false (sym ed))
both_pass false d rest f g eb ed h = absurd (true≢false (sym eb))

zero_in : (y : ℤ) → InRange (pos 0 *ℤ y)
zero_in y = subst InRange (nothing y) (omega (arith, ints))
  where
    nothing : (y : ℤ) → pos 0 ≡ pos 0 *ℤ y
    nothing y = omega (arith, ints)

plus_nothing : (sum y : ℤ) → sum ≡ sum +ℤ (pos 0 *ℤ y)
plus_nothing sum y = omega (arith, ints)

zeros_fit : (m : ℕ) (sum : ℤ) (ys : List ℤ) → InRange sum → IsOk (checked_product_from sum (zeros m) ys)
zeros_fit zero sum ys h = refl
zeros_fit (suc m) sum [] h = refl
zeros_fit (suc m) sum (y ∷ ys) h =
    let more = subst InRange (plus_nothing sum y) h in
    both_pass (in_range (pos 0 *ℤ y)) (in_range (sum +ℤ (pos 0 *ℤ y)))
    (checked_product_from (sum +ℤ (pos 0 *ℤ y)) (zeros m) ys) _ _ (in_range_yes (pos 0 *ℤ y) (zero_in y))
    (in_range_yes (sum +ℤ (pos 0 *ℤ y)) more) (zeros_fit m (sum +ℤ (pos 0 *ℤ y)) ys more)

unit_fits : (m j : ℕ) (c : ℤ) (ys : List ℤ) → ((y : ℤ) → InRange y → InRange (c *ℤ y)) → All InRange ys →
    IsOk (checked_product_from (pos 0) (slice_set (zeros m) j c) ys)
unit_fits zero j c ys f h = refl
unit_fits (suc m) zero c [] f h = refl
unit_fits (suc m) zero c (y ∷ ys) f h =
    let here = f y (h 0 y (omega arith)) in
    let more = subst InRange (from_nothing (c *ℤ y)) here in
    both_pass (in_range (c *ℤ y)) (in_range (pos 0 +ℤ (c *ℤ y)))
    (checked_product_from (pos 0 +ℤ (c *ℤ y)) (zeros m) ys) _ _ (in_range_yes (c *ℤ y) here)
    (in_range_yes (pos 0 +ℤ (c *ℤ y)) more) (zeros_fit m (pos 0 +ℤ (c *ℤ y)) ys more)
  where
    from_nothing : (z : ℤ) → z ≡ pos 0 +ℤ z
    from_nothing z = omega (arith, ints)
unit_fits (suc m) (suc j) c [] f h = refl
unit_fits (suc m) (suc j) c (y ∷ ys) f h =
    both_pass (in_range (pos 0 *ℤ y)) (in_range (pos 0 +ℤ (pos 0 *ℤ y)))
    (checked_product_from (pos 0 +ℤ (pos 0 *ℤ y)) (slice_set (zeros m) j c) ys) _ _
    (in_range_yes (pos 0 *ℤ y) (zero_in y))
    (in_range_yes (pos 0 +ℤ (pos 0 *ℤ y)) (subst InRange (plus_nothing (pos 0) y) (omega (arith, ints))))
    (subst (λ (z : ℤ). IsOk (checked_product_from z (slice_set (zeros m) j c) ys)) (plus_nothing (pos 0) y)
    (unit_fits m j c ys f (λ k d l. h (suc k) d (omega (arith, l)))))

negated_zeros : (m : ℕ) → negated (zeros m) ≡ zeros m
negated_zeros zero = refl
negated_zeros (suc m) = ap (λ (l : List ℤ). pos 0 ∷ l) (negated_zeros m)

negated_unit : (m j : ℕ) → negated (slice_set (zeros m) j (pos 1)) ≡ slice_set (zeros m) j (negsuc 0)
negated_unit zero j = refl
negated_unit (suc m) zero = ap (λ (l : List ℤ). negsuc 0 ∷ l) (negated_zeros m)
negated_unit (suc m) (suc j) = ap (λ (l : List ℤ). pos 0 ∷ l) (negated_unit m j)

own_in : (y : ℤ) → InRange y → InRange (pos 1 *ℤ y)
own_in y h = subst InRange (once y) h
  where
    once : (y : ℤ) → y ≡ pos 1 *ℤ y
    once y = omega (arith, ints)

opposite_in : (y : ℤ) → InRange y → InRange (negsuc 0 *ℤ y)
opposite_in y h = subst InRange (turned y) (in_both y h)
  where
    turned : (y : ℤ) → neg_ℤ y ≡ negsuc 0 *ℤ y
    turned y = omega (arith, ints)

    in_both : (y : ℤ) → InRange y → InRange (neg_ℤ y)
    in_both y h = omega (arith, ints, h)

none_passes : (form : List ℤ) (list : List LinearRow) (e : Excess) →
    ((g : LinearRow) → Contains list g → IsOk (checked_product form g.row)) → ¬ ProductsPass (inequality form ∷ []) list e
none_passes form list e f s = elim (contains_cases (inequality form) s.row [] s.has_row) [
  | inl is ↦ not_ok (checked_product form s.generator.row) (f s.generator s.has_generator)
      (subst (λ (r : LinearRow). checked_product r.row s.generator.row ≡ Err e) (sym is) s.passes)
  | inr d ↦ contains_none s.row d
]
  where
    not_ok : (r : Number) → IsOk r → r ≡ Err e → ⊥
    not_ok (Ok x) h is = cc
    not_ok (Err f) h is = true≢false (sym h)

pub greatest_fits : (p : Polyhedron) (k : ℕ) (form : List ℤ) → form ≡ coordinate_form p.dims k →
    AreInRange p.generators → (e : Excess) → ¬ MaximiseStrains p form e
greatest_fits p k form is all e = subst (λ (f : List ℤ). ¬ MaximiseStrains p f e) (sym is)
    (none_passes (unit_row p.dims (suc k)) p.generators e (λ g h.
    unit_fits (suc p.dims) (suc k) (pos 1) g.row own_in (all g h)))

pub least_fits : (p : Polyhedron) (k : ℕ) (form : List ℤ) → form ≡ coordinate_form p.dims k →
    AreInRange p.generators → (e : Excess) → ¬ MaximiseStrains p (negated form) e
least_fits p k form is all e =
    subst (λ (f : List ℤ). ¬ MaximiseStrains p f e) (sym (ap negated is ∙ negated_unit (suc p.dims) (suc k)))
    (none_passes (slice_set (zeros (suc p.dims)) (suc k) (negsuc 0)) p.generators e (λ g h.
    unit_fits (suc p.dims) (suc k) (negsuc 0) g.row opposite_in (all g h)))

-- ---- the form of a coordinate, as the code makes it
pub coordinate_made : (n k : ℕ) (made factors : List ℤ) (form : Form) → made ≡ replicate n (pos 0) →
    factors ≡ slice_set made k (pos 1) → form ≡ record { constant = pos 0; coefficients = factors } →
    form_row form ≡ coordinate_form n k
coordinate_made n k made factors form em ef is = ap form_row is
    ∙ ap (λ (l : List ℤ). pos 0 ∷ l) (ef ∙ ap (λ (l : List ℤ). slice_set l k (pos 1)) (em ∙ zeros_are n))

-- ---- one extent more
pub record IsBoxSoFar (p : Polyhedron) (d : ℕ) (extents : List Extent) : Type 0 where
  pub count : length extents ≡ d
  pub each : (k : ℕ) (e : Extent) → slice_get extents k ≡ Some e → IsExtent p k e

pub box_first : (p : Polyhedron) (extents : List Extent) → extents ≡ [] → IsBoxSoFar p 0 extents
box_first p extents is = record {
  count = ap length is;
  each = λ k e at. absurd (nothing_at k e (subst (λ (l : List Extent). slice_get l k ≡ Some e) is at));
}
  where
    nothing_at : (k : ℕ) (e : Extent) → slice_get {X = Extent} [] k ≡ Some e → ⊥
    nothing_at k e at = cc

pushed_at : (xs : List Extent) (x : Extent) (k : ℕ) (e : Extent) → slice_get (xs ++ x ∷ []) k ≡ Some e →
    (slice_get xs k ≡ Some e) ⊎ ((k ≡ length xs) × (x ≡ e))
pushed_at [] x zero e at = inr (refl, same x e at)
  where
    same : (x e : Extent) → Some x ≡ Some e → x ≡ e
    same x e at = cc
pushed_at [] x (suc k) e at = cc
pushed_at (y ∷ xs) x zero e at = inl at
pushed_at (y ∷ xs) x (suc k) e at = elim (pushed_at xs x k e at) [
  | inl a ↦ inl a
  | inr b ↦ inr (ap suc b.0, b.1)
]

pub box_more : (p : Polyhedron) (d : ℕ) (old new : List Extent) (e : Extent) → IsBoxSoFar p d old → IsExtent p d e →
    new ≡ old ++ e ∷ [] → IsBoxSoFar p (d + 1) new
box_more p d old new e s here is = record {
  count = let n = ap length is ∙ length-append old (e ∷ []) in let c = s.count in omega (arith, n, c);
  each = λ k f at. elim (pushed_at old e k f (subst (λ (l : List Extent). slice_get l k ≡ Some f) is at)) [
    | inl a ↦ s.each k f a
    | inr b ↦ subst (λ (j : ℕ). IsExtent p j f) (sym (b.0 ∙ s.count)) (subst (IsExtent p d) b.1 here)
  ];
}

pub box_whole : (p : Polyhedron) (d : ℕ) (extents : List Extent) → IsBoxSoFar p d extents → d ≡ p.dims →
    IsLeastBox p extents
box_whole p d extents s e = record { count = s.count ∙ e; each = s.each }
