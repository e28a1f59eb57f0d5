-- A form's value at each store lies within what is reported about it, and one thing is reported.
use Rattle.std.proofs.Common.{◌≡◌, ◌∙◌, ◌<◌, ◌*◌, ℕ, zero, suc, ℤ, pos, ◌+ℤ◌, ◌*ℤ◌, List, length, Bool, true, false}
use Rattle.std.proofs.Common.{cond, Option, None, Some, refl, sym, ap, subst, arith}
use Rattle.std.proofs.lemmas.Int.{ints}
use Rattle.std.specs.Prelude.{◌-ℤ◌, neg_ℤ}
use Rattle.lra_linear_spec.specs.{Range.in_range, Vectors.product}
use Rattle.lra_octagon.specs.Crates.lra_linear_forms.Form.{Form, form_value}
use Rattle.lra_domain.specs.Bounds.{IsLowerBound, IsBetween, IsUpperBound}
use Rattle.lra_dbm.specs.Tight.{Entries, IsStore, opposite, signed_value}
use Rattle.lra_dbm.specs.{Cells.Cells, Cells.entries, Entry.◌⊑◌}
use Rattle.lra_dbm.proofs.{CellLemmas.opposite_below, Closed.signed_opposite}
use Rattle.lra_box.specs.declared.interval.Side.TheVariants.{Low, High}
use Rattle.lra_box.specs.{Bounds.BoundHolds, Laws.ends_between, Laws.one_end}
use Rattle.lra_octagon.specs.FormBounds.{CellsTell, ShapeTells, UnaryTell, above_by, below_by}
use Rattle.lra_octagon.specs.FormValues.{one_below, one_value, two_below, two_value}
use Rattle.lra_octagon.specs.Forms.{shape, shape_of, terms_from}
use Rattle.lra_octagon.specs.StoreBounds.{half_high, in_intervals, length_intervals, unary_at}
use Rattle.lra_octagon.specs.declared.forms.FormShape.TheVariants.{Constant, One, Two, Other}
use Rattle.lra_octagon.specs.{Content.has_store, Tables.intervals, Tables.most, declared.forms.FormShape.FormShape}

-- ---- a bound of a number bounds the constant and the number
under_if : (t : Bool) (v z : ℤ) → IsUpperBound (Some v) z → IsUpperBound (cond t (Some v) None) z
under_if true v z h = h
under_if false v z h = tt

above_if : (t : Bool) (v z : ℤ) → IsLowerBound (Some v) z → IsLowerBound (cond t (Some v) None) z
above_if true v z h = h
above_if false v z h = tt

above_told : (c x z : ℤ) (o : Option ℤ) → BoundHolds High o x → z ≡ c +ℤ x → IsUpperBound (above_by c o) z
above_told c x z None h e = tt
above_told c x z (Some b) h e = under_if (in_range (c +ℤ b)) (c +ℤ b) z (omega (arith, ints, e, h))

below_told : (c x z : ℤ) (o : Option ℤ) → BoundHolds High o (neg_ℤ x) → z ≡ c +ℤ x → IsLowerBound (below_by c o) z
below_told c x z None h e = tt
below_told c x z (Some b) h e = above_if (in_range (c +ℤ neg_ℤ b)) (c +ℤ neg_ℤ b) z (omega (arith, ints, e, h))

-- ---- entries bound sums of signed variables at each store
by_entry : (o : Option ℤ) (x y : ℤ) → Some x ⊑ o → x ≡ y → BoundHolds High o y
by_entry None x y h e = tt
by_entry (Some b) x y h e = let p = h.at_most in omega (arith, ints, e, p)

term_under : (n : ℕ) (m : Entries) (s : List ℤ) (i : ℕ) → IsStore n m s → i < 2 * n
    → BoundHolds High (most m i) (signed_value s i)
term_under n m s i store row =
    half_high (m (opposite i) i) (signed_value s i) (unary_at n m s i (signed_value s i) store row refl)

opposite_under : (n : ℕ) (m : Entries) (s : List ℤ) (i : ℕ) → IsStore n m s → i < 2 * n
    → BoundHolds High (most m (opposite i)) (neg_ℤ (signed_value s i))
opposite_under n m s i store row = subst (λ (x : ℤ). BoundHolds High (most m (opposite i)) x) (signed_opposite s i)
    (term_under n m s (opposite i) store (opposite_below n i row))

sum_under : (n : ℕ) (m : Entries) (s : List ℤ) (i j : ℕ) → IsStore n m s → i < 2 * n → j < 2 * n
    → BoundHolds High (m (opposite j) i) (signed_value s i +ℤ signed_value s j)
sum_under n m s i j store row column =
    let turned = signed_opposite s j in
    by_entry (m (opposite j) i) (signed_value s i -ℤ signed_value s (opposite j)) (signed_value s i +ℤ signed_value s j)
    (store.below (opposite j) i (opposite_below n j column) row) (omega (arith, ints, turned))

opposite_sum_under : (n : ℕ) (m : Entries) (s : List ℤ) (i j : ℕ) → IsStore n m s → i < 2 * n → j < 2 * n
    → BoundHolds High (m j (opposite i)) (neg_ℤ (signed_value s i +ℤ signed_value s j))
opposite_sum_under n m s i j store row column =
    let turned = signed_opposite s i in
    by_entry (m j (opposite i)) (signed_value s (opposite i) -ℤ signed_value s j)
    (neg_ℤ (signed_value s i +ℤ signed_value s j))
    (store.below j (opposite i) column (opposite_below n i row)) (omega (arith, ints, turned))

-- ---- by shape
one_times : (x y : ℤ) → y ≡ pos 1 *ℤ x → y ≡ x
one_times x y e = omega (arith, ints, e)

unary_between : (n : ℕ) (m : Entries) (f : Form) (l h : Option ℤ) (s : List ℤ) → length f.coefficients ≡ n
    → IsStore n m s → UnaryTell n m f l h → IsBetween l h (form_value f s)
unary_between n m f l h s wide store told =
    ends_between f (intervals n m) l h s (wide ∙ sym (length_intervals n m)) (in_intervals n m s store) told.0 told.1

between : (l h a b : Option ℤ) (z : ℤ) → (l ≡ a) × (h ≡ b) → IsLowerBound a z → IsUpperBound b z → IsBetween l h z
between l h a b z is low high = (
  subst (λ (o : Option ℤ). IsLowerBound o z) (sym is.0) low,
  subst (λ (o : Option ℤ). IsUpperBound o z) (sym is.1) high,
)

shape_between : (n : ℕ) (m : Entries) (f : Form) (form : FormShape) (l h : Option ℤ) (s : List ℤ)
    → form ≡ shape_of (terms_from 0 f.coefficients) → length f.coefficients ≡ n → IsStore n m s
    → ShapeTells n m f form l h → IsBetween l h (form_value f s)
shape_between n m f Constant l h s is wide store told = unary_between n m f l h s wide store told
shape_between n m f (One zero i) l h s is wide store told = unary_between n m f l h s wide store told
shape_between n m f (One (suc zero) i) l h s is wide store told =
    let row : i < 2 * n = subst (λ (k : ℕ). i < 2 * k) wide (one_below f.coefficients 1 i is) in
    let value : form_value f s ≡ f.constant +ℤ signed_value s i = ap (λ (z : ℤ). f.constant +ℤ z)
    (one_times (signed_value s i) (product f.coefficients s) (one_value f.coefficients s 1 i is)) in
    between l h _ _ (form_value f s) told
    (below_told f.constant (signed_value s i) (form_value f s) (most m (opposite i))
    (opposite_under n m s i store row) value)
    (above_told f.constant (signed_value s i) (form_value f s) (most m i) (term_under n m s i store row) value)
shape_between n m f (One (suc (suc k)) i) l h s is wide store told = unary_between n m f l h s wide store told
shape_between n m f (Two zero i j) l h s is wide store told = unary_between n m f l h s wide store told
shape_between n m f (Two (suc zero) i j) l h s is wide store told =
    let both = two_below f.coefficients 1 i j is in
    let row : i < 2 * n = subst (λ (k : ℕ). i < 2 * k) wide both.0 in
    let column : j < 2 * n = subst (λ (k : ℕ). j < 2 * k) wide both.1 in
    let sum = signed_value s i +ℤ signed_value s j in
    let value : form_value f s ≡ f.constant +ℤ sum = ap (λ (z : ℤ). f.constant +ℤ z)
    (one_times sum (product f.coefficients s) (two_value f.coefficients s 1 i j is)) in
    between l h _ _ (form_value f s) told
    (below_told f.constant sum (form_value f s) (m j (opposite i))
    (opposite_sum_under n m s i j store row column) value)
    (above_told f.constant sum (form_value f s) (m (opposite j) i) (sum_under n m s i j store row column) value)
shape_between n m f (Two (suc (suc k)) i j) l h s is wide store told = unary_between n m f l h s wide store told
shape_between n m f Other l h s is wide store told = unary_between n m f l h s wide store told

pub told_between : (n : ℕ) (o : Option Cells) (f : Form) (l h : Option ℤ) (s : List ℤ) → length f.coefficients ≡ n
    → CellsTell n o f l h → has_store n o s → IsBetween l h (form_value f s)
told_between n None f l h s wide told has = absurd has
told_between n (Some cells) f l h s wide told has =
    shape_between n (entries n cells) f (shape f) l h s refl wide has told

-- ---- one thing is reported
both_one : (l h j k a b : Option ℤ) → (l ≡ a) × (h ≡ b) → (j ≡ a) × (k ≡ b) → (l ≡ j) × (h ≡ k)
both_one l h j k a b is so = (is.0 ∙ sym so.0, is.1 ∙ sym so.1)

unary_one : (n : ℕ) (m : Entries) (f : Form) (l h j k : Option ℤ) → UnaryTell n m f l h → UnaryTell n m f j k
    → (l ≡ j) × (h ≡ k)
unary_one n m f l h j k told so =
    (one_end Low f (intervals n m) l j told.0 so.0, one_end High f (intervals n m) h k told.1 so.1)

shape_one : (n : ℕ) (m : Entries) (f : Form) (form : FormShape) (l h j k : Option ℤ) → ShapeTells n m f form l h
    → ShapeTells n m f form j k → (l ≡ j) × (h ≡ k)
shape_one n m f Constant l h j k told so = unary_one n m f l h j k told so
shape_one n m f (One zero i) l h j k told so = unary_one n m f l h j k told so
shape_one n m f (One (suc zero) i) l h j k told so = both_one l h j k _ _ told so
shape_one n m f (One (suc (suc a)) i) l h j k told so = unary_one n m f l h j k told so
shape_one n m f (Two zero i b) l h j k told so = unary_one n m f l h j k told so
shape_one n m f (Two (suc zero) i b) l h j k told so = both_one l h j k _ _ told so
shape_one n m f (Two (suc (suc a)) i b) l h j k told so = unary_one n m f l h j k told so
shape_one n m f Other l h j k told so = unary_one n m f l h j k told so

pub one_octagon_bounded : (n : ℕ) (o : Option Cells) (f : Form) (l h j k : Option ℤ) → CellsTell n o f l h →
    CellsTell n o f j k
    → (l ≡ j) × (h ≡ k)
one_octagon_bounded n None f l h j k told so = (told.0 ∙ sym so.0, told.1 ∙ sym so.1)
one_octagon_bounded n (Some cells) f l h j k told so = shape_one n (entries n cells) f (shape f) l h j k told so
