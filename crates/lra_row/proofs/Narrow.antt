-- Narrow numbers, below 2^31 in size: sums of so many products of two of them as memory holds stay in the range.
use Rattle.std.proofs.Common.{◌≡◌, ℕ, ◌+◌, ◌^◌, ◌-◌, ◌<◌, List, [], ◌∷◌, neg_ℤ, ℤ, ◌+ℤ◌, ◌*ℤ◌, unsigned_abs, arith, refl, subst, sym, FitsSigned}
use Rattle.std.proofs.lemmas.Int.{ints, unsigned_abs-mul, fits_signed_from_abs}
use Rattle.std.proofs.{lemmas.List.Elements.All-nil, lemmas.List.Elements.All-cons, lemmas.List.Elements.All-head, lemmas.List.Elements.All-tail, lemmas.Nat.mul-le}
use Rattle.std.specs.{Int.w128, List.All}
use Rattle.lra_linear_spec.specs.{CheckedArithmetic.checked_product_from, Range.InRange, Vectors.negated}
use Rattle.lra_row.specs.Words.{IsWord, IsNarrow, IsNarrowSum}
use Rattle.lra_row.proofs.CheckedRows.{column_taken}

pub narrow_word : (x : ℤ) → IsNarrow x → IsWord x
narrow_word x h = (omega (arith, ints, h.0), omega (arith, ints, h.1))

pub narrow_times : (x y : ℤ) → IsNarrow x → IsNarrow y → IsNarrowSum 1 (x *ℤ y)
narrow_times x y h k =
    let b = mul-le (unsigned_abs x) (unsigned_abs y) (2 ^ 31 - 1) (2 ^ 31 - 1) (omega (arith, ints, h.0, h.1)) (omega (arith, ints, k.0, k.1)) in
    let m = unsigned_abs-mul x y in
    (omega (arith, ints, m, b), omega (arith, ints, m, b))

pub sum_more : (n : ℕ) (s p : ℤ) → IsNarrowSum n s → IsNarrowSum 1 p → IsNarrowSum (n + 1) (s +ℤ p)
sum_more n s p h k = (omega (arith, ints, h.0, k.0), omega (arith, ints, h.1, k.1))

pub narrow_in_range : (n : ℕ) (s : ℤ) → n < 2 ^ 64 → IsNarrowSum n s → InRange s
narrow_in_range n s l h = omega (arith, ints, l, h.0, h.1)

pub narrow_fits : (n : ℕ) (s p : ℤ) → n + 1 < 2 ^ 64 → IsNarrowSum n s → IsNarrowSum 1 p → FitsSigned w128 (s +ℤ p)
narrow_fits n s p l h k = fits_signed_from_abs w128 (s +ℤ p) (narrow_in_range (n + 1) (s +ℤ p) l (sum_more n s p h k))

-- the first of narrow numbers, and the others
pub narrow_first : (x : ℤ) (xs xs' : List ℤ) → xs ≡ x ∷ xs' → All IsNarrow xs → IsNarrow x
narrow_first x xs xs' e h = All-head IsNarrow x xs' (subst (All IsNarrow) e h)

pub narrow_rest : (x : ℤ) (xs xs' : List ℤ) → xs ≡ x ∷ xs' → All IsNarrow xs → All IsNarrow xs'
narrow_rest x xs xs' e h = All-tail IsNarrow x xs' (subst (All IsNarrow) e h)

-- one more column, of rows with fewer than 2^64
pub narrow_column : (n : ℕ) (s x y p : ℤ) (xs ys xs' ys' : List ℤ) → xs ≡ x ∷ xs' → ys ≡ y ∷ ys' → p ≡ x *ℤ y → n + 1 < 2 ^ 64 → IsNarrowSum n s → IsNarrow x → IsNarrow y →
    (checked_product_from (s +ℤ p) xs' ys' ≡ checked_product_from s xs ys) × IsNarrowSum (n + 1) (s +ℤ p)
narrow_column n s x y p xs ys xs' ys' h k e l sum nx ny =
    let one : IsNarrowSum 1 p = subst (IsNarrowSum 1) (sym e) (narrow_times x y nx ny) in
    let more = sum_more n s p sum one in
    (column_taken s x y p (s +ℤ p) xs ys xs' ys' h k (subst InRange e (narrow_in_range 1 p (omega arith) one), e) (narrow_in_range (n + 1) (s +ℤ p) l more, refl), more)

-- ---- what keeps a row narrow
opposite_narrow : (x : ℤ) → IsNarrow x → IsNarrow (neg_ℤ x)
opposite_narrow x h = (omega (arith, ints, h.0, h.1), omega (arith, ints, h.0, h.1))

pub narrow_negated : (xs : List ℤ) → All IsNarrow xs → All IsNarrow (negated xs)
narrow_negated [] h = All-nil IsNarrow
narrow_negated (x ∷ xs) h = All-cons IsNarrow (neg_ℤ x) (negated xs) (opposite_narrow x (All-head IsNarrow x xs h)) (narrow_negated xs (All-tail IsNarrow x xs h))
