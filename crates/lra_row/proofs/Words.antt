-- Words: numbers of 64 bits. What products of them and sums of these stay below.
use Rattle.std.proofs.Common.{◌≡◌, ◌≢◌, ◌<◌, ◌^◌, ◌-◌, List, [], ◌∷◌, ap, sym, refl, subst, arith, pos, negsuc, ℤ, neg_ℤ, ◌+ℤ◌, ◌*ℤ◌, Bool, true, false, cond, Result, Ok, Err, unsigned_abs}
use Rattle.std.proofs.{Common.FitsSigned, Common.inl, Common.inr, lemmas.Bool.cases_eq, lemmas.Int.ints, lemmas.Int.unsigned_abs-mul, lemmas.Int.fits_signed_from_abs, lemmas.Nat.mul-le}
use Rattle.std.specs.Int.{w64, w128}
use Rattle.lra_linear_spec.specs.{CheckedArithmetic.checked_product_from, CheckedArithmetic.checked_entry, Range.InRange, Range.in_range, declared.Excess.Excess}
use Rattle.lra_linear_spec.proofs.CheckedArithmetic.{in_range_yes}
use Rattle.lra_row.specs.Words.{IsWord, HasRoom, IsWordProduct}
use Rattle.lra_row.proofs.CheckedRows.{column_taken}

pub word_fits : (x : ℤ) → IsWord x → FitsSigned w64 x
word_fits (pos a) h = record { sfits = omega (arith, ints, h.1) }
word_fits (negsuc b) h = record { sfits = omega (arith, ints, h.0) }

-- ---- products
least_times : (x y : ℤ) → x ≡ neg_ℤ (pos (2 ^ 63)) → IsWord y → IsWordProduct (x *ℤ y)
least_times x y e h = subst (λ (z : ℤ). IsWordProduct (z *ℤ y)) (sym e) (omega (arith, ints, h.0, h.1), omega (arith, ints, h.0, h.1))

times_least : (x y : ℤ) → y ≡ neg_ℤ (pos (2 ^ 63)) → IsWord x → IsWordProduct (x *ℤ y)
times_least x y e h = subst (λ (z : ℤ). IsWordProduct (x *ℤ z)) (sym e) (omega (arith, ints, h.0, h.1), omega (arith, ints, h.0, h.1))

small_product : (x y : ℤ) → unsigned_abs x < 2 ^ 63 → unsigned_abs y < 2 ^ 63 → IsWordProduct (x *ℤ y)
small_product x y h k =
    let b = mul-le (unsigned_abs x) (unsigned_abs y) (2 ^ 63 - 1) (2 ^ 63 - 1) (omega (arith, h)) (omega (arith, k)) in
    let m = unsigned_abs-mul x y in
    (omega (arith, ints, m, b), omega (arith, ints, m, b))

below_least : (x : ℤ) → IsWord x → unsigned_abs x ≢ 2 ^ 63 → unsigned_abs x < 2 ^ 63
below_least x h n = omega (arith, ints, h.0, h.1, n)

is_least : (x : ℤ) → IsWord x → unsigned_abs x ≡ 2 ^ 63 → x ≡ neg_ℤ (pos (2 ^ 63))
is_least x h e = omega (arith, ints, h.0, h.1, e)

pub word_product : (x y : ℤ) → IsWord x → IsWord y → IsWordProduct (x *ℤ y)
word_product x y h k = elim (cases_eq (unsigned_abs x) (2 ^ 63)) [
  | inl e ↦ least_times x y (is_least x h e) k
  | inr n ↦ elim (cases_eq (unsigned_abs y) (2 ^ 63)) [
    | inl e ↦ times_least x y (is_least y k e) h
    | inr m ↦ small_product x y (below_least x h n) (below_least y k m)
  ]
]

product_below : (p : ℤ) → IsWordProduct p → InRange p
product_below p h = omega (arith, ints, h.0, h.1)

pub product_in_range : (x y : ℤ) → IsWord x → IsWord y → InRange (x *ℤ y)
product_in_range x y h k = product_below (x *ℤ y) (word_product x y h k)

pub product_fits : (x y : ℤ) → IsWord x → IsWord y → FitsSigned w128 (x *ℤ y)
product_fits x y h k = fits_signed_from_abs w128 (x *ℤ y) (product_in_range x y h k)

-- ---- sums
pub sum_below : (s p : ℤ) → HasRoom s → IsWordProduct p → InRange (s +ℤ p)
sum_below s p h k = omega (arith, ints, h.0, h.1, k.0, k.1)

pub sum_fits : (s p : ℤ) → HasRoom s → IsWordProduct p → FitsSigned w128 (s +ℤ p)
sum_fits s p h k = fits_signed_from_abs w128 (s +ℤ p) (sum_below s p h k)

-- a sum with room takes the product of a column
pub column_word : (s x y p : ℤ) (xs ys xs' ys' : List ℤ) → xs ≡ x ∷ xs' → ys ≡ y ∷ ys' → p ≡ x *ℤ y → HasRoom s → IsWordProduct p → checked_product_from (s +ℤ p) xs' ys' ≡ checked_product_from s xs ys
column_word s x y p xs ys xs' ys' h k e room b =
    column_taken s x y p (s +ℤ p) xs ys xs' ys' h k (subst InRange e (product_below p b), e) (sum_below s p room b, refl)

-- ---- a column that was taken by itself
abbrev Number : Type 0
Number = Result ℤ Excess

ok_number : (n m : ℤ) → (let r : Number = Ok n in r) ≡ Ok m → n ≡ m
ok_number n m e = cc

err_number : (e f : Excess) → (let r : Number = Err e in r) ≡ Err f → e ≡ f
err_number e f h = cc

taken_by_tests : (s x y n : ℤ) (xs ys : List ℤ) (a b : Bool) (f g : Excess) → Ok n ≡ cond {A = Number} a (cond {A = Number} b (Ok (s +ℤ (x *ℤ y))) (Err f)) (Err g) →
    checked_product_from n xs ys ≡ cond {A = Number} a (cond {A = Number} b (checked_product_from (s +ℤ (x *ℤ y)) xs ys) (Err f)) (Err g)
taken_by_tests s x y n xs ys true true f g e = ap (λ (m : ℤ). checked_product_from m xs ys) (ok_number n (s +ℤ (x *ℤ y)) e)
taken_by_tests s x y n xs ys true false f g e = cc
taken_by_tests s x y n xs ys false b f g e = cc

passed_by_tests : (s x y : ℤ) (xs ys : List ℤ) (a b : Bool) (e f g : Excess) → Err e ≡ cond {A = Number} a (cond {A = Number} b (Ok (s +ℤ (x *ℤ y))) (Err f)) (Err g) →
    Err e ≡ cond {A = Number} a (cond {A = Number} b (checked_product_from (s +ℤ (x *ℤ y)) xs ys) (Err f)) (Err g)
passed_by_tests s x y xs ys true true e f g h = cc
passed_by_tests s x y xs ys true false e f g h = h
passed_by_tests s x y xs ys false b e f g h = h

pub column_ok : (s x y n : ℤ) (xs ys xs' ys' : List ℤ) → xs ≡ x ∷ xs' → ys ≡ y ∷ ys' → Ok n ≡ checked_product_from s (x ∷ []) (y ∷ []) → checked_product_from n xs' ys' ≡ checked_product_from s xs ys
column_ok s x y n xs ys xs' ys' h k e = rw (h, k) (taken_by_tests s x y n xs' ys' (in_range (x *ℤ y)) (in_range (s +ℤ (x *ℤ y))) _ _ e)

pub column_err : (s x y : ℤ) (xs ys xs' ys' : List ℤ) (e : Excess) → xs ≡ x ∷ xs' → ys ≡ y ∷ ys' → Err e ≡ checked_product_from s (x ∷ []) (y ∷ []) → Err e ≡ checked_product_from s xs ys
column_err s x y xs ys xs' ys' e h k p = rw (h, k) (passed_by_tests s x y xs' ys' (in_range (x *ℤ y)) (in_range (s +ℤ (x *ℤ y))) e _ _ p)

-- ---- the sum of two multiples
pub entry_words : (a b u w p q : ℤ) → p ≡ a *ℤ u → q ≡ b *ℤ w → IsWordProduct p → IsWordProduct q → HasRoom p → Ok (p +ℤ q) ≡ checked_entry a b u w
entry_words a b u w p q e f hp hq room =
    rw (← e, ← f, in_range_yes p (product_below p hp), in_range_yes q (product_below q hq), in_range_yes (p +ℤ q) (sum_below p q room hq)) refl
