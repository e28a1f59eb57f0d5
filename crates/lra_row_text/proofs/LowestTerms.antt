-- Coordinates in lowest terms: the greatest common divisor is the greatest number that divides both.
use Rattle.std.proofs.Common.{arith, ◌≡◌, ◌<◌, ◌≤◌, ◌/◌, ◌%◌, ℕ, zero, suc, ℤ, pos, negsuc, nat_abs, nat_eq, int_div, Bool, true, false, ◌++◌, codes, refl, ap, sym, if◌then◌else◌, ◌<ℤ◌, ◌≤ℤ◌, subst}
use Rattle.std.proofs.lemmas.Nat.Gcd.{mod-eq-zero_of_dvd, dvd_of_mod-eq-zero, le_from_IsGcd, le_of_dvd}
use Rattle.std.proofs.{Math.Nat.pos_of_dvd_of_pos, lemmas.Bool.eqb-true, lemmas.Bool.eq-eqb, lemmas.Bool.ne_eqb, lemmas.Int.ints, lemmas.Nat.le-div}
use Prim.Native.Nat.{◌∣◌}
use Rattle.std.specs.{Fmt.decimal, Fmt.signed_decimal, Int.IsGcd}
use Rattle.lra_row_text.specs.Texts.{greatest_divisor, coordinate_text, fraction_text}

choice : (a b : Bool) (x rest g : ℕ) → (a ≡ true → b ≡ true → x ≡ g) → ((a ≡ true → b ≡ true → ⊥) → rest ≡ g) → (if a then (if b then x else rest) else rest) ≡ g
choice true true x rest g divides not_yet = divides refl refl
choice true false x rest g divides not_yet = not_yet (λ (p : true ≡ true) (q : false ≡ true). cc)
choice false b x rest g divides not_yet = not_yet (λ (p : false ≡ true) (q : b ≡ true). cc)

pub greatest_is_gcd : (k m n g : ℕ) → IsGcd m n g → 0 < g → g ≤ k → greatest_divisor k m n ≡ g
greatest_is_gcd zero m n g is above low = absurd (omega arith)
greatest_is_gcd (suc k) m n g is above low =
    choice (nat_eq (m % suc k) 0) (nat_eq (n % suc k) 0) (suc k) (greatest_divisor k m n) g
    (λ a b. let most : suc k ≤ g = le_from_IsGcd m n g (suc k) is above (dvd_of_mod-eq-zero (suc k) (eqb-true (m % suc k) 0 a)) (dvd_of_mod-eq-zero (suc k) (eqb-true (n % suc k) 0 b)) in omega arith)
    (λ neither.
    let other : g ≡ suc k → ⊥ = λ e. neither (eq-eqb (m % suc k) 0 (mod-eq-zero_of_dvd (suc k) (subst (λ x. x ∣ m) e is.0)))
    (eq-eqb (n % suc k) 0 (mod-eq-zero_of_dvd (suc k) (subst (λ x. x ∣ n) e is.1))) in
    greatest_is_gcd k m n g is above (omega (arith, other)))

-- the common divisor of a number and of one above 0
above_zero : (z d g : ℤ) → pos 0 <ℤ d → IsGcd (nat_abs z) (nat_abs d) (nat_abs g) → 0 < nat_abs g
above_zero z d g above is = pos_of_dvd_of_pos is.1 (omega (arith, ints))

at_most_divisor : (z d g : ℤ) → pos 0 <ℤ d → IsGcd (nat_abs z) (nat_abs d) (nat_abs g) → nat_abs g ≤ nat_abs d
at_most_divisor z d g above is = le_of_dvd (omega (arith, ints)) is.1

pub common_above : (z d g : ℤ) → pos 0 <ℤ d → IsGcd (nat_abs z) (nat_abs d) (nat_abs g) → pos 0 ≤ℤ g → pos 0 <ℤ g
common_above z d g above is sign = let low = above_zero z d g above is in omega (arith, ints)

-- what is left of the divisor is above 0
pub divisor_left : (z d g : ℤ) → pos 0 <ℤ d → IsGcd (nat_abs z) (nat_abs d) (nat_abs g) → pos 0 ≤ℤ g → pos 0 <ℤ int_div d g
divisor_left z (pos d) (pos g) above is sign =
    let low = above_zero z (pos d) (pos g) above is in let most = at_most_divisor z (pos d) (pos g) above is in let left : 1 ≤ d / g = le-div 1 d g low (omega arith) in omega (arith, ints, left)
divisor_left z (pos d) (negsuc g) above is sign = absurd (omega (arith, ints))
divisor_left z (negsuc d) g above is sign = absurd (omega (arith, ints))

pub lowest_text : (z d g : ℤ) → pos 0 <ℤ d → IsGcd (nat_abs z) (nat_abs d) (nat_abs g) → pos 0 ≤ℤ g → fraction_text (int_div z g) (nat_abs (int_div d g)) ≡ coordinate_text z (nat_abs d)
lowest_text z (pos d) (pos g) above is sign = ap (λ k. fraction_text (int_div z (pos k)) (d / k))
    (sym (greatest_is_gcd d (nat_abs z) d g is (above_zero z (pos d) (pos g) above is) (at_most_divisor z (pos d) (pos g) above is)))
lowest_text z (pos d) (negsuc g) above is sign = absurd (omega (arith, ints))
lowest_text z (negsuc d) g above is sign = absurd (omega (arith, ints))

-- a fraction's divisor is written unless it is 1
pub whole_text : (z d : ℤ) → pos 0 <ℤ d → d ≡ pos 1 → fraction_text z (nat_abs d) ≡ signed_decimal z
whole_text z d above one = ap (λ e. fraction_text z (nat_abs e)) one

divided : (z : ℤ) (n : ℕ) (b : Bool) → b ≡ false → (if b then signed_decimal z else signed_decimal z ++ codes "/" ++ decimal n) ≡ signed_decimal z ++ codes "/" ++ decimal n
divided z n true e = cc
divided z n false e = refl

pub divided_text : (z d : ℤ) → pos 0 <ℤ d → ¬ (d ≡ pos 1) → fraction_text z (nat_abs d) ≡ signed_decimal z ++ codes "/" ++ signed_decimal d
divided_text z (pos n) above other = divided z n (nat_eq n 1) (ne_eqb n 1 (λ e. other (ap pos e)))
divided_text z (negsuc n) above other = absurd (omega (arith, ints))
