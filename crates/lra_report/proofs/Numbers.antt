-- Numbers in a text are reported by it.
use Rattle.std.proofs.Common.{◌≡◌, ℕ, zero, suc, ◌<◌, ◌+◌, ◌/◌, ◌%◌, ◌^◌, ◌==◌, ℤ, pos, negsuc, nat_abs, Bool, true, false, List, [], ◌∷◌, ◌++◌, if◌then◌else◌, ap, sym, ◌∙◌, lt-ltb, arith}
use Rattle.std.proofs.{lemmas.Bool.le-leb, lemmas.Bool.and_from, lemmas.Fmt.decimal_is_IsNumeral_wide, lemmas.Nat.mod_below}
use Rattle.std.specs.{Char.is_ascii_digit, Fmt.decimal, Fmt.digits, Fmt.digit_glyph, Fmt.digits_onto, Fmt.signed_decimal, Str.Parse.digits_value}
use Rattle.lra_report.specs.Crates.lra_linear_spec.Range.{InRange}
use Rattle.lra_report.proofs.Fronts.{Passes, Ends, front_same, front_first, rest_same}

-- as many digits as a number may have here
abbrev pub IsShort : ℕ → Type 0
IsShort n = n < 10 ^ 64

glyph_passes : (d : ℕ) → d < 10 → is_ascii_digit (digit_glyph false d) ≡ true
glyph_passes d h = rw (lt-ltb d 10 h) (and_from _ _ (le-leb 48 (48 + d) (omega arith)) (le-leb (48 + d) 57 (omega (arith, h))))

digits_pass : (k n : ℕ) (acc : List ℕ) → Passes is_ascii_digit acc → Passes is_ascii_digit (digits_onto k 10 false n acc)
digits_pass zero n acc h = h
digits_pass (suc k) n acc h =
    let one : Passes is_ascii_digit (digit_glyph false (n % 10) ∷ acc) = (glyph_passes (n % 10) (mod_below n 10 (omega arith)), h) in
    go (n / 10 == 0) one (digits_pass k (n / 10) (digit_glyph false (n % 10) ∷ acc) one)
  where
    go : (b : Bool) → Passes is_ascii_digit (digit_glyph false (n % 10) ∷ acc)
        → Passes is_ascii_digit (digits_onto k 10 false (n / 10) (digit_glyph false (n % 10) ∷ acc))
        → Passes is_ascii_digit (if b then digit_glyph false (n % 10) ∷ acc else digits_onto k 10 false (n / 10) (digit_glyph false (n % 10) ∷ acc))
    go true one more = one
    go false one more = more

-- also of numbers that aren't short
pub decimal_passes : (n : ℕ) → Passes is_ascii_digit (decimal n)
unfolding digits
decimal_passes n = digits_pass 64 n [] tt

pub decimal_first : (n : ℕ) (u v : List ℕ) (b : ℕ) → IsShort n → decimal n ++ u ≡ b ∷ v → is_ascii_digit b ≡ true
decimal_first n u v b h e = front_first is_ascii_digit (decimal n) u v b (decimal_is_IsNumeral_wide n h).0.0 (decimal_passes n) e

pub decimal_same : (m n : ℕ) (u v : List ℕ) → IsShort m → IsShort n → Ends is_ascii_digit u → Ends is_ascii_digit v → decimal m ++ u ≡ decimal n ++ v → (m ≡ n) × (u ≡ v)
decimal_same m n u v hm hn eu ev e =
    let s = front_same is_ascii_digit (decimal m) (decimal n) u v (decimal_passes m) (decimal_passes n) eu ev e in
    (sym (decimal_is_IsNumeral_wide m hm).1 ∙ ap (digits_value 10) s.0 ∙ (decimal_is_IsNumeral_wide n hn).1, s.1)

suc_same : {m n : ℕ} → suc m ≡ suc n → m ≡ n
suc_same e = cc

no_sign : is_ascii_digit 45 ≡ true → ⊥
no_sign e = cc

pub signed_same : (y z : ℤ) (u v : List ℕ) → IsShort (nat_abs y) → IsShort (nat_abs z) → Ends is_ascii_digit u → Ends is_ascii_digit v → signed_decimal y ++ u ≡ signed_decimal z ++ v → (y ≡ z) ×
    (u ≡ v)
signed_same (pos m) (pos n) u v hm hn eu ev e = let s = decimal_same m n u v hm hn eu ev e in (ap pos s.0, s.1)
signed_same (negsuc m) (negsuc n) u v hm hn eu ev e = let s = decimal_same (suc m) (suc n) u v hm hn eu ev (rest_same e) in (ap negsuc (suc_same s.0), s.1)
signed_same (pos m) (negsuc n) u v hm hn eu ev e = absurd (no_sign (decimal_first m u (decimal (suc n) ++ v) 45 hm e))
signed_same (negsuc m) (pos n) u v hm hn eu ev e = absurd (no_sign (decimal_first n v (decimal (suc m) ++ u) 45 hn (sym e)))

pub short_in_range : (z : ℤ) → InRange z → IsShort (nat_abs z)
short_in_range z h = omega (arith, h)
