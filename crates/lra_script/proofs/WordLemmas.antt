-- Words of ASCII letters and digits, and the numbers that they write.
use Rattle.std.proofs.Common.{◌≡◌, ◌≢◌, ◌<◌, ℕ, ℤ, Bool, true, false, cond, ◌&&◌, not, nat_eq, List, [], ◌∷◌, length, refl, ap, sym, ◌∙◌, subst, arith, FitsSigned, Option, Some, None, Result, Ok, Err}
use Rattle.std.proofs.lemmas.Bool.{and_parts}
use Rattle.std.proofs.{Common.rules, lemmas.Bool.Decides.nat_tests, lemmas.List.Elements.All-cons, lemmas.List.Sums.AllPass-from_list_all, lemmas.Str.IsUtf8-from_ascii}
use Rattle.std.proofs.{lemmas.Str.Ascii.IsAscii-from_all, lemmas.Str.Parse.IsDigitsTest, lemmas.Str.Parse.numerals_by_value, lemmas.Str.Parse.without_leading_plus_none}
use Rattle.std.specs.Str.Parse.{IsNumeral, AllDigits, ParsesSigned, signed_digits_value, without_leading_sign}
use Rattle.std.specs.{Char.is_ascii_digit, Char.is_ascii_uppercase, Char.is_ascii_alphanumeric, Int.w128, List.All, List.list_all, Option.SomeIff, Str.IsUtf8}
use Rattle.lra_script.specs.Crates.lra_linear_spec.Range.{InRange, in_range}
use Rattle.lra_script.proofs.Crates.lra_linear_spec.CheckedArithmetic.{in_range_yes}
use Rattle.lra_script.specs.ScriptText.{is_name, is_number, number_of}

-- ---- ASCII
digit_low : (c : ℕ) → is_ascii_digit c ≡ true → c < 128
digit_low c h = grind (arith, nat_tests)

uppercase_low : (c : ℕ) → is_ascii_uppercase c ≡ true → c < 128
uppercase_low c h = grind (arith, nat_tests)

alphanumeric_low : (c : ℕ) → is_ascii_alphanumeric c ≡ true → c < 128
alphanumeric_low c h = grind (arith, nat_tests)

all_low : (test : ℕ → Bool) → ((c : ℕ) → test c ≡ true → c < 128) → (cs : List ℕ) → list_all test cs ≡ true → All (λ b. b < 128) cs
all_low test low cs h = λ k d i. low _ (AllPass-from_list_all test cs h k d i)

pub name_is_utf8 : (word : List ℕ) → is_name word ≡ true → IsUtf8 word
name_is_utf8 [] h = cc
name_is_utf8 (c ∷ cs) h =
    let parts = and_parts (is_ascii_uppercase c) (list_all is_ascii_alphanumeric cs) h in
    IsUtf8-from_ascii (c ∷ cs) (IsAscii-from_all (c ∷ cs) (All-cons (λ (b : ℕ). b < 128) c cs (uppercase_low c parts.0) (all_low is_ascii_alphanumeric alphanumeric_low cs parts.1)))

-- ---- digits, with a minus before them or not
counted : (n : ℕ) → not (nat_eq n 0) ≡ true → 0 < n
counted n h = grind (arith, nat_tests)

digits_of : (ds : List ℕ) → not (nat_eq (length ds) 0) && list_all is_ascii_digit ds ≡ true → (0 < length ds) × (list_all is_ascii_digit ds ≡ true)
digits_of ds h = let p = and_parts (not (nat_eq (length ds) 0)) (list_all is_ascii_digit ds) h in (counted (length ds) p.0, p.1)

test_of_digits : IsDigitsTest (λ ds. list_all is_ascii_digit ds ≡ true)
test_of_digits = search rules

pub all_digits : (ds : List ℕ) → list_all is_ascii_digit ds ≡ true → AllDigits 10 ds
all_digits ds h = (numerals_by_value _ test_of_digits).to ds h

not_plus : (c : ℕ) (cs : List ℕ) → list_all is_ascii_digit (c ∷ cs) ≡ true → c ≢ 43
not_plus c cs h = let p = and_parts (is_ascii_digit c) (list_all is_ascii_digit cs) h in let q = p.0 in λ e. absurd (grind (arith, nat_tests))

-- by whether a minus stands first
numeral_by : (c : ℕ) (cs : List ℕ) (b : Bool) → (nat_eq c 45) ≡ b
    → not (nat_eq (length (cond b cs (c ∷ cs))) 0) && list_all is_ascii_digit (cond b cs (c ∷ cs)) ≡ true
    → IsNumeral 10 (without_leading_sign (c ∷ cs)) × All (λ b. b < 128) (c ∷ cs)
numeral_by c cs true e h =
    let p = digits_of cs h in
    let low : c < 128 = grind (arith, nat_tests) in (
      subst (λ (b : Bool). IsNumeral 10 (cond b cs (Rattle.std.specs.Str.Parse.without_leading_plus (c ∷ cs)))) (sym e) (p.0, all_digits cs p.1),
      All-cons (λ (b : ℕ). b < 128) c cs low (all_low is_ascii_digit digit_low cs p.1),
    )
numeral_by c cs false e h =
    let p = digits_of (c ∷ cs) h in
    let same = without_leading_plus_none (c ∷ cs) (not_plus c cs p.1) in (
      subst (λ (b : Bool). IsNumeral 10 (cond b cs (Rattle.std.specs.Str.Parse.without_leading_plus (c ∷ cs)))) (sym e) (rw same (p.0, all_digits (c ∷ cs) p.1)),
      all_low is_ascii_digit digit_low (c ∷ cs) p.1,
    )

numeral_and_low : (word : List ℕ) → is_number word ≡ true → IsNumeral 10 (without_leading_sign word) × All (λ b. b < 128) word
numeral_and_low [] h = cc
numeral_and_low (c ∷ cs) h = numeral_by c cs (nat_eq c 45) refl h

pub number_is_utf8 : (word : List ℕ) → is_number word ≡ true → IsUtf8 word
number_is_utf8 word h = IsUtf8-from_ascii word (IsAscii-from_all word (numeral_and_low word h).1)

pub parsed_fits : {E : Type 0} (word : List ℕ) (r : Result ℤ E) → is_number word ≡ true → ParsesSigned w128 10 word r
    → (n : ℤ) → r ≡ Ok n → SomeIff (Some n) (FitsSigned w128 (signed_digits_value 10 word)) (signed_digits_value 10 word)
parsed_fits word (Ok m) h p n e = let same : m ≡ n = cc in (p.0.1, sym same ∙ p.1)
parsed_fits word (Err f) h p n e = cc

pub parsed_past : {E : Type 0} (word : List ℕ) (r : Result ℤ E) → is_number word ≡ true → ParsesSigned w128 10 word r
    → (f : E) → r ≡ Err f → FitsSigned w128 (signed_digits_value 10 word) → ⊥
parsed_past word (Ok m) h p f e fits = cc
parsed_past word (Err g) h p f e fits = p ((numeral_and_low word h).0, fits)

pub ruleset parsed_rules = (parsed_fits, parsed_past, number_is_utf8)

-- ---- the number of a word
in_range_false : (z : ℤ) → (InRange z → ⊥) → in_range z ≡ false
in_range_false z h = grind (arith, nat_tests)

pub number_from_value : (word : List ℕ) (r : Option ℤ) → is_number word ≡ true → SomeIff r (InRange (signed_digits_value 10 word)) (signed_digits_value 10 word) → r ≡ number_of word
number_from_value word (Some n) h s =
    ap Some s.1 ∙ sym (ap (λ (b : Bool). cond (b && in_range (signed_digits_value 10 word)) (Some (signed_digits_value 10 word)) None) h ∙
    ap (λ (b : Bool). cond b (Some (signed_digits_value 10 word)) None) (in_range_yes (signed_digits_value 10 word) s.0))
number_from_value word None h s =
    sym (ap (λ (b : Bool). cond (b && in_range (signed_digits_value 10 word)) (Some (signed_digits_value 10 word)) None) h ∙
    ap (λ (b : Bool). cond b (Some (signed_digits_value 10 word)) None) (in_range_false (signed_digits_value 10 word) s))

pub no_number : (word : List ℕ) → is_number word ≡ false → None ≡ number_of word
no_number word h = sym (ap (λ (b : Bool). cond (b && in_range (signed_digits_value 10 word)) (Some (signed_digits_value 10 word)) None) h)
