-- A number of the range is spelled as it is printed, and in no other way.
use Rattle.std.proofs.Common.{◌≡◌, ◌≢◌, ◌⊎◌, ◌<◌, ◌≤◌, ◌+◌, ◌*◌, ◌/◌, ◌%◌, ◌^◌, ℕ, zero, suc, ℤ, pos, negsuc, neg_ℤ, Bool, true, false, cond, ◌&&◌, nat_eq, List, [], ◌∷◌, ◌++◌, refl, ap, sym, ◌∙◌}
use Rattle.std.proofs.lemmas.Bool.{and_parts}
use Rattle.std.proofs.{Common.subst, Common.arith, Common.inl, Common.inr, Common.Some, Common.None, Common.append_assoc, Common.append-nil, Common.drop, Common.◌-◌, lemmas.Bool.ne_eqb}
use Rattle.std.proofs.{lemmas.Bool.ltb-true, lemmas.Bool.eqb-true, lemmas.Bool.Decides.nat_tests, lemmas.Fmt.decimal_digit, lemmas.Fmt.decimal_step_wide, lemmas.Fmt.decimal_by_steps_wide}
use Rattle.std.proofs.{lemmas.Fmt.decimal_is_IsNumeral_wide, lemmas.Option.same_Some, lemmas.Option.none-some, lemmas.Str.digit_value_digit, lemmas.Str.Parse.digit_from_value}
use Rattle.std.specs.{Char.is_ascii_digit, Char.digit_value, Fmt.decimal, Fmt.signed_decimal, List.list_all, Prelude.◌||◌, Prelude.nat_le, Prelude.codes, Prelude.if◌then◌else◌, Prelude.unsigned_abs}
use Rattle.std.specs.{Str.bytes_eq, Str.Parse.AllDigits, Str.Parse.digits_value_after, Str.Parse.digits_value, Str.Parse.signed_digits_value, Str.Parse.without_leading_plus}
use Rattle.lra_certificate_spec.specs.Crates.lra_linear_spec.Range.{InRange, in_range}
use Rattle.lra_certificate_spec.proofs.Crates.lra_linear_spec.CheckedArithmetic.{in_range_yes}
use Rattle.lra_certificate_spec.specs.Judged.{begins_with_minus, is_magnitude, is_spelled, number_in}
use Rattle.lra_script.proofs.WordLemmas.{all_digits}
use Rattle.lra_certificate_spec.proofs.NumberSteps.{either, zero_word}

-- ---- digits and their value
le_value_after : (n : ℕ) (ds : List ℕ) → n ≤ digits_value_after 10 n ds
le_value_after n [] = omega arith
le_value_after n (c ∷ cs) = omega (arith, le_value_after (n * 10 + digit_value c) cs)

decimal_value_after : (n : ℕ) (ds : List ℕ) → 0 < n → AllDigits 10 ds → digits_value_after 10 n ds < 10 ^ 64 → decimal (digits_value_after 10 n ds) ≡
    decimal n ++ ds
decimal_value_after n [] some d small = sym (append-nil (decimal n))
decimal_value_after n (c ∷ cs) some d small =
    let m : ℕ = n * 10 + digit_value c in
    let k = digit_value_digit c (digit_from_value c d.0) in
    let front : m / 10 ≡ n = omega (arith, d.0) in
    let end : 48 + m % 10 ≡ c = omega (arith, d.0) in
    decimal_value_after m cs (omega arith) d.1 small
    ∙ ap (λ (x : List ℕ). x ++ cs) (decimal_step_wide m (omega arith) (omega (arith, small, le_value_after m cs)) ∙ (λ i. decimal (front i) ++ (end i ∷ [])))
    ∙ append_assoc (decimal n) (c ∷ []) cs

-- digits of which the first is 1 to 9
first_digit : (c : ℕ) (cs : List ℕ) → is_magnitude (c ∷ cs) ≡ true → (49 ≤ c) × (c ≤ 57) × (list_all is_ascii_digit cs ≡ true)
first_digit c cs h =
    let p = and_parts (nat_le 49 c && nat_le c 57) (list_all is_ascii_digit cs) h in
    let q = and_parts (nat_le 49 c) (nat_le c 57) p.0 in
    let low : 49 ≤ c = (let x = q.0 in grind (arith, nat_tests)) in
    let high : c ≤ 57 = (let x = q.1 in grind (arith, nat_tests)) in
    (low, high, p.1)

digit_of : (c : ℕ) → 48 ≤ c → c ≤ 57 → digit_value c ≡ c - 48
digit_of c h k = omega (arith, digit_value_digit c (h, k))

magnitude_value : (ds : List ℕ) → is_magnitude ds ≡ true → digits_value 10 ds < 10 ^ 64 → (0 < digits_value 10 ds) × (decimal (digits_value 10 ds) ≡ ds)
magnitude_value [] h small = cc
magnitude_value (c ∷ cs) h small =
    let f = first_digit c cs h in
    let v = digit_of c (omega (arith, f.0)) f.1 in
    let all = all_digits cs f.2 in
    let some : 0 < 0 * 10 + digit_value c = omega (arith, v, f.0) in (
      omega (arith, some, le_value_after (0 * 10 + digit_value c) cs),
      decimal_value_after (0 * 10 + digit_value c) cs some all small ∙
          ap (λ (x : List ℕ). x ++ cs) (decimal_digit (0 * 10 + digit_value c) (omega (arith, v, f.1)) ∙ ap (λ (k : ℕ). k ∷ []) (omega (arith, v, f.0))),
    )

no_plus : (c : ℕ) (cs : List ℕ) → c ≢ 43 → without_leading_plus (c ∷ cs) ≡ c ∷ cs
no_plus c cs p = ap (λ (b : Bool). drop (cond b 1 0) (c ∷ cs)) (ne_eqb c 43 p)

plain_value : (c : ℕ) (cs : List ℕ) → c ≢ 45 → c ≢ 43 → signed_digits_value 10 (c ∷ cs) ≡ pos (digits_value 10 (c ∷ cs))
plain_value c cs m p =
    ap (λ (b : Bool). cond b (neg_ℤ (pos (digits_value 10 (cond b cs (without_leading_plus (c ∷ cs)))))) (pos (digits_value 10 (cond b cs
    (without_leading_plus (c ∷ cs))))))
    (ne_eqb c 45 m) ∙ ap (λ (x : List ℕ). pos (digits_value 10 x)) (no_plus c cs p)

minus_value : (cs : List ℕ) → signed_digits_value 10 (45 ∷ cs) ≡ neg_ℤ (pos (digits_value 10 cs))
minus_value cs = refl

-- ---- read
negative_text : (n : ℕ) (cs : List ℕ) → InRange (neg_ℤ (pos n)) → (n < 10 ^ 64 → (0 < n) × (decimal n ≡ cs)) → 45 ∷ cs ≡ signed_decimal (neg_ℤ (pos n))
negative_text zero cs r h = absurd (omega (arith, (h (omega arith)).0))
negative_text (suc n) cs r h = ap (λ (x : List ℕ). 45 ∷ x) (sym (h (omega (arith, r))).1)

magnitude_text : (word : List ℕ) → InRange (signed_digits_value 10 word) → is_magnitude (if begins_with_minus word then drop 1 word else word) ≡ true →
    word ≡ signed_decimal (signed_digits_value 10 word)
magnitude_text [] r h = cc
magnitude_text (c ∷ cs) r h = by (nat_eq c 45) refl
  where
    by : (b : Bool) → nat_eq c 45 ≡ b → c ∷ cs ≡ signed_decimal (signed_digits_value 10 (c ∷ cs))
    by true e =
        let is : c ≡ 45 = eqb-true c 45 e in
        let m : is_magnitude cs ≡ true = subst (λ (x : Bool). is_magnitude (if x then cs else c ∷ cs) ≡ true) e h in
        ap (λ (x : ℕ). x ∷ cs) is ∙
        negative_text (digits_value 10 cs) cs (subst (λ (x : ℕ). InRange (signed_digits_value 10 (x ∷ cs))) is r) (magnitude_value cs m) ∙
        ap (λ (x : ℕ). signed_decimal (signed_digits_value 10 (x ∷ cs))) (sym is)
    by false e =
        let m : is_magnitude (c ∷ cs) ≡ true = subst (λ (x : Bool). is_magnitude (if x then cs else c ∷ cs) ≡ true) e h in
        let f = first_digit c cs m in
        let v = plain_value c cs (λ x. omega (arith, f.0, x)) (λ x. omega (arith, f.0, x)) in
        let r2 : InRange (pos (digits_value 10 (c ∷ cs))) = subst (λ (z : ℤ). InRange z) v r in
        sym (magnitude_value (c ∷ cs) m (omega (arith, r2))).1 ∙ ap signed_decimal (sym v)

range_of : (z : ℤ) → in_range z ≡ true → InRange z
range_of z h = ltb-true (unsigned_abs z) (2 ^ 127) h

spelled_by : (word : List ℕ) → InRange (signed_digits_value 10 word) →
    (bytes_eq word (codes "0") ≡ true) ⊎ (is_magnitude (if begins_with_minus word then drop 1 word else word) ≡ true) →
    word ≡ signed_decimal (signed_digits_value 10 word)
spelled_by word r (inl h) =
    let is = zero_word word h in
    is ∙ sym (decimal_digit 0 (omega arith)) ∙ ap (λ (w : List ℕ). signed_decimal (signed_digits_value 10 w)) (sym is)
spelled_by word r (inr h) = magnitude_text word r h

kept_number : (word : List ℕ) (z : ℤ) (b : Bool) → is_spelled word && in_range (signed_digits_value 10 word) ≡ b →
    (if b then Some (signed_digits_value 10 word) else None) ≡ Some z → (word ≡ signed_decimal z) × InRange z
kept_number word z true e s =
    let p = and_parts (is_spelled word) (in_range (signed_digits_value 10 word)) e in
    let same = same_Some (signed_digits_value 10 word) z s in
    let r = range_of (signed_digits_value 10 word) p.1 in (
      spelled_by word r (either (bytes_eq word (codes "0")) (is_magnitude (if begins_with_minus word then drop 1 word else word)) p.0) ∙
          ap signed_decimal same,
      subst (λ (x : ℤ). InRange x) same r,
    )
kept_number word z false e s = absurd (none-some z s)

pub spelled_text : (word : List ℕ) (z : ℤ) → number_in word ≡ Some z → (word ≡ signed_decimal z) × InRange z
spelled_text word z e = kept_number word z (is_spelled word && in_range (signed_digits_value 10 word)) refl e

-- ---- printed
-- digits of a number other than 0 begin with 1 to 9
digit_passes : (d : ℕ) → d < 10 → is_ascii_digit (48 + d) ≡ true
digit_passes d h = grind (arith, nat_tests)

all_push : (ds : List ℕ) (c : ℕ) → list_all is_ascii_digit ds ≡ true → is_ascii_digit c ≡ true → list_all is_ascii_digit (ds ++ c ∷ []) ≡ true
all_push [] c h k = ap (λ (b : Bool). b && true) k
all_push (d ∷ ds) c h k =
    let p = and_parts (is_ascii_digit d) (list_all is_ascii_digit ds) h in
    ap (λ (b : Bool). b && list_all is_ascii_digit (ds ++ c ∷ [])) p.0 ∙ all_push ds c p.1 k

magnitude_push : (ds : List ℕ) (c : ℕ) → is_magnitude ds ≡ true → is_ascii_digit c ≡ true → is_magnitude (ds ++ c ∷ []) ≡ true
magnitude_push [] c h k = cc
magnitude_push (d ∷ ds) c h k =
    let p = and_parts (nat_le 49 d && nat_le d 57) (list_all is_ascii_digit ds) h in
    ap (λ (b : Bool). b && list_all is_ascii_digit (ds ++ c ∷ [])) p.0 ∙ all_push ds c p.1 k

one_magnitude : (n : ℕ) → n < 10 → 0 < n → is_magnitude ((48 + n) ∷ []) ≡ true
one_magnitude n h k = grind (arith, nat_tests)

decimal_magnitude : (n : ℕ) → n < 10 ^ 64 → 0 < n → is_magnitude (decimal n) ≡ true
decimal_magnitude n small = decimal_by_steps_wide (λ k ds. 0 < k → is_magnitude ds ≡ true) one_magnitude
    (λ k ds h so some. magnitude_push ds (48 + k % 10) (so (omega (arith, h))) (digit_passes (k % 10) (omega arith))) n small

spelled_of : (word : List ℕ) → is_magnitude word ≡ true → (is_spelled word ≡ true) × (signed_digits_value 10 word ≡ pos (digits_value 10 word))
spelled_of [] h = cc
spelled_of (c ∷ cs) h =
    let f = first_digit c cs h in (
      or_true (bytes_eq (c ∷ cs) (codes "0")) _ (ap (λ (b : Bool). is_magnitude (if b then cs else c ∷ cs)) (ne_eqb c 45 (λ x. omega (arith, f.0, x))) ∙ h),
      plain_value c cs (λ x. omega (arith, f.0, x)) (λ x. omega (arith, f.0, x)),
    )
  where
    or_true : (a b : Bool) → b ≡ true → a || b ≡ true
    or_true true b e = refl
    or_true false b e = e

number_of_word : (word : List ℕ) (z : ℤ) → is_spelled word ≡ true → signed_digits_value 10 word ≡ z → InRange z → number_in word ≡ Some z
number_of_word word z s v r =
    ap (λ (b : Bool). if b && in_range (signed_digits_value 10 word) then Some (signed_digits_value 10 word) else None) s ∙
    ap (λ (x : ℤ). if in_range x then Some x else None) v ∙ ap (λ (b : Bool). if b then Some z else None) (in_range_yes z r)

pub text_spelled : (z : ℤ) → InRange z → number_in (signed_decimal z) ≡ Some z
text_spelled (pos zero) r = ap number_in (decimal_digit 0 (omega arith))
text_spelled (pos (suc n)) r =
    let small : suc n < 10 ^ 64 = omega (arith, r) in
    let s = spelled_of (decimal (suc n)) (decimal_magnitude (suc n) small (omega arith)) in
    number_of_word (decimal (suc n)) (pos (suc n)) s.0 (s.1 ∙ ap pos (decimal_is_IsNumeral_wide (suc n) small).1) r
text_spelled (negsuc n) r =
    let small : suc n < 10 ^ 64 = omega (arith, r) in
    let m = decimal_magnitude (suc n) small (omega arith) in
    number_of_word (45 ∷ decimal (suc n)) (negsuc n) m (ap (λ (k : ℕ). neg_ℤ (pos k)) (decimal_is_IsNumeral_wide (suc n) small).1) r
