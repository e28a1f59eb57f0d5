-- The numerals and the names of variables that sample sources have.
use Rattle.std.proofs.Common.{◌≡◌, ℕ, zero, suc, ◌+◌, ◌*◌, ◌/◌, ◌%◌, ◌<◌, ◌≤◌, true, false, List, [], ◌∷◌, ◌++◌, refl, ap, ◌∙◌, arith, inl, inr}
use Rattle.std.proofs.lemmas.Bool.{and_right}
use Rattle.std.proofs.{lemmas.Bool.cases_lt, lemmas.Bool.or_right, lemmas.Bool.Decides.nat_tests, lemmas.Fmt.decimal_digit, lemmas.Fmt.decimal_step}
use Rattle.std.specs.{Fmt.decimal, List.list_all, Prelude.codes, Prelude.nat_le, Prelude.Some}
use Rattle.lra_sample.specs.Crates.lra_resolution_spec.Scope.{SymbolEntry, Scope, found_of, scalar}
use Rattle.lra_sample.specs.Crates.lra_syntax.Lexeme.{is_between, is_digit, is_word_byte, is_letter, digit_value, number_after, decimal_base, octal, greatest_literal, greatest_int_literal}
use Rattle.lra_sample.specs.Crates.lra_syntax.Lexeme.{literal_type, number_word, word, name, literal_text}
use Rattle.lra_sample.specs.Crates.{lra_base.declared.number_types.NumberType.TheVariants.Int, lra_base.declared.number_types.NumberType.TheVariants.Long, lra_program.Program.Slot}
use Rattle.lra_sample.specs.Crates.{lra_program.Program.local, lra_syntax.Faults.greatest_level, lra_syntax.declared.tokens.Kind.TheVariants.Name, lra_syntax.declared.tokens.Kind.TheVariants.Number}
use Rattle.lra_sample.proofs.Crates.{lra_syntax.Lexemes.IsGood, lra_syntax.Lexemes.IsRead, lra_syntax.Lexemes.as_read, lra_syntax.LongestByTest.is_lexeme, lra_syntax.LongestByTest.begins_gap}

-- words --------------------------------------------------------------------------------------------------------------

-- a word ends before a byte that is none of a word's
none_passes : (cs u : List ℕ) (c : ℕ) → is_word_byte c ≡ false → list_all is_word_byte (cs ++ c ∷ u) ≡ false
none_passes [] u c e = rw e refl
none_passes (x ∷ cs) u c e = and_right (is_word_byte x) (list_all is_word_byte (cs ++ c ∷ u)) (none_passes cs u c e)

-- with this byte in front only words are lexemes
abbrev pub OnlyWords : ℕ → Type 0
OnlyWords x = (z : List ℕ) → list_all is_word_byte z ≡ false → is_lexeme (x ∷ z) ≡ false

pub word_ends : (x : ℕ) → OnlyWords x → (cs : List ℕ) (c : ℕ) → is_word_byte c ≡ false → (u : List ℕ) →
    is_lexeme ((x ∷ cs) ++ c ∷ u) ≡ false
word_ends x only cs c e u = only (cs ++ c ∷ u) (none_passes cs u c e)

pub names_end : (cs : List ℕ) (c : ℕ) → is_word_byte c ≡ false → (u : List ℕ) → is_lexeme ((118 ∷ cs) ++ c ∷ u) ≡ false
names_end = word_ends 118 (λ z e. rw e refl)

-- digits -------------------------------------------------------------------------------------------------------------

-- what is used of the first digit of a numeral
pub record IsFirstDigit (x : ℕ) : Type 0 where
  pub only : OnlyWords x
  pub behind_plus : (u : List ℕ) → is_lexeme (43 ∷ x ∷ u) ≡ false
  pub behind_less : (u : List ℕ) → is_lexeme (60 ∷ x ∷ u) ≡ false
  pub behind_assign : (u : List ℕ) → is_lexeme (61 ∷ x ∷ u) ≡ false

-- by cases over ten digits
digit_cases : (P : ℕ → Type 0) → P 48 → P 49 → P 50 → P 51 → P 52 → P 53 → P 54 → P 55 → P 56 → P 57 → (n : ℕ) →
    n < 10 → P (48 + n)
digit_cases P a b c d e f g h i j zero l = a
digit_cases P a b c d e f g h i j (suc zero) l = b
digit_cases P a b c d e f g h i j (suc (suc zero)) l = c
digit_cases P a b c d e f g h i j (suc (suc (suc zero))) l = d
digit_cases P a b c d e f g h i j (suc (suc (suc (suc zero)))) l = e
digit_cases P a b c d e f g h i j (suc (suc (suc (suc (suc zero))))) l = f
digit_cases P a b c d e f g h i j (suc (suc (suc (suc (suc (suc zero)))))) l = g
digit_cases P a b c d e f g h i j (suc (suc (suc (suc (suc (suc (suc zero))))))) l = h
digit_cases P a b c d e f g h i j (suc (suc (suc (suc (suc (suc (suc (suc zero)))))))) l = i
digit_cases P a b c d e f g h i j (suc (suc (suc (suc (suc (suc (suc (suc (suc zero))))))))) l = j
digit_cases P a b c d e f g h i j (suc (suc (suc (suc (suc (suc (suc (suc (suc (suc n)))))))))) l =
    absurd (omega (arith, l))

first_digit : (n : ℕ) → n < 10 → IsFirstDigit (48 + n)
first_digit = digit_cases IsFirstDigit
    (as_first (λ z e. rw e refl) (λ u. refl) (λ u. refl) (λ u. refl))
    (as_first (λ z e. rw e refl) (λ u. refl) (λ u. refl) (λ u. refl))
    (as_first (λ z e. rw e refl) (λ u. refl) (λ u. refl) (λ u. refl))
    (as_first (λ z e. rw e refl) (λ u. refl) (λ u. refl) (λ u. refl))
    (as_first (λ z e. rw e refl) (λ u. refl) (λ u. refl) (λ u. refl))
    (as_first (λ z e. rw e refl) (λ u. refl) (λ u. refl) (λ u. refl))
    (as_first (λ z e. rw e refl) (λ u. refl) (λ u. refl) (λ u. refl))
    (as_first (λ z e. rw e refl) (λ u. refl) (λ u. refl) (λ u. refl))
    (as_first (λ z e. rw e refl) (λ u. refl) (λ u. refl) (λ u. refl))
    (as_first (λ z e. rw e refl) (λ u. refl) (λ u. refl) (λ u. refl))
  where
    as_first : {x : ℕ} → OnlyWords x → ((u : List ℕ) → is_lexeme (43 ∷ x ∷ u) ≡ false) →
        ((u : List ℕ) → is_lexeme (60 ∷ x ∷ u) ≡ false) → ((u : List ℕ) → is_lexeme (61 ∷ x ∷ u) ≡ false) → IsFirstDigit x
    as_first only plus less assign = record { only = only; behind_plus = plus; behind_less = less; behind_assign = assign }

-- what is used of the digits of a literal
record IsDigit (x : ℕ) : Type 0 where
  digit : is_digit x ≡ true
  small : digit_value x ≤ 9

a_digit : (n : ℕ) → n < 10 → IsDigit (48 + n)
a_digit = digit_cases IsDigit
    (record { digit = refl; small = omega arith })
    (record { digit = refl; small = omega arith })
    (record { digit = refl; small = omega arith })
    (record { digit = refl; small = omega arith })
    (record { digit = refl; small = omega arith })
    (record { digit = refl; small = omega arith })
    (record { digit = refl; small = omega arith })
    (record { digit = refl; small = omega arith })
    (record { digit = refl; small = omega arith })
    (record { digit = refl; small = omega arith })

-- and of the first if there are more, or if it isn't 0
record IsFront (x : ℕ) : Type 0 where
  front : is_between 49 57 x ≡ true
  gapless : begins_gap x ≡ false

a_front : (n : ℕ) → n < 10 → 48 < 48 + n → IsFront (48 + n)
a_front = digit_cases (λ x. 48 < x → IsFront x)
    (λ l. absurd (omega (arith, l)))
    (λ l. record { front = refl; gapless = refl })
    (λ l. record { front = refl; gapless = refl })
    (λ l. record { front = refl; gapless = refl })
    (λ l. record { front = refl; gapless = refl })
    (λ l. record { front = refl; gapless = refl })
    (λ l. record { front = refl; gapless = refl })
    (λ l. record { front = refl; gapless = refl })
    (λ l. record { front = refl; gapless = refl })
    (λ l. record { front = refl; gapless = refl })

-- numerals below 100 -------------------------------------------------------------------------------------------------

-- a small one without a suffix is an `int`
is_int : (n : ℕ) → n ≤ greatest_int_literal → Int ≡ literal_type [] n
is_int n l = let small : nat_le n greatest_int_literal ≡ true = grind (arith, nat_tests) in rw small refl

pub zero_good : IsGood 48 [] (Number Int 0)
zero_good = record {
  lexeme = number_word refl;
  spells = literal_text 0 Int refl (record {
    base = octal;
    front = codes "0";
    digits = [];
    suffix = [];
    parts = refl;
    begins = refl;
    all_digits = refl;
    is_suffix = refl;
    number = refl;
  }) refl (omega arith);
  gapless = refl;
}

one_digit : (x : ℕ) → IsFront x → IsDigit x → IsGood x [] (Number Int (number_after decimal_base 0 (x ∷ [])))
one_digit x f d = record {
  lexeme = number_word (rw d.digit refl);
  spells = literal_text (number_after decimal_base 0 (x ∷ [])) Int (rw d.digit refl)
      (record {
        base = decimal_base;
        front = [];
        digits = x ∷ [];
        suffix = [];
        parts = refl;
        begins = (x, [], refl, refl, f.front);
        all_digits = rw d.digit refl;
        is_suffix = refl;
        number = refl;
      })
      (is_int (number_after decimal_base 0 (x ∷ [])) (few (digit_value x) d.small)) (fits (digit_value x) d.small);
  gapless = f.gapless;
}
  where
    few : (a : ℕ) → a ≤ 9 → 0 * 10 + a ≤ greatest_int_literal
    few a l = omega (arith, l)

    fits : (a : ℕ) → a ≤ 9 → 0 * 10 + a ≤ greatest_literal
    fits a l = omega (arith, l)

pub one_good : IsGood 49 [] (Number Int 1)
one_good = one_digit 49 (a_front 1 (omega arith) (omega arith)) (a_digit 1 (omega arith))

two_digits : (x y : ℕ) → IsFront x → IsDigit x → IsDigit y → IsGood x (y ∷ []) (Number Int (number_after decimal_base 0 (x ∷ y ∷ [])))
two_digits x y f d b = record {
  lexeme = number_word (rw (d.digit, digit_is y b.digit) refl);
  spells = literal_text (number_after decimal_base 0 (x ∷ y ∷ [])) Int (rw (d.digit, digit_is y b.digit) refl)
      (record {
        base = decimal_base;
        front = [];
        digits = x ∷ y ∷ [];
        suffix = [];
        parts = refl;
        begins = (x, y ∷ [], refl, refl, f.front);
        all_digits = rw (d.digit, b.digit) refl;
        is_suffix = refl;
        number = refl;
      })
      (is_int (number_after decimal_base 0 (x ∷ y ∷ [])) (few (digit_value x) (digit_value y) d.small b.small)) (fits (digit_value x) (digit_value y) d.small b.small);
  gapless = f.gapless;
}
  where
    few : (a b : ℕ) → a ≤ 9 → b ≤ 9 → (0 * 10 + a) * 10 + b ≤ greatest_int_literal
    few a b l m = omega (arith, l, m)

    fits : (a b : ℕ) → a ≤ 9 → b ≤ 9 → (0 * 10 + a) * 10 + b ≤ greatest_literal
    fits a b l m = omega (arith, l, m)

    digit_is : (c : ℕ) → is_digit c ≡ true → is_word_byte c ≡ true
    digit_is c h = or_right (is_letter c) (is_digit c) h

-- the text of a number below 100
pub record Numeral (s : List ℕ) : Type 0 where
  pub head : ℕ
  pub tail : List ℕ
  pub value : ℕ
  pub spelled : s ≡ head ∷ tail
  pub first : IsFirstDigit head
  pub good : IsGood head tail (Number Int value)

one_of : (n : ℕ) → n < 10 → Numeral (decimal n)
one_of zero l = record {
  head = 48;
  tail = [];
  value = 0;
  spelled = decimal_digit 0 l;
  first = first_digit 0 l;
  good = zero_good;
}
one_of (suc n) l = record {
  head = 48 + suc n;
  tail = [];
  value = number_after decimal_base 0 ((48 + suc n) ∷ []);
  spelled = decimal_digit (suc n) l;
  first = first_digit (suc n) l;
  good = one_digit (48 + suc n) (a_front (suc n) l (omega arith)) (a_digit (suc n) l);
}

two_of : (n : ℕ) → n < 100 → 10 ≤ n → Numeral (decimal n)
two_of n l g =
    let tens : n / 10 < 10 = omega (arith, l) in
    let ones : n % 10 < 10 = omega arith in
    let some : 48 < 48 + n / 10 = omega (arith, g) in
    record {
      head = 48 + n / 10;
      tail = (48 + n % 10) ∷ [];
      value = number_after decimal_base 0 ((48 + n / 10) ∷ (48 + n % 10) ∷ []);
      spelled = decimal_step n g (omega (arith, l)) ∙ ap (λ t. t ++ (48 + n % 10) ∷ []) (decimal_digit (n / 10) tens);
      first = first_digit (n / 10) tens;
      good = two_digits (48 + n / 10) (48 + n % 10) (a_front (n / 10) tens some) (a_digit (n / 10) tens) (a_digit (n % 10) ones);
    }

pub numeral : (n : ℕ) → n < 100 → Numeral (decimal n)
numeral n l = elim (cases_lt n 10) [ inl small ↦ one_of n small | inr large ↦ two_of n l large ]

-- variables ----------------------------------------------------------------------------------------------------------

abbrev long_entry : List ℕ → SymbolEntry
long_entry w = record { name = w; binding = scalar Long }

-- the four of a sample source
abbrev pub four : Scope
four = record {
  globals = [];
  locals = long_entry (codes "v0") ∷ long_entry (codes "v1") ∷ long_entry (codes "v2") ∷ long_entry (codes "v3") ∷ [];
  outer = 0;
}

pub record IsVariable (x : ℕ) : Type 0 where
  pub good : IsGood 118 (x ∷ []) (Name (118 ∷ x ∷ []))
  pub slot : Slot
  pub known : found_of four (118 ∷ x ∷ []) ≡ Some (record { slot = slot; binding = scalar Long })

pub variable : (n : ℕ) → n < 4 → IsVariable (48 + n)
variable zero l = record { good = record { lexeme = word refl; spells = name refl refl refl; gapless = refl }; slot = local 0; known = refl }
variable (suc zero) l = record { good = record { lexeme = word refl; spells = name refl refl refl; gapless = refl }; slot = local 1; known = refl }
variable (suc (suc zero)) l = record { good = record { lexeme = word refl; spells = name refl refl refl; gapless = refl }; slot = local 2; known = refl }
variable (suc (suc (suc zero))) l = record { good = record { lexeme = word refl; spells = name refl refl refl; gapless = refl }; slot = local 3; known = refl }
variable (suc (suc (suc (suc n)))) l = absurd (omega (arith, l))

pub is_name : {x o : ℕ} {cs : List ℕ} → IsVariable x → (c : ℕ) → is_word_byte c ≡ false →
    nat_le o greatest_level ≡ true → IsRead 118 (x ∷ []) (Name (118 ∷ x ∷ [])) o (c ∷ cs)
is_name {x} v c e low = as_read v.good (names_end (x ∷ []) c e) low
