-- A literal is cut into its parts in one way.
use Rattle.std.proofs.Common.{◌≡◌, ℕ, suc, ◌+◌, ◌*◌, ◌<◌, ◌≤◌, Bool, true, false, not, ◌||◌, ◌&&◌, nat_eq, List, [], ◌∷◌, ◌++◌, length, get_or, take, drop, refl, sym, ap, ◌∙◌, subst, arith, inl, inr}
use Rattle.std.proofs.{Common.append_assoc, lemmas.Bool.and_parts, lemmas.Bool.cases_Bool, lemmas.Bool.eqb-true, lemmas.Bool.not-true, lemmas.Bool.or_cases, lemmas.Bool.Decides.nat_tests}
use Rattle.std.proofs.{lemmas.List.take_at, lemmas.List.drop_at, lemmas.List.take-append-drop, lemmas.List.drop_more, lemmas.List.Sums.prefix_len-le-length}
use Rattle.std.specs.{List.list_all, List.prefix_len, Prelude.◌≢◌, Prelude.if◌then◌else◌}
use Rattle.lra_base.specs.declared.number_types.NumberType.{NumberType}
use Rattle.lra_syntax.specs.Lexeme.{Base, octal, decimal_base, hexadecimal, base_number, is_digit_of, is_digit, is_between, digit_value, number_after, IsBasePrefix, IsLiteral, suffixes, is_among}
use Rattle.lra_syntax.specs.Lexeme.{literal_type, greatest_literal}
use Rattle.lra_lex.specs.Literal.{base_at, front_size, IsTyped}
use Rattle.lra_lex.proofs.{MarkLemmas.among_all, RunLemmas.run_is, RunLemmas.run_exact, RunLemmas.Stops}

-- numbers ------------------------------------------------------------------------------------------------------------------

base_some : (b : Base) → (1 ≤ base_number b) × (base_number b ≤ 16)
base_some octal = (omega arith, omega arith)
base_some decimal_base = (omega arith, omega arith)
base_some hexadecimal = (omega arith, omega arith)

at_least : (n m : ℕ) → 1 ≤ m → n ≤ n * m
at_least n m h = grind arith

-- more digits make no smaller number
pub number_grows : (b : Base) (n : ℕ) (cs : List ℕ) → n ≤ number_after b n cs
number_grows b n [] = omega arith
number_grows b n (c ∷ cs) =
    let r = number_grows b (n * base_number b + digit_value c) cs in
    let k = at_least n (base_number b) (base_some b).0 in
    omega (arith, r, k)

pub number_more : (b : Base) (n i : ℕ) (digits : List ℕ) → i < length digits
    → number_after b (n * base_number b + digit_value (get_or digits i 0)) (drop (i + 1) digits) ≡ number_after b n (drop i digits)
number_more b n i digits h = ap (number_after b n) (sym (drop_more digits i 0 h))

-- the parts ------------------------------------------------------------------------------------------------------------------

-- no suffix begins with a digit or an x
abbrev begins_suffix : List ℕ → Bool
begins_suffix s = not (is_digit_of hexadecimal (get_or s 0 0)) && not (nat_eq (get_or s 0 0) 120 || nat_eq (get_or s 0 0) 88)

suffix_begins : (s : List ℕ) → is_among s suffixes ≡ true → begins_suffix s ≡ true
suffix_begins s h = among_all begins_suffix s suffixes refl h

no_digit : (b : Base) (c : ℕ) → is_digit_of hexadecimal c ≡ false → is_digit_of b c ≡ false
no_digit octal c h = grind (arith, nat_tests)
no_digit decimal_base c h = grind (arith, nat_tests)
no_digit hexadecimal c h = h

suffix_stops : (b : Base) (s : List ℕ) → is_among s suffixes ≡ true → Stops (is_digit_of b) s
suffix_stops b [] h = tt
suffix_stops b (c ∷ cs) h =
    no_digit b c (not-true (is_digit_of hexadecimal c) (and_parts (not (is_digit_of hexadecimal c)) (not (nat_eq c 120 || nat_eq c 88)) (suffix_begins (c ∷ cs) h)).0)

no_x : (digits suffix : List ℕ) → list_all (is_digit_of octal) digits ≡ true → is_among suffix suffixes ≡ true
    → (nat_eq (get_or (digits ++ suffix) 0 0) 120 || nat_eq (get_or (digits ++ suffix) 0 0) 88) ≡ false
no_x [] suffix d s = not-true (nat_eq (get_or suffix 0 0) 120 || nat_eq (get_or suffix 0 0) 88)
    (and_parts (not (is_digit_of hexadecimal (get_or suffix 0 0))) (not (nat_eq (get_or suffix 0 0) 120 || nat_eq (get_or suffix 0 0) 88)) (suffix_begins suffix s)).1
no_x (c ∷ digits) suffix d s = let h = (and_parts (is_between 48 55 c) (list_all (is_digit_of octal) digits) d).0 in grind (arith, nat_tests)

abbrev PartsAre : List ℕ → Base → List ℕ → List ℕ → Type 0
PartsAre s base digits suffix = (base ≡ base_at s) × (drop (front_size base) s ≡ digits ++ suffix)

parts_of : (base : Base) (front digits suffix : List ℕ) → IsBasePrefix base front digits → list_all (is_digit_of base) digits ≡ true → is_among suffix suffixes ≡ true
    → PartsAre ((front ++ digits) ++ suffix) base digits suffix
parts_of octal front digits suffix b d s =
    subst (λ (z : List ℕ). PartsAre ((z ++ digits) ++ suffix) octal digits suffix) (sym b) (rw (no_x digits suffix d s) refl, refl)
parts_of hexadecimal front digits suffix (inl b, k) d s = subst (λ (z : List ℕ). PartsAre ((z ++ digits) ++ suffix) hexadecimal digits suffix) (sym b) (refl, refl)
parts_of hexadecimal front digits suffix (inr b, k) d s = subst (λ (z : List ℕ). PartsAre ((z ++ digits) ++ suffix) hexadecimal digits suffix) (sym b) (refl, refl)
parts_of decimal_base front digits suffix (c, cs, b, e, p) d s =
    let n : nat_eq c 48 ≡ false = grind (arith, nat_tests) in
    subst (λ (z : List ℕ). PartsAre ((z ++ digits) ++ suffix) decimal_base digits suffix) (sym b)
    (subst (λ (z : List ℕ). PartsAre (z ++ suffix) decimal_base z suffix) (sym e) (rw n refl, refl))

-- the digits and the suffix of a word in a base
abbrev pub body_of : Base → List ℕ → List ℕ
body_of b s = drop (front_size b) s

abbrev pub digits_of : Base → List ℕ → List ℕ
digits_of b s = take (prefix_len (is_digit_of b) (body_of b s)) (body_of b s)

abbrev pub suffix_of : Base → List ℕ → List ℕ
suffix_of b s = drop (prefix_len (is_digit_of b) (body_of b s)) (body_of b s)

pub record IsCut (s : List ℕ) (n : ℕ) : Type 0 where
  pub suffix : is_among (suffix_of (base_at s) s) suffixes ≡ true
  pub digits : base_at s ≢ octal → digits_of (base_at s) s ≢ []
  pub number : n ≡ number_after (base_at s) 0 (digits_of (base_at s) s)

some_digits : (base : Base) (front digits : List ℕ) → IsBasePrefix base front digits → base ≢ octal → digits ≢ []
some_digits octal front digits b n e = n refl
some_digits hexadecimal front digits b n e = b.1 e
some_digits decimal_base front digits (c, cs, b, f, p) n e = let g : c ∷ cs ≡ [] = sym f ∙ e in absurd (cc)

-- the digits and the suffix are those of the word in its base
parts_cut : (s : List ℕ) (base : Base) (front digits suffix : List ℕ) → s ≡ (front ++ digits) ++ suffix → IsBasePrefix base front digits
    → list_all (is_digit_of base) digits ≡ true → is_among suffix suffixes ≡ true
    → (base ≡ base_at s) × (digits_of (base_at s) s ≡ digits) × (suffix_of (base_at s) s ≡ suffix)
parts_cut s base front digits suffix e b d k =
    let p : PartsAre s base digits suffix = subst (λ (z : List ℕ). PartsAre z base digits suffix) (sym e) (parts_of base front digits suffix b d k) in
    let body : body_of (base_at s) s ≡ digits ++ suffix = subst (λ (z : Base). body_of z s ≡ digits ++ suffix) p.0 p.1 in
    let d' : list_all (is_digit_of (base_at s)) digits ≡ true = subst (λ (z : Base). list_all (is_digit_of z) digits ≡ true) p.0 d in
    let n' = run_exact (is_digit_of (base_at s)) digits suffix d' (suffix_stops (base_at s) suffix k) in
    let size : prefix_len (is_digit_of (base_at s)) (body_of (base_at s) s) ≡ length digits = ap (prefix_len (is_digit_of (base_at s))) body ∙ n' in
    let ds : digits_of (base_at s) s ≡ digits = rw (size, body) (take_at digits suffix (length digits) refl) in
    let ss : suffix_of (base_at s) s ≡ suffix = rw (size, body) (drop_at digits suffix (length digits) refl) in
    (p.0, ds, ss)

cut_of : (s : List ℕ) (n : ℕ) (base : Base) (front digits suffix : List ℕ) → s ≡ (front ++ digits) ++ suffix → IsBasePrefix base front digits
    → list_all (is_digit_of base) digits ≡ true → is_among suffix suffixes ≡ true → n ≡ number_after base 0 digits → IsCut s n
cut_of s n base front digits suffix e b d k v =
    let p = parts_cut s base front digits suffix e b d k in
    let ds : digits_of (base_at s) s ≡ digits = p.1 in
    let ss : suffix_of (base_at s) s ≡ suffix = p.2 in
    record {
      suffix = rw ss k;
      digits = λ o f. some_digits base front digits b (λ g. o (sym p.0 ∙ g)) (sym ds ∙ f);
      number = rw ds (subst (λ (z : Base). n ≡ number_after z 0 digits) p.0 v);
    }

pub literal_cut : (s : List ℕ) (n : ℕ) → IsLiteral s n → IsCut s n
literal_cut s n l = cut_of s n l.base l.front l.digits l.suffix l.parts l.begins l.all_digits l.is_suffix l.number

-- one word, one number
pub literal_one : (s : List ℕ) (n m : ℕ) → IsLiteral s n → IsLiteral s m → n ≡ m
literal_one s n m l k = (literal_cut s n l).number ∙ sym (literal_cut s m k).number

pub literal_suffix : (s : List ℕ) (n : ℕ) (l : IsLiteral s n) → suffix_of (base_at s) s ≡ l.suffix
literal_suffix s n l = (parts_cut s l.base l.front l.digits l.suffix l.parts l.begins l.all_digits l.is_suffix).2

-- and one type
pub type_one : (s : List ℕ) (n m : ℕ) (t u : NumberType) (l : IsLiteral s n) (k : IsLiteral s m) → t ≡ literal_type l.suffix n → u ≡ literal_type k.suffix m → t ≡ u
type_one s n m t u l k e f =
    let same : l.suffix ≡ k.suffix = sym (literal_suffix s n l) ∙ literal_suffix s m k in
    e ∙ ap (λ (z : List ℕ). literal_type z n) same ∙ ap (λ (z : ℕ). literal_type k.suffix z) (literal_one s n m l k) ∙ sym f

-- what is so cut is a literal ------------------------------------------------------------------------------------------------

first_is : (s : List ℕ) (c : ℕ) → 0 < c → get_or s 0 0 ≡ c → take 1 s ≡ c ∷ []
first_is [] c p e = absurd (omega arith)
first_is (d ∷ s) c p e = cc

two_are : (s : List ℕ) (c d : ℕ) → 0 < d → get_or s 0 0 ≡ c → get_or s 1 0 ≡ d → take 2 s ≡ c ∷ d ∷ []
two_are [] c d p e f = absurd (omega arith)
two_are (x ∷ []) c d p e f = absurd (omega arith)
two_are (x ∷ y ∷ s) c d p e f = cc

decimal_front : (s : List ℕ) → nat_eq (get_or s 0 0) 48 ≡ false → digits_of decimal_base s ≢ [] → IsBasePrefix decimal_base [] (digits_of decimal_base s)
decimal_front [] n k = absurd (k refl)
decimal_front (c ∷ cs) n k = elim (cases_Bool (is_digit c)) [
  | inr h ↦ let e : digits_of decimal_base (c ∷ cs) ≡ [] = rw h refl in absurd (k e)
  | inl h ↦
      let e : prefix_len is_digit (c ∷ cs) ≡ suc (prefix_len is_digit cs) = rw h (omega arith) in
      let t : digits_of decimal_base (c ∷ cs) ≡ c ∷ take (prefix_len is_digit cs) cs = ap (λ (z : ℕ). take z (c ∷ cs)) e in
      (c, take (prefix_len is_digit cs) cs, refl, t, grind (arith, nat_tests))
]

abbrev Tells : Base → Bool → Bool → Type 0
Tells octal x y = x ≡ true
Tells decimal_base x y = x ≡ false
Tells hexadecimal x y = (x ≡ true) × (y ≡ true)

tells : (x y : Bool) → Tells (if x then (if y then hexadecimal else octal) else decimal_base) x y
tells true true = (refl, refl)
tells true false = refl
tells false y = refl

front_of : (s : List ℕ) (b : Base) → Tells b (nat_eq (get_or s 0 0) 48) (nat_eq (get_or s 1 0) 120 || nat_eq (get_or s 1 0) 88)
    → (b ≢ octal → digits_of b s ≢ []) → IsBasePrefix b (take (front_size b) s) (digits_of b s)
front_of s octal t k = first_is s 48 (omega arith) (eqb-true (get_or s 0 0) 48 t)
front_of s decimal_base t k = decimal_front s t (k (λ e. cc))
front_of s hexadecimal t k = elim (or_cases (nat_eq (get_or s 1 0) 120) (nat_eq (get_or s 1 0) 88) t.1) [
  | inl h ↦ (inl (two_are s 48 120 (omega arith) (eqb-true (get_or s 0 0) 48 t.0) (eqb-true (get_or s 1 0) 120 h)), k (λ e. cc))
  | inr h ↦ (inr (two_are s 48 88 (omega arith) (eqb-true (get_or s 0 0) 48 t.0) (eqb-true (get_or s 1 0) 88 h)), k (λ e. cc))
]

pub cut_literal : (s : List ℕ) (n : ℕ) → IsCut s n → IsLiteral s n
cut_literal s n c =
    let r = run_is (is_digit_of (base_at s)) (body_of (base_at s) s) in
    record {
      base = base_at s;
      front = take (front_size (base_at s)) s;
      digits = digits_of (base_at s) s;
      suffix = suffix_of (base_at s) s;
      parts = sym (take-append-drop (front_size (base_at s)) s) ∙ ap (λ (z : List ℕ). take (front_size (base_at s)) s ++ z) r.parts ∙
          sym (append_assoc (take (front_size (base_at s)) s) (digits_of (base_at s) s) (suffix_of (base_at s) s));
      begins = front_of s (base_at s) (tells (nat_eq (get_or s 0 0) 48) (nat_eq (get_or s 1 0) 120 || nat_eq (get_or s 1 0) 88)) c.digits;
      all_digits = r.passes;
      is_suffix = c.suffix;
      number = c.number;
    }

-- as the code cuts
abbrev IsCutIn : Base → List ℕ → ℕ → Type 0
IsCutIn b s n = (is_among (suffix_of b s) suffixes ≡ true) × (b ≢ octal → digits_of b s ≢ []) × (n ≡ number_after b 0 (digits_of b s))

pub literal_in : (b : Base) (s : List ℕ) (n : ℕ) → b ≡ base_at s → IsCutIn b s n → IsLiteral s n
literal_in b s n e c = let d = subst (λ (z : Base). IsCutIn z s n) e c in cut_literal s n (record { suffix = d.0; digits = d.1; number = d.2 })

pub cut_in : (b : Base) (s : List ℕ) (n : ℕ) → b ≡ base_at s → IsLiteral s n → IsCutIn b s n
cut_in b s n e l = let c = literal_cut s n l in subst (λ (z : Base). IsCutIn z s n) (sym e) (c.suffix, c.digits, c.number)

pub body_long : (b : Base) (s : List ℕ) → prefix_len (is_digit_of b) (body_of b s) ≤ length (body_of b s)
body_long b s = prefix_len-le-length (is_digit_of b) (body_of b s)

pub too_large : (b : Base) (n i r d : ℕ) (digits : List ℕ) → i < length digits → number_after b n (drop i digits) ≡ number_after b 0 digits
    → r ≡ base_number b → d ≡ digit_value (get_or digits i 0) → greatest_literal < n * r + d → greatest_literal < number_after b 0 digits
too_large b n i r d digits h e f g l =
    let next : ℕ = n * base_number b + digit_value (get_or digits i 0) in
    let same : n * r + d ≡ next = cc in
    let grows = number_grows b next (drop (i + 1) digits) in
    let more = number_more b n i digits h in
    omega (arith, same, grows, more, e, l)

pub record IsSplit (b : Base) (s digits suffix : List ℕ) : Type 0 where
  pub base : b ≡ base_at s
  pub digits_are : digits ≡ digits_of b s
  pub suffix_is : suffix ≡ suffix_of b s

pub typed_in : (b : Base) (s digits suffix : List ℕ) (n : ℕ) (t : NumberType) → IsSplit b s digits suffix → is_among suffix suffixes ≡ true → (b ≢ octal → digits ≢ [])
    → n ≡ number_after b 0 digits → t ≡ literal_type suffix n → IsTyped s t n
typed_in b s digits suffix n t p f d h is =
    let g : is_among (suffix_of b s) suffixes ≡ true = rw p.suffix_is at f in
    let k : n ≡ number_after b 0 (digits_of b s) = rw p.digits_are at h in
    let l = literal_in b s n p.base (g, (λ o e. d o (p.digits_are ∙ e)), k) in
    let same : suffix ≡ l.suffix = p.suffix_is ∙ ap (λ (z : Base). suffix_of z s) p.base ∙ literal_suffix s n l in
    (l, is ∙ ap (λ (z : List ℕ). literal_type z n) same)

pub none_in : (b : Base) (s digits suffix : List ℕ) → IsSplit b s digits suffix → greatest_literal < number_after b 0 digits
    → (n : ℕ) → IsLiteral s n → n ≤ greatest_literal → ⊥
none_in b s digits suffix p h n l k =
    let c = cut_in b s n p.base l in
    let g : greatest_literal < number_after b 0 (digits_of b s) = rw p.digits_are at h in omega (arith, g, c.2)

-- what isn't well cut is no literal
pub no_literal : (b : Base) (s digits suffix : List ℕ) → IsSplit b s digits suffix → (is_among suffix suffixes ≡ true → (b ≢ octal → digits ≢ []) → ⊥)
    → (n : ℕ) → IsLiteral s n → ⊥
no_literal b s digits suffix p h n l =
    let c = cut_in b s n p.base l in
    h (rw p.suffix_is c.0) (λ o e. c.1 o (sym p.digits_are ∙ e))
