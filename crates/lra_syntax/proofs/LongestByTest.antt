-- Computed tests for `no gap begins here` and `this is the longest spelling`, for sources that are written out.
use Rattle.std.proofs.Common.{◌≡◌, ℕ, ◌<◌, ◌≤◌, Bool, true, false, not, ◌||◌, ◌&&◌, nat_eq, List, [], ◌∷◌, ◌++◌, length, refl, sym, ◌∙◌, subst, arith, append_assoc, inl, inr}
use Rattle.std.proofs.lemmas.Bool.{cases_lt, or_left, or_right}
use Rattle.std.specs.Prelude.{codes, ◌⊎◌}
use Rattle.lra_syntax.specs.Lexeme.{is_name_word, is_number_word, mark_text, is_among, IsOpen, SpellsToken, Lexeme, word, number_word, mark_word, unclosed}
use Rattle.lra_syntax.specs.Tokens.{is_blank, IsGap, blank, line_comment, block_comment, skipped_line, NoGap, IsLongest, IsToken}
use Rattle.lra_syntax.specs.{declared.tokens.Kind.Kind, declared.tokens.Mark.Mark}
use Rattle.lra_syntax.specs.declared.tokens.Mark.TheVariants as mark
use Rattle.lra_base.specs.Places.{place_after}

-- no gap begins with another byte than a blank, `/`, `#`
abbrev pub begins_gap : ℕ → Bool
begins_gap c = is_blank c || nat_eq c 47 || nat_eq c 35

abbrev first_byte : List ℕ → ℕ
first_byte [] = 0
first_byte (c ∷ cs) = c

gap_begins : (before gap after : List ℕ) → IsGap before gap after → begins_gap (first_byte (gap ++ after)) ≡ true
gap_begins before gap after (blank c e b) = rw (e, b) refl
gap_begins before gap after (line_comment text e a l) = rw e refl
gap_begins before gap after (block_comment text e o) = rw e refl
gap_begins before gap after (skipped_line blanks text e f b w t l) = rw e refl

pub no_gap : (before rest : List ℕ) → begins_gap (first_byte rest) ≡ false → NoGap before rest
no_gap before rest other gap after e g = let h = gap_begins before gap after g in cc

-- lexemes other than unclosed comments
abbrev operators : List (List ℕ)
operators = codes "+" ∷ codes "-" ∷ codes "*" ∷ codes "/" ∷ codes "%" ∷ codes "=" ∷ codes "==" ∷ codes "!=" ∷ codes "<" ∷ codes "<=" ∷ codes ">" ∷ codes ">=" ∷ codes "&&" ∷ codes "||" ∷ codes "!"
    ∷ codes "++" ∷ codes "--" ∷ codes "+=" ∷ codes "-=" ∷ codes "*=" ∷ codes "/=" ∷ codes "%=" ∷ codes "(" ∷ codes ")" ∷ codes "{" ∷ codes "}" ∷ codes "[" ∷ codes "]" ∷ codes ";" ∷ codes ","
    ∷ codes ":" ∷ []

abbrev pub is_lexeme : List ℕ → Bool
is_lexeme s = is_name_word s || is_number_word s || is_among s operators

mark_is_lexeme : (m : Mark) → is_lexeme (mark_text m) ≡ true
mark_is_lexeme mark.Plus = refl
mark_is_lexeme _ = refl

-- the second byte distinguishes a comment from a division
abbrev pub opens_comment : List ℕ → Bool
opens_comment [] = false
opens_comment (c ∷ []) = false
opens_comment (c ∷ d ∷ cs) = nat_eq c 47 && nat_eq d 42

pub tested : (s after : List ℕ) → opens_comment (s ++ after) ≡ false → Lexeme s → is_lexeme s ≡ true
tested s after other (word w) = or_left (is_name_word s || is_number_word s) (is_among s operators) (or_left (is_name_word s) (is_number_word s) w)
tested s after other (number_word w) = or_left (is_name_word s || is_number_word s) (is_among s operators) (or_right (is_name_word s) (is_number_word s) w)
tested s after other (mark_word m e) = rw e (mark_is_lexeme m)
tested s after other (unclosed u) = let h : opens_comment ((codes "/*" ++ u.0) ++ after) ≡ false = subst (λ (z : List ℕ). opens_comment (z ++ after) ≡ false) u.1 other in cc

-- nothing longer is a lexeme
abbrev pub ends_there : List ℕ → List ℕ → Bool
ends_there s [] = true
ends_there s (c ∷ after) = not (is_lexeme (s ++ c ∷ [])) && ends_there (s ++ c ∷ []) after

and_left : (a b : Bool) → (not a && b) ≡ true → a ≡ false
and_left true b e = cc
and_left false b e = refl

and_right : (a b : Bool) → (not a && b) ≡ true → b ≡ true
and_right true b e = cc
and_right false b e = e

none_longer : (u s b : List ℕ) (c : ℕ) → ends_there s (c ∷ u ++ b) ≡ true → is_lexeme (s ++ c ∷ u) ≡ false
none_longer [] s b c e = and_left (is_lexeme (s ++ c ∷ [])) (ends_there (s ++ c ∷ []) b) e
none_longer (d ∷ u) s b c e =
    let h = none_longer u (s ++ c ∷ []) b d (and_right (is_lexeme (s ++ c ∷ [])) (ends_there (s ++ c ∷ []) (d ∷ u ++ b)) e) in
    subst (λ (z : List ℕ). is_lexeme z ≡ false) (append_assoc s (c ∷ []) (d ∷ u)) h

-- the longer of two prefixes goes on after the shorter
goes_on : (s t a b : List ℕ) → s ++ a ≡ t ++ b → length s < length t → (c : ℕ) × (u : List ℕ) × (t ≡ s ++ c ∷ u) × (a ≡ c ∷ u ++ b)
goes_on [] [] a b e l = let f : ⊥ = omega (arith, l) in absurd f
goes_on [] (c ∷ t) a b e l = (c, t, refl, e)
goes_on (x ∷ s) [] a b e l = let f : ⊥ = omega (arith, l) in absurd f
goes_on (x ∷ s) (y ∷ t) a b e l =
    let same : s ++ a ≡ t ++ b = cc in
    let below : length s < length t = omega (arith, l) in
    let r = goes_on s t a b same below in
    (r.0, r.1, cc, r.3)

at_most : (s t after b : List ℕ) → ends_there s after ≡ true → s ++ after ≡ t ++ b → is_lexeme t ≡ true → (length s < length t) ⊎ (length t ≤ length s) → length t ≤ length s
at_most s t after b ends e l (inl longer) =
    let r = goes_on s t after b e longer in
    let h = none_longer r.1 s b r.0 (subst (λ (z : List ℕ). ends_there s z ≡ true) r.3 ends) in
    let k : is_lexeme (s ++ r.0 ∷ r.1) ≡ true = subst (λ (z : List ℕ). is_lexeme z ≡ true) r.2 l in
    let f : true ≡ false = sym k ∙ h in
    cc
at_most s t after b ends e l (inr shorter) = shorter

pub longest_by : (s after : List ℕ) → Lexeme s → opens_comment (s ++ after) ≡ false → ends_there s after ≡ true → IsLongest s (s ++ after)
longest_by s after lexeme other ends = record {
  lexeme = lexeme;
  after = after;
  front = refl;
  longest = λ t b e l. at_most s t after b ends e (tested t b (subst (λ (z : List ℕ). opens_comment z ≡ false) e other) l) (cases_lt (length s) (length t));
}

pub as_token : (before s after : List ℕ) (k : Kind) → Lexeme s → SpellsToken s k → begins_gap (first_byte (s ++ after)) ≡ false → opens_comment (s ++ after) ≡ false
    → ends_there s after ≡ true → IsToken before s (s ++ after) (record { kind = k; place = place_after before })
as_token before s after k lexeme spells gapless other ends = record {
  no_gap = no_gap before (s ++ after) gapless;
  longest = longest_by s after lexeme other ends;
  spells = spells;
  place = refl;
}

empty_lexeme : (s : List ℕ) → length s ≤ 0 → is_lexeme s ≡ true → ⊥
empty_lexeme [] l e = cc
empty_lexeme (c ∷ s) l e = omega (arith, l)

abbrev pub closes : List ℕ → Bool
closes [] = false
closes (c ∷ []) = false
closes (c ∷ d ∷ cs) = (nat_eq c 42 && nat_eq d 47) || closes (d ∷ cs)

closes_within : (front rest : List ℕ) → closes (front ++ (42 ∷ 47 ∷ rest)) ≡ true
closes_within [] rest = refl
closes_within (c ∷ []) rest = or_right (nat_eq c 42 && false) true refl
closes_within (c ∷ d ∷ front) rest = or_right (nat_eq c 42 && nat_eq d 47) (closes (d ∷ front ++ (42 ∷ 47 ∷ rest))) (closes_within (d ∷ front) rest)

pub is_open : (s : List ℕ) → closes s ≡ false → IsOpen s
is_open s none front rest e =
    let f : closes s ≡ true = rw (e, append_assoc front (codes "*/") rest) (closes_within front rest) in
    let g : true ≡ false = sym f ∙ none in
    cc

-- no lexeme stands at the start
pub no_lexeme : (rest : List ℕ) → opens_comment rest ≡ false → ends_there [] rest ≡ true → (s after : List ℕ) → rest ≡ s ++ after → Lexeme s → ⊥
no_lexeme rest other ends s after e lexeme =
    let l = at_most [] s rest after ends e (tested s after (subst (λ (z : List ℕ). opens_comment z ≡ false) e other) lexeme) (cases_lt 0 (length s)) in
    empty_lexeme s l (tested s after (subst (λ (z : List ℕ). opens_comment z ≡ false) e other) lexeme)
