-- Longest spellings.
use Rattle.std.proofs.Common.{◌≡◌, ℕ, ◌≤◌, Bool, true, false, not, ◌||◌, nat_le, List, [], ◌∷◌, ◌++◌, length, get_or, take, drop, Option, Some, None, refl, sym, ap, ◌∙◌, subst, arith, inl, inr, ◌⊎◌}
use Rattle.std.proofs.lemmas.Bool.{cases_lt, and_from, and_parts, leb-true, or_left, or_right}
use Rattle.std.proofs.{Common.length-append, lemmas.List.append-nil, lemmas.List.take_at, lemmas.List.take-append-drop, lemmas.List.length-take}
use Rattle.std.specs.{List.list_all, List.prefix_len, Prelude.codes}
use Rattle.lra_syntax.specs.Lexeme.{is_word_byte, is_letter, is_digit, mark_text, Lexeme, word, number_word, mark_word, unclosed}
use Rattle.lra_syntax.specs.{Tokens.IsLongest, declared.tokens.Mark.Mark}
use Rattle.lra_lex.specs.Prefixes.{opens_comment, found_mark, operator_at}
use Rattle.lra_lex.proofs.MarkLemmas.{mark_wordy, mark_short, mark_some, found_is, found_none}
use Rattle.lra_lex.proofs.RunLemmas.{IsRun, differ, run_longest, run_exact}

pub letter_is : (c : ℕ) → is_letter c ≡ true → is_word_byte c ≡ true
letter_is c h = or_left (is_letter c) (is_digit c) h

pub digit_is : (c : ℕ) → is_digit c ≡ true → is_word_byte c ≡ true
digit_is c h = or_right (is_letter c) (is_digit c) h

or_second : (a b : Bool) → (a || b) ≡ true → a ≡ false → b ≡ true
or_second true b h e = absurd (cc)
or_second false b h e = h

pub not_or : (a b : Bool) → (not a || b) ≡ true → a ≡ true → b ≡ true
not_or true b h e = h
not_or false b h e = absurd (cc)

-- a lexeme that begins like a word is one run
wordy : (t : List ℕ) → Lexeme t → is_word_byte (get_or t 0 0) ≡ true → list_all is_word_byte t ≡ true
wordy [] l h = refl
wordy (c ∷ cs) (word w) h = and_from (is_word_byte c) (list_all is_word_byte cs) h (and_parts (is_letter c) (list_all is_word_byte cs) w).1
wordy (c ∷ cs) (number_word w) h = and_from (is_word_byte c) (list_all is_word_byte cs) h (and_parts (is_digit c) (list_all is_word_byte cs) w).1
wordy (c ∷ cs) (mark_word m e) h = subst (λ (z : List ℕ). list_all is_word_byte z ≡ true) (sym e)
    (not_or (is_word_byte (get_or (mark_text m) 0 0)) (list_all is_word_byte (mark_text m)) (mark_wordy m) (subst (λ (z : List ℕ). is_word_byte (get_or z 0 0) ≡ true) e h))
wordy (c ∷ cs) (unclosed u) h = let f : is_word_byte 47 ≡ true = subst (λ (z : List ℕ). is_word_byte (get_or z 0 0) ≡ true) u.1 h in absurd (cc)

-- the run of a word is its longest spelling
longest_run : (rest t b s after : List ℕ) → IsRun is_word_byte rest s after → is_word_byte (get_or rest 0 0) ≡ true → rest ≡ t ++ b → Lexeme t → length t ≤ length s
longest_run rest [] b s after r h e l = omega arith
longest_run rest (c ∷ t) b s after r h e l =
    let k : is_word_byte c ≡ true = rw e at h in
    let w = wordy (c ∷ t) l k in
    let n = run_longest is_word_byte (c ∷ t) b w in
    let m = run_exact is_word_byte s after r.passes r.stops in
    let same : prefix_len is_word_byte ((c ∷ t) ++ b) ≡ prefix_len is_word_byte (s ++ after) = ap (prefix_len is_word_byte) (sym e ∙ r.parts) in
    omega (arith, n, m, same)

pub longest_word : (rest s after : List ℕ) → IsRun is_word_byte rest s after → is_word_byte (get_or rest 0 0) ≡ true → Lexeme s → IsLongest s rest
longest_word rest s after r h l = record { lexeme = l; after = after; front = r.parts; longest = λ t b e k. longest_run rest t b s after r h e k }

-- all that is left is its longest spelling
pub longest_whole : (rest : List ℕ) → Lexeme rest → IsLongest rest rest
longest_whole rest l = record { lexeme = l; after = []; front = sym (append-nil rest); longest = λ t b e k. let f = ap (λ (z : List ℕ). length z) e in omega (arith, f, length-append t b) }

-- operators --------------------------------------------------------------------------------------------------------------

-- at another byte than a word's only marks begin, if it opens no comment
only_mark : (t b : List ℕ) → Lexeme t → is_word_byte (get_or (t ++ b) 0 0) ≡ false → opens_comment (t ++ b) ≡ false → (m : Mark) × (t ≡ mark_text m)
only_mark [] b (word w) h o = absurd (cc)
only_mark [] b (number_word w) h o = absurd (cc)
only_mark [] b (mark_word m e) h o = (m, e)
only_mark [] b (unclosed u) h o = let f : [] ≡ 47 ∷ 42 ∷ u.0 = u.1 in absurd (cc)
only_mark (c ∷ cs) b (word w) h o = absurd (differ (letter_is c (and_parts (is_letter c) (list_all is_word_byte cs) w).0) h)
only_mark (c ∷ cs) b (number_word w) h o = absurd (differ (digit_is c (and_parts (is_digit c) (list_all is_word_byte cs) w).0) h)
only_mark (c ∷ cs) b (mark_word m e) h o = (m, e)
only_mark (c ∷ cs) b (unclosed u) h o = let f : opens_comment ((codes "/*" ++ u.0) ++ b) ≡ false = subst (λ (z : List ℕ). opens_comment (z ++ b) ≡ false) u.1 o in absurd (cc)

option_cases : (o : Option Mark) → (o ≡ None) ⊎ ((m : Mark) × (o ≡ Some m))
option_cases None = inl refl
option_cases (Some m) = inr (m, refl)

at_most_two : (m : Mark) → is_word_byte (get_or (mark_text m) 0 0) ≡ false → length (mark_text m) ≤ 2
at_most_two m h = leb-true (length (mark_text m)) 2 (or_second (is_word_byte (get_or (mark_text m) 0 0)) (nat_le (length (mark_text m)) 2) (mark_short m) h)

-- an operator at the start is its first byte or its first two
short_front : (rest t b : List ℕ) (m : Mark) → rest ≡ t ++ b → t ≡ mark_text m → is_word_byte (get_or rest 0 0) ≡ false
    → (1 ≤ length t) × (length t ≤ 2) × (take (length t) rest ≡ mark_text m)
short_front rest [] b m e f h = let k = leb-true 1 (length (mark_text m)) (mark_some m) in let g = ap (λ (z : List ℕ). length z) f in absurd (omega (arith, k, g))
short_front rest (c ∷ t) b m e f h =
    let k : is_word_byte (get_or (mark_text m) 0 0) ≡ false = subst (λ (z : List ℕ). is_word_byte (get_or z 0 0) ≡ false) f (rw e at h) in
    let g = ap (λ (z : List ℕ). length z) f in
    let two = at_most_two m k in
    (omega arith, omega (arith, two, g), ap (take (length (c ∷ t))) e ∙ take_at (c ∷ t) b (length (c ∷ t)) refl ∙ f)

none_at_two : (rest t b : List ℕ) (m : Mark) → rest ≡ t ++ b → t ≡ mark_text m → is_word_byte (get_or rest 0 0) ≡ false → found_mark (take 2 rest) ≡ None → length t ≤ 1
none_at_two rest t b m e f h n =
    let s = short_front rest t b m e f h in
    elim (cases_lt (length t) 2) [
      | inl lt ↦ omega (arith, lt)
      | inr ge ↦ let two : length t ≡ 2 = omega (arith, s.1, ge) in
          let k : take 2 rest ≡ mark_text m = subst (λ (z : ℕ). take z rest ≡ mark_text m) two s.2 in absurd (found_none (take 2 rest) n m k)
    ]

pub operator_found : (rest : List ℕ) (m : Mark) → is_word_byte (get_or rest 0 0) ≡ false → opens_comment rest ≡ false → operator_at rest ≡ Some m → IsLongest (mark_text m) rest
operator_found rest m h o e = elim (option_cases (found_mark (take 2 rest))) [
  | inl n ↦
      let f : found_mark (take 1 rest) ≡ Some m = rw n at e in
      let s = found_is (take 1 rest) m f in
      let g = ap (λ (z : List ℕ). length z) s in
      record {
        lexeme = mark_word m refl;
        after = drop 1 rest;
        front = sym (take-append-drop 1 rest) ∙ ap (λ (z : List ℕ). z ++ drop 1 rest) s;
        longest = λ t b k l.
            let u = only_mark t b l (rw k at h) (rw k at o) in
            let v = none_at_two rest t b u.0 k u.1 h n in
            let w = ap (λ (z : List ℕ). length z) k in omega (arith, v, w, g, length-take 1 rest, length-append t b);
      }
  | inr (j, n) ↦
      let f : Some j ≡ Some m = rw n at e in
      let q : j ≡ m = cc in
      let s : take 2 rest ≡ mark_text m = found_is (take 2 rest) m (n ∙ f) in
      let g = ap (λ (z : List ℕ). length z) s in
      record {
        lexeme = mark_word m refl;
        after = drop 2 rest;
        front = sym (take-append-drop 2 rest) ∙ ap (λ (z : List ℕ). z ++ drop 2 rest) s;
        longest = λ t b k l.
            let u = only_mark t b l (rw k at h) (rw k at o) in
            let v = short_front rest t b u.0 k u.1 h in
            let w = ap (λ (z : List ℕ). length z) k in omega (arith, v.1, w, g, length-take 2 rest, length-append t b);
      }
]

pub operator_none : (rest : List ℕ) → is_word_byte (get_or rest 0 0) ≡ false → opens_comment rest ≡ false → operator_at rest ≡ None → (t b : List ℕ) → rest ≡ t ++ b → Lexeme t → ⊥
operator_none rest h o e t b k l =
    let u = only_mark t b l (rw k at h) (rw k at o) in
    let v = short_front rest t b u.0 k u.1 h in
    elim (option_cases (found_mark (take 2 rest))) [
      | inr (j, n) ↦ let f : Some j ≡ None = rw n at e in absurd (cc)
      | inl n ↦
          let f : found_mark (take 1 rest) ≡ None = rw n at e in
          let w = none_at_two rest t b u.0 k u.1 h n in
          let one : length t ≡ 1 = omega (arith, w, v.0) in
          found_none (take 1 rest) f u.0 (subst (λ (z : ℕ). take z rest ≡ mark_text u.0) one v.2)
    ]
