-- Gaps: where one begins, and that none begins elsewhere.
use Rattle.std.proofs.Common.{◌≡◌, ℕ, ◌+◌, ◌-◌, ◌<◌, Bool, true, false, ◌&&◌, nat_eq, List, [], ◌∷◌, ◌++◌, length, get_or, take, drop, refl, sym, ap, ◌∙◌, subst, arith, length-append, append_assoc}
use Rattle.std.proofs.lemmas.List.{take_at, drop_at, take-append-drop, length-take, take_more, get_or-take, get_or-append-add}
use Rattle.std.proofs.{lemmas.Bool.and_from, lemmas.Bool.and_parts, lemmas.Bool.eqb-true, lemmas.Bool.Decides.nat_tests, lemmas.List.Folds.list_all-append}
use Rattle.std.specs.{List.list_all, List.prefix_len, Prelude.codes}
use Rattle.lra_syntax.specs.Lexeme.{is_word_byte, IsOpen}
use Rattle.lra_syntax.specs.Tokens.{is_blank, is_space_or_tab, in_line, IsGap, blank, line_comment, block_comment, skipped_line, NoGap, IsLineEnd, IsLineStart, IsWordEnd}
use Rattle.lra_lex.specs.{Places.fresh_after_bytes, Prefixes.opens_comment, Prefixes.IsCloseAt, Prefixes.IsFirstClose, Prefixes.IsInclude, Prefixes.BeginsGap, Prefixes.HasNoGap}
use Rattle.lra_lex.proofs.{LineLemmas.fresh_front, LineLemmas.front_fresh, RunLemmas.run_is, RunLemmas.run_exact, RunLemmas.Stops, RunLemmas.differ}

-- where a comment ends -------------------------------------------------------------------------------------------------------

zero_end : (n : ℕ) → n ≡ n + 0
zero_end n = omega arith

close_at : (text front rest : List ℕ) → text ≡ (front ++ codes "*/") ++ rest → (length front + 1 < length text) × IsCloseAt text (length front)
close_at text front rest e =
    let f : text ≡ front ++ (42 ∷ 47 ∷ rest) = e ∙ append_assoc front (codes "*/") rest in
    let n = ap (λ (z : List ℕ). length z) f in
    let a : get_or text (length front) 0 ≡ 42 = ap (λ (z : List ℕ). get_or z (length front) 0) f ∙ ap (λ (k : ℕ). get_or (front ++ (42 ∷ 47 ∷ rest)) k 0) (zero_end (length front)) ∙
    get_or-append-add front (42 ∷ 47 ∷ rest) 0 0 in
    let b : get_or text (length front + 1) 0 ≡ 47 = ap (λ (z : List ℕ). get_or z (length front + 1) 0) f ∙ get_or-append-add front (42 ∷ 47 ∷ rest) 1 0 in
    (omega (arith, n, length-append front (42 ∷ 47 ∷ rest)), (a, b))

pub open_text : (text : List ℕ) → ((k : ℕ) → k + 1 < length text → IsCloseAt text k → ⊥) → IsOpen text
open_text text h front rest e = let c = close_at text front rest e in h (length front) c.0 c.1

-- the text before the first `*/` is open, and so with its star
first_open : (text : List ℕ) (n : ℕ) → IsFirstClose text n → (take (n - 2) text ++ codes "*") ≡ take (n - 1) text
first_open text n c =
    let k : n - 2 < length text = omega (arith, c.at_least, c.within) in
    let e : n - 2 + 1 ≡ n - 1 = omega (arith, c.at_least) in
    let t = take_more text (n - 2) 0 k in
    ap (λ (z : ℕ). take (n - 2) text ++ z ∷ []) (sym c.closes.0) ∙ sym t ∙ ap (λ (z : ℕ). take z text) e

star_open : (text : List ℕ) (n : ℕ) → IsFirstClose text n → IsOpen (take (n - 2) text ++ codes "*")
star_open text n c front rest e =
    let s = sym (first_open text n c) ∙ e in
    let k = close_at (take (n - 1) text) front rest s in
    let long = length-take (n - 1) text in
    let lt : length front + 1 < n - 1 = omega (arith, k.0, long) in
    let lt' : length front < n - 1 = omega (arith, k.0, long) in
    c.none_before (length front) (omega (arith, lt, c.at_least))
    (sym (get_or-take (n - 1) text (length front) 0 lt') ∙ k.1.0, sym (get_or-take (n - 1) text (length front + 1) 0 lt) ∙ k.1.1)

-- gaps -----------------------------------------------------------------------------------------------------------------------

begins_gap : (fresh : Bool) (rest s a : List ℕ) (n : ℕ) → rest ≡ s ++ a → n ≡ length s → 0 < length s → ((before : List ℕ) → fresh ≡ fresh_after_bytes true before → IsGap before s a) →
    BeginsGap fresh rest n
begins_gap fresh rest s a n e f p g =
    let t : take n rest ≡ s = ap (take n) e ∙ take_at s a n (sym f) in
    let d : drop n rest ≡ a = ap (drop n) e ∙ drop_at s a n (sym f) in
    record {
      some = omega (arith, f);
      within = omega (arith, f, ap (λ (z : List ℕ). length z) e, length-append s a);
      is_gap = λ before h. rw (t, d) (g before h);
    }

first_and_rest : (rest : List ℕ) → 0 < length rest → rest ≡ get_or rest 0 0 ∷ drop 1 rest
first_and_rest [] h = absurd (omega arith)
first_and_rest (c ∷ rest) h = refl

two_and_rest : (rest : List ℕ) → 1 < length rest → rest ≡ get_or rest 0 0 ∷ get_or rest 1 0 ∷ drop 2 rest
two_and_rest [] h = absurd (omega arith)
two_and_rest (c ∷ []) h = absurd (omega arith)
two_and_rest (c ∷ d ∷ rest) h = refl

pub blank_gap : (fresh : Bool) (rest : List ℕ) → 0 < length rest → is_blank (get_or rest 0 0) ≡ true → BeginsGap fresh rest 1
blank_gap fresh rest h b = begins_gap fresh rest (get_or rest 0 0 ∷ []) (drop 1 rest) 1 (first_and_rest rest h) refl (omega arith) (λ before f. blank (get_or rest 0 0) refl b)

feed : (c : ℕ) → in_line c ≡ false → c ≡ 10
feed c h = grind (arith, nat_tests)

line_end : (after : List ℕ) → Stops in_line after → IsLineEnd after
line_end [] s = tt
line_end (c ∷ after) s = feed c s

pub line_gap : (fresh : Bool) (rest : List ℕ) → 1 < length rest → get_or rest 0 0 ≡ 47 → get_or rest 1 0 ≡ 47 → BeginsGap fresh rest (prefix_len in_line rest)
line_gap fresh rest h c d =
    let text = drop 2 rest in
    let r = run_is in_line text in
    let t = take (prefix_len in_line text) text in
    let a = drop (prefix_len in_line text) text in
    let e : rest ≡ 47 ∷ 47 ∷ text = two_and_rest rest h ∙ ap (λ (z : ℕ). z ∷ get_or rest 1 0 ∷ text) c ∙ ap (λ (z : ℕ). 47 ∷ z ∷ text) d in
    let f : rest ≡ (47 ∷ 47 ∷ t) ++ a = e ∙ ap (λ (z : List ℕ). 47 ∷ 47 ∷ z) r.parts in
    let n = ap (prefix_len in_line) f ∙ run_exact in_line (47 ∷ 47 ∷ t) a r.passes r.stops in
    begins_gap fresh rest (47 ∷ 47 ∷ t) a (prefix_len in_line rest) f n (omega arith) (λ before g. line_comment t refl r.passes (line_end a r.stops))

closed_text : (text : List ℕ) (n : ℕ) → IsFirstClose text n → text ≡ (take (n - 2) text ++ codes "*/") ++ drop n text
closed_text text n c =
    let k : n - 2 < length text = omega (arith, c.at_least, c.within) in
    let k' : n - 1 < length text = omega (arith, c.at_least, c.within) in
    let e : n - 2 + 1 ≡ n - 1 = omega (arith, c.at_least) in
    let e' : n - 1 + 1 ≡ n = omega (arith, c.at_least) in
    let t = take_more text (n - 2) 0 k in
    let t' = take_more text (n - 1) 0 k' in
    let star : take (n - 1) text ≡ take (n - 2) text ++ 42 ∷ [] = sym (first_open text n c) in
    let slash : get_or text (n - 1) 0 ≡ 47 = ap (λ (z : ℕ). get_or text z 0) (sym e) ∙ c.closes.1 in
    let whole : take n text ≡ (take (n - 2) text ++ 42 ∷ []) ++ 47 ∷ [] = ap (λ (z : ℕ). take z text) (sym e') ∙ t' ∙ ap (λ (z : List ℕ). z ++ get_or text (n - 1) 0 ∷ []) star ∙
    ap (λ (z : ℕ). (take (n - 2) text ++ 42 ∷ []) ++ z ∷ []) slash in
    sym (take-append-drop n text) ∙ ap (λ (z : List ℕ). z ++ drop n text) (whole ∙ append_assoc (take (n - 2) text) (42 ∷ []) (47 ∷ []))

pub block_gap : (fresh : Bool) (rest : List ℕ) (n : ℕ) → 1 < length rest → get_or rest 0 0 ≡ 47 → get_or rest 1 0 ≡ 42 → IsFirstClose (drop 2 rest) n → BeginsGap fresh rest (n + 2)
block_gap fresh rest n h c d f =
    let text = drop 2 rest in
    let e : rest ≡ 47 ∷ 42 ∷ text = two_and_rest rest h ∙ ap (λ (z : ℕ). z ∷ get_or rest 1 0 ∷ text) c ∙ ap (λ (z : ℕ). 47 ∷ z ∷ text) d in
    let inner = take (n - 2) text in
    let g : rest ≡ ((codes "/*" ++ inner) ++ codes "*/") ++ drop n text = e ∙ ap (λ (z : List ℕ). 47 ∷ 42 ∷ z) (closed_text text n f) in
    let size : length inner ≡ n - 2 = omega (arith, length-take (n - 2) text, f.within) in
    let long : n + 2 ≡ length ((codes "/*" ++ inner) ++ codes "*/") = omega (arith, length-append inner (codes "*/"), size, f.at_least) in
    begins_gap fresh rest ((codes "/*" ++ inner) ++ codes "*/") (drop n text) (n + 2) g long (omega arith) (λ before q. block_comment inner refl (star_open text n f))

-- `#include` -----------------------------------------------------------------------------------------------------------------

word_end : (after : List ℕ) → Stops is_word_byte after → IsWordEnd after
word_end [] s = tt
word_end (c ∷ after) s = s

word_stops : (after : List ℕ) → IsWordEnd after → Stops is_word_byte after
word_stops [] s = tt
word_stops (c ∷ after) s = s

abbrev pub include_text : List ℕ → List ℕ
include_text rest = drop (prefix_len is_space_or_tab (drop 1 rest)) (drop 1 rest)

abbrev pub include_word : List ℕ → List ℕ
include_word rest = take (prefix_len is_word_byte (include_text rest)) (include_text rest)

pub include_is : (rest : List ℕ) → take 1 rest ≡ codes "#" → include_word rest ≡ codes "include" → IsInclude rest
include_is rest e f =
    let r = run_is is_space_or_tab (drop 1 rest) in
    let w = run_is is_word_byte (include_text rest) in
    let blanks = take (prefix_len is_space_or_tab (drop 1 rest)) (drop 1 rest) in
    let text = drop (prefix_len is_word_byte (include_text rest)) (include_text rest) in
    let g : include_text rest ≡ codes "include" ++ text = w.parts ∙ ap (λ (z : List ℕ). z ++ text) f in
    let h : rest ≡ codes "#" ++ (blanks ++ (codes "include" ++ text)) = sym (take-append-drop 1 rest) ∙ ap (λ (z : List ℕ). z ++ drop 1 rest) e ∙
    ap (λ (z : List ℕ). codes "#" ++ z) (r.parts ∙ ap (λ (z : List ℕ). blanks ++ z) g) in
    record {
      blanks = blanks;
      text = text;
      parts = h ∙ ap (λ (z : List ℕ). codes "#" ++ z) (sym (append_assoc blanks (codes "include") text));
      only_blanks = r.passes;
      word_ends = word_end text w.stops;
    }

pub is_include : (rest : List ℕ) → IsInclude rest → (take 1 rest ≡ codes "#") × (include_word rest ≡ codes "include")
is_include rest i =
    let h : rest ≡ codes "#" ++ (i.blanks ++ (codes "include" ++ i.text)) = i.parts ∙ ap (λ (z : List ℕ). codes "#" ++ z) (append_assoc i.blanks (codes "include") i.text) in
    let b : drop 1 rest ≡ i.blanks ++ (codes "include" ++ i.text) = ap (drop 1) h in
    let n = ap (prefix_len is_space_or_tab) b ∙ run_exact is_space_or_tab i.blanks (codes "include" ++ i.text) i.only_blanks refl in
    let t : include_text rest ≡ codes "include" ++ i.text = rw (n, b) (drop_at i.blanks (codes "include" ++ i.text) (length i.blanks) refl) in
    let m = ap (prefix_len is_word_byte) t ∙ run_exact is_word_byte (codes "include") i.text refl (word_stops i.text i.word_ends) in
    (ap (take 1) h, rw (m, t) (take_at (codes "include") i.text 7 refl))

blanks_in_line : (blanks : List ℕ) → list_all is_space_or_tab blanks ≡ true → list_all in_line blanks ≡ true
blanks_in_line [] h = refl
blanks_in_line (c ∷ blanks) h =
    let k = and_parts (is_space_or_tab c) (list_all is_space_or_tab blanks) h in
    let l : in_line c ≡ true = grind (arith, nat_tests) in and_from (in_line c) (list_all in_line blanks) l (blanks_in_line blanks k.1)

pub include_in_line : (blanks text : List ℕ) → list_all is_space_or_tab blanks ≡ true → list_all in_line text ≡ true → list_all in_line (codes "#" ++ blanks ++ codes "include" ++ text) ≡ true
include_in_line blanks text b t =
    rw (list_all-append in_line (codes "#" ++ blanks ++ codes "include") text, list_all-append in_line (codes "#" ++ blanks) (codes "include"), list_all-append in_line (codes "#") blanks)
    (and_from (list_all in_line blanks && true) (list_all in_line text) (and_from (list_all in_line blanks) true (blanks_in_line blanks b) refl) t)

front_word_end : (t a : List ℕ) → IsWordEnd (t ++ a) → IsWordEnd t
front_word_end [] a h = tt
front_word_end (c ∷ t) a h = h

pub skip_gap : (fresh : Bool) (rest : List ℕ) → fresh ≡ true → IsInclude rest → BeginsGap fresh rest (prefix_len in_line rest)
skip_gap fresh rest f i =
    let r = run_is in_line i.text in
    let t = take (prefix_len in_line i.text) i.text in
    let a = drop (prefix_len in_line i.text) i.text in
    let s = codes "#" ++ i.blanks ++ codes "include" ++ t in
    let e : rest ≡ s ++ a = i.parts ∙ ap (λ (z : List ℕ). codes "#" ++ i.blanks ++ codes "include" ++ z) r.parts ∙ sym (append_assoc (codes "#" ++ i.blanks ++ codes "include") t a) in
    let all = include_in_line i.blanks t i.only_blanks r.passes in
    let n = ap (prefix_len in_line) e ∙ run_exact in_line s a all r.stops in
    begins_gap fresh rest s a (prefix_len in_line rest) e n (omega arith)
    (λ before g. skipped_line i.blanks t refl (fresh_front before (sym g ∙ f)) i.only_blanks (front_word_end t a (subst IsWordEnd r.parts i.word_ends)) r.passes (line_end a r.stops))

-- no gap ---------------------------------------------------------------------------------------------------------------------

include_of : (rest blanks text after : List ℕ) → rest ≡ (codes "#" ++ blanks ++ codes "include" ++ text) ++ after → list_all is_space_or_tab blanks ≡ true → IsWordEnd text → IsLineEnd after →
    IsInclude rest
include_of rest blanks text after e b w l = record {
  blanks = blanks;
  text = text ++ after;
  parts = e ∙ append_assoc (codes "#" ++ blanks ++ codes "include") text after;
  only_blanks = b;
  word_ends = elim text as (λ z. IsWordEnd z → IsWordEnd (z ++ after)) [
    | [] ↦ λ _. elim after as (λ z. IsLineEnd z → IsWordEnd z) [ [] ↦ λ _. tt | c ∷ cs ↦ λ k. rw k refl ] l
    | c ∷ cs ↦ λ k. k
  ] w;
}

no_gap : (before rest : List ℕ) → is_blank (get_or rest 0 0) ≡ false → (get_or rest 0 0 ≡ 47 → get_or rest 1 0 ≡ 47 → ⊥) → (opens_comment rest ≡ true → IsOpen (drop 2 rest))
    → (IsLineStart before → IsInclude rest → ⊥) → NoGap before rest
no_gap before rest b l o i gap after e (blank c f h) = let g : is_blank c ≡ false = subst (λ (z : List ℕ). is_blank (get_or z 0 0) ≡ false) (e ∙ ap (λ (z : List ℕ). z ++ after) f) b in differ h g
no_gap before rest b l o i gap after e (line_comment text f a k) =
    let g : rest ≡ (codes "//" ++ text) ++ after = e ∙ ap (λ (z : List ℕ). z ++ after) f in
    l (ap (λ (z : List ℕ). get_or z 0 0) g) (ap (λ (z : List ℕ). get_or z 1 0) g)
no_gap before rest b l o i gap after e (block_comment text f k) =
    let g : rest ≡ (codes "/*" ++ text ++ codes "*/") ++ after = e ∙ ap (λ (z : List ℕ). z ++ after) f in
    o (rw g refl) text after (ap (drop 2) g)
no_gap before rest b l o i gap after e (skipped_line blanks text f h k w t n) =
    i h (include_of rest blanks text after (e ∙ ap (λ (z : List ℕ). z ++ after) f) k w n)

sharp_first : (rest : List ℕ) → IsInclude rest → get_or rest 0 0 ≡ 47 → ⊥
sharp_first rest i c = let h : get_or rest 0 0 ≡ 35 = ap (λ (z : List ℕ). get_or z 0 0) (i.parts ∙ ap (λ (z : List ℕ). z ++ i.text) (append_assoc (codes "#") i.blanks (codes "include"))) in omega
    (arith, h, c)

slash_first : (rest : List ℕ) → opens_comment rest ≡ true → get_or rest 0 0 ≡ 47
slash_first rest h = eqb-true (get_or rest 0 0) 47 (and_parts (nat_eq (get_or rest 0 0) 47) (nat_eq (get_or rest 1 0) 42) h).0

pub no_close : (fresh : Bool) (rest : List ℕ) → 1 < length rest → get_or rest 0 0 ≡ 47 → get_or rest 1 0 ≡ 42 → ((k : ℕ) → k + 1 < length (drop 2 rest) → IsCloseAt (drop 2 rest) k → ⊥) →
    HasNoGap fresh rest
no_close fresh rest h c d k =
    let o = open_text (drop 2 rest) k in
    let e : rest ≡ 47 ∷ 42 ∷ drop 2 rest = two_and_rest rest h ∙ ap (λ (z : ℕ). z ∷ get_or rest 1 0 ∷ drop 2 rest) c ∙ ap (λ (z : ℕ). 47 ∷ z ∷ drop 2 rest) d in
    record {
      no_gap = λ before f. no_gap before rest (rw c refl) (λ _ x. omega (arith, x, d)) (λ _. o) (λ _ i. sharp_first rest i c);
      unclosed = λ _. (drop 2 rest, e, o);
    }

second_star : (rest : List ℕ) → opens_comment rest ≡ true → get_or rest 1 0 ≡ 42
second_star rest h = eqb-true (get_or rest 1 0) 42 (and_parts (nat_eq (get_or rest 0 0) 47) (nat_eq (get_or rest 1 0) 42) h).1

-- a slash that opens no comment
pub slash_no_gap : (fresh : Bool) (rest : List ℕ) → get_or rest 0 0 ≡ 47 → (get_or rest 1 0 ≡ 47 → ⊥) → (get_or rest 1 0 ≡ 42 → ⊥) → HasNoGap fresh rest
slash_no_gap fresh rest c slash star = record {
  no_gap = λ before f. no_gap before rest (rw c refl) (λ _ x. slash x) (λ x. absurd (star (second_star rest x))) (λ _ i. sharp_first rest i c);
  unclosed = λ x. absurd (star (second_star rest x));
}

pub else_no_gap : (fresh : Bool) (rest : List ℕ) → is_blank (get_or rest 0 0) ≡ false → (get_or rest 0 0 ≡ 47 → ⊥) → (fresh ≡ true → IsInclude rest → ⊥) → HasNoGap fresh rest
else_no_gap fresh rest b s i = record {
  no_gap = λ before f. no_gap before rest b (λ x _. s x) (λ x. absurd (s (slash_first rest x))) (λ x. i (f ∙ front_fresh before x));
  unclosed = λ x. absurd (s (slash_first rest x));
}
