-- A source has one reading: at each place one gap, or one token with its spelling, or one fault.
use Rattle.std.proofs.Common.{◌≡◌, ℕ, ◌+◌, ◌<◌, ◌≤◌, true, false, ◌&&◌, nat_eq, List, [], ◌∷◌, ◌++◌, length, get_or, take, drop, refl, sym, ap, ◌∙◌, subst, arith, inl, inr, ◌⊎◌, append_assoc}
use Rattle.std.proofs.Common.{length-append}
use Rattle.std.proofs.{lemmas.Bool.and_parts, lemmas.Bool.cases_Bool, lemmas.Bool.leb-true, lemmas.Bool.Decides.nat_tests, lemmas.List.append-nil, lemmas.List.take_at, lemmas.List.append_cancel_left}
use Rattle.std.specs.{List.list_all, List.prefix_len, Prelude.codes, Prelude.if◌then◌else◌}
use Rattle.lra_base.specs.declared.refusals.Cause.TheVariants.{BadByte, BadLiteral}
use Rattle.lra_base.specs.{Places.place_after, declared.number_types.NumberType.NumberType, declared.refusals.Cause.Cause, declared.refusals.Place.Place}
use Rattle.lra_syntax.specs.Lexeme.{is_letter, is_digit, is_word_byte, is_name_word, is_number_word, mark_text, is_among, named_words, further_words, IsOpen, IsUnclosed, IsLiteral, greatest_literal}
use Rattle.lra_syntax.specs.Lexeme.{Lexeme, word, number_word, mark_word, unclosed, SpellsToken, name, literal_text, mark_of, reserved, comment}
use Rattle.lra_syntax.specs.Tokens.{is_blank, in_line, IsLineEnd, IsGap, blank, line_comment, block_comment, skipped_line, IsLongest, IsToken, Fragment, gap, token, bytes_of, tokens_of, IsReading}
use Rattle.lra_syntax.specs.{Tokens.IsFaulty, Tokens.end_token, Tokens.OneReading, declared.tokens.Kind.Kind, declared.tokens.Mark.Mark, declared.tokens.Token.Token}
use Rattle.lra_syntax.specs.declared.tokens.Mark.TheVariants as mark
use Rattle.lra_syntax.specs.declared.tokens.Kind.TheVariants as kind
use Rattle.lra_lex.specs.Prefixes.{opens_comment}
use Rattle.lra_lex.proofs.MarkLemmas.{mark_one, mark_some, mark_named, mark_no_number, mark_no_further, among_all}
use Rattle.lra_lex.proofs.{GapLemmas.include_in_line, LexemeLemmas.not_or, LiteralLemmas.literal_one, LiteralLemmas.type_one, RunLemmas.run_exact, RunLemmas.Stops, RunLemmas.differ}

-- gaps -----------------------------------------------------------------------------------------------------------------------

-- how many bytes there are up to the end of the first `*/`
abbrev close_size : List ℕ → ℕ
close_size [] = 0
close_size (c ∷ []) = 0
close_size (c ∷ d ∷ cs) = if nat_eq c 42 && nat_eq d 47 then 2 else 1 + close_size (d ∷ cs)

open_more : (c : ℕ) (text : List ℕ) → IsOpen ((c ∷ text) ++ codes "*") → IsOpen (text ++ codes "*")
open_more c text o front rest e = o (c ∷ front) rest (ap (λ (z : List ℕ). c ∷ z) e)

no_close : (c d : ℕ) (text : List ℕ) → IsOpen (c ∷ d ∷ text) → (nat_eq c 42 && nat_eq d 47) ≡ false
no_close c d text o = elim (cases_Bool (nat_eq c 42 && nat_eq d 47)) [
  | inl h ↦
      let k = and_parts (nat_eq c 42) (nat_eq d 47) h in
      let star : c ≡ 42 = grind (arith, nat_tests) in
      let slash : d ≡ 47 = grind (arith, nat_tests) in
      let e : c ∷ d ∷ text ≡ (codes "" ++ codes "*/") ++ text = rw (star, slash) refl in absurd (o (codes "") text e)
  | inr h ↦ h
]

close_is : (text after : List ℕ) → IsOpen (text ++ codes "*") → close_size ((text ++ codes "*/") ++ after) ≡ length text + 2
close_is [] after o = refl
close_is (c ∷ []) after o = let n = no_close c 42 [] o in rw n refl
close_is (c ∷ d ∷ text) after o =
    let r = close_is (d ∷ text) after (open_more c (d ∷ text) o) in
    let n = no_close c d (text ++ codes "*") o in rw n (omega (arith, r))

-- how many bytes a gap has there
abbrev gap_size : List ℕ → ℕ
gap_size s = if is_blank (get_or s 0 0) then 1 else (if opens_comment s then 2 + close_size (drop 2 s) else prefix_len in_line s)

line_stops : (after : List ℕ) → IsLineEnd after → Stops in_line after
line_stops [] h = tt
line_stops (c ∷ after) h = rw h refl

gap_long : (before g after : List ℕ) → IsGap before g after → length g ≡ gap_size (g ++ after)
gap_long before g after (blank c e b) = rw (e, b) refl
gap_long before g after (line_comment text e a l) = let n = run_exact in_line (codes "//" ++ text) after a (line_stops after l) in rw e (sym n)
gap_long before g after (block_comment text e o) =
    let n = close_is text after o in rw e (omega (arith, n, length-append text (codes "*/")))
gap_long before g after (skipped_line blanks text e f b w t l) =
    let n = run_exact in_line (codes "#" ++ blanks ++ codes "include" ++ text) after (include_in_line blanks text b t) (line_stops after l) in rw e (sym n)

front_is : (rest s a : List ℕ) → rest ≡ s ++ a → take (length s) rest ≡ s
front_is rest s a e = ap (take (length s)) e ∙ take_at s a (length s) refl

same_front : (s a t b : List ℕ) → s ++ a ≡ t ++ b → length s ≡ length t → s ≡ t
same_front s a t b e n = sym (front_is (s ++ a) s a refl) ∙ ap (λ (k : ℕ). take k (s ++ a)) n ∙ front_is (s ++ a) t b e

gap_one : (before g a h b : List ℕ) → g ++ a ≡ h ++ b → IsGap before g a → IsGap before h b → g ≡ h
gap_one before g a h b e k l = same_front g a h b e (gap_long before g a k ∙ ap gap_size e ∙ sym (gap_long before h b l))

gap_some : (before g a : List ℕ) → IsGap before g a → 0 < length g
gap_some before g a (blank c e b) = rw e (omega arith)
gap_some before g a (line_comment text e k l) = rw e (omega arith)
gap_some before g a (block_comment text e o) = rw e (omega arith)
gap_some before g a (skipped_line blanks text e f b w t l) = rw e (omega arith)

-- spellings ------------------------------------------------------------------------------------------------------------------

longest_one : (s t rest : List ℕ) → IsLongest s rest → IsLongest t rest → s ≡ t
longest_one s t rest h k =
    let n : length s ≡ length t = omega (arith, h.longest t k.after k.front k.lexeme, k.longest s h.after h.front h.lexeme) in
    same_front s h.after t k.after (sym h.front ∙ k.front) n

lexeme_some : (s : List ℕ) → Lexeme s → 0 < length s
lexeme_some [] (word w) = absurd (cc)
lexeme_some [] (number_word w) = absurd (cc)
lexeme_some [] (mark_word m e) = let k = leb-true 1 (length (mark_text m)) (mark_some m) in let n = ap (λ (z : List ℕ). length z) e in omega (arith, k, n)
lexeme_some [] (unclosed u) = let n = ap (λ (z : List ℕ). length z) u.1 in omega (arith, n)
lexeme_some (c ∷ s) l = omega arith

not_letter_digit : (c : ℕ) → is_letter c ≡ true → is_digit c ≡ true → ⊥
not_letter_digit c h k = grind (arith, nat_tests)

word_number : (s : List ℕ) → is_name_word s ≡ true → is_number_word s ≡ true → ⊥
word_number [] h k = absurd (cc)
word_number (c ∷ s) h k = not_letter_digit c (and_parts (is_letter c) (list_all is_word_byte s) h).0 (and_parts (is_digit c) (list_all is_word_byte s) k).0

name_mark : (s : List ℕ) (m : Mark) → is_name_word s ≡ true → is_among s named_words ≡ false → s ≡ mark_text m → ⊥
name_mark s m w n e = differ (not_or (is_name_word (mark_text m)) (is_among (mark_text m) named_words) (mark_named m) (rw e at w)) (rw e at n)

comment_word : (s : List ℕ) → is_name_word s ≡ true → IsUnclosed s → ⊥
comment_word s w u = let h : is_name_word (codes "/*" ++ u.0) ≡ true = rw u.1 at w in absurd (cc)

comment_number : (s : List ℕ) → is_number_word s ≡ true → IsUnclosed s → ⊥
comment_number s w u = let h : is_number_word (codes "/*" ++ u.0) ≡ true = rw u.1 at w in absurd (cc)

number_mark : (s : List ℕ) (m : Mark) → is_number_word s ≡ true → s ≡ mark_text m → ⊥
number_mark s m w e = differ (rw e at w) (mark_no_number m)

further_word : (s : List ℕ) → is_among s further_words ≡ true → is_name_word s ≡ true
further_word s h = among_all is_name_word s further_words refl h

mark_no_comment : (m : Mark) → opens_comment (mark_text m) ≡ false
mark_no_comment mark.Plus = refl
mark_no_comment _ = refl

comment_mark : (s : List ℕ) (m : Mark) → s ≡ mark_text m → IsUnclosed s → ⊥
comment_mark s m e u = let h : opens_comment (mark_text m) ≡ true = rw (sym e ∙ u.1) refl in differ h (mark_no_comment m)

spells_one : (s : List ℕ) (k l : Kind) → SpellsToken s k → SpellsToken s l → k ≡ l
spells_one s k l (name w n f) (name v p g) = refl
spells_one s k l (name w n f) (literal_text x t v i is b) = absurd (word_number s w v)
spells_one s k l (name w n f) (mark_of m e) = absurd (name_mark s m w n e)
spells_one s k l (name w n f) (reserved h) = absurd (differ h f)
spells_one s k l (name w n f) (comment u) = absurd (comment_word s w u)
spells_one s k l (literal_text x t v i is b) (name w n f) = absurd (word_number s w v)
spells_one s k l (literal_text x t v i is b) (literal_text y u w j same c) =
    ap (λ (z : NumberType). kind.Number z x) (type_one s x y t u i j is same) ∙ ap (λ (z : ℕ). kind.Number u z) (literal_one s x y i j)
spells_one s k l (literal_text x t v i is b) (mark_of m e) = absurd (number_mark s m v e)
spells_one s k l (literal_text x t v i is b) (reserved h) = absurd (word_number s (further_word s h) v)
spells_one s k l (literal_text x t v i is b) (comment u) = absurd (comment_number s v u)
spells_one s k l (mark_of m e) (name w n f) = absurd (name_mark s m w n e)
spells_one s k l (mark_of m e) (literal_text x t v i is b) = absurd (number_mark s m v e)
spells_one s k l (mark_of m e) (mark_of n f) = ap kind.Mark (mark_one m n (sym e ∙ f))
spells_one s k l (mark_of m e) (reserved h) = absurd (differ (rw e at h) (mark_no_further m))
spells_one s k l (mark_of m e) (comment u) = absurd (comment_mark s m e u)
spells_one s k l (reserved h) (name w n f) = absurd (differ h f)
spells_one s k l (reserved h) (literal_text x t v i is b) = absurd (word_number s (further_word s h) v)
spells_one s k l (reserved h) (mark_of m e) = absurd (differ (rw e at h) (mark_no_further m))
spells_one s k l (reserved h) (reserved i) = refl
spells_one s k l (reserved h) (comment u) = absurd (comment_word s (further_word s h) u)
spells_one s k l (comment u) (name w n f) = absurd (comment_word s w u)
spells_one s k l (comment u) (literal_text x t v i is b) = absurd (comment_number s v u)
spells_one s k l (comment u) (mark_of m e) = absurd (comment_mark s m e u)
spells_one s k l (comment u) (reserved h) = absurd (comment_word s (further_word s h) u)
spells_one s k l (comment u) (comment v) = refl

-- readings -------------------------------------------------------------------------------------------------------------------

-- nothing is left, or a fault begins what is left
abbrev IsFinal : List ℕ → List ℕ → Type 0
IsFinal before rest = (rest ≡ []) ⊎ ((c : Cause) × IsFaulty c before rest)

final_gap : (before rest g a : List ℕ) → IsFinal before rest → rest ≡ g ++ a → IsGap before g a → ⊥
final_gap before rest g a (inl e) f h = let n = gap_some before g a h in let k = ap (λ (z : List ℕ). length z) (sym e ∙ f) in omega (arith, n, k, length-append g a)
final_gap before rest g a (inr (BadByte, q)) f h = q.1 g a f h
final_gap before rest g a (inr (BadLiteral, q)) f h = q.0 g a f h
final_gap before rest g a (inr (_, q)) f h = absurd q

no_number : (s : List ℕ) (k : Kind) → is_number_word s ≡ true → ((n : ℕ) → IsLiteral s n → n ≤ greatest_literal → ⊥) → SpellsToken s k → ⊥
no_number s k w h (name v n f) = word_number s v w
no_number s k w h (literal_text x t v i is b) = h x i b
no_number s k w h (mark_of m e) = number_mark s m w e
no_number s k w h (reserved r) = word_number s (further_word s r) w
no_number s k w h (comment u) = comment_number s w u

final_token : (before rest s a : List ℕ) (t : Token) → IsFinal before rest → rest ≡ s ++ a → IsToken before s (s ++ a) t → ⊥
final_token before rest s a t (inl e) f h = let n = lexeme_some s h.longest.lexeme in let k = ap (λ (z : List ℕ). length z) (sym e ∙ f) in omega (arith, n, k, length-append s a)
final_token before rest s a t (inr (BadByte, q)) f h = q.2 s a f h.longest.lexeme
final_token before rest s a t (inr (BadLiteral, q)) f h =
    let same = longest_one q.1 s rest q.2 (subst (λ (z : List ℕ). IsLongest s z) (sym f) h.longest) in
    no_number q.1 t.kind q.3 q.4 (subst (λ (z : List ℕ). SpellsToken z t.kind) (sym same) h.spells)
final_token before rest s a t (inr (_, q)) f h = absurd q

token_as : Kind → Place → Token
token_as k p = record { kind = k; place = p }

token_same : (t u : Token) → t.kind ≡ u.kind → t.place ≡ u.place → t ≡ u
unfolding token_as
token_same t u e f = ap (λ (z : Kind). token_as z t.place) e ∙ ap (λ (z : Place). token_as u.kind z) f

token_one : (before s t rest : List ℕ) (k l : Token) → IsToken before s rest k → IsToken before t rest l → (s ≡ t) × (k ≡ l)
token_one before s t rest k l h i =
    let same = longest_one s t rest h.longest i.longest in
    let kinds = spells_one s k.kind l.kind h.spells (subst (λ (z : List ℕ). SpellsToken z l.kind) (sym same) i.spells) in
    (same, token_same k l kinds (h.place ∙ sym i.place))

-- after pieces that are the same
abbrev Same : List Fragment → List Fragment → List ℕ → List ℕ → Type 0
Same ps qs r u = (ps ≡ qs) × (r ≡ u)

one : (before : List ℕ) (ps qs : List Fragment) (r u : List ℕ) → bytes_of ps ++ r ≡ bytes_of qs ++ u → IsReading before ps r → IsReading before qs u
    → IsFinal (before ++ bytes_of ps) r → IsFinal (before ++ bytes_of qs) u → Same ps qs r u
one before [] [] r u e k l f g = (refl, e)
one before [] (gap h ∷ qs) r u e k l f g =
    absurd (final_gap before r h (bytes_of qs ++ u) (subst (λ (z : List ℕ). IsFinal z r) (append-nil before) f) (e ∙ append_assoc h (bytes_of qs) u) l.0)
one before [] (token t y ∷ qs) r u e k l f g =
    absurd (final_token before r t (bytes_of qs ++ u) y (subst (λ (z : List ℕ). IsFinal z r) (append-nil before) f) (e ∙ append_assoc t (bytes_of qs) u) l.0)
one before (gap h ∷ ps) [] r u e k l f g =
    absurd (final_gap before u h (bytes_of ps ++ r) (subst (λ (z : List ℕ). IsFinal z u) (append-nil before) g) (sym e ∙ append_assoc h (bytes_of ps) r) k.0)
one before (token s x ∷ ps) [] r u e k l f g =
    absurd (final_token before u s (bytes_of ps ++ r) x (subst (λ (z : List ℕ). IsFinal z u) (append-nil before) g) (sym e ∙ append_assoc s (bytes_of ps) r) k.0)
one before (gap s ∷ ps) (gap t ∷ qs) r u e k l f g =
    let whole : s ++ (bytes_of ps ++ r) ≡ t ++ (bytes_of qs ++ u) = sym (append_assoc s (bytes_of ps) r) ∙ e ∙ append_assoc t (bytes_of qs) u in
    let same = gap_one before s (bytes_of ps ++ r) t (bytes_of qs ++ u) whole k.0 l.0 in
    let left = append_cancel_left s (bytes_of ps ++ r) (bytes_of qs ++ u) (whole ∙ ap (λ (z : List ℕ). z ++ (bytes_of qs ++ u)) (sym same)) in
    let rest = one (before ++ s) ps qs r u left k.1 (subst (λ (z : List ℕ). IsReading (before ++ z) qs u) (sym same) l.1)
    (subst (λ (z : List ℕ). IsFinal z r) (sym (append_assoc before s (bytes_of ps))) f)
    (subst (λ (z : List ℕ). IsFinal z u) (ap (λ (z : List ℕ). before ++ (z ++ bytes_of qs)) (sym same) ∙ sym (append_assoc before s (bytes_of qs))) g) in
    (ap (λ (z : List ℕ). gap z ∷ ps) same ∙ ap (λ (z : List Fragment). gap t ∷ z) rest.0, rest.1)
one before (gap s ∷ ps) (token t y ∷ qs) r u e k l f g =
    let whole : s ++ (bytes_of ps ++ r) ≡ t ++ (bytes_of qs ++ u) = sym (append_assoc s (bytes_of ps) r) ∙ e ∙ append_assoc t (bytes_of qs) u in
    absurd (l.0.no_gap s (bytes_of ps ++ r) (sym whole) k.0)
one before (token s x ∷ ps) (gap t ∷ qs) r u e k l f g =
    let whole : s ++ (bytes_of ps ++ r) ≡ t ++ (bytes_of qs ++ u) = sym (append_assoc s (bytes_of ps) r) ∙ e ∙ append_assoc t (bytes_of qs) u in
    absurd (k.0.no_gap t (bytes_of qs ++ u) whole l.0)
one before (token s x ∷ ps) (token t y ∷ qs) r u e k l f g =
    let whole : s ++ (bytes_of ps ++ r) ≡ t ++ (bytes_of qs ++ u) = sym (append_assoc s (bytes_of ps) r) ∙ e ∙ append_assoc t (bytes_of qs) u in
    let both = token_one before s t (s ++ (bytes_of ps ++ r)) x y k.0 (subst (λ (z : List ℕ). IsToken before t z y) (sym whole) l.0) in
    let left = append_cancel_left s (bytes_of ps ++ r) (bytes_of qs ++ u) (whole ∙ ap (λ (z : List ℕ). z ++ (bytes_of qs ++ u)) (sym both.0)) in
    let rest = one (before ++ s) ps qs r u left k.1 (subst (λ (z : List ℕ). IsReading (before ++ z) qs u) (sym both.0) l.1)
    (subst (λ (z : List ℕ). IsFinal z r) (sym (append_assoc before s (bytes_of ps))) f)
    (subst (λ (z : List ℕ). IsFinal z u) (ap (λ (z : List ℕ). before ++ (z ++ bytes_of qs)) (sym both.0) ∙ sym (append_assoc before s (bytes_of qs))) g) in
    (ap (λ (z : List ℕ). token z x ∷ ps) both.0 ∙ ap (λ (z : Token). token t z ∷ ps) both.1 ∙ ap (λ (z : List Fragment). token t y ∷ z) rest.0, rest.1)

-- one fault at a place
cause_one : (c d : Cause) (before rest : List ℕ) → IsFaulty c before rest → IsFaulty d before rest → c ≡ d
cause_one BadByte BadByte before rest f g = refl
cause_one BadByte BadLiteral before rest f g = absurd (f.2 g.1 g.2.after g.2.front g.2.lexeme)
cause_one BadLiteral BadByte before rest f g = absurd (g.2 f.1 f.2.after f.2.front f.2.lexeme)
cause_one BadLiteral BadLiteral before rest f g = refl
cause_one BadByte _ before rest f g = absurd g
cause_one BadLiteral _ before rest f g = absurd g
cause_one _ d before rest f g = absurd f

not_empty : (c : Cause) (before : List ℕ) → IsFaulty c before [] → ⊥
not_empty BadByte before f = f.0 refl
not_empty BadLiteral before f = let n = lexeme_some f.1 f.2.lexeme in let k = ap (λ (z : List ℕ). length z) f.2.front in omega (arith, n, k, length-append f.1 f.2.after)
not_empty _ before f = absurd f

pub one_reading : OneReading
one_reading source = (
  (λ T U l k.
      let e : bytes_of l.0 ++ [] ≡ bytes_of k.0 ++ [] = append-nil (bytes_of l.0) ∙ sym l.1 ∙ k.1 ∙ sym (append-nil (bytes_of k.0)) in
      let same = one [] l.0 k.0 [] [] e l.2 k.2 (inl refl) (inl refl) in
      l.3 ∙ ap (λ (z : List Fragment). tokens_of z ++ end_token source ∷ []) same.0 ∙ sym k.3),
  (λ c d p q l k.
      let same = one [] l.0 k.0 l.1 k.1 (sym l.2 ∙ k.2) l.3 k.3 (inr (c, l.4)) (inr (d, k.4)) in
      let there : IsFaulty d (bytes_of l.0) l.1 = subst (λ (z : List Fragment). IsFaulty d (bytes_of z) l.1) (sym same.0) (subst (λ (z : List ℕ). IsFaulty d (bytes_of k.0) z) (sym same.1) k.4) in
      (cause_one c d (bytes_of l.0) l.1 l.4 there, l.5 ∙ ap (λ (z : List Fragment). place_after (bytes_of z)) same.0 ∙ sym k.5)),
  (λ T c p l k.
      let e : bytes_of l.0 ++ [] ≡ bytes_of k.0 ++ k.1 = append-nil (bytes_of l.0) ∙ sym l.1 ∙ k.2 in
      let same = one [] l.0 k.0 [] k.1 e l.2 k.3 (inl refl) (inr (c, k.4)) in
      not_empty c (bytes_of k.0) (subst (λ (z : List ℕ). IsFaulty c (bytes_of k.0) z) (sym same.1) k.4)),
)
