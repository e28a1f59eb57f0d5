-- The names among the tokens of a source are words, and there are no more tokens than bytes and the end.
use Rattle.std.proofs.Common.{◌≡◌, ℕ, ◌+◌, ◌≤◌, ◌<◌, true, List, [], ◌∷◌, ◌++◌, length, refl, ap, sym, subst, arith, length-append}
use Rattle.std.proofs.lemmas.Bool.{leb-true}
use Rattle.std.specs.{List.AllByRecursion, Prelude.nat_le, Prelude.⊤}
use Rattle.lra_report.specs.Crates.lra_syntax.Lexeme.{is_name_word, mark_text, Lexeme, word, number_word, mark_word, unclosed, SpellsToken, name, literal_text, mark_of, reserved, comment}
use Rattle.lra_report.specs.Crates.lra_syntax.Tokens.{Fragment, gap, token, bytes_of, tokens_of, IsReading, end_token, Lex}
use Rattle.lra_report.specs.Crates.{lra_syntax.declared.tokens.Kind.Kind, lra_syntax.declared.tokens.Mark.Mark, lra_syntax.declared.tokens.Token.Token}
use Rattle.lra_report.specs.Crates.lra_syntax.declared.tokens.Mark.TheVariants as mark
use Rattle.lra_report.specs.Crates.lra_syntax.declared.tokens.Kind.TheVariants as kind
use Rattle.lra_report.proofs.Every.{every_append}

-- if it is a name, a word
abbrev pub HasWord : Kind → Type 0
HasWord (kind.Name s) = is_name_word s ≡ true
HasWord k = ⊤

named_word : (s : List ℕ) (k : Kind) → SpellsToken s k → HasWord k
named_word s _ (name w named further) = w
named_word s _ (literal_text n t w value same most) = tt
named_word s _ (mark_of m e) = tt
named_word s _ (reserved among) = tt
named_word s _ (comment u) = tt

-- a spelling has a byte at least
mark_some : (m : Mark) → nat_le 1 (length (mark_text m)) ≡ true
mark_some mark.Plus = refl
mark_some _ = refl

lexeme_some : (s : List ℕ) → Lexeme s → 0 < length s
lexeme_some [] (word w) = absurd (cc)
lexeme_some [] (number_word w) = absurd (cc)
lexeme_some [] (mark_word m e) = let k = leb-true 1 (length (mark_text m)) (mark_some m) in let n = ap (λ (z : List ℕ). length z) e in omega (arith, k, n)
lexeme_some [] (unclosed u) = let n = ap (λ (z : List ℕ). length z) u.1 in omega (arith, n)
lexeme_some (c ∷ s) l = omega arith

reading_words : (before : List ℕ) (ps : List Fragment) (after : List ℕ) → IsReading before ps after → AllByRecursion (λ (t : Token). HasWord t.kind) (tokens_of ps)
reading_words before [] after h = tt
reading_words before (gap bytes ∷ ps) after h = reading_words (before ++ bytes) ps after h.1
reading_words before (token bytes t ∷ ps) after h = (named_word bytes t.kind h.0.spells, reading_words (before ++ bytes) ps after h.1)

reading_few : (before : List ℕ) (ps : List Fragment) (after : List ℕ) → IsReading before ps after → length (tokens_of ps) ≤ length (bytes_of ps)
reading_few before [] after h = omega arith
reading_few before (gap bytes ∷ ps) after h = let few = reading_few (before ++ bytes) ps after h.1 in let n = length-append bytes (bytes_of ps) in omega (arith, few, n)
reading_few before (token bytes t ∷ ps) after h =
    let few = reading_few (before ++ bytes) ps after h.1 in
    let n = length-append bytes (bytes_of ps) in
    let some = lexeme_some bytes h.0.longest.lexeme in
    omega (arith, few, n, some)

pub lexed_words : (source : List ℕ) (tokens : List Token) → Lex source tokens → AllByRecursion (λ (t : Token). HasWord t.kind) tokens
lexed_words source tokens (ps, bytes, reading, are) =
    subst (AllByRecursion (λ (t : Token). HasWord t.kind)) (sym are) (every_append (λ (t : Token). HasWord t.kind) (tokens_of ps) (end_token source ∷ []) (reading_words [] ps [] reading) (tt, tt))

pub lexed_few : (source : List ℕ) (tokens : List Token) → Lex source tokens → length tokens ≤ length source + 1
lexed_few source tokens (ps, bytes, reading, are) =
    let few = reading_few [] ps [] reading in
    let s = ap (λ (z : List ℕ). length z) bytes in
    let n = ap (λ (z : List Token). length z) are in
    let m = length-append (tokens_of ps) (end_token source ∷ []) in
    omega (arith, few, s, n, m)
