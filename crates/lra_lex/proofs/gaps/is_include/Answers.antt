-- Goals of `is_include`: whether `#include` stands at the start, with spaces or tabs after the `#` or without.
use Rattle.std.proofs.Common.{◌≡◌, ℕ, ◌∙◌, List, sym, take, drop}
use Rattle.std.proofs.{lemmas.Bool.Decides.Decides-eqb, lemmas.List.Sums.prefix_len-le-length, lemmas.Slice.Eq.slice_eq-Decides}
use Rattle.std.specs.List.{prefix_len}
use Rattle.lra_syntax.specs.{Lexeme.is_word_byte, Tokens.is_space_or_tab}
use Rattle.lra_lex.proofs.GapLemmas.{include_is, is_include, include_word}
use Rattle.lra_lex.proofs.gaps.is_include.Goals as goal

pub split_at-requires-2 : goal.split_at-requires-2
split_at-requires-2 c = rw c.indent.ensures (prefix_len-le-length is_space_or_tab c.split_at.result.1.now)

pub split_at-requires-3 : goal.split_at-requires-3
split_at-requires-3 c = rw c.word_length.ensures (prefix_len-le-length is_word_byte c.split_at-2.result.1.now)

word_is : (rest behind text word : List ℕ) (n m : ℕ) → behind ≡ drop 1 rest → n ≡ prefix_len is_space_or_tab behind → text ≡ drop n behind → m ≡ prefix_len is_word_byte text → word ≡ take m text
    → word ≡ include_word rest
word_is rest behind text word n m e f g h k = cc

pub returns-then-eq : goal.returns-then-eq
returns-then-eq c =
    let w = word_is c.args.rest.now c.split_at.result.1.now c.split_at-2.result.1.now c.split_at-3.result.0.now c.indent.result c.word_length.result
    c.split_at.ensures.back c.indent.ensures c.split_at-2.ensures.back c.word_length.ensures c.split_at-3.ensures.front in
    let sharp = slice_eq-Decides Decides-eqb c.split_at.result.0.now c.as_slice.result.now c.eq.result c.eq.ensures in
    let word = slice_eq-Decides Decides-eqb c.split_at-3.result.0.now c.as_slice-then-eq.result.now c.eq-then-eq.result c.eq-then-eq.ensures in (
      (λ t. include_is c.args.rest.now (sym c.split_at.ensures.front ∙ sharp.0 c.if-eq.true ∙ c.as_slice.ensures) (sym w ∙ word.0 t ∙ c.as_slice-then-eq.ensures)),
      (λ i. word.1 (w ∙ (is_include c.args.rest.now i).1 ∙ sym c.as_slice-then-eq.ensures)),
    )
