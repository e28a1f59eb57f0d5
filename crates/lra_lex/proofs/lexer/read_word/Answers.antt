-- Goals of `read_word`: the length and kind of the word at the start.
use Rattle.std.proofs.{Common.ap, Common.◌∙◌, Common.ℕ, Common.take, lemmas.List.Sums.prefix_len-le-length}
use Rattle.lra_syntax.specs.Lexeme.{is_word_byte}
use Rattle.lra_lex.proofs.TokenLemmas.{word_at, word_token_is}
use Rattle.lra_lex.proofs.lexer.read_word.Goals as goal

pub split_at-requires : goal.split_at-requires
split_at-requires c = rw c.word_length-length.ensures (prefix_len-le-length is_word_byte c.args.rest.now)

pub word_kind-requires : goal.word_kind-requires
word_kind-requires c = word_at c.args.rest.now c.split_at.result.0.now c.requires.some c.requires.begins
    (c.split_at.ensures.front ∙ ap (λ (z : ℕ). take z c.args.rest.now) c.word_length-length.ensures)

pub returns : goal.returns
returns c = word_token_is c.args.rest.now c.split_at.result.0.now c.word_length-length.result c.in_ok-word_kind.field-0 c.requires.some c.requires.begins c.word_length-length.ensures
    c.split_at.ensures.front c.in_ok-word_kind.ensures
