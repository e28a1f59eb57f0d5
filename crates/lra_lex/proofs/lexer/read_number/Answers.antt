-- Goals of `read_number`: the length and kind of the literal at the start, if the word there is one.
use Rattle.std.proofs.lemmas.List.Sums.{prefix_len-le-length}
use Rattle.lra_syntax.specs.Lexeme.{is_word_byte}
use Rattle.lra_lex.proofs.TokenLemmas.{number_token_is, bad_literal}
use Rattle.lra_lex.proofs.lexer.read_number.Goals as goal

pub split_at-requires : goal.split_at-requires
split_at-requires c = rw c.word_length-length.ensures (prefix_len-le-length is_word_byte c.args.rest.now)

pub returns-in-Some-clause-found : goal.returns-in-Some-clause-found
returns-in-Some-clause-found c =
    number_token_is c.args.rest.now c.split_at.result.0.now c.word_length-length.result c.in-Some.literal.value c.in-Some.literal.number_type c.requires.some c.requires.begins
    c.word_length-length.ensures c.split_at.ensures.front
    c.in-Some.ensures.value.0 c.in-Some.ensures.value.1 c.in-Some.ensures.bounded

pub returns-in-None-clause-none : goal.returns-in-None-clause-none
returns-in-None-clause-none c =
    bad_literal c.args.rest.now c.split_at.result.0.now c.word_length-length.result c.requires.some c.requires.begins c.word_length-length.ensures c.split_at.ensures.front c.in-None.ensures.none
