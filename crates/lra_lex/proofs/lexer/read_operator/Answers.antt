-- Goals of `read_operator`: the length and kind of the operator at the start.
use Rattle.std.proofs.Common.{sym}
use Rattle.lra_lex.proofs.{LexemeLemmas.operator_none, TokenLemmas.operator_token_is}
use Rattle.lra_lex.proofs.lexer.read_operator.Goals as goal

pub returns-in-Some-clause-found : goal.returns-in-Some-clause-found
returns-in-Some-clause-found c =
    operator_token_is c.args.rest.now c.spelling_of.result.now c.in-Some.mark c.requires.no_word c.requires.no_comment c.in-Some.ensures c.spelling_of.ensures

pub returns-in-None-clause-none : goal.returns-in-None-clause-none
returns-in-None-clause-none c = operator_none c.args.rest.now c.requires.no_word c.requires.no_comment (sym c.in-None.ensures)
