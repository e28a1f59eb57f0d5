-- Goals of `longest_operator`: the longest operator at the start.
use Rattle.lra_lex.proofs.TokenLemmas.{operator_other}
use Rattle.lra_lex.proofs.lexer.longest_operator.Goals as goal

pub returns-in-None : goal.returns-in-None
returns-in-None c =
    operator_other c.args.rest.now c.split_at.result.0.now c.split_at-2.result.0.now c.min.result c.find_mark-in-None.result c.min.ensures c.split_at.ensures.front c.in-None.ensures
    c.split_at-2.ensures.front c.find_mark-in-None.ensures
