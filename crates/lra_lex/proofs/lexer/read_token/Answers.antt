-- Goals of `read_token`: the length and kind of the token at the start, if no gap is.
use Rattle.std.proofs.Common.{sym, ◌∙◌}
use Rattle.lra_lex.proofs.TokenLemmas.{comment_is}
use Rattle.lra_lex.proofs.lexer.read_token.Goals as goal

pub returns-then-opens_comment-clause-found : goal.returns-then-opens_comment-clause-found
returns-then-opens_comment-clause-found c = comment_is c.args.rest.now c.requires.some (c.requires.unclosed (sym c.opens_comment.ensures ∙ c.if-opens_comment.true))
