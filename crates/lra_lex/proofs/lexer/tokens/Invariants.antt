use Rattle.std.proofs.Common.{length}
use Rattle.lra_lex.proofs.ReadingLemmas.{IsReadTo}
use Rattle.lra_lex.proofs.lexer.tokens.Given as goal

abbrev pub invariant-pieces : goal.invariant-pieces
invariant-pieces l = IsReadTo l.fn.source l.rest l.tokens.items l.spot.place l.spot.fresh

abbrev pub decreases-pieces : goal.decreases-pieces
decreases-pieces l = length l.rest
