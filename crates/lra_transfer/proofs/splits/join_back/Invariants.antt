use Rattle.std.proofs.Common.{vec_len}
use Rattle.lra_transfer.proofs.ChainSteps.{IsJoinedSoFar}
use Rattle.lra_transfer.proofs.splits.join_back.Given as goal

abbrev pub invariant-joins : goal.invariant-joins
invariant-joins g l = IsJoinedSoFar g.D.Domain.abstraction l.fn.before.items l.left.items l.fn.last l.joined

abbrev pub decreases-joins : goal.decreases-joins
decreases-joins g l = vec_len l.left
