use Rattle.std.proofs.Common.{length}
use Rattle.lra_powerset.proofs.reduction.+lies_in_some.Given as goal

abbrev pub decreases-lies_in_some : goal.decreases-lies_in_some
decreases-lies_in_some g l = length l.others.now
