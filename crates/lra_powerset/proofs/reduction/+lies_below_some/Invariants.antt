use Rattle.std.proofs.Common.{length}
use Rattle.lra_powerset.proofs.reduction.+lies_below_some.Given as goal

abbrev pub decreases-lies_below_some : goal.decreases-lies_below_some
decreases-lies_below_some g l = length l.others.now
