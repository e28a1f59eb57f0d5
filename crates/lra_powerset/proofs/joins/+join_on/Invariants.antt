use Rattle.std.proofs.Common.{length}
use Rattle.lra_powerset.proofs.joins.+join_on.Given as goal

abbrev pub decreases-join_on : goal.decreases-join_on
decreases-join_on g l = length l.others.now
