use Rattle.std.proofs.Common.{length}
use Rattle.lra_powerset.proofs.reduction.+all_lie_in.Given as goal

abbrev pub decreases-all_lie_in : goal.decreases-all_lie_in
decreases-all_lie_in g l = length l.parts.now
