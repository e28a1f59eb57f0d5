use Rattle.std.proofs.Common.{length}
use Rattle.lra_powerset.proofs.answers.+exactness_of.Given as goal

abbrev pub decreases-exactness_of : goal.decreases-exactness_of
decreases-exactness_of l = length l.answers.now
