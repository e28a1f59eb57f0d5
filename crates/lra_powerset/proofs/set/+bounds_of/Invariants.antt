use Rattle.std.proofs.Common.{length}
use Rattle.lra_powerset.proofs.set.+bounds_of.Given as goal

abbrev pub decreases-bounds_of : goal.decreases-bounds_of
decreases-bounds_of g l = length l.parts.now
