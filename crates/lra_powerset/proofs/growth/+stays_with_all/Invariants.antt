use Rattle.std.proofs.Common.{length}
use Rattle.lra_powerset.proofs.growth.+stays_with_all.Given as goal

abbrev pub decreases-stays_with_all : goal.decreases-stays_with_all
decreases-stays_with_all g l = length l.parts.now
