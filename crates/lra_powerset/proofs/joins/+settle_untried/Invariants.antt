use Rattle.std.proofs.Common.{length}
use Rattle.lra_powerset.proofs.joins.+settle_untried.Given as goal

abbrev pub decreases-settle_untried : goal.decreases-settle_untried
decreases-settle_untried g l = length l.parts.items
