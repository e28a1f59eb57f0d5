use Rattle.std.proofs.Common.{length}
use Rattle.lra_powerset.proofs.set.+append_copies.Given as goal

abbrev pub decreases-append_copies : goal.decreases-append_copies
decreases-append_copies g l = length l.parts.now
