use Rattle.std.proofs.Common.{length}
use Rattle.lra_powerset.proofs.set.+append_rows.Given as goal

abbrev pub decreases-append_rows : goal.decreases-append_rows
decreases-append_rows g l = length l.parts.now
