use Rattle.std.proofs.Common.{length}
use Rattle.lra_powerset.proofs.changes.+append_changed.Given as goal

abbrev pub decreases-append_changed : goal.decreases-append_changed
decreases-append_changed g l = length l.parts.now
