use Rattle.std.proofs.Common.{length}
use Rattle.lra_report_build.proofs.listing.+push_outside.Given as goal

abbrev pub decreases-push_outside : goal.decreases-push_outside
decreases-push_outside l = length l.path.now
