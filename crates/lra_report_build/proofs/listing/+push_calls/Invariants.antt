use Rattle.std.proofs.Common.{length}
use Rattle.lra_report_build.proofs.listing.+push_calls.Given as goal

abbrev pub decreases-push_calls : goal.decreases-push_calls
decreases-push_calls l = length l.path.now
