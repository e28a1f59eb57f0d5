use Rattle.std.proofs.Common.{length}
use Rattle.lra_transfer.proofs.changes.+push_all_of.Given as goal

abbrev pub decreases-push_all_of : goal.decreases-push_all_of
decreases-push_all_of g l = length l.arguments.now
