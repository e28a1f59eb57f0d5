use Rattle.std.proofs.Common.{length}
use Rattle.lra_row_text.proofs.whole.+push_others.Given as goal

abbrev pub decreases-push_others : goal.decreases-push_others
decreases-push_others l = length l.parts.now
