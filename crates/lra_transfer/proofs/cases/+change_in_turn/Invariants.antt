use Rattle.std.proofs.Common.{length}
use Rattle.lra_transfer.proofs.cases.+change_in_turn.Given as goal

abbrev pub decreases-change_in_turn : goal.decreases-change_in_turn
decreases-change_in_turn g l = length l.changes.now
