use Rattle.std.proofs.Common.{length}
use Rattle.lra_domain.proofs.changes.+change_all.Given as goal

abbrev pub decreases-change_all : goal.decreases-change_all
decreases-change_all g l = length l.changes.now
