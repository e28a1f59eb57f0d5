use Rattle.std.proofs.Common.{length}
use Rattle.lra_path_disjuncts.proofs.changes.+push_globals_from.Given as goal

abbrev pub decreases-push_globals_from : goal.decreases-push_globals_from
decreases-push_globals_from l = length l.globals.now
