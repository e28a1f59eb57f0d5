use Rattle.std.proofs.Common.{◌≡◌, drop}
use Rattle.lra_threads_fixpoint.specs.Intervals.{grown_option, grown_row}
use Rattle.lra_threads_fixpoint.proofs.ListLemmas.{behind}
use Rattle.lra_threads_fixpoint.proofs.rows.grow_all.Given as goal

abbrev pub invariant-places : goal.invariant-places
invariant-places l = behind l.x (grown_option l.growth) l.row.items (drop l.x l.other) ≡ grown_row l.growth l.fn.row.items l.other
