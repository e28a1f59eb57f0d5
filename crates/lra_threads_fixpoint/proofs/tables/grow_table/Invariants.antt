use Rattle.std.proofs.Common.{◌≡◌, drop}
use Rattle.lra_threads_fixpoint.specs.Intervals.{grown_row, grown_table}
use Rattle.lra_threads_fixpoint.proofs.ListLemmas.{behind}
use Rattle.lra_threads_fixpoint.proofs.tables.grow_table.Given as goal

abbrev pub invariant-threads : goal.invariant-threads
invariant-threads l = behind l.k (grown_row l.growth) l.table.items (drop l.k l.written) ≡ grown_table l.growth l.fn.table.items l.written
