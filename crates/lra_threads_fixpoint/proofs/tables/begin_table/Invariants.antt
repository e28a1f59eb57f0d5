use Rattle.std.proofs.Common.{◌≡◌}
use Rattle.lra_threads_fixpoint.specs.Intervals.{empty_table}
use Rattle.lra_threads_fixpoint.proofs.tables.begin_table.Given as goal

abbrev pub invariant-threads : goal.invariant-threads
invariant-threads l = l.table.items ≡ empty_table l._thread l.globals
