use Rattle.std.proofs.Common.{◌≡◌, drop}
use Rattle.lra_threads_fixpoint.specs.Interference.{joined_rows}
use Rattle.lra_threads_fixpoint.proofs.tables.join_rows.Given as goal

abbrev pub invariant-threads : goal.invariant-threads
invariant-threads l = joined_rows l.told (drop l.row-index l.rows) ≡ joined_rows l.fn.told l.rows
