use Rattle.lra_dbm.specs.{Cells.entries, Clearing.RowCleared}
use Rattle.lra_dbm.proofs.clearing.clear_row.Given as goal

abbrev pub invariant-loop-j : goal.invariant-loop-j
invariant-loop-j l = RowCleared l.n l.i l.j (entries l.n l.fn.cells) l.cells
