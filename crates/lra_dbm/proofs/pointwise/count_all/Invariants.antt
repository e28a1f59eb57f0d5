use Rattle.std.proofs.Common.{◌≡◌, ◌+◌, ◌≤◌, drop}
use Rattle.lra_dbm.specs.Pointwise.{finite_cells}
use Rattle.lra_dbm.proofs.pointwise.count_all.Given as goal

abbrev pub invariant-loop-cell : goal.invariant-loop-cell
invariant-loop-cell l = record {
  few : l.count ≤ l.cell-index;
  rest : l.count + finite_cells (drop l.cell-index l.cells) ≡ finite_cells l.cells;
}
