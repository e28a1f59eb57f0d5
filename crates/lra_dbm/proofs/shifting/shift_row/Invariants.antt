use Rattle.std.proofs.Common.{◌≡◌}
use Rattle.lra_dbm.specs.{Cells.entries, Shifting.shifted_within, Shifting.passes_at, Shifting.RowGiven, Steps.any_below}
use Rattle.lra_dbm.proofs.shifting.shift_row.Given as goal

abbrev pub invariant-loop-j : goal.invariant-loop-j
invariant-loop-j l = record {
  given : RowGiven l.n (shifted_within l.shift.flips l.shift.x l.shift.c (entries l.n l.old)) l.i l.j l.fn.cells l.cells;
  passed : l.passes ≡ any_below (passes_at l.shift.flips l.shift.x l.shift.c (entries l.n l.old) l.i) l.j;
}
