-- Goals of `clear_row`: all entries of row `i` and their twins become infinite, those of the diagonal apart.
use Rattle.std.proofs.Common.{subst, sym, ◌∙◌, ◌+◌}
use Rattle.lra_dbm.specs.{Cells.Cells, Cells.entries, Clearing.RowCleared}
use Rattle.lra_dbm.proofs.{Clears.skips, Clears.goes_on, clearing.clear_row.Goals.then-j-i, clearing.clear_row.Goals.else-j-i}
use Rattle.lra_dbm.proofs.clearing.clear_row.Goals as goal

pub loop-j-preserved : goal.loop-j-preserved
loop-j-preserved c = elim c.if-j-i.branch [
  | then-j-i w ↦ subst (λ (cells : Cells). RowCleared c.args.n c.args.i (c.loop-j.j + 1) (entries c.args.n c.args.cells.now) cells)
      (sym (w.cells-is ∙ w.write.ensures))
      (goes_on c.args.n c.args.i c.loop-j.j (entries c.args.n c.args.cells.now) c.loop-j.cells c.loop-j.invariant c.requires.row
      c.loop-j-test.true (λ e. w.if-j-i.true (sym e)))
  | else-j-i w ↦ subst (λ (cells : Cells). RowCleared c.args.n c.args.i (c.loop-j.j + 1) (entries c.args.n c.args.cells.now) cells)
      (sym w.cells-is)
      (skips c.args.n c.args.i c.loop-j.j (entries c.args.n c.args.cells.now) c.loop-j.cells c.loop-j.invariant (sym w.if-j-i.false))
]
