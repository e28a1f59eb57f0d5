-- Goals of `settle`: the diagonal of the variables from `from` on becomes 0.
use Rattle.std.proofs.Common.{subst, sym, rules, ◌+◌}
use Rattle.lra_dbm.specs.{Cells.Cells, Clearing.Settled}
use Rattle.lra_dbm.proofs.Grows.{more_settled}
use Rattle.lra_dbm.proofs.clearing.settle.Goals as goal

pub loop-t-preserved : goal.loop-t-preserved
loop-t-preserved c = record {
  settled = subst (λ (cells : Cells). Settled c.args.n c.args.from (c.loop-t.t + 1) c.args.cells.now cells) (sym c.write.ensures)
      (more_settled c.args.n c.args.from c.loop-t.t c.args.cells.now c.loop-t.cells c.loop-t.invariant.settled c.loop-t-test.true c.loop-t.invariant.first);
  first = search rules;
}
