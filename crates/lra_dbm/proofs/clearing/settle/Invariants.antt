use Rattle.std.proofs.Common.{◌≤◌}
use Rattle.lra_dbm.specs.Clearing.{Settled}
use Rattle.lra_dbm.proofs.clearing.settle.Given as goal

abbrev pub invariant-loop-t : goal.invariant-loop-t
invariant-loop-t l = record {
  settled : Settled l.n l.from l.t l.fn.cells l.cells;
  first : l.from ≤ l.t;
}
