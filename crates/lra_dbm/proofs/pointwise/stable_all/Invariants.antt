use Rattle.std.proofs.Common.{◌≡◌, ◌++◌, length}
use Rattle.lra_dbm.specs.Pointwise.{stable_cells}
use Rattle.lra_dbm.proofs.pointwise.stable_all.Given as goal

abbrev pub invariant-loop-one : goal.invariant-loop-one
invariant-loop-one l = record {
  same_length : length l.ours ≡ length l.theirs;
  rest : l.all.items ++ stable_cells l.ours l.theirs ≡ stable_cells l.left l.right;
}

abbrev pub decreases-loop-one : goal.decreases-loop-one
decreases-loop-one l = length l.ours
