use Rattle.std.proofs.Common.{◌≡◌, ◌++◌, length}
use Rattle.lra_box.specs.Tables.{widened_intervals}
use Rattle.lra_box.proofs.intervals.widen_all.Given as goal

abbrev pub invariant-loop-one : goal.invariant-loop-one
invariant-loop-one l = record {
  same_length : length l.ours ≡ length l.theirs;
  rest : l.all.items ++ widened_intervals l.ours l.theirs ≡ widened_intervals l.left l.right;
}

abbrev pub decreases-loop-one : goal.decreases-loop-one
decreases-loop-one l = length l.ours
