use Rattle.std.proofs.Common.{◌≡◌, ◌++◌, length}
use Rattle.lra_box.specs.Tables.{joined_intervals}
use Rattle.lra_box.proofs.intervals.join_all.Given as goal

abbrev pub invariant-loop-one : goal.invariant-loop-one
invariant-loop-one l = record {
  same_length : length l.ours ≡ length l.theirs;
  rest : l.all.items ++ joined_intervals l.ours l.theirs ≡ joined_intervals l.left l.right;
}

abbrev pub decreases-loop-one : goal.decreases-loop-one
decreases-loop-one l = length l.ours
