use Rattle.std.proofs.Common.{◌≡◌, ◌↔◌, length}
use Rattle.lra_box.specs.Tables.{IntervalsWithin}
use Rattle.lra_box.proofs.intervals.all_within.Given as goal

abbrev pub invariant-loop-one : goal.invariant-loop-one
invariant-loop-one l = record {
  same_length : length l.ours ≡ length l.theirs;
  rest : IntervalsWithin l.left l.right ↔ IntervalsWithin l.ours l.theirs;
}

abbrev pub decreases-loop-one : goal.decreases-loop-one
decreases-loop-one l = length l.ours
