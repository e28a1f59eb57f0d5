use Rattle.std.proofs.Common.{◌≡◌, ◌↔◌, length}
use Rattle.lra_dbm.specs.Pointwise.{CellsWithin}
use Rattle.lra_dbm.proofs.pointwise.all_within.Given as goal

abbrev pub invariant-loop-one : goal.invariant-loop-one
invariant-loop-one l = record {
  same_length : length l.ours ≡ length l.theirs;
  rest : CellsWithin l.left l.right ↔ CellsWithin l.ours l.theirs;
}

abbrev pub decreases-loop-one : goal.decreases-loop-one
decreases-loop-one l = length l.ours
