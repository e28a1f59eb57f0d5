use Rattle.std.proofs.Common.{◌↔◌, length}
use Rattle.lra_threads_fixpoint.specs.Intervals.{RowWithin}
use Rattle.lra_threads_fixpoint.proofs.rows.all_within.Given as goal

abbrev pub invariant-loop-one : goal.invariant-loop-one
invariant-loop-one l = RowWithin l.row l.other ↔ RowWithin l.ours l.theirs

abbrev pub decreases-loop-one : goal.decreases-loop-one
decreases-loop-one l = length l.ours
