use Rattle.std.proofs.Common.{◌↔◌, length}
use Rattle.lra_threads_fixpoint.specs.Intervals.{TableWithin}
use Rattle.lra_threads_fixpoint.proofs.tables.is_fixpoint.Given as goal

abbrev pub invariant-loop-one : goal.invariant-loop-one
invariant-loop-one l = TableWithin l.written l.table ↔ TableWithin l.ours l.theirs

abbrev pub decreases-loop-one : goal.decreases-loop-one
decreases-loop-one l = length l.ours
