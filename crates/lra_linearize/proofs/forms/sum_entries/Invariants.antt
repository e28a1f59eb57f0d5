use Rattle.std.proofs.Common.{length}
use Rattle.lra_analysis_spec.specs.Linear.{entrywise}
use Rattle.lra_linearize.specs.Forms.{sum_or_difference}
use Rattle.lra_linearize.proofs.FormSteps.{SoFar}
use Rattle.lra_linearize.proofs.forms.sum_entries.Given as goal

abbrev pub invariant-loop-a : goal.invariant-loop-a
invariant-loop-a l = SoFar (entrywise (sum_or_difference l.minus) l.ours l.theirs) l.sums.items (entrywise (sum_or_difference l.minus) l.left l.right)

abbrev pub decreases-loop-a : goal.decreases-loop-a
decreases-loop-a l = length l.left
