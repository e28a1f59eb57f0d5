use Rattle.std.proofs.Common.{◌≡◌, length}
use Rattle.lra_box.specs.Refine.{some_occurs}
use Rattle.lra_box.proofs.refine.occurs.Given as goal

abbrev pub invariant-loop-factor : goal.invariant-loop-factor
invariant-loop-factor l = some_occurs l.left ≡ some_occurs l.factors

abbrev pub decreases-loop-factor : goal.decreases-loop-factor
decreases-loop-factor l = length l.left
