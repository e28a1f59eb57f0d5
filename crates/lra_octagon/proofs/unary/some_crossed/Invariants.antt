use Rattle.std.proofs.Common.{◌≡◌, length}
use Rattle.lra_octagon.specs.Tables.{some_crossed}
use Rattle.lra_octagon.proofs.unary.some_crossed.Given as goal

abbrev pub invariant-loop-interval : goal.invariant-loop-interval
invariant-loop-interval l = some_crossed l.left ≡ some_crossed l.intervals

abbrev pub decreases-loop-interval : goal.decreases-loop-interval
decreases-loop-interval l = length l.left
