use Rattle.std.proofs.Common.{length}
use Rattle.std.specs.Prelude.{◌↔◌}
use Rattle.lra_dbm.specs.Pointwise.{AreSmall}
use Rattle.lra_dbm.proofs.pointwise.are_small.Given as goal

abbrev pub invariant-loop-cell : goal.invariant-loop-cell
invariant-loop-cell l = AreSmall l.left ↔ AreSmall l.cells

abbrev pub decreases-loop-cell : goal.decreases-loop-cell
decreases-loop-cell l = length l.left
