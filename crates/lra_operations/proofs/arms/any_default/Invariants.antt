use Rattle.std.proofs.Common.{◌≡◌, length, map}
use Rattle.lra_operations.specs.TreeViews.{arm_view, arms_of}
use Rattle.lra_operations.proofs.ArmViews.{default_in}
use Rattle.lra_operations.proofs.arms.any_default.Given as goal

abbrev pub invariant-arms : goal.invariant-arms
invariant-arms l = default_in (arms_of (map arm_view l.fn.arms)) ≡ default_in (arms_of (map arm_view l.left))

abbrev pub decreases-arms : goal.decreases-arms
decreases-arms l = length l.left
