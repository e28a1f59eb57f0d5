use Rattle.std.proofs.Common.{◌≡◌, length}
use Rattle.lra_duality.specs.Crates.lra_linear_spec.CheckedArithmetic.{checked_product_from}
use Rattle.lra_duality.proofs.maximum.product_from.Given as goal

abbrev pub invariant-loop-factor : goal.invariant-loop-factor
invariant-loop-factor l = checked_product_from l.total l.left l.others ≡ checked_product_from l.sum l.factors l.numbers

abbrev pub decreases-loop-factor : goal.decreases-loop-factor
decreases-loop-factor l = length l.left
