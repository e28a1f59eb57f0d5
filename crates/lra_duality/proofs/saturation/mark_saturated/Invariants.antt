use Rattle.std.proofs.Common.{length, get_or, [], pos}
use Rattle.std.specs.Ordering.{int_eq}
use Rattle.lra_duality.specs.Crates.{lra_double_description.Steps.IsFilled, lra_linear_spec.Vectors.product}
use Rattle.lra_duality.proofs.saturation.mark_saturated.Given as goal

abbrev pub invariant-loop-place : goal.invariant-loop-place
invariant-loop-place l = IsFilled (λ j. int_eq (product l.row (get_or l.rows j [])) (pos 0)) (length l.rows) l.place l.bits
