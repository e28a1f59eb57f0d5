use Rattle.std.proofs.Common.{length, map}
use Rattle.std.specs.Prelude.{◌*ℤ◌}
use Rattle.lra_linearize.proofs.FormSteps.{SoFar}
use Rattle.lra_linearize.proofs.forms.product_entries.Given as goal

abbrev pub invariant-loop-number : goal.invariant-loop-number
invariant-loop-number l = SoFar (map (λ c. l.factor *ℤ c) l.numbers) l.products.items (map (λ c. l.factor *ℤ c) l.left)

abbrev pub decreases-loop-number : goal.decreases-loop-number
decreases-loop-number l = length l.left
