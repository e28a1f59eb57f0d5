use Rattle.lra_double_description.specs.Steps.{IsLastAcross}
use Rattle.lra_double_description.proofs.products.last_across.Given as goal

abbrev pub invariant-loop-place : goal.invariant-loop-place
invariant-loop-place l = IsLastAcross l.products l.place l.last
