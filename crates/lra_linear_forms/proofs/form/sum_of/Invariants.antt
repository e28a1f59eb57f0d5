use Rattle.std.proofs.Common.{◌≡◌, ◌↔◌, length, ◌+ℤ◌}
use Rattle.lra_linear_forms.specs.Form.{SummingPasses}
use Rattle.lra_linear_forms.specs.Crates.lra_linear_spec.Vectors.{product}
use Rattle.lra_linear_forms.proofs.form.sum_of.Given as goal

abbrev pub invariant-loop-factor : goal.invariant-loop-factor
invariant-loop-factor l = record {
  value : l.sum +ℤ product l.factors l.numbers ≡ l.constant +ℤ product l.coefficients l.point;
  passes : SummingPasses l.sum l.factors l.numbers ↔ SummingPasses l.constant l.coefficients l.point;
}

abbrev pub decreases-loop-factor : goal.decreases-loop-factor
decreases-loop-factor l = length l.factors
