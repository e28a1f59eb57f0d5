use Rattle.std.proofs.Common.{◌≡◌, ◌↔◌, ◌++◌, length, map, FitsSigned}
use Rattle.std.specs.{Int.w64, List.All, Prelude.neg_ℤ}
use Rattle.lra_linear_forms.proofs.form.negate_coefficients.Given as goal

abbrev pub invariant-loop-coefficient : goal.invariant-loop-coefficient
invariant-loop-coefficient l = record {
  items : l.all.items ++ map neg_ℤ l.left ≡ map neg_ℤ l.coefficients;
  fit : All (FitsSigned w64) (map neg_ℤ l.left) ↔ All (FitsSigned w64) (map neg_ℤ l.coefficients);
}

abbrev pub decreases-loop-coefficient : goal.decreases-loop-coefficient
decreases-loop-coefficient l = length l.left
