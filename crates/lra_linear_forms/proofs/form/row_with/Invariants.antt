use Rattle.std.proofs.Common.{◌≡◌, ◌∷◌, ◌++◌, length}
use Rattle.std.specs.List.{All}
use Rattle.lra_linear_forms.specs.Crates.lra_linear_spec.Range.{InRange}
use Rattle.lra_linear_forms.proofs.form.row_with.Given as goal

abbrev pub invariant-loop-coefficient : goal.invariant-loop-coefficient
invariant-loop-coefficient l = record {
  items : l.numbers.items ++ l.left ≡ l.first ∷ l.coefficients;
  range : All InRange l.numbers.items;
}

abbrev pub decreases-loop-coefficient : goal.decreases-loop-coefficient
decreases-loop-coefficient l = length l.left
