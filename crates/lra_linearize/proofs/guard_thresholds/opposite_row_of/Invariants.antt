use Rattle.std.proofs.Common.{◌≡◌, ◌++◌, length, map}
use Rattle.std.specs.{List.All, Prelude.neg_ℤ}
use Rattle.lra_linearize.specs.Crates.lra_linear_spec.Range.{InRange}
use Rattle.lra_analysis_spec.specs.GuardThresholds.{opposite_row}
use Rattle.lra_linearize.proofs.guard_thresholds.opposite_row_of.Given as goal

abbrev pub invariant-loop-coefficient : goal.invariant-loop-coefficient
invariant-loop-coefficient l = record {
  items : l.numbers.items ++ map neg_ℤ l.left ≡ opposite_row l.form;
  range : All InRange l.numbers.items;
}

abbrev pub decreases-loop-coefficient : goal.decreases-loop-coefficient
decreases-loop-coefficient l = length l.left
