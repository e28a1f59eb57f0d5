use Rattle.std.proofs.Common.{◌≡◌, ◌++◌, length}
use Rattle.std.specs.{List.All, Prelude.neg_ℤ}
use Rattle.lra_linearize.specs.Crates.lra_linear_spec.Range.{InRange}
use Rattle.lra_analysis_spec.specs.GuardThresholds.{row_of}
use Rattle.lra_linearize.proofs.thresholds.row_less.Given as goal

-- the numbers that are there and those of what is left are the row, and all are in the range
abbrev pub invariant-loop-coefficient : goal.invariant-loop-coefficient
invariant-loop-coefficient l = record {
  items : l.numbers.items ++ l.left ≡ row_of l.form (neg_ℤ l.less);
  range : All InRange l.numbers.items;
}

abbrev pub decreases-loop-coefficient : goal.decreases-loop-coefficient
decreases-loop-coefficient l = length l.left
