use Rattle.std.proofs.Common.{◌≡◌, length}
use Rattle.lra_box.specs.Crates.lra_linear_spec.Range.{InRange}
use Rattle.lra_box.specs.Bounds.{end_sum, SumPasses}
use Rattle.lra_box.proofs.ends.sum_end.Given as goal

abbrev pub invariant-loop-factor : goal.invariant-loop-factor
invariant-loop-factor l = record {
  range : InRange l.sum;
  same_length : length l.factors ≡ length l.intervals;
  rest : end_sum l.side l.sum l.factors l.intervals ≡ end_sum l.side l.constant l.coefficients l.bounds;
  passes : SumPasses l.side l.sum l.factors l.intervals → SumPasses l.side l.constant l.coefficients l.bounds;
}

abbrev pub decreases-loop-factor : goal.decreases-loop-factor
decreases-loop-factor l = length l.factors
