use Rattle.std.proofs.Common.{◌≡◌, ℤ, Option, length}
use Rattle.lra_box.specs.Ends.{IsEndFrom}
use Rattle.lra_box.proofs.ends.form_end.Given as goal

abbrev pub invariant-loop-factor : goal.invariant-loop-factor
invariant-loop-factor l = record {
  same_length : length l.factors ≡ length l.intervals;
  rest : (o : Option ℤ) → IsEndFrom l.side l.sum l.factors l.intervals o
      → IsEndFrom l.side l.e.constant l.e.coefficients l.bounds o;
}

abbrev pub decreases-loop-factor : goal.decreases-loop-factor
decreases-loop-factor l = length l.factors
