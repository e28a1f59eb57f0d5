-- Goals of `has_lower`: whether one of the rows has the same coefficients and a lower constant.
use Rattle.lra_poly_widening.specs.Tightest.{is_lower}
use Rattle.lra_poly_widening.proofs.TruthLists.{none_among}
use Rattle.lra_poly_widening.proofs.tightest.has_lower.Goals as goal

pub returns : goal.returns
returns c = none_among (λ s. is_lower s c.args.row.now) c.args.rows.now c.loop-other.other-index c.loop-other-test.false c.loop-other.invariant
