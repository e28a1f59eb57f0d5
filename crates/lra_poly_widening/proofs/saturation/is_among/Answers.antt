-- Goals of `is_among`: whether the list is one of these, of its width.
use Rattle.lra_poly_widening.specs.Saturated.{same_values}
use Rattle.lra_poly_widening.proofs.TruthLists.{none_among}
use Rattle.lra_poly_widening.proofs.saturation.is_among.Goals as goal

pub returns : goal.returns
returns c = none_among (same_values c.args.bits.now) c.args.classes.now c.loop-class.class-index c.loop-class-test.false c.loop-class.invariant
