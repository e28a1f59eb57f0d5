-- Goals of `passes_with_some`: whether the product of the row with one of the others does.
use Rattle.lra_poly_widening.proofs.TruthLists.{none_among}
use Rattle.lra_poly_domain.specs.Growth.{product_passes}
use Rattle.lra_poly_domain.proofs.lists.passes_with_some.Goals as goal

pub returns : goal.returns
returns c = none_among (product_passes c.args.row.now) c.args.rows.now c.loop-other.other-index c.loop-other-test.false c.loop-other.invariant
