-- Goals of `some_row_passes`: whether the product of one of the rows with one of the generators does.
use Rattle.lra_poly_domain.specs.Crates.lra_systems.LinearSystems.{generators}
use Rattle.lra_poly_widening.proofs.TruthLists.{none_among}
use Rattle.lra_poly_domain.specs.Growth.{row_passes}
use Rattle.lra_poly_domain.proofs.lists.some_row_passes.Goals as goal

pub returns : goal.returns
returns c = none_among (row_passes (generators c.args.list.now)) c.args.rows.now c.loop-row.row-index c.loop-row-test.false c.loop-row.invariant
