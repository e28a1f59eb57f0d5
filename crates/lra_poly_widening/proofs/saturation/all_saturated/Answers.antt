-- Goals of `all_saturated`: which of the generators each of the constraints saturates.
use Rattle.std.proofs.Common.{arith}
use Rattle.lra_poly_widening.specs.Crates.lra_linear_spec.Kinds.{is_equality}
use Rattle.lra_systems.specs.LinearSystems.{generators}
use Rattle.lra_poly_widening.proofs.TightLists.{all_rows_saturate}
use Rattle.lra_poly_widening.proofs.saturation.all_saturated.Goals as goal

pub returns : goal.returns
returns c = all_rows_saturate is_equality (generators c.args.list.now) c.args.given.now c.rows-rows.result.now c.kinds-kinds.result.now c.loop-place.classes.items c.loop-place.place
    c.rows-rows.ensures.rows
    c.kinds-kinds.ensures.kinds c.kinds-kinds.ensures.len (omega (arith, c.loop-place-test.false)) c.loop-place.invariant
