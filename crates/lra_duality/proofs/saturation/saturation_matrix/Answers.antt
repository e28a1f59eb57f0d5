-- Goals of `saturation_matrix`: a row for each of the constraints, with a column for each of the generators.
use Rattle.std.proofs.Common.{arith}
use Rattle.lra_duality.specs.Crates.{lra_linear_spec.Kinds.is_equality, lra_linear_spec.Kinds.is_line, lra_systems.LinearSystems.generators}
use Rattle.lra_duality.proofs.SaturationLemmas.{all_saturated, matrix_start}
use Rattle.lra_duality.proofs.saturation.saturation_matrix.Goals as goal

pub loop-place-init : goal.loop-place-init
loop-place-init c = matrix_start is_line c.args.by_generators.now c.rows-columns.result.now c.kinds-column_kinds.result.now c.new-matrix.result c.rows-columns.ensures.rows
    c.kinds-column_kinds.ensures.kinds c.kinds-column_kinds.ensures.len c.new-matrix.ensures

pub returns : goal.returns
returns c = all_saturated is_equality (generators c.args.by_generators.now) c.args.list.now c.rows-rows.result.now c.kinds-kinds.result.now c.loop-place.matrix c.loop-place.place
    c.rows-rows.ensures.rows c.kinds-kinds.ensures.kinds c.kinds-kinds.ensures.len (omega (arith, c.loop-place-test.false)) c.loop-place.invariant
