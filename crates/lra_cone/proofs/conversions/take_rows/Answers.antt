-- Goals of `take_rows`: takes the rows into the cone in their order.
use Rattle.std.proofs.Common.{◌∙◌, arith}
use Rattle.lra_systems.specs.LinearSystems.{constraints}
use Rattle.lra_cone.specs.Crates.lra_linear_spec.Kinds.{is_equality}
use Rattle.lra_cone.proofs.RowsTaken.{taken_next}
use Rattle.lra_cone.proofs.conversions.take_rows.Goals as goal

pub loop-place-preserved : goal.loop-place-preserved
loop-place-preserved c = record {
  dims = c.in_ok-take_row.ensures.dims ∙ c.loop-place.invariant.dims;
  kept_dims = c.in_ok-take_row.ensures.kept_dims ∙ c.loop-place.invariant.kept_dims;
  taken = taken_next is_equality c.args.start.taken (constraints c.take_row.new.self.kept) c.rows-listed.result.now c.kinds-kinds.result.now c.loop-place.place c.args.rows.now.rows
      c.rows-listed.ensures.rows c.kinds-kinds.ensures.len (omega (arith, c.loop-place-test.true, c.loop-place.auto.place-end))
      c.index-listed-place.result _ c.take_row.new.self.cone c.take_row.new.self.losses.items c.index-listed-place.is (c.in_ok-take_row.ensures.taken _ _ c.loop-place.invariant.taken);
}
