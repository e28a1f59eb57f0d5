-- Goals of `given_rows`: the rows of the list.
use Rattle.std.proofs.Common.{arith}
use Rattle.lra_cone.specs.Crates.lra_linear_spec.Kinds.{is_equality}
use Rattle.lra_systems.proofs.LinearRows.{given_pushed}
use Rattle.lra_cone.proofs.losses.given_rows.Goals as goal

pub loop-place-preserved : goal.loop-place-preserved
loop-place-preserved c =
    given_pushed is_equality c.rows-listed.result.now c.kinds-kinds.result.now c.loop-place.place c.args.list.now.rows c.rows-listed.ensures.rows c.kinds-kinds.ensures.len
    (omega (arith, c.loop-place-test.true, c.loop-place.auto.place-end))
    c.loop-place.rows.items c.push.new.self.items c.in_ok-given_row.field-0 c.index-listed-place.result _ c.index-listed-place.is c.in_ok-push.ensures.items c.in_ok-given_row.ensures
    c.loop-place.invariant
