-- Goals of `Cone::whole`: all vectors of n + 1 columns.
use Rattle.std.proofs.Common.{arith, sym, ◌∙◌, ap, subst, List, [], ℤ, length}
use Rattle.lra_cone.specs.Crates.{lra_linear_spec.Descriptions.LinearRow, lra_linear_spec.Kinds.is_equality}
use Rattle.lra_systems.specs.LinearSystems.{constraints, rows_by_kind}
use Rattle.lra_cone.specs.Cones.{IsCone, cone_saturation}
use Rattle.lra_cone.proofs.WholeSpace.{columns_start, columns_step, columns_end, whole_cone, whole_made}
use Rattle.lra_cone.proofs.cone.Cone.whole.Goals as goal

pub loop-column-init : goal.loop-column-init
loop-column-init c = columns_start c.args.n c.in_ok-lines.lines.items c.in_ok-lines.ensures.items

pub loop-column-preserved : goal.loop-column-preserved
loop-column-preserved c =
    columns_step c.args.n c.loop-column.column c.loop-column.lines.items c.push.new.self.items c.in_ok-unit.field-0
    (omega (arith, c.loop-column-test.true, c.loop-column.auto.column-end)) c.in_ok-push.ensures.items c.in_ok-unit.ensures c.loop-column.invariant

pub invariant_of-result : goal.invariant_of-result
invariant_of-result c =
    let end = columns_end c.args.n c.loop-column.column c.loop-column.lines.items c.push-2.new.self.items c.in_ok-unit-2.field-0
    (omega (arith, c.loop-column-test.false, c.loop-column.auto.column-end)) c.in_ok-push-2.ensures.items c.in_ok-unit-2.ensures c.loop-column.invariant in
    let none = ap (λ (r : List (List ℤ)). rows_by_kind is_equality r c.new.result.kinds) c.new.ensures.rows in
    let made = whole_made c.args.n c.new.result.dims (constraints c.new.result) c.push-2.new.self.items c.new-2.result.items c.new.ensures.dims none end c.new-2.ensures.items in (
      subst IsCone (sym made) (whole_cone c.args.n),
      c.new-3.ensures ∙ sym (ap (cone_saturation (constraints c.new.result)) c.new-2.ensures.items ∙ ap (λ (t : List LinearRow). cone_saturation t []) none),
      ap length c.new.ensures.rows ∙ sym (ap length c.new.ensures.kinds),
    )
