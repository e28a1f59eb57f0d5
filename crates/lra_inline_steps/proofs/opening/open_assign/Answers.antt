-- Goals of `open_assign`: an assignment, and what the variable gets.
use Rattle.std.proofs.Common.{refl, ap, ◌∙◌}
use Rattle.lra_program.specs.{ProgramViews.variable_view, ProgramViews.expr_view, ProgramViews.call_view, Step.store_value}
use Rattle.lra_operations.specs.{Tree.act, TreeViews.node_view}
use Rattle.lra_inline_steps.specs.Inlining.{points_in, program_around}
use Rattle.lra_inline_steps.proofs.{FirstSteps.value_assigned, FirstSteps.assign_opens, OpenFrames.closed_ok, Shown.shown_act}
use Rattle.lra_inline_steps.proofs.opening.open_assign.Goals as goal

pub returns-in_ok-value-in-Value-clause-leads : goal.returns-in_ok-value-in-Value-clause-leads
returns-in_ok-value-in-Value-clause-leads c =
    let here = c.args.here.now in
    rw c.in-Value.is (closed_ok (program_around here) c.close.result _ _ c.put_point.result here.frame.live c.close.ensures.written c.put_point.ensures
    (λ g a. (
      (
        value_assigned (program_around here) here.path.now here.frame (points_in c.args.sites.now) (points_in c.open_point.new.sites) c.args.label c.in_ok-point.point
            c.in_ok-point.ensures.number c.in_ok-point.ensures.walked (variable_view c.args.variable) (expr_view c.in-Value.value) c.store_index-place.result c.variable-receiver.result
            c.store_index-place.ensures
            c.variable-receiver.ensures _ (node_view g)
            (shown_act c.in_ok-point.point _ ∙ ap (λ z. act c.in_ok-point.point (store_value here.frame.base c.variable-receiver.result z)) c.in_ok-value-in-Value.ensures) a,
        refl,
      ),
      refl,
    )))

pub returns-in-Result-clause-leads : goal.returns-in-Result-clause-leads
returns-in-Result-clause-leads c =
    let here = c.args.here.now in
    rw c.in-Result.is (assign_opens (program_around here) here.path.now here.frame (points_in c.args.sites.now) (points_in c.open_point.new.sites) c.args.label c.in_ok-point.point
    c.in_ok-point.ensures.number c.in_ok-point.ensures.walked (variable_view c.args.variable) (call_view c.in-Result.call) c.store_index-place.result c.variable-receiver.result
    c.store_index-place.ensures
    c.variable-receiver.ensures (rw c.in-Result.is at c.requires)
    c.in_ok-point.ensures.few)
