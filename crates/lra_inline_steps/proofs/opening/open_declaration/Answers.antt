-- Goals of `open_declaration`: a declarator, and what its variable gets.
use Rattle.std.proofs.Common.{◌+◌, ap, refl, ◌∙◌, arith}
use Rattle.lra_program.specs.{ProgramViews.given_view, ProgramViews.expr_view, ProgramViews.call_view, ProgramViews.declarator_view, Step.store_value}
use Rattle.lra_operations.specs.{Tree.act, TreeViews.node_view}
use Rattle.lra_inline_steps.specs.Inlining.{points_in, program_around}
use Rattle.lra_inline_steps.proofs.{FirstSteps.fresh_declared, FirstSteps.value_declared, FirstSteps.declaration_opens, OpenFrames.closed_ok, Shown.shown_act, Shown.shown_value, Shown.shown_result}
use Rattle.lra_inline_steps.proofs.opening.open_declaration.Goals as goal

pub returns-in-None-clause-leads : goal.returns-in-None-clause-leads
returns-in-None-clause-leads c =
    let here = c.args.here.now in
    let d = declarator_view c.args.declarator.now in
    closed_ok (program_around here) c.close.result _ _ c.put_point.result (here.frame.live + 1) c.close.ensures.written c.put_point.ensures
    (λ g a. (
      fresh_declared (program_around here) here.path.now here.frame (points_in c.args.sites.now) d (points_in c.open_point.new.sites) c.in_ok-point.point (here.frame.live + 1) _ (node_view g)
          c.in_ok-point.ensures.number c.in_ok-point.ensures.walked (omega arith) (ap given_view c.in-None.is) (shown_act c.in_ok-point.point _) a,
      refl,
    ))

pub returns-in_ok-value-in-Some-Value-clause-leads : goal.returns-in_ok-value-in-Some-Value-clause-leads
returns-in_ok-value-in-Some-Value-clause-leads c =
    let here = c.args.here.now in
    let d = declarator_view c.args.declarator.now in
    let is = shown_value c.args.declarator.now.rvalue c.in-Some-Value.field-0 c.in-Some-Value.value c.in-Some-Value.is (rw c.in-Some-Value.is at c.in-Some-Value.field-0-is) in
    closed_ok (program_around here) c.close-in-Some-Value.result _ _ c.declare.result (here.frame.live + 1) c.close-in-Some-Value.ensures.written c.declare.ensures
    (λ g a. (
      value_declared (program_around here) here.path.now here.frame (points_in c.args.sites.now) d (points_in c.open_point.new.sites) c.in_ok-point.point (here.frame.live + 1)
          (expr_view c.in-Some-Value.value) c.variable-receiver.result _ (node_view g) c.variable-receiver.ensures c.in_ok-point.ensures.number
          c.in_ok-point.ensures.walked (omega arith) is
          (shown_act c.in_ok-point.point _ ∙ ap (λ z. act c.in_ok-point.point (store_value here.frame.base c.variable-receiver.result z))
          c.in_ok-value-in-Some-Value.ensures) a,
      refl,
    ))

pub returns-in-Some-Result-clause-leads : goal.returns-in-Some-Result-clause-leads
returns-in-Some-Result-clause-leads c =
    let here = c.args.here.now in
    let is = shown_result c.args.declarator.now.rvalue c.in-Some-Result.field-0 c.in-Some-Result.call c.in-Some-Result.is (rw c.in-Some-Result.is at c.in-Some-Result.field-0-is) in
    declaration_opens (program_around here) here.path.now here.frame (points_in c.args.sites.now) (declarator_view c.args.declarator.now) (points_in c.open_point.new.sites) c.in_ok-point.point
    (here.frame.live + 1) (call_view c.in-Some-Result.call) c.variable-receiver.result c.variable-receiver.ensures c.in_ok-point.ensures.number
    c.in_ok-point.ensures.walked (omega arith) is c.requires c.in_ok-point.ensures.few
