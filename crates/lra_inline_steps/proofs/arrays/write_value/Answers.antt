-- Goals of `write_value`: an element gets a value which no call gives.
use Rattle.std.proofs.Common.{refl, ap, ap₂, ◌∙◌}
use Rattle.lra_program.specs.{ProgramViews.expr_view, ProgramViews.element_view, Step.store_element}
use Rattle.lra_operations.specs.{Tree.act, TreeViews.node_view}
use Rattle.lra_inline_steps.specs.Inlining.{points_in, program_around}
use Rattle.lra_inline_steps.proofs.{OpenFrames.closed_ok, Shown.shown_act, Writing.write_written}
use Rattle.lra_inline_steps.proofs.arrays.write_value.Goals as goal

pub returns-clause-leads : goal.returns-clause-leads
returns-clause-leads c =
    let here = c.args.here.now in
    let q = c.in_ok-point.point in
    closed_ok (program_around here) c.close.result _ _ c.put_point.result here.frame.live c.close.ensures.written c.put_point.ensures
    (λ g a. (
      (
        write_written (program_around here) here.path.now here.frame (points_in c.args.sites.now) (points_in c.open_point.new.sites) q c.args.label
            (element_view c.args.element.now) (expr_view c.args.value.now) _ (node_view g) c.in_ok-point.ensures.number c.in_ok-point.ensures.walked
            (shown_act q _ ∙ ap₂ (λ x e. act q (store_element here.frame.base x e)) c.in_ok-element.ensures c.in_ok-value.ensures) a,
        refl,
      ),
      refl,
    ))
