-- Goals of `inline_assertion`: an assertion.
use Rattle.std.proofs.Common.{◌∙◌, ap}
use Rattle.lra_operations.specs.{Tree.Node, Tree.seq, Tree.point, Tree.check, TreeViews.node_view}
use Rattle.lra_inline_steps.proofs.{Shown.shown_check, Stopping.made_ok, Stopping.made_limit, Writing.assert_written}
use Rattle.lra_inline_steps.proofs.lone.inline_assertion.Goals as goal

pub returns-clause-written : goal.returns-clause-written
returns-clause-written c =
    let here = c.args.around.now in
    made_ok c.finish.result c.put_point.result _ _ c.finish.ensures.tree c.put_point.ensures
    (λ g a P. assert_written P here.path.now here.frame _ _ c.in_ok-point.point c.args.label _ (node_view g) c.in_ok-point.ensures.number c.in_ok-point.ensures.walked
    (a ∙ ap (λ (z : Node). seq (point c.in_ok-point.point) z) (shown_check c.in_ok-point.point here.frame.base c.in_ok-cond.cond
    ∙ ap (check c.in_ok-point.point here.frame.base) c.in_ok-cond.ensures)))

pub returns-clause-limit : goal.returns-clause-limit
returns-clause-limit c = made_limit c.finish.result _ c.finish.ensures.memory
