-- Goals of `assumption_of`: an assumption.
use Rattle.std.proofs.Common.{◌∙◌, ap, true}
use Rattle.lra_program.specs.Step.{test}
use Rattle.lra_operations.specs.{Tree.Node, Tree.seq, Tree.point, Tree.act, TreeViews.node_view}
use Rattle.lra_inline_steps.proofs.{Shown.shown_act, Stopping.made_ok, Stopping.made_limit, Writing.assume_written}
use Rattle.lra_inline_steps.proofs.lone.assumption_of.Goals as goal

pub returns-clause-written : goal.returns-clause-written
returns-clause-written c =
    let here = c.args.around.now in
    made_ok c.finish.result c.put_point.result _ _ c.finish.ensures.tree c.put_point.ensures
    (λ g a P. assume_written P here.path.now here.frame _ _ c.in_ok-point.point c.args.label _ (node_view g) c.in_ok-point.ensures.number c.in_ok-point.ensures.walked
    (a ∙ ap (λ (z : Node). seq (point c.in_ok-point.point) z)
    (shown_act c.in_ok-point.point _ ∙ ap (λ z. act c.in_ok-point.point (test here.frame.base z true)) c.in_ok-copy.ensures)))

pub returns-clause-limit : goal.returns-clause-limit
returns-clause-limit c = made_limit c.finish.result _ c.finish.ensures.memory
