-- Goals of `leave_loop`: out of a loop or a `switch`, or on to a loop's next round.
use Rattle.std.proofs.Common.{sym, ◌∙◌}
use Rattle.lra_operations.specs.TreeViews.{node_view}
use Rattle.lra_inline_steps.proofs.{Stopping.made_ok, Stopping.made_limit, Writing.leaves_written}
use Rattle.lra_inline_steps.proofs.lone.leave_loop.Goals as goal

pub returns-clause-written : goal.returns-clause-written
returns-clause-written c =
    let here = c.args.around.now in
    made_ok c.finish.result c.put_point.result _ _ c.finish.ensures.tree c.put_point.ensures
    (λ g a. leaves_written here.path.now here.frame _ _ c.in_ok-point.point c.args.label c.in-Some.length _ _
    (node_view g) c.in_ok-point.ensures.number c.in_ok-point.ensures.walked (sym c.length_left.ensures ∙ c.in-Some.is)
    c.in_ok-leave-in-Some.ensures a)

pub returns-clause-limit : goal.returns-clause-limit
returns-clause-limit c = made_limit c.finish.result _ c.finish.ensures.memory
