-- Goals of `end_block`: the point of a block's end.
use Rattle.std.proofs.Common.{[], ◌∷◌, ◌≡◌}
use Rattle.lra_program.specs.Sites.{plain_site}
use Rattle.lra_operations.specs.TreeViews.{node_view}
use Rattle.lra_inline_steps.specs.{Inlining.points_in, Limits.add_points, Limits.stopped, Stack.Stops}
use Rattle.lra_inline_steps.proofs.{OpenFrames.block_closes, OpenFrames.block_stops, OpenFrames.closed_ok, Stopping.err_stopped}
use Rattle.lra_inline.proofs.inlining.going_on.end_block.Goals as goal

pub returns-in_err-point-clause-limit : goal.returns-in_err-point-clause-limit
returns-in_err-point-clause-limit c = λ P whole under b.
    err_stopped c.from_residual.result _ (λ l. add_points (points_in c.args.sites.now) (plain_site c.args.path.now c.args.end c.args.items.live ∷ []) ≡ stopped l) (Stops P whole)
    c.from_residual.ensures.1
    (λ l h. block_stops P whole under c.args.frame c.args.path.now c.args.items.live (points_in c.args.sites.now) c.args.end (node_view c.args.items.node) l b.0 b.1 b.2 h)
    c.in_err-point.ensures.limit

pub returns-clause-leads : goal.returns-clause-leads
returns-clause-leads c = λ P whole under b.
    closed_ok P c.close.result _ _ c.close_block.result c.args.frame.live c.close.ensures.written c.close_block.ensures
    (λ g a. block_closes P whole under c.args.frame c.args.path.now c.args.items.live (points_in c.args.sites.now) c.args.end (node_view c.args.items.node) g (points_in c.add_point.new.sites)
    b.0 b.1 b.2 c.in_ok-point.ensures.walked (rw c.in_ok-point.ensures.number at a))
