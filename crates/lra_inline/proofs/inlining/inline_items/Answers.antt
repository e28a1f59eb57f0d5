-- Goals of `inline_items`: what is written out is the items, on the path as it was copied.
use Rattle.std.proofs.{Common.◌≡◌, Common.map, lemmas.Result.IfOk-weaker}
use Rattle.lra_program.specs.{ProgramViews.item_view, ProgramViews.items_of, Sites.live_after_items}
use Rattle.lra_operations.specs.TreeViews.{node_view}
use Rattle.lra_inline_steps.specs.{Inlining.points_in, Inlining.program_around, Inlining.StopsItems, Inlining.AreItemsWrittenOut, Stack.inline_task, Stack.all_items, Stack.Stops, Stack.IsWritten}
use Rattle.lra_inline_steps.proofs.Stopping.{limit_through}
use Rattle.lra_inline.proofs.inlining.inline_items.Goals as goal

pub returns-clause-last : goal.returns-clause-last
returns-clause-last c =
    let here = c.args.around.now in
    let all = items_of (map item_view c.args.items.now) in
    let whole = inline_task (all_items all) c.in_ok-path.path here.frame (points_in c.args.sites.now) in
    IfOk-weaker c.write_out.result (λ w. IsWritten (program_around here) whole (node_view w.node) w.live (points_in c.write_out.new.sites)) (λ w. w.live ≡ live_after_items here.frame.live all)
    (λ w h. h.1) (c.write_out.ensures.written whole c.in_ok-first.ensures.leads)

pub returns-clause-written : goal.returns-clause-written
returns-clause-written c =
    let here = c.args.around.now in
    let all = items_of (map item_view c.args.items.now) in
    let whole = inline_task (all_items all) c.in_ok-path.path here.frame (points_in c.args.sites.now) in
    IfOk-weaker c.write_out.result (λ w. IsWritten (program_around here) whole (node_view w.node) w.live (points_in c.write_out.new.sites))
    (λ w. AreItemsWrittenOut here c.args.sites.now c.write_out.new.sites all w.node) (λ w h. rw c.in_ok-path.ensures at h.0) (c.write_out.ensures.written whole c.in_ok-first.ensures.leads)

pub returns-clause-limit : goal.returns-clause-limit
returns-clause-limit c =
    let here = c.args.around.now in
    let all = items_of (map item_view c.args.items.now) in
    let whole = inline_task (all_items all) c.in_ok-path.path here.frame (points_in c.args.sites.now) in
    limit_through c.write_out.result (Stops (program_around here) whole) (StopsItems here c.args.sites.now all) (λ l h. rw c.in_ok-path.ensures at h)
    (c.write_out.ensures.limit whole c.in_ok-first.ensures.leads)
