-- Goals of `push_turned`.
use Rattle.lra_path_segments.specs.{TreeSegmentViews.move_view, TreeSegmentViews.seen, TreeSegments.turned}
use Rattle.lra_path_segments.proofs.SegmentLists.{mapped_more, none_yet}
use Rattle.lra_path_segments.proofs.segments.push_turned.Goals as goal

pub each-init : goal.each-init
each-init c = none_yet (seen c.args.all.now.items)

pub each-preserved : goal.each-preserved
each-preserved c = mapped_more (λ s. turned c.args.point (move_view c.args.first) s) c.args.all.now.items c.each.all.items c.push.new.self.items
    c.in_ok-turned.turned c.in_ok-push.ensures.items
    c.each.yielded c.in-Some.stretch c.in_ok-turned.ensures c.each.invariant
