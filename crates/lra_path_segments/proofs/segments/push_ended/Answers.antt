-- Goals of `push_ended`.
use Rattle.std.proofs.Common.{refl}
use Rattle.lra_path_segments.specs.{TreeSegmentViews.seen, TreeSegments.ended}
use Rattle.lra_path_segments.proofs.SegmentLists.{mapped_more, none_yet}
use Rattle.lra_path_segments.proofs.segments.push_ended.Goals as goal

pub each-init : goal.each-init
each-init c = none_yet (seen c.args.all.now.items)

pub each-preserved : goal.each-preserved
each-preserved c = mapped_more (λ s. ended s) c.args.all.now.items c.each.all.items c.push.new.self.items _ c.in_ok-push.ensures.items
    c.each.yielded c.in-Some.stretch refl c.each.invariant
