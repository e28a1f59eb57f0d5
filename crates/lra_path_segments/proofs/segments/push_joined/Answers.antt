-- Goals of `push_joined`: each of the ones, and then the other.
use Rattle.lra_path_segments.specs.{TreeSegmentViews.seen, TreeSegmentViews.tree_segment_view, TreeSegments.joined_segments}
use Rattle.lra_path_segments.proofs.SegmentLists.{mapped_at, none_yet}
use Rattle.lra_path_segments.proofs.segments.push_joined.Goals as goal

pub ones-init : goal.ones-init
ones-init c = none_yet (seen c.args.all.now.items)

pub ones-preserved : goal.ones-preserved
ones-preserved c = mapped_at (λ x. joined_segments x (tree_segment_view c.args.other.now)) c.args.all.now.items c.ones.all.items c.push.new.self.items
    c.in_ok-whole.whole
    c.in_ok-push.ensures.items
    c.args.ones.now c.ones.one-index c.one-item.result c.in_ok-whole.ensures c.ones-test.true c.one-item.is c.ones.invariant
