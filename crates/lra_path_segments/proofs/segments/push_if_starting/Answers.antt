-- Goals of `push_if_starting`: one that begins at the start, after the move.
use Rattle.lra_path_segments.specs.{TreeSegmentViews.move_view, TreeSegmentViews.seen, TreeSegmentViews.tree_segment_view, TreeSegments.prefixed, TreeSegments.starting}
use Rattle.lra_path_segments.proofs.SegmentLists.{if_not, if_so}
use Rattle.lra_path_segments.proofs.segments.push_if_starting.Goals as goal

pub returns-then-is_of : goal.returns-then-is_of
returns-then-is_of c = if_so starting (λ s. prefixed (move_view c.args.first) s) c.push_led.result c.is_of.result (tree_segment_view c.args.stretch.now)
    (seen c.args.all.now.items) (seen c.push_led.new.all.items) c.is_of.ensures c.if-is_of.true c.push_led.ensures

pub returns-else-is_of : goal.returns-else-is_of
returns-else-is_of c = if_not starting (λ s. prefixed (move_view c.args.first) s) c.is_of.result (tree_segment_view c.args.stretch.now)
    (seen c.args.all.now.items) c.is_of.ensures c.if-is_of.false
