-- Goals of `push_entering`: those that begin at the start, after the move.
use Rattle.lra_path_segments.specs.{TreeSegmentViews.move_view, TreeSegmentViews.seen, TreeSegments.prefixed, TreeSegments.starting}
use Rattle.lra_path_segments.proofs.SegmentLists.{none_yet, one_picked}
use Rattle.lra_path_segments.proofs.segments.push_entering.Goals as goal

pub row-init : goal.row-init
row-init c = none_yet (seen c.args.all.now.items)

pub row-preserved : goal.row-preserved
row-preserved c = one_picked starting (λ s. prefixed (move_view c.args.first) s) (seen c.args.all.now.items) (seen c.row.all.items)
    (seen c.push_if_starting.new.all.items) c.args.row.now c.row.stretch-index c.stretch-item.result c.row-test.true c.stretch-item.is
    c.in_ok-push_if_starting.ensures c.row.invariant
