-- Goals of `push_all_joined`: each of the ones with each of the others.
use Rattle.lra_path_segments.specs.TreeSegmentViews.{seen}
use Rattle.lra_path_segments.proofs.SegmentLists.{joined_at, none_yet}
use Rattle.lra_path_segments.proofs.segments.push_all_joined.Goals as goal

pub others-init : goal.others-init
others-init c = none_yet (seen c.args.all.now.items)

pub others-preserved : goal.others-preserved
others-preserved c = joined_at c.args.ones.now c.args.others.now c.args.all.now.items c.others.all.items c.push_joined.new.all.items c.others.other-index
    c.other-item.result
    c.in_ok-push_joined.ensures c.others-test.true c.other-item.is c.others.invariant
