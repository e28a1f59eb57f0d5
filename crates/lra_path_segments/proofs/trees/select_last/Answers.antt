-- The goal of `select_last`: the last two are the trees of a `switch` and the segments from its labels.
use Rattle.lra_path_segments.specs.{Tasks.stack, TreeSegmentViews.seen, TreeSegments.selected}
use Rattle.lra_path_segments.proofs.TaskSteps.{two_used}
use Rattle.lra_path_segments.proofs.trees.select_last.Goals as goal

pub returns : goal.returns
returns c = two_used c.put_last.result selected (stack c.args.done.now.items) (stack c.take_last-row.new.done.items)
    (stack c.take_last-from_labels.new.done.items)
    (stack c.put_last.new.done.items) (seen c.take_last-row.result.items) (seen c.take_last-from_labels.result.items) (seen c.in_ok-whole.whole.items)
    c.take_last-row.ensures.top c.take_last-row.ensures.below c.take_last-from_labels.ensures.top c.take_last-from_labels.ensures.below
    c.in_ok-whole.ensures c.put_last.ensures
