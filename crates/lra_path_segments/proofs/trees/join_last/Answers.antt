-- The goal of `join_last`: the last tree, and then that before it.
use Rattle.lra_path_segments.specs.{Tasks.stack, TreeSegmentViews.seen, TreeSegments.sequenced}
use Rattle.lra_path_segments.proofs.TaskSteps.{two_used}
use Rattle.lra_path_segments.proofs.trees.join_last.Goals as goal

pub returns : goal.returns
returns c = two_used c.put_last.result sequenced (stack c.args.done.now.items) (stack c.take_last-first.new.done.items) (stack
    c.take_last-second.new.done.items)
    (stack c.put_last.new.done.items) (seen c.take_last-first.result.items) (seen c.take_last-second.result.items) (seen c.in_ok-whole.whole.items)
    c.take_last-first.ensures.top c.take_last-first.ensures.below c.take_last-second.ensures.top c.take_last-second.ensures.below c.in_ok-whole.ensures
    c.put_last.ensures
