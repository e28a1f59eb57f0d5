-- The goal of `catch_last`: jumps come out after the last.
use Rattle.lra_operations.specs.TreeViews.{exit_view}
use Rattle.lra_path_segments.specs.{Tasks.stack, TreeSegmentViews.seen, TreeSegments.caught}
use Rattle.lra_path_segments.proofs.TaskSteps.{one_used}
use Rattle.lra_path_segments.proofs.trees.catch_last.Goals as goal

pub returns : goal.returns
returns c = one_used c.put_last.result (caught (exit_view c.args.exit)) (stack c.args.done.now.items) (stack c.take_last-body.new.done.items)
    (stack c.put_last.new.done.items) (seen c.take_last-body.result.items) (seen c.in_ok-whole.whole.items)
    c.take_last-body.ensures.top c.take_last-body.ensures.below c.in_ok-whole.ensures c.put_last.ensures
