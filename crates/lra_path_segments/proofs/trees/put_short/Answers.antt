-- The goal of `put_short`: a tree with one segment.
use Rattle.lra_path_segments.specs.{Tasks.stack, TreeSegmentViews.seen}
use Rattle.lra_path_segments.proofs.TaskSteps.{first_put, put_as}
use Rattle.lra_path_segments.proofs.trees.put_short.Goals as goal

pub returns : goal.returns
returns c = put_as c.put_last.result (stack c.args.done.now.items) (stack c.put_last.new.done.items) (seen c.push_short.new.all.items) _
    (first_put c.new-all.result.items c.push_short.new.all.items _ c.new-all.ensures.items c.in_ok-push_short.ensures) c.put_last.ensures
