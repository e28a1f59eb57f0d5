-- The goal of `push_both`: the tree, and then this, are due.
use Rattle.lra_operations.specs.TreeViews.{node_view}
use Rattle.lra_path_segments.specs.{Tasks.effect, TreeSegments.tree_segments}
use Rattle.lra_path_segments.proofs.TaskSteps.{both_run}
use Rattle.lra_path_segments.proofs.trees.push_both.Goals as goal

pub returns-clause-runs : goal.returns-clause-runs
returns-clause-runs c = both_run c.push_task-2.result c.args.left.now.items c.push_task.new.left.items c.push_task-2.new.left.items (effect c.args.then)
    (tree_segments (node_view c.args.first.now)) c.in_ok-push_task.ensures.runs c.push_task-2.ensures.runs
