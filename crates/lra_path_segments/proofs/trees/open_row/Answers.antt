-- The goal of `open_row`: the trees in a row are due, the last of them first.
use Rattle.lra_path_segments.proofs.TaskSteps.{row_runs}
use Rattle.lra_path_segments.proofs.trees.open_row.Goals as goal

pub returns-in_ok-push_task-in-Some-2-clause-runs : goal.returns-in_ok-push_task-in-Some-2-clause-runs
returns-in_ok-push_task-in-Some-2-clause-runs c =
    row_runs c.push_task-in-Some-2.result c.args.left.now.items c.push_task.new.left.items c.push_task-in-Some.new.left.items
    c.push_task-in-Some-2.new.left.items
    c.args.trees.now c.in-Some.before.now c.in-Some.last.now c.in-Some.ensures.cases.0
    c.in_ok-push_task-in-Some.ensures.runs c.in_ok-push_task-in-Some-2.ensures.runs c.push_task-in-Some-2.ensures.runs
