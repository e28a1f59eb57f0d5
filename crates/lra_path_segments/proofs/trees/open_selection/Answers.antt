-- Goals of `open_selection`: the arms are due, and then all of them as a whole.
use Rattle.lra_path_segments.specs.Tasks.{stack}
use Rattle.lra_path_segments.proofs.TaskSteps.{selection_run}
use Rattle.lra_path_segments.proofs.trees.open_selection.Goals as goal

pub returns-clause-runs : goal.returns-clause-runs
returns-clause-runs c =
    selection_run c.push_task-2.result c.args.left.now.items c.push_task.new.left.items c.push_task-2.new.left.items c.args.selection
    (stack c.args.done.now.items) (stack c.put_past.new.done.items) (stack c.put_short.new.done.items) _
    c.in_ok-put_past.ensures c.in_ok-put_short.ensures c.in_ok-push_task.ensures.runs c.push_task-2.ensures.runs
