-- Goals of `open_arms`: arms are due, the last of them first.
use Rattle.lra_path_segments.proofs.TaskSteps.{arms_fall, arms_run}
use Rattle.lra_path_segments.proofs.trees.open_arms.Goals as goal

pub returns-in_ok-push_task-in-Some-clause-runs : goal.returns-in_ok-push_task-in-Some-clause-runs
returns-in_ok-push_task-in-Some-clause-runs c =
    arms_run c.push_arm.result c.args.left.now.items c.push_task.new.left.items c.push_arm.new.left.items c.args.selection c.args.arms.now
    c.in-Some.before.now c.in-Some.last.now c.in-Some.ensures.cases.0 c.in_ok-push_task-in-Some.ensures.runs c.push_arm.ensures.runs

pub returns-in_ok-push_task-in-Some-clause-falls : goal.returns-in_ok-push_task-in-Some-clause-falls
returns-in_ok-push_task-in-Some-clause-falls c =
    arms_fall c.push_arm.result c.args.left.now.items c.push_task.new.left.items c.push_arm.new.left.items c.args.arms.now
    c.in-Some.before.now c.in-Some.last.now c.in-Some.ensures.cases.0 c.in_ok-push_task-in-Some.ensures.size c.push_arm.ensures.size
