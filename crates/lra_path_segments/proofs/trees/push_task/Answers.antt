-- Goals of `push_task`: this is due before the others.
use Rattle.std.proofs.{Common.ap, Common.◌∙◌, lemmas.List.Sums.sum_by_push}
use Rattle.lra_path_segments.specs.Tasks.{all_left, task_size}
use Rattle.lra_path_segments.proofs.TaskSteps.{run_push}
use Rattle.lra_path_segments.proofs.trees.push_task.Goals as goal

pub returns-clause-runs : goal.returns-clause-runs
returns-clause-runs c = run_push c.args.left.now.items c.push.new.self.items c.args.due c.in_ok-push.ensures.items

pub returns-clause-size : goal.returns-clause-size
returns-clause-size c = ap all_left c.in_ok-push.ensures.items ∙ sum_by_push task_size c.args.left.now.items c.args.due
