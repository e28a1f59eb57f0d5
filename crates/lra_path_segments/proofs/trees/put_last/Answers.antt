-- The goal of `put_last`: these segments come last.
use Rattle.lra_path_segments.proofs.TaskSteps.{stack_push}
use Rattle.lra_path_segments.proofs.trees.put_last.Goals as goal

pub returns : goal.returns
returns c = stack_push c.args.done.now.items c.push.new.self.items c.args.last c.in_ok-push.ensures.items
