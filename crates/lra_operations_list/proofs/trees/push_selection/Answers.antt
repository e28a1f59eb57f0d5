-- Goals of `push_selection`: the trees of a `switch` are due before the others.
use Rattle.lra_operations_list.proofs.TreeSteps.{due_push, left_push, selection_due, selection_left}
use Rattle.lra_operations_list.proofs.trees.push_selection.Goals as goal

pub returns-clause-is : goal.returns-clause-is
returns-clause-is c =
    selection_due c.push_arms.result _ _ _ _ (due_push c.args.left.now.items c.push.new.self.items _ c.in_ok-push.ensures.items) c.push_arms.ensures.is

pub returns-clause-size : goal.returns-clause-size
returns-clause-size c =
    selection_left c.push_arms.result _ _ _ _ (left_push c.args.left.now.items c.push.new.self.items _ c.in_ok-push.ensures.items) c.push_arms.ensures.size
