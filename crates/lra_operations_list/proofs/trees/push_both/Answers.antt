-- Goals of `push_both`: two trees are due before the others.
use Rattle.lra_operations_list.proofs.TreeSteps.{both_left}
use Rattle.lra_operations_list.proofs.trees.push_both.Goals as goal

pub returns-clause-is : goal.returns-clause-is
returns-clause-is c = rw c.in_ok-push_apart.ensures.is at c.push_apart-2.ensures.is

pub returns-clause-size : goal.returns-clause-size
returns-clause-size c = both_left c.push_apart-2.result _ _ _ _ _ c.in_ok-push_apart.ensures.size c.push_apart-2.ensures.size
