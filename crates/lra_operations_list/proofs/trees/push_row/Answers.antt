-- Goals of `push_row`: a row of trees is due before the others.
use Rattle.std.proofs.Common.{arith}
use Rattle.lra_operations_list.proofs.TreeSteps.{due_push, left_push}
use Rattle.lra_operations_list.proofs.trees.push_row.Goals as goal

pub returns-clause-is : goal.returns-clause-is
returns-clause-is c = due_push c.args.left.now.items c.push.new.self.items _ c.in_ok-push.ensures.items

pub returns-clause-size : goal.returns-clause-size
returns-clause-size c =
    let one = left_push c.args.left.now.items c.push.new.self.items _ c.in_ok-push.ensures.items in
    omega (arith, one)
