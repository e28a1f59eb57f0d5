-- Goals of `push_apart`: a tree is due before the others, and after it no variable is new.
use Rattle.std.proofs.Common.{◌∙◌, ap, arith}
use Rattle.lra_operations_list.specs.Crates.{lra_operations.Tree.seq, lra_operations.TreeViews.node_view}
use Rattle.lra_operations_list.proofs.TreeSteps.{due_push, left_push}
use Rattle.lra_operations_list.proofs.trees.push_apart.Goals as goal

pub returns-clause-is : goal.returns-clause-is
returns-clause-is c =
    due_push c.push.new.self.items c.push-2.new.self.items _ c.in_ok-push-2.ensures.items
    ∙ ap (seq (node_view c.args.node.now)) (due_push c.args.left.now.items c.push.new.self.items _ c.in_ok-push.ensures.items)

pub returns-clause-size : goal.returns-clause-size
returns-clause-size c =
    let one = left_push c.args.left.now.items c.push.new.self.items _ c.in_ok-push.ensures.items in
    let two = left_push c.push.new.self.items c.push-2.new.self.items _ c.in_ok-push-2.ensures.items in
    omega (arith, one, two)
