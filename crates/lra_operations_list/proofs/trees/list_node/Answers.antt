-- Goals of `list_node`: what a tree does itself comes after the others, and the trees in it are due before the others.
use Rattle.std.proofs.Common.{map}
use Rattle.lra_operations_list.specs.TreeOperations.{op_at_point_view}
use Rattle.lra_operations_list.proofs.TreeSteps.{way_by}
use Rattle.lra_operations_list.proofs.trees.list_node.Goals as goal

pub returns-clause-way : goal.returns-clause-way
returns-clause-way c = way_by c.args.node.now c.args.fresh c.fresh_at.result c.args.left.now.items
    c.open_node.new.left.items
    (map op_at_point_view c.args.done.now.items) (map op_at_point_view c.list_own.new.done.items) c.in_ok-open_node.ensures.is c.fresh_at.ensures
    c.in_ok-list_own.ensures
