use Rattle.std.proofs.Common.{None, map}
use Rattle.lra_operations_list.specs.Crates.lra_operations.TreeViews.{node_view}
use Rattle.lra_operations_list.specs.{Due.IsOnWay, Due.all_due, Due.all_left, TreeOperations.op_at_point_view}
use Rattle.lra_operations_list.proofs.trees.list_operations.Given as goal

-- what is done is listed, and the rest is due
abbrev pub invariant-trees : goal.invariant-trees
invariant-trees l = IsOnWay None (node_view l.node) l.fresh (all_due l.left.items) (map op_at_point_view l.initial.done.items)
    (map op_at_point_view l.done.items)

abbrev pub decreases-trees : goal.decreases-trees
decreases-trees l = all_left l.left.items
