use Rattle.std.proofs.Common.{drop, map, suc, take}
use Rattle.std.specs.List.{flat_map}
use Rattle.lra_linearize.specs.Crates.lra_operations.TreeViews.{node_view}
use Rattle.lra_analysis_spec.specs.Thresholds.{rows_in}
use Rattle.lra_linearize.specs.Thresholds.{HasTaken}
use Rattle.lra_linearize.proofs.{TreeSizes.arm_size, TreeSizes.arms_size, TreeSizes.tree_size, TreeSizes.trees_size, TreeViews.IsTakenFrom}
use Rattle.lra_linearize.proofs.thresholds.+tree.Given as goal

abbrev pub decreases-take_tree : goal.decreases-take_tree
decreases-take_tree l = tree_size l.node.now

abbrev pub decreases-take_trees : goal.decreases-take_trees
decreases-take_trees l = trees_size l.trees.now l.last.now

abbrev pub decreases-take_round : goal.decreases-take_round
decreases-take_round l = suc (tree_size l.body.now)

-- the rows of the trees so far
abbrev pub invariant-take_trees-trees : goal.invariant-take_trees-trees
invariant-take_trees-trees l = HasTaken l.fn.rows l.rows (flat_map (rows_in l.fn.rows.dims) (map node_view (take l.tree-index l.trees)))

abbrev pub decreases-take_arms : goal.decreases-take_arms
decreases-take_arms l = arms_size l.arms.now

abbrev pub decreases-take_arm : goal.decreases-take_arm
decreases-take_arm l = arm_size l.arm.now

-- the rows of the arms so far
abbrev pub invariant-take_arms-arms : goal.invariant-take_arms-arms
invariant-take_arms-arms l = IsTakenFrom l.fn.rows l.rows l.arms (drop l.arm-index l.arms)
