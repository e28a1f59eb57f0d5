use Rattle.std.proofs.Common.{◌≡◌, [], ◌∷◌}
use Rattle.lra_operations.specs.TreeViews.{node_view}
use Rattle.lra_path_segments.specs.{Tasks.all_left, Tasks.run, Tasks.stack, TreeSegments.tree_segments}
use Rattle.lra_path_segments.proofs.trees.segments_of.Given as goal

-- what is due makes the tree's segments of those that are there
abbrev pub invariant-trees : goal.invariant-trees
invariant-trees l = run l.left.items (stack l.done.items) ≡ tree_segments (node_view l.node) ∷ []

abbrev pub decreases-trees : goal.decreases-trees
decreases-trees l = all_left l.left.items
