use Rattle.std.proofs.Common.{length}
use Rattle.lra_pass_results.specs.Flat.{AllLeaves}
use Rattle.lra_pass_results.proofs.flat.has_leaves.Given as goal

abbrev pub invariant-trees : goal.invariant-trees
invariant-trees l = AllLeaves l.left → AllLeaves l.fn.the_row.trees.now

abbrev pub decreases-trees : goal.decreases-trees
decreases-trees l = length l.left
