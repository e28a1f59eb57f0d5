use Rattle.std.proofs.Common.{◌+◌}
use Rattle.lra_operations.specs.Sizes.{whole_size, hung_size}
use Rattle.lra_operations.proofs.tree.Node.drop.Given as goal

abbrev pub decreases-trees : goal.decreases-trees
decreases-trees l = whole_size l.self + hung_size l.rest
