use Rattle.std.proofs.Common.{map, length}
use Rattle.lra_pass_results.specs.Crates.lra_domain.Interference.{no_interference}
use Rattle.lra_operations.specs.TreeViews.{node_view, row}
use Rattle.lra_pass_results.specs.Flat.{AllLeaves}
use Rattle.lra_pass_results.proofs.FlatRows.{FlatLoop}
use Rattle.lra_pass_results.proofs.flat.pass_along.Given as goal

abbrev pub invariant-leaves : goal.invariant-leaves
invariant-leaves g l = record {
  loop : FlatLoop no_interference g.D.Domain.abstraction l.plan (row (map node_view l.fn.the_row.trees.now) (node_view l.fn.the_row.last.now))
      (row (map node_view l.left) (node_view l.fn.the_row.last.now)) l.fn.so_far l.so_far;
  leaves : AllLeaves l.left;
}

abbrev pub decreases-leaves : goal.decreases-leaves
decreases-leaves g l = length l.left
