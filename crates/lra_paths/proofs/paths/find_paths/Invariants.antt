use Rattle.std.proofs.Common.{◌<◌, ℕ, map}
use Rattle.lra_operations.specs.TreeViews.{node_view, site_view}
use Rattle.lra_paths.specs.Paths.{AreFewFrom}
use Rattle.lra_paths.proofs.paths.find_paths.Given as goal

-- few from each source so far
abbrev pub invariant-sources : goal.invariant-sources
invariant-sources l = (earlier : ℕ) → earlier < l.source → AreFewFrom l.globals (map site_view l.graph.sites.items) (node_view l.graph.tree) earlier
