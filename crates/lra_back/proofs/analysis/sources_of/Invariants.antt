use Rattle.std.proofs.Common.{◌≡◌, ℕ, Some, length, map, slice_get}
use Rattle.lra_operations.specs.{Tree.Node, TreeViews.site_view}
use Rattle.lra_back.specs.Crates.{lra_path_segments.TreeSegmentViews.seen, lra_path_segments.TreeSegments.AreSegmentsOf}
use Rattle.lra_paths.specs.{Paths.AreFewIn, declared.sources.Source.Source}
use Rattle.lra_back.specs.BackwardCalls.{IsSourceOf}
use Rattle.lra_back.proofs.analysis.sources_of.Given as goal

-- those of the points so far
abbrev pub invariant-points : goal.invariant-points
invariant-points l = record {
  count : length l.sources.items ≡ l.point;
  are : (g : Node) → AreSegmentsOf (seen l.paths.segments.items) g → AreFewIn l.paths.globals.now (map site_view l.paths.sites.now) g
      → (p : ℕ) (s : Source) → slice_get l.sources.items p ≡ Some s → IsSourceOf l.paths.globals.now (map site_view l.paths.sites.now) g p s;
}
