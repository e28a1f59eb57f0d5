use Rattle.std.proofs.Common.{map}
use Rattle.lra_operations.specs.{Tree.Node, TreeViews.site_view}
use Rattle.lra_back.specs.Crates.{lra_path_segments.TreeSegmentViews.seen, lra_path_segments.TreeSegments.AreSegmentsOf}
use Rattle.lra_back.proofs.BackSteps.{IsNothingBefore}
use Rattle.lra_back.proofs.analysis.are_none_left.Given as goal

-- nothing is left at those so far
abbrev pub invariant-points : goal.invariant-points
invariant-points g l = (tree : Node) → AreSegmentsOf (seen l.paths.segments.items) tree
    → IsNothingBefore g.D.Domain.abstraction l.paths.globals.now (map site_view l.paths.sites.now) tree l.values l.point
