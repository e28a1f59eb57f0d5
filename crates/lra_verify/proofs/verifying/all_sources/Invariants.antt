use Rattle.std.proofs.Common.{◌≡◌, ◌≤◌, ◌<◌, ◌+◌, ℕ, length, map, slice_get}
use Rattle.std.specs.List.{All}
use Rattle.lra_operations.specs.{Tree.Node, TreeViews.site_view}
use Rattle.lra_paths.specs.Paths.{actions_between_in}
use Rattle.lra_verify.specs.Crates.{lra_path_disjuncts.Tables.IsTable, lra_path_segments.Segments.Goal, lra_path_segments.TreeSegmentViews.seen, lra_path_segments.TreeSegments.AreSegmentsOf}
use Rattle.lra_verify.specs.EdgeViews.{actions_out_of}
use Rattle.lra_verify.proofs.verifying.all_sources.Given as goal

abbrev pub invariant-loop-source : goal.invariant-loop-source
invariant-loop-source l = record {
  count : length l.sources.items ≡ l.source;
  within : l.source ≤ length l.paths.sites.now + 1;
  tables : All (λ s. IsTable s.entries.items) l.sources.items;
  leads : (g : Node) → AreSegmentsOf (seen l.paths.segments.items) g → (p : ℕ) (goal : Goal) → p < l.source →
      actions_out_of (slice_get l.sources.items p) goal ≡ actions_between_in l.paths.globals.now (map site_view l.paths.sites.now) g p goal;
}
