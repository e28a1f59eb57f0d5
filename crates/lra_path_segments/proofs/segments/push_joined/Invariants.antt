use Rattle.std.proofs.Common.{◌≡◌, ◌++◌, map, take}
use Rattle.lra_path_segments.specs.{TreeSegmentViews.tree_segment_view, TreeSegmentViews.seen, TreeSegments.joined_segments}
use Rattle.lra_path_segments.proofs.segments.push_joined.Given as goal

abbrev pub invariant-ones : goal.invariant-ones
invariant-ones l = seen l.all.items ≡ seen l.fn.all.items ++ map (λ x. joined_segments x (tree_segment_view l.other)) (seen (take l.one-index l.ones))
