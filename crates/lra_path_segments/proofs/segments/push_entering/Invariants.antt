use Rattle.std.proofs.Common.{◌≡◌, ◌++◌, map, take}
use Rattle.lra_path_segments.specs.{TreeSegmentViews.move_view, TreeSegmentViews.seen, TreeSegments.prefixed, TreeSegments.starting, TreeSegments.segments_of_kind}
use Rattle.lra_path_segments.proofs.segments.push_entering.Given as goal

abbrev pub invariant-row : goal.invariant-row
invariant-row l = seen l.all.items ≡ seen l.fn.all.items
    ++ map (λ s. prefixed (move_view l.first) s) (segments_of_kind starting (seen (take l.stretch-index l.row)))
