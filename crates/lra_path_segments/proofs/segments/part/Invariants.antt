use Rattle.std.proofs.Common.{◌≡◌}
use Rattle.lra_path_segments.specs.{TreeSegmentViews.kind_view, TreeSegmentViews.seen, TreeSegments.segments_of_kind, TreeSegments.segments_not_of_kind}
use Rattle.lra_path_segments.proofs.segments.part.Given as goal

abbrev pub invariant-each : goal.invariant-each
invariant-each l = record {
  those : seen l.parts.those.items ≡ segments_of_kind (kind_view l.kind) (seen l.yielded);
  others : seen l.parts.others.items ≡ segments_not_of_kind (kind_view l.kind) (seen l.yielded);
}
