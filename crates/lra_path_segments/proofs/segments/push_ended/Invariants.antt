use Rattle.std.proofs.Common.{◌≡◌, ◌++◌, map}
use Rattle.lra_path_segments.specs.{TreeSegmentViews.seen, TreeSegments.ended}
use Rattle.lra_path_segments.proofs.segments.push_ended.Given as goal

abbrev pub invariant-each : goal.invariant-each
invariant-each l = seen l.all.items ≡ seen l.fn.all.items ++ map (λ s. ended s) (seen l.yielded)
