use Rattle.std.proofs.Common.{◌≡◌, ◌++◌, map}
use Rattle.lra_path_segments.specs.{TreeSegmentViews.move_view, TreeSegmentViews.seen, TreeSegments.prefixed}
use Rattle.lra_path_segments.proofs.segments.push_prefixed.Given as goal

abbrev pub invariant-each : goal.invariant-each
invariant-each l = seen l.all.items ≡ seen l.fn.all.items ++ map (λ s. prefixed (move_view l.first) s) (seen l.yielded)
