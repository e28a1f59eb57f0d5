use Rattle.std.proofs.Common.{◌≡◌, ◌++◌, map}
use Rattle.lra_path_segments.specs.{TreeSegmentViews.move_view, TreeSegmentViews.seen, TreeSegments.turned}
use Rattle.lra_path_segments.proofs.segments.push_turned.Given as goal

abbrev pub invariant-each : goal.invariant-each
invariant-each l = seen l.all.items ≡ seen l.fn.all.items ++ map (λ s. turned l.point (move_view l.first) s) (seen l.yielded)
