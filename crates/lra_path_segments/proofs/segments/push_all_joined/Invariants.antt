use Rattle.std.proofs.Common.{◌≡◌, ◌++◌, take}
use Rattle.lra_path_segments.specs.{TreeSegmentViews.seen, TreeSegments.all_joined}
use Rattle.lra_path_segments.proofs.segments.push_all_joined.Given as goal

abbrev pub invariant-others : goal.invariant-others
invariant-others l = seen l.all.items ≡ seen l.fn.all.items ++ all_joined (seen l.ones) (seen (take l.other-index l.others))
