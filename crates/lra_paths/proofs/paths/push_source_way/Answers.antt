-- Goals of `push_source_way`: what is done before stands where it was, and the segment's moves come after all others.
use Rattle.std.proofs.Common.{map}
use Rattle.lra_paths.specs.Crates.lra_path_segments.TreeSegmentViews.{move_view}
use Rattle.lra_path_disjuncts.specs.SegmentMoves.{segment_moves}
use Rattle.lra_path_disjuncts.proofs.{GuardSteps.still_in, TableSteps.within}
use Rattle.lra_paths.proofs.DepartureSteps.{adds_one}
use Rattle.lra_paths.proofs.paths.push_source_way.Goals as goal

pub push_first_then-requires-clause-first : goal.push_first_then-requires-clause-first
push_first_then-requires-clause-first c = still_in c.args.source.now.entries.items c.push_segment.new.entries.items c.in_ok-way.ensures.grows
    c.args.departure.before c.requires.before

pub push_first_then-requires-clause-then : goal.push_first_then-requires-clause-then
push_first_then-requires-clause-then c = within c.push_segment.new.entries.items c.in_ok-way.way
    (segment_moves c.args.departure.live (map move_view c.args.moves.now)) c.in_ok-way.ensures.has

pub returns : goal.returns
returns c = adds_one c.args.source.now (record { entries = c.push_first_then.new.entries; segments = c.push.new.self }) c.push_segment.new.entries.items
    c.args.goal
    c.args.departure.before c.in_ok-way.way c.in_ok-place.place c.args.departure.live (map move_view c.args.moves.now) c.requires.is c.requires.before
    c.in_ok-way.ensures.grows c.in_ok-way.ensures.has c.in_ok-place.ensures.table c.in_ok-place.ensures.grows c.in_ok-place.ensures.has
    c.in_ok-push.ensures.items
