use Rattle.std.proofs.Common.{take}
use Rattle.lra_paths.specs.Sources.{Adds, all_departing}
use Rattle.lra_paths.specs.Crates.lra_path_segments.TreeSegmentViews.{seen}
use Rattle.lra_path_disjuncts.specs.Tables.{moves_at}
use Rattle.lra_paths.proofs.paths.push_all_departing.Given as goal

-- those of the segments so far have come
abbrev pub invariant-ways : goal.invariant-ways
invariant-ways l = Adds l.fn.source l.source (all_departing (moves_at l.fn.source.entries.items l.departure.before) l.departure.live l.departure.point
    (seen (take l.stretch-index l.ways)))
