use Rattle.std.proofs.Common.{◌≡◌, length, take}
use Rattle.lra_paths.specs.Sources.{to_goal}
use Rattle.lra_paths.specs.Crates.lra_path_segments.TreeSegmentViews.{goal_view}
use Rattle.lra_path_disjuncts.specs.Tables.{capped}
use Rattle.lra_paths.proofs.sources.Source.count_to.Given as goal

-- the paths of the segments so far
abbrev pub invariant-ways : goal.invariant-ways
invariant-ways l = l.count ≡ capped (length (to_goal l.self.entries.items (take l.way-index l.way-items) (goal_view l.goal)))
