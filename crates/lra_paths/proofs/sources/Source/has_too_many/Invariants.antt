use Rattle.std.proofs.Common.{take}
use Rattle.lra_paths.specs.Sources.{AreFewFor}
use Rattle.lra_paths.proofs.sources.Source.has_too_many.Given as goal

-- few to the goals of the segments so far
abbrev pub invariant-ways : goal.invariant-ways
invariant-ways l = AreFewFor l.self.entries.items l.self.segments.items (take l.way-index l.way-items)
