use Rattle.std.proofs.Common.{◌≡◌, [], take}
use Rattle.lra_back.specs.Crates.lra_path_segments.TreeSegmentViews.{seen}
use Rattle.lra_back.proofs.SeedSteps.{denials_in}
use Rattle.lra_back.proofs.seeds.find_asserted.Given as goal

-- none so far
abbrev pub invariant-ways : goal.invariant-ways
invariant-ways l = denials_in l.point (seen (take l.stretch-index l.ways)) ≡ []
