-- The goal of `tree_segments_are_exact`.
use Rattle.lra_path_segments.proofs.SegmentSteps.{are_ways}
use Rattle.lra_path_segments.proofs.laws.tree_segments_are_exact.Goals as goal

pub returns : goal.returns
returns c = are_ways
