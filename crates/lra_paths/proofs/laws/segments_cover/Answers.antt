-- The goal of `segments_cover`: for points by their numbers.
use Rattle.lra_paths.proofs.LawsOfPaths.{all_ways_cover}
use Rattle.lra_paths.proofs.laws.segments_cover.Goals as goal

pub returns : goal.returns
returns c = all_ways_cover
