-- So far the first graphs' points are counted.
use Rattle.std.proofs.Common.{◌≡◌, take}
use Rattle.std.specs.List.{sum_by}
use Rattle.lra_threads_source.specs.Stages.{points_in}
use Rattle.lra_threads_source.proofs.listing.count_points.Given as goal

abbrev pub invariant-graphs : goal.invariant-graphs
invariant-graphs l = l.count ≡ sum_by points_in (take l.graph-index l.graphs)
