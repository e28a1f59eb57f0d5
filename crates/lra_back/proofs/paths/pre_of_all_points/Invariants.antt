use Rattle.lra_back.specs.{BackwardCalls.IfThereHas, BackwardCalls.paths_from, Operations.lossy_back_operations}
use Rattle.lra_back.proofs.JoinSteps.{StillFrom}
use Rattle.lra_back.proofs.paths.pre_of_all_points.Given as goal

-- what is still to come comes to what is joined so far
abbrev pub invariant-targets : goal.invariant-targets
invariant-targets g l = record {
  still : StillFrom (lossy_back_operations g.D.Domain.abstraction g.D.Backward.backward_abstraction) l.forward (paths_from l.source) l.heads l.point
      l.joined.value l.joined.exactness;
  has : IfThereHas g.D.Domain.abstraction (g.D.Domain.abstraction.dims l.forward) l.joined.value;
}
