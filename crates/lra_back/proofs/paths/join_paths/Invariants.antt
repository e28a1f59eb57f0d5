use Rattle.lra_back.specs.Crates.lra_path_disjuncts.TableDisjuncts.{lists_done}
use Rattle.lra_back.specs.{BackwardCalls.IfThereHas, Operations.lossy_back_operations}
use Rattle.lra_back.proofs.JoinSteps.{StillComes}
use Rattle.lra_back.proofs.paths.join_paths.Given as goal

-- what is still to come comes to what is joined so far
abbrev pub invariant-paths : goal.invariant-paths
invariant-paths g l = record {
  still : StillComes (lossy_back_operations g.D.Domain.abstraction g.D.Backward.backward_abstraction) l.forward l.target (lists_done l.paths) l.fn.so_far.value
      l.fn.so_far.exactness
      l.path-index l.joined.value l.joined.exactness;
  has : IfThereHas g.D.Domain.abstraction (g.D.Domain.abstraction.dims l.forward) l.joined.value;
}
