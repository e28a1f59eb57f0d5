use Rattle.lra_back.specs.Crates.lra_path_disjuncts.TableDisjuncts.{all_done}
use Rattle.lra_back.specs.Operations.{lossy_back_operations}
use Rattle.lra_back.proofs.PathSteps.{IsOverFrom}
use Rattle.lra_back.proofs.paths.go_over.Given as goal

-- the changes from this one on are gone over
abbrev pub invariant-changes : goal.invariant-changes
invariant-changes g l =
    IsOverFrom (lossy_back_operations g.D.Domain.abstraction g.D.Backward.backward_abstraction) g.D.Domain.abstraction.dims (all_done l.path)
    (g.D.Domain.abstraction.dims l.forward)
    l.index l.fn.value l.all l.value
