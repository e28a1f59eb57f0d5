use Rattle.std.proofs.Common.{take}
use Rattle.lra_back.specs.Operations.{lossy_back_operations}
use Rattle.lra_back.proofs.HeadSteps.{AreFirst}
use Rattle.lra_back.proofs.heads.start_all.Given as goal

-- those of the points so far
abbrev pub invariant-points : goal.invariant-points
invariant-points g l =
    AreFirst (lossy_back_operations g.D.Domain.abstraction g.D.Backward.backward_abstraction) g.D.Domain.abstraction (take l.value-index l.forward)
    l.heads.items
