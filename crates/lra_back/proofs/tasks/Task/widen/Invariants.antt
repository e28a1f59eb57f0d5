use Rattle.std.proofs.Common.{length}
use Rattle.lra_back.specs.{BackwardCalls.ranks_of, BackwardCalls.task_view, Operations.lossy_back_operations, Settled.IsBackwardState}
use Rattle.lra_back.proofs.RoundSteps.{StillWidens}
use Rattle.lra_back.proofs.tasks.Task.widen.Given as goal

-- what comes of these heads comes of the first ones
abbrev pub invariant-rounds : goal.invariant-rounds
invariant-rounds g l = record {
  going : IsBackwardState g.D.Domain.abstraction g.D.Backward.backward_abstraction l.self l.going;
  still : StillWidens (lossy_back_operations g.D.Domain.abstraction g.D.Backward.backward_abstraction) (task_view l.self) (length l.self.forward.now)
      l.fn.going.flag
      l.fn.going.heads.items l.going.flag l.going.heads.items;
}

abbrev pub decreases-rounds : goal.decreases-rounds
decreases-rounds g l = ranks_of g.D.Domain.abstraction l.going.heads.items
