use Rattle.std.proofs.Common.{length}
use Rattle.lra_back.specs.{BackwardCalls.task_view, Operations.lossy_back_operations, Settled.IsBackwardState}
use Rattle.lra_back.proofs.RoundSteps.{RanksFall, StillTurns}
use Rattle.lra_back.proofs.tasks.Task.round.Given as goal

-- what comes of the points before comes of the round
abbrev pub invariant-points : goal.invariant-points
invariant-points g l = record {
  going : IsBackwardState g.D.Domain.abstraction g.D.Backward.backward_abstraction l.self l.going;
  still : StillTurns (lossy_back_operations g.D.Domain.abstraction g.D.Backward.backward_abstraction) (task_view l.self) l.mode (length l.self.forward.now)
      l.fn.going.flag
      l.fn.going.heads.items l.point l.going.flag l.going.heads.items l.all;
  falls : RanksFall g.D.Domain.abstraction l.mode l.fn.going.heads.items l.going.heads.items l.all;
}
