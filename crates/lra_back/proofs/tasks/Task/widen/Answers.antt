-- Goals of `widen`: rounds that widen, until all heads are stable in one.
use Rattle.std.proofs.Common.{length}
use Rattle.lra_back.specs.{BackwardCalls.task_view, Operations.lossy_back_operations}
use Rattle.lra_back.proofs.RoundSteps.{last_round, next_round}
use Rattle.lra_back.proofs.tasks.Task.widen.Goals as goal

pub returns-then-branch-clause-widens : goal.returns-then-branch-clause-widens
returns-then-branch-clause-widens g c =
    let first = c.args.going.now in
    let now = c.rounds.going in
    let later = c.round.new.going in
    last_round (lossy_back_operations g.D.Domain.abstraction g.D.Backward.backward_abstraction) (task_view c.args.self.now) (length c.args.self.now.forward.now)
    first.flag
    first.heads.items now.flag now.heads.items later.flag later.heads.items c.in_ok-round.field-0 c.if-branch.true c.rounds.invariant.still
    c.in_ok-round.ensures.round

pub rounds-preserved : goal.rounds-preserved
rounds-preserved g c =
    let first = c.args.going.now in
    let now = c.rounds.going in
    let later = c.round.new.going in
    record {
      going = c.in_ok-round.ensures.going;
      still = next_round (lossy_back_operations g.D.Domain.abstraction g.D.Backward.backward_abstraction) (task_view c.args.self.now)
          (length c.args.self.now.forward.now) first.flag
          first.heads.items now.flag now.heads.items later.flag later.heads.items c.in_ok-round.field-0 c.if-branch.false c.rounds.invariant.still
          c.in_ok-round.ensures.round;
    }
