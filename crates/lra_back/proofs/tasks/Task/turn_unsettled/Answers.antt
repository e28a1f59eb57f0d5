-- Goals of `turn_unsettled`: the point is turned, unless it is settled.
use Rattle.std.proofs.Common.{◌≡◌, Bool, List, Some, ap, slice_get, subst, true}
use Rattle.lra_back.specs.{BackwardCalls.task_view, Operations.lossy_back_operations, Settled.Settles}
use Rattle.lra_back.proofs.SettledSteps.{skipped, turned_settled}
use Rattle.lra_back.proofs.tasks.Task.turn_unsettled.Goals as goal

pub returns-then-is_settled-clause-turns : goal.returns-then-is_settled-clause-turns
returns-then-is_settled-clause-turns g c =
    let going = c.args.going.now in
    let p = c.args.point in
    let is = c.is_settled.ensures c.if-is_settled.true in
    let marked = subst (λ (marks : List Bool). slice_get marks p ≡ Some true) c.as_slice.ensures.value is.1 in
    skipped (lossy_back_operations g.D.Domain.abstraction g.D.Backward.backward_abstraction) (task_view c.args.self.now) c.args.mode p going.flag
    going.heads.items is.0
    (c.requires.going.settled.each p marked)

pub returns-clause-going : goal.returns-clause-going
returns-clause-going g c =
    let task = task_view c.args.self.now in
    let before = c.args.going.now in
    let later = c.turn.new.going in
    let p = c.args.point in
    let stable = c.in_ok-stable.stable in
    let turns = c.in_ok-stable.ensures.turns in
    let settles = subst (λ (marks : List Bool). Settles task c.args.mode p stable marks c.settle.new.settled.items) (ap (λ v. v.items) c.turn.ensures.settled)
    c.settle.ensures in
    record {
      heads = c.in_ok-stable.ensures.heads;
      settled = turned_settled (lossy_back_operations g.D.Domain.abstraction g.D.Backward.backward_abstraction) task c.args.mode p before.flag
          before.heads.items later.flag stable
          turns.0 later.heads.items before.settled.items c.settle.new.settled.items c.requires.going.settled turns.1 turns.2 settles;
    }
