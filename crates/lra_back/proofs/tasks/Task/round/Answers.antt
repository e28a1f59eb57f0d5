-- Goals of `round`: all heads grow, from the last point to the first.
use Rattle.std.proofs.Common.{◌≡◌, ◌-◌, ◌&&◌, Bool, true, false, arith, length, refl, subst, suc}
use Rattle.lra_back.specs.{BackwardCalls.task_view, Operations.lossy_back_operations}
use Rattle.lra_back.proofs.RoundSteps.{StillTurns, last_turn, next_turn, ranks_next}
use Rattle.lra_back.proofs.tasks.Task.round.Goals as goal

all_and : (all own : Bool) → all ≡ true → own ≡ (all && own)
all_and true own is = refl
all_and false own is = cc

none_and : (all own : Bool) → all ≡ false → all ≡ (all && own)
none_and true own is = cc
none_and false own is = refl

pub points-preserved-then-all : goal.points-preserved-then-all
points-preserved-then-all g c =
    let m = g.D.Domain.abstraction in
    let first = c.args.going.now in
    let now = c.points.going in
    let later = c.turn_unsettled.new.going in
    let i = c.points.point in
    let next : i ≡ suc (i - 1) = omega arith in
    let own = c.in_ok-own.own in
    let turns = c.in_ok-own.ensures.turns in
    let both = all_and c.points.all own c.if-all.true in
    record {
      going = c.in_ok-own.ensures.going;
      still = next_turn (lossy_back_operations m g.D.Backward.backward_abstraction) (task_view c.args.self.now) c.args.mode (length c.args.self.now.forward.now)
          first.flag
          first.heads.items i (i - 1) now.flag now.heads.items c.points.all later.flag own turns.0 later.heads.items own next c.points.invariant.still turns.1
          turns.2 both;
      falls = ranks_next m c.args.mode first.heads.items now.heads.items later.heads.items c.points.all own own c.points.invariant.falls
          c.in_ok-own.ensures.falls both;
    }

pub points-preserved : goal.points-preserved
points-preserved g c =
    let m = g.D.Domain.abstraction in
    let first = c.args.going.now in
    let now = c.points.going in
    let later = c.turn_unsettled.new.going in
    let i = c.points.point in
    let next : i ≡ suc (i - 1) = omega arith in
    let own = c.in_ok-own.own in
    let turns = c.in_ok-own.ensures.turns in
    let both = none_and c.points.all own c.if-all.false in
    record {
      going = c.in_ok-own.ensures.going;
      still = next_turn (lossy_back_operations m g.D.Backward.backward_abstraction) (task_view c.args.self.now) c.args.mode (length c.args.self.now.forward.now)
          first.flag
          first.heads.items i (i - 1) now.flag now.heads.items c.points.all later.flag own turns.0 later.heads.items c.points.all next
          c.points.invariant.still turns.1 turns.2 both;
      falls = ranks_next m c.args.mode first.heads.items now.heads.items later.heads.items c.points.all own c.points.all c.points.invariant.falls
          c.in_ok-own.ensures.falls both;
    }

pub returns-clause-round : goal.returns-clause-round
returns-clause-round g c =
    let ops = lossy_back_operations g.D.Domain.abstraction g.D.Backward.backward_abstraction in
    let t = task_view c.args.self.now in
    let n = length c.args.self.now.forward.now in
    let first = c.args.going.now in
    let now = c.points.going in
    let end : c.points.point ≡ 0 = let past = c.points-test.false in omega (arith, past) in
    last_turn ops t c.args.mode n first.flag first.heads.items now.flag now.heads.items c.points.all
    (subst (λ p. StillTurns ops t c.args.mode n first.flag first.heads.items p now.flag now.heads.items c.points.all) end c.points.invariant.still)
