-- Goals of `push_segment`: what is done so far, and then one more.
use Rattle.std.proofs.Common.{◌≤◌, length, arith}
use Rattle.lra_path_disjuncts.proofs.{GuardSteps.grows_on, TableSteps.within, SegmentMoveSteps.alive_on, SegmentMoveSteps.way_more, SegmentMoveSteps.way_whole}
use Rattle.lra_path_disjuncts.proofs.changes.push_segment.Goals as goal

pub push_first_then-requires-clause-first : goal.push_first_then-requires-clause-first
push_first_then-requires-clause-first c = within c.push_move.new.entries.items c.moves.place _ (c.in_ok-next.ensures.grows c.moves.place _
    c.moves.invariant.has)

pub push_first_then-requires-clause-then : goal.push_first_then-requires-clause-then
push_first_then-requires-clause-then c = within c.push_move.new.entries.items c.in_ok-next.next _ c.in_ok-next.ensures.has

pub moves-preserved : goal.moves-preserved
moves-preserved c =
    let es = c.moves.entries.items in
    let fs = c.push_move.new.entries.items in
    let gs = c.push_first_then.new.entries.items in
    let xs = c.args.moves.now in
    let i = c.moves.step-index in
    let x = c.step-item.result in
    record {
      table = c.in_ok-place-2.ensures.table;
      grows = grows_on c.args.entries.now.items fs gs (grows_on c.args.entries.now.items es fs c.moves.invariant.grows c.in_ok-next.ensures.grows)
          c.in_ok-place-2.ensures.grows;
      alive = alive_on c.args.live xs i x c.moves-test.true c.step-item.is c.moves.alive c.in_ok-alive.alive c.moves.invariant.alive c.in_ok-alive.ensures;
      has = way_more c.args.live xs i x c.moves-test.true c.step-item.is es fs gs c.moves.place c.in_ok-next.next c.in_ok-place-2.place c.moves.alive
          c.moves.invariant.alive c.moves.invariant.has c.in_ok-next.ensures.grows c.in_ok-next.ensures.has c.in_ok-place-2.ensures.has;
    }

pub returns-clause-has : goal.returns-clause-has
returns-clause-has c =
    let all : length c.args.moves.now ≤ c.moves.step-index = omega (arith, c.moves-test.false) in
    way_whole c.moves.entries.items c.moves.place c.args.live c.args.moves.now c.moves.step-index all c.moves.invariant.has
