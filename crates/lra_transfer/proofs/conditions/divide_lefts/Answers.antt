use Rattle.std.proofs.Common.{map, length, ◌≤◌, refl, arith}
use Rattle.lra_program.specs.ProgramViews.{cond_view}
use Rattle.lra_transfer.proofs.ChainSteps.{either_first, either_on, either_end, at_next}
use Rattle.lra_transfer.proofs.conditions.divide_lefts.Goals as goal

pub operands-preserved : goal.operands-preserved
operands-preserved g c = record {
  either = either_on g.D.Domain.abstraction c.args.around.base c.args.wanted (cond_view c.args.first.now) (map cond_view c.args.rest.now) c.args.from c.operands.lefts.items
      c.push.new.self.items c.operands.off (cond_view c.operands.last.now) c.args.rest.now c.operands.next-index c.next-item.result c.in_ok-sides.sides c.operands-test.true
      c.next-item.is c.in_ok-push.ensures.items c.operands.invariant.either c.in_ok-sides.ensures;
  at = at_next c.args.first.now c.args.rest.now c.operands.next-index c.next-item.result c.next-item.is;
}

pub operands-init : goal.operands-init
operands-init g c = record {
  either = either_first g.D.Domain.abstraction c.args.around.base c.args.wanted (cond_view c.args.first.now) (map cond_view c.args.rest.now) c.args.from c.new-lefts.result.items
      c.new-lefts.ensures.items;
  at = refl;
}

pub returns-clause-apart : goal.returns-clause-apart
returns-clause-apart g c =
    let all : length c.args.rest.now ≤ c.operands.next-index = omega (arith, c.operands-test.false) in
    either_end g.D.Domain.abstraction c.args.around.base c.args.wanted (cond_view c.args.first.now) (map cond_view c.args.rest.now) c.args.from c.operands.lefts.items c.operands.off
    (cond_view c.operands.last.now) c.args.rest.now c.operands.next-index all c.operands.invariant.either
