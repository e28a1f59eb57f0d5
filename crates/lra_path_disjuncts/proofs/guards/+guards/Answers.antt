-- Goals of the functions that call each other around `push_guards`: `push_guards`, `push_operand_guards`, `push_chain_guards`.
use Rattle.std.proofs.Common.{rules, arith, []}
use Rattle.lra_program.specs.ProgramViews.{cond_view}
use Rattle.lra_path_disjuncts.proofs.ChainSteps.{both_in, puts_in_front, joined_last, joined_in, joined_next, joined_all, size_at, size_next}
use Rattle.lra_path_disjuncts.proofs.GuardSteps.{grows_on, grows_to, still_in}
use Rattle.lra_path_disjuncts.proofs.guards.+guards.Goals as goal

pub push_operand_guards-join_operands-requires-clause-one : goal.push_operand_guards-join_operands-requires-clause-one
push_operand_guards-join_operands-requires-clause-one t c = both_in c.push_guards.new.entries.items c.args.frame.live c.args.frame.base (cond_view
    c.args.operand.now)
    c.in_ok-one.one c.in_ok-one.ensures.has

pub push_operand_guards-join_operands-requires-clause-other : goal.push_operand_guards-join_operands-requires-clause-other
push_operand_guards-join_operands-requires-clause-other t c = (
  still_in c.args.entries.now.items c.push_guards.new.entries.items c.in_ok-one.ensures.grows c.args.later.so c.requires.later.0,
  still_in c.args.entries.now.items c.push_guards.new.entries.items c.in_ok-one.ensures.grows c.args.later.not c.requires.later.1,
)

pub push_operand_guards-returns-clause-puts : goal.push_operand_guards-returns-clause-puts
push_operand_guards-returns-clause-puts t c = puts_in_front c.join_operands.result c.args.entries.now.items c.push_guards.new.entries.items
    c.join_operands.new.entries.items c.args.frame.live c.args.frame.base c.args.any (cond_view c.args.operand.now) c.in_ok-one.one c.args.later
    c.in_ok-one.ensures.grows c.in_ok-one.ensures.has c.join_operands.ensures.joins

pub push_chain_guards-push_guards-requires-2 : goal.push_chain_guards-push_guards-requires-2
push_chain_guards-push_guards-requires-2 t c =
    let smaller = size_at c.args.first.now c.args.rest.now c.in-Some.before.now c.in-Some.last.now [] c.in-Some.ensures.cases.0 in
    (omega (arith, c.decreases, smaller), (search rules, search rules))

pub push_chain_guards-operands-init : goal.push_chain_guards-operands-init
push_chain_guards-operands-init t c = record {
  table = c.in_ok-whole.ensures.table;
  grows = c.in_ok-whole.ensures.grows;
  joined = joined_last c.args.frame.live c.args.frame.base c.args.any c.args.rest.now c.push_guards-2.new.entries.items c.in-Some.before.now c.in-Some.last.now
      c.in_ok-whole.whole c.in-Some.ensures.cases.0 c.in_ok-whole.ensures.has;
}

pub push_chain_guards-push_operand_guards-requires : goal.push_chain_guards-push_operand_guards-requires
push_chain_guards-push_operand_guards-requires t c =
    let smaller = size_next c.operands.entries.items c.args.frame.live c.args.frame.base c.args.any c.args.first.now c.args.rest.now c.operands.left.now
    c.in-Some-split_last.earlier.now c.in-Some-split_last.next.now c.operands.whole c.in-Some-split_last.ensures.cases.0 c.operands.invariant.joined in
    let there = joined_in c.args.frame.live c.args.frame.base c.args.any c.args.rest.now c.operands.entries.items c.operands.left.now c.operands.whole
    c.operands.invariant.joined in
    (omega (arith, c.decreases, smaller), (search rules, (search rules, there)))

pub push_chain_guards-operands-preserved : goal.push_chain_guards-operands-preserved
push_chain_guards-operands-preserved t c = record {
  table = c.in_ok-whole-2.ensures.table;
  grows = grows_on c.args.entries.now.items c.operands.entries.items c.push_operand_guards.new.entries.items c.operands.invariant.grows
      c.in_ok-whole-2.ensures.grows;
  joined = joined_next c.args.frame.live c.args.frame.base c.args.any c.args.rest.now c.operands.entries.items c.push_operand_guards.new.entries.items
      c.operands.left.now c.in-Some-split_last.earlier.now c.in-Some-split_last.next.now c.operands.whole c.in_ok-whole-2.whole
      c.in-Some-split_last.ensures.cases.0 c.operands.invariant.joined c.in_ok-whole-2.ensures.puts;
}

pub push_chain_guards-push_operand_guards-requires-2 : goal.push_chain_guards-push_operand_guards-requires-2
push_chain_guards-push_operand_guards-requires-2 t c =
    let there = joined_in c.args.frame.live c.args.frame.base c.args.any c.args.rest.now c.operands.entries.items c.operands.left.now c.operands.whole
    c.operands.invariant.joined in
    (omega (arith, c.decreases), (search rules, (search rules, there)))

pub push_chain_guards-returns-clause-grows : goal.push_chain_guards-returns-clause-grows
push_chain_guards-returns-clause-grows t c = grows_to c.push_operand_guards-2.result c.args.entries.now.items c.operands.entries.items
    c.push_operand_guards-2.new.entries.items c.operands.invariant.grows c.push_operand_guards-2.ensures.grows

pub push_chain_guards-returns-clause-has : goal.push_chain_guards-returns-clause-has
push_chain_guards-returns-clause-has t c = joined_all c.args.frame.live c.args.frame.base c.args.any c.args.rest.now c.push_operand_guards-2.result
    c.operands.entries.items c.push_operand_guards-2.new.entries.items c.operands.left.now c.args.first.now c.operands.whole
    (search rules) c.operands.invariant.joined c.push_operand_guards-2.ensures.puts
