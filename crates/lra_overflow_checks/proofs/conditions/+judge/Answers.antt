-- Goals of the functions that call each other around `judge_condition`: `judge_condition`, `pass_operand`, `judge_sides`.
use Rattle.std.proofs.Common.{map, ◌≤◌, length, arith}
use Rattle.lra_program.specs.ProgramViews.{cond_view}
use Rattle.lra_overflow_checks.proofs.Crates.lra_linearize.CondSizes.{size_in}
use Rattle.lra_overflow_checks.proofs.ConditionSteps.{compare_judged, nonzero_judged, opposite_judged, all_judged, any_judged, operand_passed, judged_first, judged_on, judged_all, first_smaller}
use Rattle.lra_overflow_checks.proofs.conditions.+judge.Goals as goal

pub judge_condition-returns-in-Compare : goal.judge_condition-returns-in-Compare
judge_condition-returns-in-Compare g t c =
    compare_judged g.D.Domain.abstraction g.L.Leaf.both g.L.Leaf.one c.args.around.base c.tell_both.result c.in-Compare.field-0 c.in-Compare.left
    c.in-Compare.right c.args.condition.now c.args.value.now c.args.told.now.items c.tell_both.new.told.items
    c.in-Compare.is c.tell_both.ensures

pub judge_condition-returns-in-Nonzero : goal.judge_condition-returns-in-Nonzero
judge_condition-returns-in-Nonzero g t c =
    nonzero_judged g.D.Domain.abstraction g.L.Leaf.both g.L.Leaf.one c.args.around.base c.tell_one.result c.in-Nonzero.e c.args.condition.now
    c.args.value.now c.args.told.now.items c.tell_one.new.told.items c.in-Nonzero.is c.tell_one.ensures

pub judge_condition-returns-in-Opposite : goal.judge_condition-returns-in-Opposite
judge_condition-returns-in-Opposite g t c =
    opposite_judged g.D.Domain.abstraction g.L.Leaf.both g.L.Leaf.one c.args.around.base c.judge_condition.result c.args.condition.now
    c.deref.result.now c.in-Opposite.inner c.args.value.now c.args.told.now.items c.judge_condition.new.told.items
    c.in-Opposite.is c.deref.ensures c.judge_condition.ensures

pub judge_condition-returns-in-All : goal.judge_condition-returns-in-All
judge_condition-returns-in-All g t c =
    all_judged g.D.Domain.abstraction g.L.Leaf.both g.L.Leaf.one c.args.around.base c.args.condition.now c.deref-in-All.result.now
    c.as_slice.result.now c.in-All.first c.in-All.rest c.deref-in-All.ensures c.as_slice.ensures.value
    c.judge_sides.result c.args.value.now c.args.told.now.items c.judge_sides.new.told.items c.in-All.is
    c.judge_sides.ensures

pub judge_condition-returns-in-Any : goal.judge_condition-returns-in-Any
judge_condition-returns-in-Any g t c =
    any_judged g.D.Domain.abstraction g.L.Leaf.both g.L.Leaf.one c.args.around.base c.args.condition.now c.deref-in-Any.result.now
    c.as_slice-in-Any.result.now c.in-Any.first c.in-Any.rest c.deref-in-Any.ensures c.as_slice-in-Any.ensures.value
    c.judge_sides-in-Any.result c.args.value.now c.args.told.now.items c.judge_sides-in-Any.new.told.items
    c.in-Any.is c.judge_sides-in-Any.ensures

pub pass_operand-returns-clause-passed : goal.pass_operand-returns-clause-passed
pass_operand-returns-clause-passed g t c =
    operand_passed g.D.Domain.abstraction g.L.Leaf.both g.L.Leaf.one c.args.around.base c.filter_condition.result (cond_view c.args.operand.now) c.args.wanted
    c.args.value.now c.filter_condition.new.value c.args.before c.in_ok-judged.judged c.worse.result c.args.told.now.items
    c.judge_condition.new.told.items c.in_ok-judged.ensures c.worse.ensures.is c.filter_condition.ensures.leaves

pub judge_sides-rest-init : goal.judge_sides-rest-init
judge_sides-rest-init g t c = record {
  judged = judged_first g.D.Domain.abstraction g.L.Leaf.both g.L.Leaf.one c.args.around.base c.args.wanted (cond_view c.args.first.now)
      (map cond_view c.args.rest.now) c.args.from.now c.in_ok-value.value c.args.told.now.items c.in_ok-value.ensures;
  smaller = first_smaller c.args.first.now c.args.rest.now;
}

pub judge_sides-rest-preserved : goal.judge_sides-rest-preserved
judge_sides-rest-preserved g t c = record {
  judged = judged_on g.D.Domain.abstraction g.L.Leaf.both g.L.Leaf.one c.args.around.base c.args.wanted (cond_view c.args.first.now)
      (map cond_view c.args.rest.now) c.args.from.now c.args.told.now.items (cond_view c.rest.last.now) c.rest.value
      c.pass_operand.new.value c.rest.so_far c.in_ok-so_far.so_far c.rest.told.items
      c.pass_operand.new.told.items c.args.rest.now c.rest.next-index c.next-item.result
      c.rest-test.true c.next-item.is c.rest.invariant.judged c.in_ok-so_far.ensures.passed c.in_ok-so_far.ensures.dims;
  smaller = size_in c.args.first.now c.args.rest.now c.rest.next-index c.next-item.result c.rest-test.true c.next-item.is;
}

pub judge_sides-returns : goal.judge_sides-returns
judge_sides-returns g t c =
    let all : length c.args.rest.now ≤ c.rest.next-index = omega (arith, c.rest-test.false) in
    judged_all g.D.Domain.abstraction g.L.Leaf.both g.L.Leaf.one c.args.around.base c.args.wanted (cond_view c.args.first.now)
    (map cond_view c.args.rest.now) c.args.from.now c.args.told.now.items (cond_view c.rest.last.now)
    c.args.rest.now c.rest.next-index c.rest.value c.rest.so_far c.in_ok-judged.judged c.worse.result
    c.rest.told.items c.judge_condition.new.told.items all c.rest.invariant.judged c.in_ok-judged.ensures
    c.worse.ensures.is
