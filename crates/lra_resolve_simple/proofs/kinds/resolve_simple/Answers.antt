-- Goals of `resolve_simple`: a statement without statements in it.
use Rattle.std.proofs.Common.{refl}
use Rattle.lra_resolve_simple.proofs.SimpleLaws.{no_other, by_one_label}
use Rattle.lra_resolve_simple.proofs.StatementLaws.{nothing_is, assign_is, call_is, break_is, continue_is, return_is, assert_is, assume_is}
use Rattle.lra_resolve_simple.proofs.kinds.resolve_simple.Goals as goal

pub unreachable-requires : goal.unreachable-requires
unreachable-requires c =
    no_other c.args.stmt.now c.requires.simple c.in_default.not-Nothing c.in_default.not-Assign c.in_default.not-Call c.in_default.not-Break c.in_default.not-Continue
    c.in_default.not-Return c.in_default.not-Assert c.in_default.not-Assume

pub unreachable-unreachable : goal.unreachable-unreachable
unreachable-unreachable c =
    no_other c.args.stmt.now c.requires.simple c.in_default.not-Nothing c.in_default.not-Assign c.in_default.not-Call c.in_default.not-Break c.in_default.not-Continue
    c.in_default.not-Return c.in_default.not-Assert c.in_default.not-Assume

pub returns-in-Nothing : goal.returns-in-Nothing
returns-in-Nothing c =
    by_one_label c.resolve_nothing.result (nothing_is c.args.stmt.now c.in-Nothing.place c.in-Nothing.is) refl
    c.resolve_nothing.ensures.told c.resolve_nothing.ensures.found c.resolve_nothing.ensures.counted c.resolve_nothing.ensures.adds

pub returns-in-Assign : goal.returns-in-Assign
returns-in-Assign c =
    by_one_label c.resolve_assignment.result (assign_is c.args.stmt.now c.in-Assign.assign c.in-Assign.is) refl
    c.resolve_assignment.ensures.told c.resolve_assignment.ensures.found c.resolve_assignment.ensures.counted c.resolve_assignment.ensures.adds

pub returns-in-Call : goal.returns-in-Call
returns-in-Call c =
    by_one_label c.resolve_call_alone.result (call_is c.args.stmt.now c.in-Call.call c.in-Call.is) refl
    c.resolve_call_alone.ensures.told c.resolve_call_alone.ensures.found c.resolve_call_alone.ensures.counted c.resolve_call_alone.ensures.adds

pub returns-in-Break : goal.returns-in-Break
returns-in-Break c =
    by_one_label c.resolve_break.result (break_is c.args.stmt.now c.in-Break.place c.in-Break.is) refl
    c.resolve_break.ensures.told c.resolve_break.ensures.found c.resolve_break.ensures.counted c.resolve_break.ensures.adds

pub returns-in-Continue : goal.returns-in-Continue
returns-in-Continue c =
    by_one_label c.resolve_continue.result (continue_is c.args.stmt.now c.in-Continue.place c.in-Continue.is) refl
    c.resolve_continue.ensures.told c.resolve_continue.ensures.found c.resolve_continue.ensures.counted c.resolve_continue.ensures.adds

pub returns-in-Return : goal.returns-in-Return
returns-in-Return c =
    by_one_label c.resolve_return.result (return_is c.args.stmt.now c.in-Return.place c.in-Return.rvalue c.in-Return.is) refl
    c.resolve_return.ensures.told c.resolve_return.ensures.found c.resolve_return.ensures.counted c.resolve_return.ensures.adds

pub returns-in-Assert : goal.returns-in-Assert
returns-in-Assert c =
    by_one_label c.resolve_assert.result (assert_is c.args.stmt.now c.in-Assert.place c.in-Assert.cond c.in-Assert.is) refl
    c.resolve_assert.ensures.told c.resolve_assert.ensures.found c.resolve_assert.ensures.counted c.resolve_assert.ensures.adds

pub returns-in-Assume : goal.returns-in-Assume
returns-in-Assume c =
    by_one_label c.resolve_assume.result (assume_is c.args.stmt.now c.in-Assume.place c.in-Assume.cond c.in-Assume.is) refl
    c.resolve_assume.ensures.told c.resolve_assume.ensures.found c.resolve_assume.ensures.counted c.resolve_assume.ensures.adds
