-- Goals of the functions that call each other around `condition`: `read_test`, `read_negation`, `read_conjunction`,
-- `read_disjunction`.
use Rattle.std.proofs.{Common.◌-◌, Common.List, Common.Ok, Common.refl, Common.sym, Common.ap, Common.◌∙◌, Common.arith, Common.map, lemmas.Result.err_from_is_err_and}
use Rattle.lra_syntax.specs.declared.tokens.Mark.TheVariants as mark
use Rattle.lra_syntax.specs.Trees.{NegationTree, opposite_again, TestTree, test, ConjunctionTree, and, CondTree, conjunction, or}
use Rattle.lra_syntax.specs.Views.{all_tests, any_conjunction, test_view, negation_view, conjunction_view, cond_view, unary_view}
use Rattle.lra_syntax.specs.{declared.trees.Conjunction.Conjunction, declared.trees.Test.Test}
use Rattle.lra_base.specs.declared.refusals.Cause.TheVariants.{TooDeep}
use Rattle.lra_parser_spec.specs.Expressions.{ended, next_and, next_or, test_at, negation_at, negation_of, conjunction_at, cond_at}
use Rattle.lra_parser_spec.specs.{Reading.expect, Reading.chain_rest, Tests.first}
use Rattle.lra_parse_expressions.proofs.Turning.{exit_gives, gives_same, stop_gives, err_same, seq_exit, seq_then, parens_give, parens_exit, chain_start, grown_turn, list_grown, chain_exit, chain_end}
use Rattle.lra_parse_expressions.proofs.Unfolded.{one_on, one_off, opposite_gives, again_gives, strict_gives, operand_gives, opposed_exit, closed_exit, group_gives, value_gives, again_exit}
use Rattle.lra_parse_expressions.proofs.Unfolded.{strict_exit, operand_exit, opposed_zero, opposed_some, opposed_handed, closed_zero, closed_some}
use Rattle.lra_parse_expressions.proofs.Viewed.{operand_is, and_push, or_push, negation_handed, negation_shorter}
use Rattle.lra_parse_expressions.proofs.conditions.+condition.Goals as goal

pub read_test-returns-then-next_is-clause-gives : goal.read_test-returns-then-next_is-clause-gives
read_test-returns-then-next_is-clause-gives t c =
    opposite_gives c.args.depth c.args.rest.now c.in_ok-negation.after.now (negation_view c.in_ok-negation.negation) c.if-next_is.ensures c.in_ok-negation.ensures.gives
    ∙ ap (λ (x : TestTree). Ok (x, c.in_ok-negation.after.now)) (sym c.in_ok-test.ensures)

pub read_negation-returns-then-next_is-clause-shorter : goal.read_negation-returns-then-next_is-clause-shorter
read_negation-returns-then-next_is-clause-shorter t c =
    negation_shorter c.oppose_again.result (opposite_again (negation_view c.in_ok-negation.negation)) c.in_ok-negation.after.now c.args.rest.now c.in_ok-negation.ensures.shorter
    c.oppose_again.ensures

pub read_negation-returns-then-next_is-clause-gives : goal.read_negation-returns-then-next_is-clause-gives
read_negation-returns-then-next_is-clause-gives t c =
    negation_handed c.oppose_again.result (opposite_again (negation_view c.in_ok-negation.negation)) c.in_ok-negation.after.now (negation_at c.args.depth c.args.rest.now)
    (again_gives c.args.depth c.args.rest.now c.in_ok-negation.after.now (negation_view c.in_ok-negation.negation) c.if-next_is.ensures c.in_ok-negation.ensures.gives) c.oppose_again.ensures

pub read_negation-returns-then-next_is-2-clause-shorter : goal.read_negation-returns-then-next_is-2-clause-shorter
read_negation-returns-then-next_is-2-clause-shorter t c =
    negation_shorter c.oppose_group.result (negation_of (cond_view c.in_ok-cond.cond.value)) c.in_ok-cond.closed.now c.args.rest.now c.in_ok-cond.ensures.shorter c.oppose_group.ensures

pub read_negation-returns-then-next_is-2-clause-gives : goal.read_negation-returns-then-next_is-2-clause-gives
read_negation-returns-then-next_is-2-clause-gives t c =
    negation_handed c.oppose_group.result (negation_of (cond_view c.in_ok-cond.cond.value)) c.in_ok-cond.closed.now (negation_at c.args.depth c.args.rest.now)
    (strict_gives c.args.depth c.args.rest.now c.in_ok-cond.closed.now (cond_view c.in_ok-cond.cond.value) c.if-next_is.ensures c.if-next_is-2.ensures c.in_ok-cond.ensures.gives)
    c.oppose_group.ensures

pub read_negation-returns-clause-gives : goal.read_negation-returns-clause-gives
read_negation-returns-clause-gives t c =
    operand_gives c.args.depth c.args.rest.now c.in_ok-unary.behind.now (unary_view c.in_ok-unary.unary) c.if-next_is.ensures c.if-next_is-2.ensures c.in_ok-unary.ensures.gives
    ∙ ap (λ (x : NegationTree). Ok (x, c.in_ok-unary.behind.now)) (sym (operand_is c.in_ok-unary.unary))

pub read_conjunction-tests-init : goal.read_conjunction-tests-init
read_conjunction-tests-init t c = record {
  room = c.in_ok-first.ensures.shorter;
  same = chain_start next_and test (λ c k t. and c t) (test_at c.args.depth) (λ (ts : List Test). all_tests (test (test_view c.in_ok-first.first.value)) (map test_view ts)) c.new-tests.result.items
      (test_view c.in_ok-first.first.value) c.args.rest.now c.in_ok-first.left.now c.in_ok-first.ensures.gives c.new-tests.ensures.items refl;
}

pub read_conjunction-tests-preserved : goal.read_conjunction-tests-preserved
read_conjunction-tests-preserved t c = record {
  room = omega (arith, c.in_ok-test.ensures.shorter, c.tail.ensures.shorter);
  same = grown_turn next_and refl (λ c k t. and c t) (test_at c.args.depth) _ _
      (tt {0}) (test_view c.in_ok-test.test.value) c.tests.left.now c.tail.result.now c.in_ok-test.after.now (conjunction_at c.args.depth c.args.rest.now)
      (list_grown (all_tests _) test_view c.tests.tests.items c.push_boxed.new.list.items c.in_ok-test.test.value c.in_ok-push_boxed.ensures ∙
      and_push _ (map test_view c.tests.tests.items) (test_view c.in_ok-test.test.value))
      c.tests.invariant.same (one_on mark.And (first c.tests.left.now) c.tests-test.ensures) c.tail.ensures.value c.in_ok-test.ensures.gives c.in_ok-test.ensures.shorter;
}

pub read_conjunction-returns-clause-gives : goal.read_conjunction-returns-clause-gives
read_conjunction-returns-clause-gives t c =
    chain_end next_and refl (λ c k t. and c t) (test_at c.args.depth) _ c.tests.left.now _ c.tests.invariant.same (one_off mark.And (first c.tests.left.now) c.tests-test.ensures)
    ∙ ap (λ (x : ConjunctionTree). Ok (x, c.tests.left.now)) (sym c.in_ok-conjunction.ensures)

pub read_conjunction-returns-in_err-test-clause-gives : goal.read_conjunction-returns-in_err-test-clause-gives
read_conjunction-returns-in_err-test-clause-gives t c =
    let p = err_from_is_err_and c.from_residual-in_err-test.result c.from_residual-in_err-test.ensures.1 in
    rw (p.1, p.2) (chain_exit next_and refl (λ c k t. and c t) (test_at c.args.depth) _ (tt {0}) c.tests.left.now c.tail.result.now c.in_err-test.field-0.0
    (conjunction_at c.args.depth c.args.rest.now)
    c.tests.invariant.same (one_on mark.And (first c.tests.left.now) c.tests-test.ensures) c.tail.ensures.value c.in_err-test.ensures.gives)

pub read_disjunction-conjunctions-init : goal.read_disjunction-conjunctions-init
read_disjunction-conjunctions-init t c = record {
  room = c.in_ok-first.ensures.shorter;
  same = chain_start next_or conjunction (λ c k d. or c d) (conjunction_at c.args.depth)
      (λ (ks : List Conjunction). any_conjunction (conjunction (conjunction_view c.in_ok-first.first.value)) (map conjunction_view ks)) c.new-conjunctions.result.items
      (conjunction_view c.in_ok-first.first.value) c.args.rest.now c.in_ok-first.left.now c.in_ok-first.ensures.gives c.new-conjunctions.ensures.items refl;
}

pub read_disjunction-conjunctions-preserved : goal.read_disjunction-conjunctions-preserved
read_disjunction-conjunctions-preserved t c = record {
  room = omega (arith, c.in_ok-conjunction.ensures.shorter, c.tail.ensures.shorter);
  same = grown_turn next_or refl (λ c k d. or c d) (conjunction_at c.args.depth) (any_conjunction (conjunction (conjunction_view c.in_ok-first.first.value))
      (map conjunction_view c.conjunctions.conjunctions.items))
      (any_conjunction (conjunction (conjunction_view c.in_ok-first.first.value)) (map conjunction_view c.push_boxed.new.list.items))
      (tt {0}) (conjunction_view c.in_ok-conjunction.conjunction.value) c.conjunctions.left.now c.tail.result.now c.in_ok-conjunction.after.now (cond_at c.args.depth c.args.rest.now)
      (list_grown (any_conjunction (conjunction (conjunction_view c.in_ok-first.first.value))) conjunction_view c.conjunctions.conjunctions.items c.push_boxed.new.list.items
      c.in_ok-conjunction.conjunction.value
      c.in_ok-push_boxed.ensures
      ∙ or_push (conjunction (conjunction_view c.in_ok-first.first.value)) (map conjunction_view c.conjunctions.conjunctions.items) (conjunction_view c.in_ok-conjunction.conjunction.value))
      c.conjunctions.invariant.same (one_on mark.Or (first c.conjunctions.left.now) c.conjunctions-test.ensures) c.tail.ensures.value c.in_ok-conjunction.ensures.gives
      c.in_ok-conjunction.ensures.shorter;
}

pub read_disjunction-returns-clause-gives : goal.read_disjunction-returns-clause-gives
read_disjunction-returns-clause-gives t c =
    chain_end next_or refl (λ c k d. or c d) (conjunction_at c.args.depth) _ c.conjunctions.left.now _ c.conjunctions.invariant.same
    (one_off mark.Or (first c.conjunctions.left.now) c.conjunctions-test.ensures)
    ∙ ap (λ (x : CondTree). Ok (x, c.conjunctions.left.now)) (sym c.in_ok-cond.ensures)

pub read_disjunction-returns-in_err-conjunction-clause-gives : goal.read_disjunction-returns-in_err-conjunction-clause-gives
read_disjunction-returns-in_err-conjunction-clause-gives t c =
    let p = err_from_is_err_and c.from_residual-in_err-conjunction.result c.from_residual-in_err-conjunction.ensures.1 in
    rw (p.1, p.2) (chain_exit next_or refl (λ c k d. or c d) (conjunction_at c.args.depth) _ (tt {0}) c.conjunctions.left.now c.tail.result.now c.in_err-conjunction.field-0.0
    (cond_at c.args.depth c.args.rest.now)
    c.conjunctions.invariant.same (one_on mark.Or (first c.conjunctions.left.now) c.conjunctions-test.ensures) c.tail.ensures.value c.in_err-conjunction.ensures.gives)

pub read_test-returns-in_err-negation-clause-gives : goal.read_test-returns-in_err-negation-clause-gives
read_test-returns-in_err-negation-clause-gives t c = exit_gives _ c.from_residual.result _ _ c.from_residual.ensures.1
    (opposed_exit c.args.depth c.args.rest.now c.in_err-negation.field-0.0 c.if-next_is.ensures c.in_err-negation.ensures.gives)

pub read_test-returns-in_err-cond-clause-gives : goal.read_test-returns-in_err-cond-clause-gives
read_test-returns-in_err-cond-clause-gives t c = exit_gives _ c.from_residual-in_err-cond.result _ _ c.from_residual-in_err-cond.ensures.1
    (closed_exit c.args.depth c.args.rest.now c.in_err-cond.field-0.0 c.if-next_is.ensures c.if-next_is-2.ensures c.in_err-cond.ensures.gives)

pub read_test-returns-then-next_is-2-clause-gives : goal.read_test-returns-then-next_is-2-clause-gives
read_test-returns-then-next_is-2-clause-gives t c =
    gives_same _ c.read_after_group.result _ _ (group_gives c.args.depth c.args.rest.now c.in_ok-cond.after.now (cond_view c.in_ok-cond.cond.value) c.if-next_is.ensures c.if-next_is-2.ensures
    c.in_ok-cond.ensures.gives) c.read_after_group.ensures.gives

pub read_test-returns-clause-gives : goal.read_test-returns-clause-gives
read_test-returns-clause-gives t c =
    gives_same _ c.read_value.result _ _ (value_gives c.args.depth c.args.rest.now c.if-next_is.ensures c.if-next_is-2.ensures) c.read_value.ensures.gives

pub read_negation-returns-in_err-negation-clause-gives : goal.read_negation-returns-in_err-negation-clause-gives
read_negation-returns-in_err-negation-clause-gives t c = exit_gives _ c.from_residual.result _ _ c.from_residual.ensures.1
    (again_exit c.args.depth c.args.rest.now c.in_err-negation.field-0.0 c.if-next_is.ensures c.in_err-negation.ensures.gives)

pub read_negation-returns-in_err-cond-clause-gives : goal.read_negation-returns-in_err-cond-clause-gives
read_negation-returns-in_err-cond-clause-gives t c = exit_gives _ c.from_residual-in_err-cond.result _ _ c.from_residual-in_err-cond.ensures.1
    (strict_exit c.args.depth c.args.rest.now c.in_err-cond.field-0.0 c.if-next_is.ensures c.if-next_is-2.ensures c.in_err-cond.ensures.gives)

pub read_negation-returns-in_err-unary-clause-gives : goal.read_negation-returns-in_err-unary-clause-gives
read_negation-returns-in_err-unary-clause-gives t c = exit_gives _ c.from_residual-in_err-unary.result _ _ c.from_residual-in_err-unary.ensures.1
    (operand_exit c.args.depth c.args.rest.now c.in_err-unary.field-0.0 c.if-next_is.ensures c.if-next_is-2.ensures c.in_err-unary.ensures.gives)

pub read_opposed-returns-then-depth-eq0-clause-gives : goal.read_opposed-returns-then-depth-eq0-clause-gives
read_opposed-returns-then-depth-eq0-clause-gives t c =
    stop_gives _ c.stop.result TooDeep c.args.rest.now _ (opposed_zero c.args.depth c.args.rest.now c.if-depth-eq0.true) c.stop.ensures

pub read_opposed-returns-in_err-sign-clause-gives : goal.read_opposed-returns-in_err-sign-clause-gives
read_opposed-returns-in_err-sign-clause-gives t c =
    exit_gives _ c.from_residual.result _ _ c.from_residual.ensures.1
    (err_same _ _ _ (opposed_some c.args.depth c.args.rest.now c.if-depth-eq0.false)
    (seq_exit (expect mark.Not (tt {0})) (λ _. negation_at (c.args.depth - 1)) c.args.rest.now c.in_err-sign.field-0.0 c.in_err-sign.ensures.gives))

pub read_opposed-returns-clause-gives : goal.read_opposed-returns-clause-gives
read_opposed-returns-clause-gives t c =
    gives_same _ c.read_negation.result _ _ (opposed_handed c.args.depth c.args.rest.now c.in_ok-sign.sign.now c.if-depth-eq0.false c.in_ok-sign.ensures.gives) c.read_negation.ensures.gives

pub read_closed-returns-then-depth-eq0-clause-gives : goal.read_closed-returns-then-depth-eq0-clause-gives
read_closed-returns-then-depth-eq0-clause-gives t c =
    stop_gives _ c.stop.result TooDeep c.args.rest.now _ (closed_zero c.args.depth c.args.rest.now c.if-depth-eq0.true) c.stop.ensures

pub read_closed-returns-in_err-opened-clause-gives : goal.read_closed-returns-in_err-opened-clause-gives
read_closed-returns-in_err-opened-clause-gives t c =
    exit_gives _ c.from_residual.result _ _ c.from_residual.ensures.1
    (err_same _ _ _ (closed_some c.args.depth c.args.rest.now c.if-depth-eq0.false)
    (seq_exit (expect mark.OpenParen (tt {0})) (λ _. ended mark.CloseParen (cond_at (c.args.depth - 1))) c.args.rest.now c.in_err-opened.field-0.0 c.in_err-opened.ensures.gives))

pub read_closed-returns-in_err-cond-clause-gives : goal.read_closed-returns-in_err-cond-clause-gives
read_closed-returns-in_err-cond-clause-gives t c =
    exit_gives _ c.from_residual-in_err-cond.result _ _ c.from_residual-in_err-cond.ensures.1
    (err_same _ _ _ (closed_some c.args.depth c.args.rest.now c.if-depth-eq0.false)
    (seq_then (expect mark.OpenParen (tt {0})) (λ _. ended mark.CloseParen (cond_at (c.args.depth - 1))) c.args.rest.now c.in_ok-opened.opened.now (tt {0})
    c.in_err-cond.field-0.0 c.in_ok-opened.ensures.gives
    (seq_exit (cond_at (c.args.depth - 1)) (λ k. expect mark.CloseParen k) c.in_ok-opened.opened.now c.in_err-cond.field-0.0 c.in_err-cond.ensures.gives)))

pub read_closed-returns-in_err-closed-clause-gives : goal.read_closed-returns-in_err-closed-clause-gives
read_closed-returns-in_err-closed-clause-gives t c =
    exit_gives _ c.from_residual-in_err-closed.result _ _ c.from_residual-in_err-closed.ensures.1
    (err_same _ _ _ (closed_some c.args.depth c.args.rest.now c.if-depth-eq0.false)
    (parens_exit (cond_at (c.args.depth - 1)) c.args.rest.now c.in_ok-opened.opened.now c.in_ok-cond.after.now (cond_view c.in_ok-cond.cond.value) c.in_err-closed.field-0.0
    c.in_ok-opened.ensures.gives
    c.in_ok-cond.ensures.gives c.in_err-closed.ensures.gives))

pub read_closed-returns-clause-gives : goal.read_closed-returns-clause-gives
read_closed-returns-clause-gives t c =
    closed_some c.args.depth c.args.rest.now c.if-depth-eq0.false
    ∙ parens_give (cond_at (c.args.depth - 1)) c.args.rest.now c.in_ok-opened.opened.now c.in_ok-cond.after.now c.in_ok-closed.closed.now (cond_view c.in_ok-cond.cond.value)
    c.in_ok-opened.ensures.gives
    c.in_ok-cond.ensures.gives c.in_ok-closed.ensures.gives

pub read_conjunction-returns-in_err-first-clause-gives : goal.read_conjunction-returns-in_err-first-clause-gives
read_conjunction-returns-in_err-first-clause-gives t c =
    exit_gives _ c.from_residual.result _ _ c.from_residual.ensures.1
    (seq_exit (test_at c.args.depth) (λ i. chain_rest next_and (λ c k t. and c t) (test_at c.args.depth) (test i)) c.args.rest.now c.in_err-first.field-0.0 c.in_err-first.ensures.gives)

pub read_disjunction-returns-in_err-first-clause-gives : goal.read_disjunction-returns-in_err-first-clause-gives
read_disjunction-returns-in_err-first-clause-gives t c =
    exit_gives _ c.from_residual.result _ _ c.from_residual.ensures.1
    (seq_exit (conjunction_at c.args.depth) (λ i. chain_rest next_or (λ c k d. or c d) (conjunction_at c.args.depth) (conjunction i)) c.args.rest.now
    c.in_err-first.field-0.0 c.in_err-first.ensures.gives)
