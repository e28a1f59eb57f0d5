-- Goals of the functions that call each other around `condition`: `resolve_conjunction`, `resolve_cond`,
-- `resolve_negation`, `resolve_test`.
use Rattle.std.proofs.Common.{map, ap, arith, refl, ◌∙◌}
use Rattle.lra_program.specs.ProgramViews.{cond_view}
use Rattle.lra_resolution_spec.specs.NameFaults.{negation_faults, test_faults}
use Rattle.lra_scopes.proofs.CondLaws.{faults_of_test, test_means, faults_of_conjunction, conjunction_means, code_conjunction_faults, code_cond_faults, conjunction_found, cond_found, again_is}
use Rattle.lra_scopes.proofs.Loops.{memory_told, only_told, first_told, part_told, made_told, found_so, all_clean, rest_clean, parts_found}
use Rattle.lra_scopes.proofs.{CondLaws.operand_is, CondLaws.opposite_is, CondLaws.value_is, CondLaws.compare_is, FirstFaults.parts_clean}
use Rattle.lra_scopes.proofs.conditions.+condition.Goals as goal

pub resolve_conjunction-returns-in_err-first-clause-told : goal.resolve_conjunction-returns-in_err-first-clause-told
resolve_conjunction-returns-in_err-first-clause-told t c =
    first_told _ _ _ c.from_residual.result _ (code_conjunction_faults c.args.scope.now c.args.conjunction.now) c.from_residual.ensures.1 c.in_err-first.ensures.told

pub resolve_conjunction-tests-init : goal.resolve_conjunction-tests-init
resolve_conjunction-tests-init t c = record {
  first = c.in_ok-first.ensures.found;
  clean = rest_clean (faults_of_test c.args.scope.now) c.deref-test-items.result.now _ _ _ (code_conjunction_faults c.args.scope.now c.args.conjunction.now) c.in_ok-first.ensures.told
      c.deref-test-items.ensures.value;
  found = ap (map cond_view) c.new-rest.ensures.items;
}

pub resolve_conjunction-tests-preserved : goal.resolve_conjunction-tests-preserved
resolve_conjunction-tests-preserved t c = record {
  first = c.tests.invariant.first;
  clean = parts_clean (faults_of_test c.args.scope.now) c.deref-test-items.result.now c.tests.test-index c.test-item.result _ c.tests-test.true c.test-item.is c.tests.invariant.clean
      c.in_ok-further.ensures.told;
  found = parts_found cond_view (test_means c.args.scope.now) c.deref-test-items.result.now c.tests.test-index c.test-item.result c.tests.rest.items c.push.new.self.items c.in_ok-further.further
      c.tests-test.true c.test-item.is c.in_ok-push.ensures.items c.in_ok-further.ensures.found c.tests.invariant.found;
}

pub resolve_conjunction-returns-in_err-further-clause-told : goal.resolve_conjunction-returns-in_err-further-clause-told
resolve_conjunction-returns-in_err-further-clause-told t c =
    part_told (faults_of_test c.args.scope.now) c.deref-test-items.result.now c.tests.test-index c.test-item.result _ c.from_residual-in_err-further.result _
    c.tests-test.true c.test-item.is c.tests.invariant.clean c.from_residual-in_err-further.ensures.1 c.in_err-further.ensures.told

pub resolve_conjunction-returns-in_err-push-clause-told : goal.resolve_conjunction-returns-in_err-push-clause-told
resolve_conjunction-returns-in_err-push-clause-told t c =
    memory_told _ c.from_residual-in_err-push.result c.from_residual-in_err-push.ensures.1

pub resolve_conjunction-returns-clause-told : goal.resolve_conjunction-returns-clause-told
resolve_conjunction-returns-clause-told t c =
    made_told _ c.join_all.result (all_clean (faults_of_test c.args.scope.now) c.deref-test-items.result.now c.tests.test-index _ c.tests.invariant.clean c.tests-test.false)
    c.join_all.ensures.memory

pub resolve_conjunction-returns-clause-found : goal.resolve_conjunction-returns-clause-found
resolve_conjunction-returns-clause-found t c =
    found_so c.join_all.result cond_view _ _
    (conjunction_found c.args.scope.now c.args.conjunction.now _ _ _ c.deref-test-items.result.now c.tests.test-index refl c.tests.invariant.first c.tests.invariant.found
    (omega arith) c.deref-test-items.ensures.value)
    c.join_all.ensures.found

pub resolve_cond-returns-in_err-first-clause-told : goal.resolve_cond-returns-in_err-first-clause-told
resolve_cond-returns-in_err-first-clause-told t c =
    first_told _ _ _ c.from_residual.result _ (code_cond_faults c.args.scope.now c.args.cond.now) c.from_residual.ensures.1 c.in_err-first.ensures.told

pub resolve_cond-conjunctions-init : goal.resolve_cond-conjunctions-init
resolve_cond-conjunctions-init t c = record {
  first = c.in_ok-first.ensures.found;
  clean = rest_clean (faults_of_conjunction c.args.scope.now) c.deref-conjunction-items.result.now _ _ _ (code_cond_faults c.args.scope.now c.args.cond.now) c.in_ok-first.ensures.told
      c.deref-conjunction-items.ensures.value;
  found = ap (map cond_view) c.new-rest.ensures.items;
}

pub resolve_cond-conjunctions-preserved : goal.resolve_cond-conjunctions-preserved
resolve_cond-conjunctions-preserved t c = record {
  first = c.conjunctions.invariant.first;
  clean = parts_clean (faults_of_conjunction c.args.scope.now) c.deref-conjunction-items.result.now c.conjunctions.conjunction-index c.conjunction-item.result _ c.conjunctions-test.true
      c.conjunction-item.is c.conjunctions.invariant.clean c.in_ok-further.ensures.told;
  found = parts_found cond_view (conjunction_means c.args.scope.now) c.deref-conjunction-items.result.now c.conjunctions.conjunction-index c.conjunction-item.result
      c.conjunctions.rest.items c.push.new.self.items c.in_ok-further.further
      c.conjunctions-test.true c.conjunction-item.is c.in_ok-push.ensures.items c.in_ok-further.ensures.found c.conjunctions.invariant.found;
}

pub resolve_cond-returns-in_err-further-clause-told : goal.resolve_cond-returns-in_err-further-clause-told
resolve_cond-returns-in_err-further-clause-told t c =
    part_told (faults_of_conjunction c.args.scope.now) c.deref-conjunction-items.result.now c.conjunctions.conjunction-index c.conjunction-item.result _ c.from_residual-in_err-further.result _
    c.conjunctions-test.true c.conjunction-item.is c.conjunctions.invariant.clean c.from_residual-in_err-further.ensures.1 c.in_err-further.ensures.told

pub resolve_cond-returns-in_err-push-clause-told : goal.resolve_cond-returns-in_err-push-clause-told
resolve_cond-returns-in_err-push-clause-told t c =
    memory_told _ c.from_residual-in_err-push.result c.from_residual-in_err-push.ensures.1

pub resolve_cond-returns-clause-told : goal.resolve_cond-returns-clause-told
resolve_cond-returns-clause-told t c =
    made_told _ c.join_any.result (all_clean (faults_of_conjunction c.args.scope.now) c.deref-conjunction-items.result.now c.conjunctions.conjunction-index _ c.conjunctions.invariant.clean
    c.conjunctions-test.false)
    c.join_any.ensures.memory

pub resolve_cond-returns-clause-found : goal.resolve_cond-returns-clause-found
resolve_cond-returns-clause-found t c =
    found_so c.join_any.result cond_view _ _
    (cond_found c.args.scope.now c.args.cond.now _ _ _ c.deref-conjunction-items.result.now c.conjunctions.conjunction-index refl c.conjunctions.invariant.first
    c.conjunctions.invariant.found
    (omega arith) c.deref-conjunction-items.ensures.value)
    c.join_any.ensures.found

pub resolve_negation-returns-in_err-inner-in-Again-clause-told : goal.resolve_negation-returns-in_err-inner-in-Again-clause-told
resolve_negation-returns-in_err-inner-in-Again-clause-told t c =
    only_told _ _ c.from_residual.result _ (ap (negation_faults c.args.scope.now) (again_is c.args.negation.now c.in-Again.inner c.deref.result.now c.in-Again.is c.deref.ensures))
    c.from_residual.ensures.1 c.in_err-inner-in-Again.ensures.told

pub resolve_negation-returns-in_err-new-in-Again-clause-told : goal.resolve_negation-returns-in_err-new-in-Again-clause-told
resolve_negation-returns-in_err-new-in-Again-clause-told t c =
    memory_told _ c.from_residual-in_err-new-in-Again.result c.from_residual-in_err-new-in-Again.ensures.1

pub resolve_negation-returns-in_err-operand-in-Operand-clause-told : goal.resolve_negation-returns-in_err-operand-in-Operand-clause-told
resolve_negation-returns-in_err-operand-in-Operand-clause-told t c =
    only_told _ _ c.from_residual-in_err-operand-in-Operand.result _ (ap (negation_faults c.args.scope.now) (operand_is c.args.negation.now c.in-Operand.unary c.in-Operand.is))
    c.from_residual-in_err-operand-in-Operand.ensures.1
    c.in_err-operand-in-Operand.ensures.told

pub resolve_negation-returns-in_ok-new-in-Again-clause-told : goal.resolve_negation-returns-in_ok-new-in-Again-clause-told
resolve_negation-returns-in_ok-new-in-Again-clause-told t c =
    ap (negation_faults c.args.scope.now) (again_is c.args.negation.now c.in-Again.inner c.deref.result.now c.in-Again.is c.deref.ensures) ∙ c.in_ok-inner-in-Again.ensures.told

pub resolve_negation-returns-in_ok-operand-in-Operand-clause-told : goal.resolve_negation-returns-in_ok-operand-in-Operand-clause-told
resolve_negation-returns-in_ok-operand-in-Operand-clause-told t c =
    ap (negation_faults c.args.scope.now) (operand_is c.args.negation.now c.in-Operand.unary c.in-Operand.is) ∙ c.in_ok-operand-in-Operand.ensures.told

pub resolve_test-returns-in_err-inner-in-Opposite-clause-told : goal.resolve_test-returns-in_err-inner-in-Opposite-clause-told
resolve_test-returns-in_err-inner-in-Opposite-clause-told t c =
    only_told _ _ c.from_residual.result _ (ap (test_faults c.args.scope.now) (opposite_is c.args.test.now c.in-Opposite.negation c.in-Opposite.is)) c.from_residual.ensures.1
    c.in_err-inner-in-Opposite.ensures.told

pub resolve_test-returns-in_err-new-in-Opposite-clause-told : goal.resolve_test-returns-in_err-new-in-Opposite-clause-told
resolve_test-returns-in_err-new-in-Opposite-clause-told t c =
    memory_told _ c.from_residual-in_err-new-in-Opposite.result c.from_residual-in_err-new-in-Opposite.ensures.1

pub resolve_test-returns-in_err-value-in-Value-clause-told : goal.resolve_test-returns-in_err-value-in-Value-clause-told
resolve_test-returns-in_err-value-in-Value-clause-told t c =
    only_told _ _ c.from_residual-in_err-value-in-Value.result _ (ap (test_faults c.args.scope.now) (value_is c.args.test.now c.in-Value.expr c.in-Value.is))
    c.from_residual-in_err-value-in-Value.ensures.1
    c.in_err-value-in-Value.ensures.told

pub resolve_test-returns-in_ok-new-in-Opposite-clause-told : goal.resolve_test-returns-in_ok-new-in-Opposite-clause-told
resolve_test-returns-in_ok-new-in-Opposite-clause-told t c =
    ap (test_faults c.args.scope.now) (opposite_is c.args.test.now c.in-Opposite.negation c.in-Opposite.is) ∙ c.in_ok-inner-in-Opposite.ensures.told

pub resolve_test-returns-in_ok-value-in-Value-clause-told : goal.resolve_test-returns-in_ok-value-in-Value-clause-told
resolve_test-returns-in_ok-value-in-Value-clause-told t c =
    ap (test_faults c.args.scope.now) (value_is c.args.test.now c.in-Value.expr c.in-Value.is) ∙ c.in_ok-value-in-Value.ensures.told

pub resolve_test-returns-in-Compare-clause-told : goal.resolve_test-returns-in-Compare-clause-told
resolve_test-returns-in-Compare-clause-told t c =
    rw (compare_is c.args.test.now c.in-Compare.left c.in-Compare.comparison c.in-Compare.right c.in-Compare.is) c.resolve_comparison.ensures.told

pub resolve_test-returns-in-Compare-clause-found : goal.resolve_test-returns-in-Compare-clause-found
resolve_test-returns-in-Compare-clause-found t c =
    rw (compare_is c.args.test.now c.in-Compare.left c.in-Compare.comparison c.in-Compare.right c.in-Compare.is) c.resolve_comparison.ensures.found
