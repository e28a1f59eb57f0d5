-- Goals of the functions that call each other around `expression`: `resolve_term`, `resolve_expr`.
use Rattle.std.proofs.Common.{map, ap, arith, refl}
use Rattle.lra_program.specs.ProgramViews.{expr_view, operation_view}
use Rattle.lra_scopes.proofs.ChainLaws.{faults_of_factor, factor_means, faults_of_summand, summand_means, code_term_faults, code_expr_faults, term_found, sum_found}
use Rattle.lra_scopes.proofs.{FirstFaults.parts_clean, Loops.memory_told, Loops.first_told, Loops.part_told, Loops.made_told, Loops.found_so, Loops.all_clean, Loops.rest_clean, Loops.parts_found}
use Rattle.lra_scopes.proofs.expressions.+expression.Goals as goal

pub resolve_term-returns-in_err-first-clause-told : goal.resolve_term-returns-in_err-first-clause-told
resolve_term-returns-in_err-first-clause-told t c =
    first_told _ _ _ c.from_residual.result _ (code_term_faults c.args.scope.now c.args.term.now) c.from_residual.ensures.1 c.in_err-first.ensures.told

pub resolve_term-factors-init : goal.resolve_term-factors-init
resolve_term-factors-init t c = record {
  first = c.in_ok-first.ensures.found;
  clean = rest_clean (faults_of_factor c.args.scope.now) c.deref-factor-items.result.now _ _ _ (code_term_faults c.args.scope.now c.args.term.now) c.in_ok-first.ensures.told
      c.deref-factor-items.ensures.value;
  found = ap (map operation_view) c.new-rest.ensures.items;
}

pub resolve_term-factors-preserved : goal.resolve_term-factors-preserved
resolve_term-factors-preserved t c = record {
  first = c.factors.invariant.first;
  clean = parts_clean (faults_of_factor c.args.scope.now) c.deref-factor-items.result.now c.factors.factor-index c.factor-item.result _ c.factors-test.true c.factor-item.is
      c.factors.invariant.clean c.in_ok-operation.ensures.told;
  found = parts_found operation_view (factor_means c.args.scope.now) c.deref-factor-items.result.now c.factors.factor-index c.factor-item.result c.factors.rest.items c.push.new.self.items
      c.in_ok-operation.operation
      c.factors-test.true c.factor-item.is c.in_ok-push.ensures.items c.in_ok-operation.ensures.found c.factors.invariant.found;
}

pub resolve_term-returns-in_err-operation-clause-told : goal.resolve_term-returns-in_err-operation-clause-told
resolve_term-returns-in_err-operation-clause-told t c =
    part_told (faults_of_factor c.args.scope.now) c.deref-factor-items.result.now c.factors.factor-index c.factor-item.result _ c.from_residual-in_err-operation.result _
    c.factors-test.true c.factor-item.is c.factors.invariant.clean c.from_residual-in_err-operation.ensures.1 c.in_err-operation.ensures.told

pub resolve_term-returns-in_err-push-clause-told : goal.resolve_term-returns-in_err-push-clause-told
resolve_term-returns-in_err-push-clause-told t c =
    memory_told _ c.from_residual-in_err-push.result c.from_residual-in_err-push.ensures.1

pub resolve_term-returns-clause-told : goal.resolve_term-returns-clause-told
resolve_term-returns-clause-told t c =
    made_told _ c.join_operands.result (all_clean (faults_of_factor c.args.scope.now) c.deref-factor-items.result.now c.factors.factor-index _ c.factors.invariant.clean c.factors-test.false)
    c.join_operands.ensures.memory

pub resolve_term-returns-clause-found : goal.resolve_term-returns-clause-found
resolve_term-returns-clause-found t c =
    found_so c.join_operands.result expr_view _ _
    (term_found c.args.scope.now c.args.term.now _ _ _ c.deref-factor-items.result.now c.factors.factor-index refl c.factors.invariant.first c.factors.invariant.found
    (omega arith) c.deref-factor-items.ensures.value)
    c.join_operands.ensures.found

pub resolve_expr-returns-in_err-first-clause-told : goal.resolve_expr-returns-in_err-first-clause-told
resolve_expr-returns-in_err-first-clause-told t c =
    first_told _ _ _ c.from_residual.result _ (code_expr_faults c.args.scope.now c.args.expr.now) c.from_residual.ensures.1 c.in_err-first.ensures.told

pub resolve_expr-summands-init : goal.resolve_expr-summands-init
resolve_expr-summands-init t c = record {
  first = c.in_ok-first.ensures.found;
  clean = rest_clean (faults_of_summand c.args.scope.now) c.deref-summand-items.result.now _ _ _ (code_expr_faults c.args.scope.now c.args.expr.now) c.in_ok-first.ensures.told
      c.deref-summand-items.ensures.value;
  found = ap (map operation_view) c.new-rest.ensures.items;
}

pub resolve_expr-summands-preserved : goal.resolve_expr-summands-preserved
resolve_expr-summands-preserved t c = record {
  first = c.summands.invariant.first;
  clean = parts_clean (faults_of_summand c.args.scope.now) c.deref-summand-items.result.now c.summands.summand-index c.summand-item.result _ c.summands-test.true c.summand-item.is
      c.summands.invariant.clean c.in_ok-operation.ensures.told;
  found = parts_found operation_view (summand_means c.args.scope.now) c.deref-summand-items.result.now c.summands.summand-index c.summand-item.result c.summands.rest.items
      c.push.new.self.items c.in_ok-operation.operation
      c.summands-test.true c.summand-item.is c.in_ok-push.ensures.items c.in_ok-operation.ensures.found c.summands.invariant.found;
}

pub resolve_expr-returns-in_err-operation-clause-told : goal.resolve_expr-returns-in_err-operation-clause-told
resolve_expr-returns-in_err-operation-clause-told t c =
    part_told (faults_of_summand c.args.scope.now) c.deref-summand-items.result.now c.summands.summand-index c.summand-item.result _ c.from_residual-in_err-operation.result _
    c.summands-test.true c.summand-item.is c.summands.invariant.clean c.from_residual-in_err-operation.ensures.1 c.in_err-operation.ensures.told

pub resolve_expr-returns-in_err-push-clause-told : goal.resolve_expr-returns-in_err-push-clause-told
resolve_expr-returns-in_err-push-clause-told t c =
    memory_told _ c.from_residual-in_err-push.result c.from_residual-in_err-push.ensures.1

pub resolve_expr-returns-clause-told : goal.resolve_expr-returns-clause-told
resolve_expr-returns-clause-told t c =
    made_told _ c.join_operands.result (all_clean (faults_of_summand c.args.scope.now) c.deref-summand-items.result.now c.summands.summand-index _ c.summands.invariant.clean c.summands-test.false)
    c.join_operands.ensures.memory

pub resolve_expr-returns-clause-found : goal.resolve_expr-returns-clause-found
resolve_expr-returns-clause-found t c =
    found_so c.join_operands.result expr_view _ _
    (sum_found c.args.scope.now c.args.expr.now _ _ _ c.deref-summand-items.result.now c.summands.summand-index refl c.summands.invariant.first c.summands.invariant.found
    (omega arith) c.deref-summand-items.ensures.value)
    c.join_operands.ensures.found
