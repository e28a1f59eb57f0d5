-- Goals of the functions that call each other around `form`: `form_of_chain`, `form_of_expression`.
use Rattle.std.proofs.Common.{rules, ◌≡◌, Some, None, map, sym}
use Rattle.lra_linearize.specs.Crates.{lra_program.ProgramViews.chained, lra_program.ProgramViews.expr_view, lra_program.ProgramViews.operation_view, lra_program.declared.program.Expr.the_lemmas}
use Rattle.lra_analysis_spec.specs.Linear.{form_of}
use Rattle.lra_linearize.proofs.FormSteps.{chain_form, chain_none, chain_stops, chain_fails, chain_next}
use Rattle.lra_linearize.proofs.forms.+form.Goals as goal

pub form_of_chain-returns-in_default : goal.form_of_chain-returns-in_default
form_of_chain-returns-in_default t c =
    let none = rw c.in_default.is at c.in_ok-operand.ensures in
    chain_stops c.args.live c.args.base _ c.operations.form c.args.operations.now c.operations.operation-index c.operation-item.result c.operations-test.true c.operation-item.is
    c.operations.invariant none

pub form_of_chain-returns-in-None : goal.form_of_chain-returns-in-None
form_of_chain-returns-in-None t c =
    let some = rw c.in-Some.is at c.in_ok-operand.ensures in
    let none = rw c.in-None.is at c.in_ok-apply_operator.ensures in
    chain_fails c.args.live c.args.base _ c.operations.form c.args.operations.now c.operations.operation-index c.operation-item.result c.in-Some.operand c.operations-test.true
    c.operation-item.is c.operations.invariant some none

pub form_of_chain-operations-preserved : goal.form_of_chain-operations-preserved
form_of_chain-operations-preserved t c =
    let some = rw c.in-Some.is at c.in_ok-operand.ensures in
    let also = rw c.in-Some-2.is at c.in_ok-apply_operator.ensures in
    chain_next c.args.live c.args.base _ c.operations.form c.args.operations.now c.operations.operation-index c.operation-item.result c.in-Some.operand c.in-Some-2.next
    c.operations-test.true c.operation-item.is c.operations.invariant some also

pub form_of_expression-returns-in-None-2 : goal.form_of_expression-returns-in-None-2
form_of_expression-returns-in-None-2 t c =
    let none : None ≡ form_of c.args.live c.args.base (expr_view c.in-Chain.first.value) = rw (c.in-None-2.is, c.deref-in-Chain.ensures) at c.in_ok-form_of_expression-in-Chain.ensures in
    let is : expr_view c.args.e.now ≡ chained (expr_view c.in-Chain.first.value) (map operation_view c.in-Chain.operations.items) = rw c.in-Chain.is (search (rules, the_lemmas)) in
    rw (
      is,
      chain_form c.args.live c.args.base (expr_view c.in-Chain.first.value) (map operation_view c.in-Chain.operations.items),
      sym none,
      chain_none c.args.live c.args.base (map operation_view c.in-Chain.operations.items),
    ) (search rules)

pub form_of_expression-returns-in-Some-2 : goal.form_of_expression-returns-in-Some-2
form_of_expression-returns-in-Some-2 t c =
    let some : Some c.in-Some-2.form ≡ form_of c.args.live c.args.base (expr_view c.in-Chain.first.value) =
    rw (c.in-Some-2.is, c.deref-in-Chain.ensures) at c.in_ok-form_of_expression-in-Chain.ensures in
    let is : expr_view c.args.e.now ≡ chained (expr_view c.in-Chain.first.value) (map operation_view c.in-Chain.operations.items) = rw c.in-Chain.is (search (rules, the_lemmas)) in
    let whole = rw c.as_slice.ensures.value at c.form_of_chain.ensures in
    rw (
      is,
      chain_form c.args.live c.args.base (expr_view c.in-Chain.first.value) (map operation_view c.in-Chain.operations.items),
      sym some,
    ) whole
