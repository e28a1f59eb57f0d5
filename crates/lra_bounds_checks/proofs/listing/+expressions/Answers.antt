-- Goals of the functions that call each other around `push_accesses`: a chain's accesses are its first operand's and then
-- those of the others; an element's come after those of its index.
use Rattle.std.proofs.Common.{rules, ◌≡◌, ◌∙◌, ap, map}
use Rattle.lra_program.specs.declared.program.Expr as declared
use Rattle.lra_program.specs.{Accesses.expr_accesses, Program.Element, Program.element, ProgramViews.chained, ProgramViews.expr_view, ProgramViews.operation_view, declared.program.Expr.the_lemmas}
use Rattle.lra_bounds_checks.specs.Listed.{access_view, operand_accesses}
use Rattle.lra_bounds_checks.proofs.ListedSteps.{chained_accesses, next_behind, ok_behind, one_behind, operand_own, operand_rest, operand_splits}
use Rattle.lra_bounds_checks.proofs.listing.+expressions.Goals as goal

pub push_accesses-returns-in_ok-push_accesses-in-Chain : goal.push_accesses-returns-in_ok-push_accesses-in-Chain
push_accesses-returns-in_ok-push_accesses-in-Chain t c =
    let first = expr_view c.in-Chain.first.value in
    let others = map operation_view c.in-Chain.operations.items in
    let is : expr_view c.args.e.now ≡ chained first others = rw c.in-Chain.is (search (rules, the_lemmas)) in
    ok_behind c.push_operands.result (map access_view c.args.all.now.items) (map access_view c.push_accesses-in-Chain.new.all.items)
    (map access_view c.push_operands.new.all.items) (expr_accesses first) (operand_accesses others) (expr_accesses (expr_view c.args.e.now))
    (rw c.deref-in-Chain.ensures at c.in_ok-push_accesses-in-Chain.ensures) (rw c.as_slice.ensures.value at c.push_operands.ensures)
    (ap expr_accesses is ∙ chained_accesses first others)

pub push_accesses-returns-in_ok-push-in-Element : goal.push_accesses-returns-in_ok-push-in-Element
push_accesses-returns-in_ok-push-in-Element t c =
    let index = expr_view c.in-Element.index.value in
    let is : expr_view c.args.e.now ≡ element c.in-Element.array c.in-Element.place index = rw c.in-Element.is (search (rules, the_lemmas)) in
    let named : declared.Expr → Element = λ e. record { array = c.in-Element.array; place = c.in-Element.place; index = expr_view e } in
    one_behind (map access_view c.args.all.now.items) c.push_accesses-in-Element.new.all.items c.push.new.self.items _
    (named c.in-Element.index.value) (expr_accesses index) (expr_accesses (expr_view c.args.e.now))
    (rw c.deref-in-Element.ensures at c.in_ok-push_accesses-in-Element.ensures) c.in_ok-push-in-Element.ensures.items
    (ap named c.deref-in-Element-2.ensures) (ap expr_accesses is)

pub push_operands-operations-preserved : goal.push_operands-operations-preserved
push_operands-operations-preserved t c =
    next_behind operand_own operand_rest operand_splits (map access_view c.operations.all.items) (map access_view c.push_accesses.new.all.items) _
    c.args.operations.now c.operations.operation-index c.operation-item.result c.operations-test.true c.operation-item.is c.operations.invariant
    c.in_ok-push_accesses.ensures
