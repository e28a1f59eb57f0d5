-- Goals of `type_of`: the type of an expression's value, along a chain.
use Rattle.std.proofs.Common.{◌≡◌, ◌∙◌, List, ap, map, sym}
use Rattle.lra_program.specs.{Program.type_of, ProgramViews.chained, ProgramViews.expr_view, ProgramViews.operation_view, declared.program.Operation.Operation}
use Rattle.lra_program.specs.declared.program.Expr as declared
use Rattle.lra_overflow_checks.proofs.ComputesSteps.{chain_view, type_begins, type_next}
use Rattle.lra_overflow_checks.proofs.computes.+type_of.Goals as goal

pub operations-init : goal.operations-init
operations-init t c =
    let first = c.in-Chain.first.value in
    let os = c.deref-operation-items.result.now in
    let is : expr_view c.args.e.now ≡ chained (expr_view first) (map operation_view os) =
    ap expr_view c.in-Chain.is ∙ chain_view c.in-Chain.first c.in-Chain.operations ∙
    ap (λ (xs : List Operation). chained (expr_view first) (map operation_view xs)) (sym c.deref-operation-items.ensures.value) in
    let typed = c.type_of-number_type.ensures ∙ ap (λ (e : declared.Expr). type_of (expr_view e)) c.deref-in-Chain.ensures in
    type_begins (expr_view first) os (expr_view c.args.e.now) c.type_of-number_type.result is typed

pub operations-preserved : goal.operations-preserved
operations-preserved t c =
    let os = c.deref-operation-items.result.now in
    rw (c.wider-number_type.ensures, c.type_of-in-operations.ensures) (type_next (type_of (expr_view c.args.e.now)) c.operations.number_type os
    c.operations.operation-index c.operation-item.result c.operations-test.true c.operation-item.is c.operations.invariant)
