-- Goals of the functions that call each other around `share`: `see_last_share`, `see_share`.
use Rattle.std.proofs.{Common.rules, Common.◌≡◌, Common.◌++◌, Common.List, Common.[], Common.◌∷◌, Common.Some, Common.None, Common.map, Common.sym, Common.ap, Common.◌∙◌, lemmas.List.nil_from_length}
use Rattle.lra_base.specs.OperatorViews.{operator_view}
use Rattle.lra_linearize.specs.Crates.lra_program.ProgramViews.{chained, expr_view, operation_view}
use Rattle.lra_linearize.specs.Crates.{lra_program.Program.Expr, lra_program.declared.program.Expr.the_lemmas, lra_program.declared.program.Operation.Operation}
use Rattle.lra_analysis_spec.specs.{Linear.form_of, Linearization.share_form, Linearization.share_of, Linearization.linearized_from}
use Rattle.lra_analysis_spec.proofs.FormLemmas.{form_wide}
use Rattle.lra_linearize.proofs.LinearizationSteps.{chain_cut, share_none, share_no_front, share_is, handed_on}
use Rattle.lra_linearize.proofs.linearization.+share.Goals as goal

pub see_share-returns-in-Chain : goal.see_share-returns-in-Chain
see_share-returns-in-Chain t c =
    let is : expr_view c.args.e.now ≡ chained (expr_view c.in-Chain.first.value) (map operation_view c.in-Chain.operations.items) =
    rw c.in-Chain.is (search (rules, the_lemmas)) in
    let whole = rw (c.as_slice.ensures.value, c.deref.ensures) at c.see_last_share.ensures in
    rw is whole

pub see_last_share-returns-in_default : goal.see_last_share-returns-in_default
see_last_share-returns-in_default t c =
    let nil : c.args.operations.now ≡ [] = nil_from_length c.args.operations.now c.in_default.ensures.cases in
    handed_on c.see_share.result _ _
    (ap (λ (os : List Operation). linearized_from None (share_of c.args.live c.args.base (chained (expr_view c.args.first.now) (map operation_view os))))
    (sym nil))
    c.see_share.ensures

pub see_last_share-returns-in_default-2 : goal.see_last_share-returns-in_default-2
see_last_share-returns-in_default-2 t c =
    let e = expr_view c.args.first.now in
    let last = c.in-Some.last.now in
    let front = c.in-Some.front.now in
    let cut : c.args.operations.now ≡ front ++ last ∷ [] = c.in-Some.ensures.cases.0 in
    let none : None ≡ share_form c.args.live (operator_view last.operator) = rw c.in_default-2.is at c.in_ok-form.ensures in
    share_none c.args.live c.args.base (operator_view last.operator) (chained e (map operation_view front)) (expr_view last.operand) none ∙
    ap (λ (x : Expr). linearized_from None (share_of c.args.live c.args.base x)) (sym (chain_cut e c.args.operations.now front last cut))

pub see_last_share-returns-in_default-3 : goal.see_last_share-returns-in_default-3
see_last_share-returns-in_default-3 t c =
    let e = expr_view c.args.first.now in
    let last = c.in-Some.last.now in
    let front = c.in-Some.front.now in
    let cut : c.args.operations.now ≡ front ++ last ∷ [] = c.in-Some.ensures.cases.0 in
    let some : Some c.in-Some-2.form ≡ share_form c.args.live (operator_view last.operator) = rw c.in-Some-2.is at c.in_ok-form.ensures in
    let none : None ≡ form_of c.args.live c.args.base (chained e (map operation_view front)) = rw c.in_default-3.is at c.in_ok-numerator.ensures in
    share_no_front c.args.live c.args.base (operator_view last.operator) (chained e (map operation_view front)) (expr_view last.operand)
    c.in-Some-2.form some none ∙
    ap (λ (x : Expr). linearized_from None (share_of c.args.live c.args.base x)) (sym (chain_cut e c.args.operations.now front last cut))

pub see_last_share-see_share_by-requires-clause-width : goal.see_last_share-see_share_by-requires-clause-width
see_last_share-see_share_by-requires-clause-width t c =
    let some : Some c.in-Some-3.numerator ≡ form_of c.args.live c.args.base (chained (expr_view c.args.first.now) (map operation_view c.in-Some.front.now)) =
    rw c.in-Some-3.is at c.in_ok-numerator.ensures in
    (form_wide c.args.live c.args.base (chained (expr_view c.args.first.now) (map operation_view c.in-Some.front.now)) c.in-Some-3.numerator (sym some)).width

pub see_last_share-returns : goal.see_last_share-returns
see_last_share-returns t c =
    let e = expr_view c.args.first.now in
    let last = c.in-Some.last.now in
    let front = c.in-Some.front.now in
    let cut : c.args.operations.now ≡ front ++ last ∷ [] = c.in-Some.ensures.cases.0 in
    let some : Some c.in-Some-2.form ≡ share_form c.args.live (operator_view last.operator) = rw c.in-Some-2.is at c.in_ok-form.ensures in
    let also : Some c.in-Some-3.numerator ≡ form_of c.args.live c.args.base (chained e (map operation_view front)) =
    rw c.in-Some-3.is at c.in_ok-numerator.ensures in
    handed_on c.see_share_by.result _ _
    (share_is c.args.live c.args.base (operator_view last.operator) (chained e (map operation_view front)) (expr_view last.operand) c.in-Some-2.form
    c.in-Some-3.numerator some also ∙
    ap (λ (x : Expr). linearized_from None (share_of c.args.live c.args.base x)) (sym (chain_cut e c.args.operations.now front last cut)))
    c.see_share_by.ensures
