-- Goals of `form_of_front`: the form of what stands before the last operation.
use Rattle.std.proofs.Common.{◌≡◌, Some, None, map}
use Rattle.lra_linearize.specs.Crates.lra_program.ProgramViews.{expr_view, operation_view}
use Rattle.lra_analysis_spec.specs.Linear.{form_of}
use Rattle.lra_linearize.proofs.LinearizationSteps.{front_none, front_is, handed_on}
use Rattle.lra_linearize.proofs.linearization.form_of_front.Goals as goal

pub returns-in-None : goal.returns-in-None
returns-in-None c =
    let none : None ≡ form_of c.args.live c.args.base (expr_view c.args.first.now) = rw c.in-None.is at c.in_ok-form_of_expression.ensures in
    front_none c.args.live c.args.base (expr_view c.args.first.now) (map operation_view c.args.operations.now) none

pub returns-in-Some : goal.returns-in-Some
returns-in-Some c =
    let some : Some c.in-Some.form ≡ form_of c.args.live c.args.base (expr_view c.args.first.now) = rw c.in-Some.is at c.in_ok-form_of_expression.ensures in
    handed_on c.form_of_chain.result _ _
    (front_is c.args.live c.args.base (expr_view c.args.first.now) (map operation_view c.args.operations.now) c.in-Some.form some)
    c.form_of_chain.ensures
