-- Goals of `linearize`: the linear form of an expression, or what is seen of the division that it is.
use Rattle.std.proofs.Common.{◌≡◌, Some, None}
use Rattle.lra_linearize.specs.Crates.lra_program.ProgramViews.{expr_view}
use Rattle.lra_analysis_spec.specs.Linear.{form_of}
use Rattle.lra_linearize.proofs.LinearizationSteps.{seen_linear, seen_share, handed_on}
use Rattle.lra_linearize.proofs.linearization.linearize.Goals as goal

pub returns-in-None : goal.returns-in-None
returns-in-None c =
    let none : None ≡ form_of c.args.live c.args.base (expr_view c.args.e.now) = rw c.in-None.is at c.in_ok-form_of_expression.ensures in
    handed_on c.see_share.result _ _ (seen_share c.args.live c.args.base (expr_view c.args.e.now) none) c.see_share.ensures

pub returns-in-Some : goal.returns-in-Some
returns-in-Some c =
    let some : Some c.in-Some.form ≡ form_of c.args.live c.args.base (expr_view c.args.e.now) = rw c.in-Some.is at c.in_ok-form_of_expression.ensures in
    seen_linear c.args.live c.args.base (expr_view c.args.e.now) c.in-Some.form some
