-- Goals of `see_share_by`: what is seen of the numerator divided by an operand.
use Rattle.std.proofs.Common.{◌≡◌, Some, None}
use Rattle.lra_linearize.specs.Crates.lra_program.ProgramViews.{expr_view}
use Rattle.lra_analysis_spec.specs.{Linear.form_of, Linearization.division}
use Rattle.lra_linearize.proofs.LinearizationSteps.{by_none, by_unseen, by_seen}
use Rattle.lra_linearize.proofs.linearization.see_share_by.Goals as goal

pub returns-in_default : goal.returns-in_default
returns-in_default c =
    let none : None ≡ form_of c.args.live c.args.base (expr_view c.args.operand.now) = rw c.in_default.is at c.in_ok-divisor.ensures in
    by_none c.args.live c.args.base c.args.form c.args.numerator (expr_view c.args.operand.now) none

pub returns-in_default-2 : goal.returns-in_default-2
returns-in_default-2 c =
    let some : Some c.in-Some.divisor ≡ form_of c.args.live c.args.base (expr_view c.args.operand.now) = rw c.in-Some.is at c.in_ok-divisor.ensures in
    let none : None ≡ division c.args.numerator c.in-Some.divisor = rw c.in_default-2.is at c.in_ok-division.ensures in
    by_unseen c.args.live c.args.base c.args.form c.args.numerator (expr_view c.args.operand.now) c.in-Some.divisor some none

pub returns : goal.returns
returns c =
    let some : Some c.in-Some.divisor ≡ form_of c.args.live c.args.base (expr_view c.args.operand.now) = rw c.in-Some.is at c.in_ok-divisor.ensures in
    let also : Some c.in-Some-2.division ≡ division c.args.numerator c.in-Some.divisor = rw c.in-Some-2.is at c.in_ok-division.ensures in
    by_seen c.args.live c.args.base c.args.form c.args.numerator (expr_view c.args.operand.now) c.in-Some.divisor c.in-Some-2.division some also
