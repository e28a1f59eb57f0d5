-- Goals of `judge_operator`: an operator between what is computed.
use Rattle.lra_overflow_checks.specs.Crates.lra_base.OperatorViews.{operator_view}
use Rattle.lra_overflow_checks.proofs.ExpressionSteps.{combined_is_wide, operator_computed}
use Rattle.lra_overflow_checks.proofs.expressions.judge_operator.Goals as goal

pub operator_fits-requires : goal.operator_fits-requires
operator_fits-requires g c =
    combined_is_wide (g.D.Domain.abstraction.dims c.args.value.now) (operator_view c.args.operator) c.args.left.form c.args.right.form c.in_ok-form.form
    c.requires.left c.requires.right c.in_ok-form.ensures

pub returns-clause-wide : goal.returns-clause-wide
returns-clause-wide g c =
    combined_is_wide (g.D.Domain.abstraction.dims c.args.value.now) (operator_view c.args.operator) c.args.left.form c.args.right.form c.in_ok-form.form
    c.requires.left c.requires.right c.in_ok-form.ensures

pub returns-clause-computes : goal.returns-clause-computes
returns-clause-computes g c = λ base a b before between one other.
    operator_computed g.D.Domain.abstraction c.args.value.now base (operator_view c.args.operator) a b before between c.args.answers.now.items
    c.push.new.self.items c.args.left c.args.right (record { number_type = c.wider-number_type.result; form = c.in_ok-form.form }) c.operator_fits.result
    c.wider-number_type.ensures c.in_ok-form.ensures c.operator_fits.ensures c.in_ok-push.ensures.items one other
