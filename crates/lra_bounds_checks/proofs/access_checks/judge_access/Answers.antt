-- Goals of `judge_access`: whether an access is inside.
use Rattle.lra_program.specs.ProgramViews.{expr_view}
use Rattle.lra_overflow_checks.proofs.ExpressionSteps.{form_is_wide}
use Rattle.lra_bounds_checks.proofs.access_checks.judge_access.Goals as goal

pub tests_of-requires-clause-wide : goal.tests_of-requires-clause-wide
tests_of-requires-clause-wide g c =
    form_is_wide c.dims-live.result c.args.around.base (expr_view c.args.access.now.index.now) c.in_ok-form.form c.in_ok-form.ensures
