-- Goals of `judge_sign`: a sign before what is computed.
use Rattle.std.proofs.Common.{refl}
use Rattle.lra_overflow_checks.proofs.ExpressionSteps.{negated_is_wide, sign_computed}
use Rattle.lra_overflow_checks.proofs.expressions.judge_sign.Goals as goal

pub form_fits-requires : goal.form_fits-requires
form_fits-requires g c =
    negated_is_wide (g.D.Domain.abstraction.dims c.args.value.now) c.args.inner.form c.in_ok-form.form c.requires c.in_ok-form.ensures

pub returns : goal.returns
returns g c = λ base e before one.
    sign_computed g.D.Domain.abstraction c.args.value.now base e before c.args.answers.now.items c.push.new.self.items c.args.inner
    (record { number_type = c.args.inner.number_type; form = c.in_ok-form.form }) c.form_fits.result refl c.in_ok-form.ensures c.form_fits.ensures
    c.in_ok-push.ensures.items one
