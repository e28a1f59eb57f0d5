-- Goals of `judge_given`: the answers on a value that is given to a receiver, and on its conversion.
use Rattle.std.proofs.Common.{◌∙◌, sym}
use Rattle.lra_program.specs.ProgramViews.{expr_view}
use Rattle.lra_overflow_checks.proofs.ExpressionSteps.{form_is_wide, given_plain, given_converted}
use Rattle.lra_overflow_checks.proofs.expressions.judge_given.Goals as goal

pub form_fits-requires : goal.form_fits-requires
form_fits-requires g c =
    form_is_wide (g.D.Domain.abstraction.dims c.args.value.now) c.args.base (expr_view c.args.e.now) c.in_ok-computed.computed.form
    c.in_ok-computed.ensures.form

pub returns-then-not-converts : goal.returns-then-not-converts
returns-then-not-converts g c =
    given_plain g.D.Domain.abstraction c.args.value.now c.args.base c.args.receiver (expr_view c.args.e.now) c.args.answers.now.items
    c.judge_expression.new.answers.items c.in_ok-computed.computed c.in_ok-computed.ensures (sym c.converts.ensures ∙ c.if-not-converts.true)

pub returns : goal.returns
returns g c =
    given_converted g.D.Domain.abstraction c.args.value.now c.args.base c.args.receiver (expr_view c.args.e.now) c.args.answers.now.items
    c.judge_expression.new.answers.items c.push.new.self.items c.in_ok-computed.computed c.form_fits.result c.in_ok-computed.ensures
    (sym c.converts.ensures ∙ c.if-not-converts.false) c.form_fits.ensures c.in_ok-push.ensures.items
