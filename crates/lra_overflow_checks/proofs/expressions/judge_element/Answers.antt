-- Goals of `judge_element`: the answers on the index, then those on what the element gets.
use Rattle.std.proofs.Common.{List, Bool, subst}
use Rattle.std.specs.Prelude.{OnOk}
use Rattle.lra_program.specs.{ProgramViews.expr_view, Receivers.waiting_in, declared.receivers.Receiver.Receiver}
use Rattle.lra_overflow_checks.specs.Crates.lra_analysis_spec.Fits.{GivenJudged}
use Rattle.lra_overflow_checks.specs.Judged.{HasAnswers}
use Rattle.lra_overflow_checks.proofs.ExpressionSteps.{behind_index}
use Rattle.lra_overflow_checks.proofs.expressions.judge_element.Goals as goal

pub returns : goal.returns
returns g c =
    let m = g.D.Domain.abstraction in
    let v = c.args.value.now in
    let e = expr_view c.args.e.now in
    let gets : Receiver → List Bool → Type 0 = λ r. GivenJudged m v c.args.base r e in
    behind_index m v c.args.base c.judge_given.result (expr_view c.args.element.now.index) (gets (waiting_in c.args.element.now.array))
    c.args.answers.now.items c.judge_expression.new.answers.items c.judge_given.new.answers.items c.in_ok-_index._index c.in_ok-_index.ensures
    (subst (λ (r : Receiver). OnOk c.judge_given.result (HasAnswers (gets r) c.judge_expression.new.answers.items c.judge_given.new.answers.items))
    c.waiting-receiver.ensures c.judge_given.ensures)
