-- Goals of `judge_arguments_for`: the answers on the index, then those on the arguments.
use Rattle.std.proofs.Common.{map}
use Rattle.lra_program.specs.ProgramViews.{argument_view, expr_view}
use Rattle.lra_overflow_checks.specs.Crates.lra_analysis_spec.Fits.{ArgumentsJudged}
use Rattle.lra_overflow_checks.proofs.ExpressionSteps.{behind_index}
use Rattle.lra_overflow_checks.proofs.expressions.judge_arguments_for.Goals as goal

pub returns : goal.returns
returns g c =
    behind_index g.D.Domain.abstraction c.args.value.now c.args.base c.judge_arguments.result (expr_view c.args.element.now.index)
    (ArgumentsJudged g.D.Domain.abstraction c.args.value.now c.args.base (map argument_view c.args.arguments.now))
    c.args.answers.now.items c.judge_expression.new.answers.items c.judge_arguments.new.answers.items c.in_ok-_index._index c.in_ok-_index.ensures
    c.judge_arguments.ensures
