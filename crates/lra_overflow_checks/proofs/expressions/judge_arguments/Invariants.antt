use Rattle.std.proofs.Common.{map, take}
use Rattle.lra_program.specs.ProgramViews.{argument_view}
use Rattle.lra_overflow_checks.specs.Crates.lra_analysis_spec.Fits.{ArgumentsJudged}
use Rattle.lra_overflow_checks.specs.Judged.{HasAnswers}
use Rattle.lra_overflow_checks.proofs.expressions.judge_arguments.Given as goal

abbrev pub invariant-arguments : goal.invariant-arguments
invariant-arguments g l = HasAnswers
    (ArgumentsJudged g.D.Domain.abstraction l.value l.base (map argument_view (take l.argument-index l.arguments)))
    l.fn.answers.items l.answers.items
