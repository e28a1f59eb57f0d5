-- Goals of `judge_arguments`: the answers on one argument after those of the others.
use Rattle.std.proofs.Common.{◌≤◌, length, arith}
use Rattle.lra_overflow_checks.proofs.ExpressionSteps.{no_arguments, arguments_more, arguments_whole}
use Rattle.lra_overflow_checks.proofs.expressions.judge_arguments.Goals as goal

pub arguments-init : goal.arguments-init
arguments-init g c = no_arguments g.D.Domain.abstraction c.args.value.now c.args.base c.args.answers.now.items

pub arguments-preserved : goal.arguments-preserved
arguments-preserved g c =
    arguments_more g.D.Domain.abstraction c.args.value.now c.args.base c.args.arguments.now c.arguments.argument-index c.argument-item.result
    c.parameter-receiver.result c.args.answers.now.items c.arguments.answers.items c.judge_given.new.answers.items c.arguments-test.true
    c.argument-item.is c.arguments.invariant c.parameter-receiver.ensures c.in_ok-judge_given.ensures

pub returns : goal.returns
returns g c =
    let past : length c.args.arguments.now ≤ c.arguments.argument-index = omega (arith, c.arguments-test.false) in
    arguments_whole g.D.Domain.abstraction c.args.value.now c.args.base c.args.arguments.now c.arguments.argument-index c.args.answers.now.items
    c.arguments.answers.items past c.arguments.invariant
