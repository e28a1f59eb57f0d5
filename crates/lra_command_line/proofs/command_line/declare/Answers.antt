-- Goals of `declare`.
use Rattle.std.proofs.Common.{ap}
use Rattle.clap.specs.Words.{App}
use Rattle.lra_command_line.specs.CommandLine.{subcommand_app}
use Rattle.lra_command_line.proofs.OptionLists.{commands_on}
use Rattle.lra_command_line.proofs.command_line.declare.Goals as goal

pub loop-named-preserved : goal.loop-named-preserved
loop-named-preserved c =
    let made = c.in_ok-make_subcommand.ensures in
    let shape = c.in_ok-declared.ensures.shape made.local in
    commands_on (λ named. (subcommand_app c.domain_parser-domains.result named).top) _ _ _ _ _ _ _ c.loop-named-test.true c.loop-named.invariant shape (ap (λ (a : App). a.top) made.app)
