-- Goals of `add_arguments`.
use Rattle.lra_command_line.specs.CommandLine.{argument_rule}
use Rattle.lra_command_line.proofs.OptionLists.{declared_on, stays_local}
use Rattle.lra_command_line.proofs.command_line.add_arguments.Goals as goal

pub loop-argument-preserved : goal.loop-argument-preserved
loop-argument-preserved c =
    let before = c.loop-argument.invariant in
    let local = c.make_arg.ensures.local in
    record {
      app = declared_on (argument_rule c.args.domains) _ _ _ _ _ _ _ c.loop-argument-test.true before.app (c.in_ok-declared.ensures.shape local) c.make_arg.ensures.rule;
      local = stays_local _ _ _ _ c.in_ok-declared.ensures.globals local before.local;
    }
