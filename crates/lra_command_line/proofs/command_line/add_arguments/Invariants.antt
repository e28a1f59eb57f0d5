-- So far the first arguments are declared.
use Rattle.std.proofs.Common.{◌≡◌, take}
use Rattle.clap.specs.{Words.app_of, declared.builder.command.Command.TheViews.out-Command}
use Rattle.lra_command_line.specs.CommandLine.{with_arguments}
use Rattle.lra_command_line.proofs.command_line.add_arguments.Given as goal

abbrev pub invariant-loop-argument : goal.invariant-loop-argument
invariant-loop-argument l = record {
  app : app_of l.declared ≡ with_arguments l.domains (take l.argument-index l.arguments) (app_of l.initial.declared);
  local : (out-Command l.declared).has_globals ≡ (out-Command l.initial.declared).has_globals;
}
