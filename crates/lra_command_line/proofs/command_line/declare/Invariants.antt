-- So far the first subcommands are declared.
use Rattle.std.proofs.Common.{◌≡◌, take}
use Rattle.clap.specs.Words.{app_of}
use Rattle.lra_command_line.specs.CommandLine.{begun, subcommands, with_subcommands}
use Rattle.lra_command_line.proofs.command_line.declare.Given as goal

abbrev pub invariant-loop-named : goal.invariant-loop-named
invariant-loop-named l = app_of l.declared ≡ with_subcommands l.domains (take l.named-index subcommands) begun
