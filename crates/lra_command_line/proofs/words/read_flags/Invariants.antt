-- The options from here on are still to be read.
use Rattle.std.proofs.Common.{◌≡◌, Some, drop, fold}
use Rattle.clap.specs.Words.{found_of, rows_of}
use Rattle.lra_options.specs.OptionRows.{flag_options}
use Rattle.lra_command_line.specs.ParsedCommand.{with_flag}
use Rattle.lra_command_line.proofs.words.read_flags.Given as goal

abbrev pub invariant-loop-option : goal.invariant-loop-option
invariant-loop-option l =
    fold (with_flag (rows_of (found_of l.matches))) (Some l.read) (drop l.option-index flag_options)
    ≡ fold (with_flag (rows_of (found_of l.matches))) (Some l.initial.read) flag_options
