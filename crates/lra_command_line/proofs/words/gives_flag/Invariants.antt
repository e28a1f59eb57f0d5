-- Whether one of the options from here on is given says whether one is.
use Rattle.std.proofs.Common.{◌≡◌, drop}
use Rattle.std.specs.List.{list_any}
use Rattle.clap.specs.Words.{found_of, rows_of}
use Rattle.lra_options.specs.OptionRows.{flag_options}
use Rattle.lra_command_line.specs.ParsedCommand.{gives_flag, gives_settled}
use Rattle.lra_command_line.proofs.words.gives_flag.Given as goal

abbrev pub invariant-loop-option : goal.invariant-loop-option
invariant-loop-option l =
    list_any (gives_settled (rows_of (found_of l.matches))) (drop l.option-index flag_options) ≡ gives_flag (rows_of (found_of l.matches))
