-- Whether one of the options from here on is given says whether one is.
use Rattle.std.proofs.Common.{◌≡◌, drop}
use Rattle.std.specs.List.{list_any}
use Rattle.clap.specs.{Takes.is_given, Words.found_of, Words.rows_of}
use Rattle.lra_options.specs.OptionRows.{number_row, number_options}
use Rattle.lra_command_line.specs.ParsedCommand.{gives_number}
use Rattle.lra_command_line.proofs.words.gives_number.Given as goal

abbrev pub invariant-loop-option : goal.invariant-loop-option
invariant-loop-option l =
    list_any (λ option. is_given (number_row option).name (rows_of (found_of l.matches))) (drop l.option-index number_options) ≡ gives_number (rows_of (found_of l.matches))
