use Rattle.std.proofs.Common.{◌≡◌, ◌++◌, take, string_bytes}
use Rattle.std.specs.List.{flat_map}
use Rattle.lra_options.specs.OptionRows.{flag_options}
use Rattle.lra_report.specs.ReportText.{flag_option_text}
use Rattle.lra_report.proofs.writing.push_flag_options.Given as goal

abbrev pub invariant-loop-option : goal.invariant-loop-option
invariant-loop-option l = string_bytes l.text ≡ string_bytes l.initial.text ++ flat_map (flag_option_text l.options) (take l.option-index flag_options)
