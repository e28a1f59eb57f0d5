-- So far the first options are added.
use Rattle.std.proofs.Common.{◌≡◌, take, fold}
use Rattle.serde_json.specs.View.{members_view}
use Rattle.lra_options.specs.OptionRows.{flag_options}
use Rattle.lra_report_json.specs.ReportJson.{with_flag}
use Rattle.lra_report_json.proofs.whole.add_flags.Given as goal

abbrev pub invariant-loop-option : goal.invariant-loop-option
invariant-loop-option l =
    members_view l.made.members.entries ≡ fold (with_flag l.options) (members_view l.initial.made.members.entries) (take l.option-index flag_options)
