-- So far the first options are added.
use Rattle.std.proofs.Common.{◌≡◌, take, fold}
use Rattle.serde_json.specs.View.{members_view}
use Rattle.lra_options.specs.OptionRows.{number_options}
use Rattle.lra_report_json.specs.ReportJson.{with_number}
use Rattle.lra_report_json.proofs.whole.add_numbers.Given as goal

abbrev pub invariant-loop-option : goal.invariant-loop-option
invariant-loop-option l =
    members_view l.made.members.entries ≡ fold (with_number l.options) (members_view l.initial.made.members.entries) (take l.option-index number_options)
