-- So far the first kinds are added.
use Rattle.std.proofs.Common.{◌≡◌, take, fold}
use Rattle.serde_json.specs.View.{members_view}
use Rattle.lra_report.specs.{VerdictKinds.kinds, View.report_of}
use Rattle.lra_report_json.specs.ReportJson.{fixed_members, with_verdicts}
use Rattle.lra_report_json.proofs.whole.to_value.Given as goal

abbrev pub invariant-loop-kind : goal.invariant-loop-kind
invariant-loop-kind l = members_view l.object.members.entries ≡ fold (with_verdicts (report_of l.report)) (fixed_members (report_of l.report))
    (take l.kind-index kinds)
