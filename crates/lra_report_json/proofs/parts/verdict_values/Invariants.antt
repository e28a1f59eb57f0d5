-- So far those of the first verdicts that stand under the key are there.
use Rattle.std.proofs.Common.{◌≡◌, take, map}
use Rattle.serde_json.specs.View.{view}
use Rattle.lra_report.specs.View.{verdict_of}
use Rattle.lra_report_json.specs.ReportJson.{verdict_data, under}
use Rattle.lra_report_json.proofs.parts.verdict_values.Given as goal

abbrev pub invariant-loop-verdict : goal.invariant-loop-verdict
invariant-loop-verdict l = map view l.values.items ≡ map verdict_data (under l.key (map verdict_of (take l.verdict-index l.verdicts)))
