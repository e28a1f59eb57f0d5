use Rattle.std.proofs.Common.{◌≡◌, take, map}
use Rattle.serde_json.specs.View.{view}
use Rattle.lra_report_json.specs.ReportJson.{part_data}
use Rattle.lra_report_json.proofs.parts.part_values.Given as goal

abbrev pub invariant-loop-part : goal.invariant-loop-part
invariant-loop-part l = map view l.values.items ≡ map (part_data l.domain l.names) (take l.part-index l.parts)
