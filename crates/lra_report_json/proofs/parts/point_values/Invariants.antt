use Rattle.std.proofs.Common.{◌≡◌, take, map}
use Rattle.serde_json.specs.View.{view}
use Rattle.lra_report.specs.View.{point_report_of}
use Rattle.lra_report_json.specs.ReportJson.{point_data}
use Rattle.lra_report_json.proofs.parts.point_values.Given as goal

abbrev pub invariant-loop-point : goal.invariant-loop-point
invariant-loop-point l = map view l.values.items ≡ map (point_data l.domain) (map point_report_of (take l.point-index l.points))
