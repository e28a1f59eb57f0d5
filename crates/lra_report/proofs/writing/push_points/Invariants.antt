use Rattle.std.proofs.Common.{◌≡◌, ◌++◌, take, map, string_bytes}
use Rattle.std.specs.List.{flat_map}
use Rattle.lra_report.specs.{ReportText.point_text, View.point_report_of}
use Rattle.lra_report.proofs.writing.push_points.Given as goal

abbrev pub invariant-loop-point : goal.invariant-loop-point
invariant-loop-point l = string_bytes l.text ≡ string_bytes l.initial.text ++ flat_map point_text (map point_report_of (take l.point-index l.points))
