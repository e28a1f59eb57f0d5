-- The report that the program's data stand for.
use Rattle.std.specs.Prelude.{map, string_bytes}
use Rattle.lra_report.specs.Crates.lra_program.Run as run
use Rattle.lra_report.specs.Report as report
use Rattle.lra_report.specs.ReportText as written
use Rattle.lra_report.specs.BackText as back
use Rattle.lra_report.specs.{declared.back.BackReport.BackReport, declared.path.CallPlace.CallPlace}
use Rattle.lra_report.specs.{declared.report.Point.Point, declared.report.PointReport.PointReport}
use Rattle.lra_report.specs.{declared.report.Report.Report, declared.report.Verdict.Verdict}

abbrev pub run_point_view : Point → run.Point
run_point_view p = record { path = p.path.items; label = p.label }

abbrev pub point_report_of : PointReport → report.PointReport
point_report_of p = record {
  number = p.number;
  point = run_point_view p.point;
  path = string_bytes p.path;
  place = p.place;
  names = p.names;
  state = p.state.items;
}

abbrev pub verdict_of : Verdict → report.Verdict
verdict_of v = record {
  kind = v.kind;
  number = v.number;
  point = run_point_view v.point;
  which = v.which;
  path = string_bytes v.path;
  place = v.place;
  holds = v.holds;
}

abbrev pub report_of : Report → report.Report
report_of r = record {
  options = r.options;
  flagged = r.flagged;
  points = map point_report_of r.points.items;
  verdicts = map verdict_of r.verdicts.items;
}

abbrev pub back_report_of : BackReport → back.BackReport
back_report_of r = record {
  number = r.number;
  flagged = r.flagged;
  points = map point_report_of r.points.items;
  proved = r.is_proved;
}

abbrev pub call_place_of : CallPlace → written.CallPlace
call_place_of c = record { name = string_bytes c.name; place = c.place }
