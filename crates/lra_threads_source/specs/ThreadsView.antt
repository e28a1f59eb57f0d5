-- The report of threads that the program's data stand for.
use Rattle.std.specs.Prelude.{map, string_bytes}
use Rattle.lra_report.specs.View.{point_report_of, verdict_of}
use Rattle.lra_threads_source.specs.ThreadsText as told
use Rattle.lra_threads_source.specs.{declared.text.ThreadsReport.ThreadsReport, declared.text.Writes.Writes}

abbrev pub writes_of : Writes → told.Writes
writes_of w = record { thread = w.thread; name = string_bytes w.name; low = w.interval.low; high = w.interval.high }

abbrev pub threads_report_of : ThreadsReport → told.ThreadsReport
threads_report_of r = record {
  count = r.count;
  delay = r.delay;
  narrow = r.narrow;
  flagged = r.flagged;
  points = map point_report_of r.points.items;
  verdicts = map verdict_of r.verdicts.items;
  writes = map writes_of r.writes.items;
}
