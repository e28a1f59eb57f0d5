-- So far the parts that were taken are there, with numbers of the range.
use Rattle.std.proofs.Common.{◌≡◌, map}
use Rattle.std.specs.List.{AllByRecursion}
use Rattle.lra_report.specs.Rows.{IsPartInRange}
use Rattle.lra_report_build.specs.Shown.{shown_part}
use Rattle.lra_report_build.proofs.rows.parts_by_rows.Given as goal

abbrev pub invariant-each : goal.invariant-each
invariant-each g l = record {
  shown : l.state.items ≡ map shown_part l.yielded;
  in_range : AllByRecursion IsPartInRange l.state.items;
}
