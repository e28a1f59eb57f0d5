-- What is judged, as reports list it.
use Rattle.lra_report_build.specs.Crates.lra_operations.TreeViews.{site_view}
use Rattle.lra_report.specs.Listing as report
use Rattle.lra_report_build.specs.declared.listing.Subject.{Subject}

abbrev pub subject_view : Subject → report.Subject
subject_view x = record {
  kind = x.kind;
  number = x.number;
  site = site_view x.site.now;
  which = x.which;
  place = x.place;
}
