-- The verdicts so far and those on what is left are all.
use Rattle.std.proofs.Common.{◌≡◌, ◌++◌, map, drop}
use Rattle.lra_report_build.specs.Crates.lra_operations.TreeViews.{site_view}
use Rattle.lra_report.specs.View.{verdict_of}
use Rattle.lra_report_build.specs.AnalysisResults.{access_verdicts}
use Rattle.lra_report_build.proofs.listing.push_told.Given as goal

abbrev pub invariant-accesses : goal.invariant-accesses
invariant-accesses l =
    map verdict_of l.listed.items ++ access_verdicts l.labels.labels l.number (site_view l.site) l.which (drop l.which l.told)
    ≡ map verdict_of l.initial.listed.items ++ access_verdicts l.labels.labels l.number (site_view l.site) 0 l.told
