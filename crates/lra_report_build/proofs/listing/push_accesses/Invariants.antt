-- So far those of the first points are added.
use Rattle.std.proofs.Common.{◌≡◌, ◌++◌, map, take}
use Rattle.std.specs.List.{flat_map}
use Rattle.lra_report_build.specs.Crates.{lra_base.AccessVerdicts.reported_view, lra_operations.TreeViews.site_view}
use Rattle.lra_report.specs.View.{verdict_of}
use Rattle.lra_report_build.specs.AnalysisResults.{access_verdicts_at}
use Rattle.lra_report_build.proofs.listing.push_accesses.Given as goal

abbrev pub invariant-points : goal.invariant-points
invariant-points l =
    map verdict_of l.listed.items ≡ map verdict_of l.initial.listed.items ++ flat_map (access_verdicts_at l.labels.labels (map site_view l.sites))
    (map reported_view (take l.point-index l.inside))
