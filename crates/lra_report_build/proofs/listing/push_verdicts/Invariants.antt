-- So far the first verdicts are added.
use Rattle.std.proofs.Common.{◌≡◌, ◌++◌, map, take}
use Rattle.lra_report_build.specs.Crates.lra_operations.TreeViews.{site_view}
use Rattle.lra_report.specs.View.{verdict_of}
use Rattle.lra_report_build.specs.AnalysisResults.{verdict_at}
use Rattle.lra_report_build.proofs.listing.push_verdicts.Given as goal

abbrev pub invariant-verdicts : goal.invariant-verdicts
invariant-verdicts l =
    map verdict_of l.listed.items ≡ map verdict_of l.initial.listed.items ++ map (verdict_at l.labels.labels (map site_view l.sites) l.kind)
    (take l.verdict-index l.verdicts)
