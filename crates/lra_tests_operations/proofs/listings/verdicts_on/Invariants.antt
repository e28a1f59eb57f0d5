-- So far the assertions among the first points have their verdicts.
use Rattle.std.proofs.Common.{map, take}
use Rattle.lra_operations.specs.TreeViews.{site_view}
use Rattle.lra_report_build.specs.AnalysisResults.{AreVerdicts}
use Rattle.lra_tests_operations.proofs.listings.verdicts_on.Given as goal

abbrev pub invariant-sites : goal.invariant-sites
invariant-sites l = AreVerdicts (map site_view (take l.index l.sites)) l.verdicts.items
