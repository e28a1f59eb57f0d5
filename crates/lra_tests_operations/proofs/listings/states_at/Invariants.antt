-- So far the first points have their states.
use Rattle.std.proofs.Common.{map, take, Vec, Global}
use Rattle.lra_operations.specs.TreeViews.{site_view}
use Rattle.lra_tests_operations.specs.Crates.lra_row_text.Part.{Part}
use Rattle.lra_report_build.specs.AnalysisResults.{AreInvariants}
use Rattle.lra_tests_operations.proofs.listings.states_at.Given as goal

abbrev pub invariant-sites : goal.invariant-sites
invariant-sites l = AreInvariants (map site_view (take l.site-index l.sites)) (map (λ (x : Vec Part Global). x.items) l.states.items)
