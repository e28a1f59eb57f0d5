-- Goals of `verdicts_on`: that each assertion is proved.
use Rattle.std.proofs.Common.{true, map, take, subst, sym, arith, ◌+◌, ◌<◌, length}
use Rattle.lra_operations.specs.TreeViews.{site_view}
use Rattle.lra_report_build.specs.AnalysisResults.{AreVerdicts}
use Rattle.lra_tests_operations.proofs.{Given.verdicts_kept, Given.verdicts_pushed, listings.verdicts_on.Goals.then-site+in_ok-push, listings.verdicts_on.Goals.else-site}
use Rattle.lra_tests_operations.proofs.listings.verdicts_on.Goals as goal

pub sites-preserved : goal.sites-preserved
sites-preserved c =
    let sites = c.args.sites.now in
    let inside : c.sites.index < length sites = omega (arith, c.sites-test.true, c.sites.auto.index-end) in
    elim c.if-site.branch [
      | then-site+in_ok-push w ↦
          subst (λ vs. AreVerdicts (map site_view (take (c.sites.index + 1) sites)) vs.items) (sym w.verdicts-is)
          (verdicts_pushed sites c.sites.verdicts.items w.push.new.self.items c.index-sites-index.result c.sites.index true c.sites.invariant
          inside c.index-sites-index.is w.if-site.true w.in_ok-push.ensures.items)
      | else-site w ↦
          subst (λ vs. AreVerdicts (map site_view (take (c.sites.index + 1) sites)) vs.items) (sym w.verdicts-is)
          (verdicts_kept sites c.sites.verdicts.items c.index-sites-index.result c.sites.index c.sites.invariant inside c.index-sites-index.is w.if-site.false)
    ]
