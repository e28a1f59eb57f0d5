-- Goals of `push_told`: the verdicts on the accesses of a point.
use Rattle.std.proofs.{Common.◌∙◌, Common.ap, Common.map, lemmas.List.get_or_default, lemmas.List.map-append}
use Rattle.lra_report_build.specs.Crates.lra_operations.TreeViews.{site_view}
use Rattle.lra_report.specs.View.{verdict_of}
use Rattle.lra_report_build.proofs.Verdicts.{told_all_of, told_more}
use Rattle.lra_report_build.proofs.listing.push_told.Goals as goal

pub accesses-preserved : goal.accesses-preserved
accesses-preserved c =
    told_more c.args.labels.now.labels c.args.number (site_view c.args.site.now) _ (map verdict_of c.accesses.listed.items)
    (map verdict_of c.push.new.self.items) c.accesses.which c.args.told.now _ (verdict_of c.in_ok-list_verdict.field-0) c.accesses-test.true
    (get_or_default c.args.told.now c.accesses.which _ _ c.accesses-test.true) c.accesses.invariant
    (ap (map verdict_of) c.in_ok-push.ensures.items ∙ map-append verdict_of c.accesses.listed.items _)
    c.in_ok-list_verdict.ensures

pub returns : goal.returns
returns c =
    told_all_of c.args.labels.now.labels c.args.number (site_view c.args.site.now) _ (map verdict_of c.accesses.listed.items) c.accesses.which
    c.args.told.now c.accesses-test.false c.accesses.invariant
