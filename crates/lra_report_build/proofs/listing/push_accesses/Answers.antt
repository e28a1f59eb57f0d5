-- Goals of `push_accesses`: the verdicts on all accesses.
use Rattle.std.proofs.Common.{◌∙◌, ◌<◌, ◌++◌, ℕ, Vec, Global, Bool, ap, arith, length, map, subst, sym}
use Rattle.lra_report_build.specs.Crates.{lra_base.declared.refusals.Place.Place, lra_operations.TreeViews.site_view}
use Rattle.lra_report.specs.View.{verdict_of}
use Rattle.lra_report_build.specs.AnalysisResults.{access_verdicts}
use Rattle.lra_report_build.proofs.Verdicts.{points_more, told_at}
use Rattle.lra_report_build.proofs.listing.push_accesses.Goals as goal

pub bounds-sites-index : goal.bounds-sites-index
bounds-sites-index c =
    subst (λ (v : ℕ × Vec (Place × Bool) Global). v.0 < length c.args.sites.now) (sym c.point-item.is)
    (c.requires.there c.points.point-index c.point-item.result c.points-test.true)

pub offset_bounds-sites-index : goal.offset_bounds-sites-index
offset_bounds-sites-index c =
    let inside : c.point-item.result.0 < length c.args.sites.now =
    subst (λ (v : ℕ × Vec (Place × Bool) Global). v.0 < length c.args.sites.now) (sym c.point-item.is)
    (c.requires.there c.points.point-index c.point-item.result c.points-test.true) in
    omega (arith, inside, c.requires.numbers)

pub number_of-requires : goal.number_of-requires
number_of-requires c =
    let inside : c.point-item.result.0 < length c.args.sites.now =
    subst (λ (v : ℕ × Vec (Place × Bool) Global). v.0 < length c.args.sites.now) (sym c.point-item.is)
    (c.requires.there c.points.point-index c.point-item.result c.points-test.true) in
    omega (arith, inside, c.requires.numbers)

pub points-preserved : goal.points-preserved
points-preserved c =
    let ls = c.args.labels.now.labels in
    let sites = c.args.sites.now in
    let point = c.point-item.result in
    let inside : point.0 < length sites =
    subst (λ (v : ℕ × Vec (Place × Bool) Global). v.0 < length sites) (sym c.point-item.is)
    (c.requires.there c.points.point-index point c.points-test.true) in
    points_more ls (map site_view sites) (map verdict_of c.args.listed.now.items) (map verdict_of c.points.listed.items)
    (map verdict_of c.push_told.new.listed.items) c.args.inside.now c.points.point-index point c.points-test.true c.point-item.is c.points.invariant
    (c.in_ok-push_told.ensures ∙ ap (λ xs. map verdict_of c.points.listed.items ++ xs)
    (ap (λ js. access_verdicts ls c.number_of.result (site_view c.index-sites-index.result) 0 js) c.as_slice.ensures.value
    ∙ told_at ls sites c.number_of.result point.0 c.index-sites-index.result point.1.items
    c.number_of.ensures c.index-sites-index.is inside))
