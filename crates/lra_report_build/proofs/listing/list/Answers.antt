-- Goals of `list`: the report of what an analysis found in a source, whose points are numbered from 0 here.
use Rattle.std.proofs.Common.{List, map, ◌++◌, refl, subst}
use Rattle.std.specs.List.{flat_map}
use Rattle.lra_report_build.specs.Crates.lra_program.Sites.{Site, sites_of}
use Rattle.lra_report_build.specs.Crates.{lra_base.AccessVerdicts.reported_view, lra_operations.TreeViews.site_view, lra_program.Assertions.assertions_from, lra_resolution_spec.Resolve.resolve}
use Rattle.lra_syntax.specs.{Labels.Labelled, Labels.labels_of, Views.tree_view}
use Rattle.lra_report.specs.Listing.{fits_asked, subjects_of, accesses_at, accesses_from}
use Rattle.lra_report.specs.{View.verdict_of, View.report_of, declared.verdict_kinds.VerdictKind.TheVariants.Assertion, declared.verdict_kinds.VerdictKind.TheVariants.Fit}
use Rattle.lra_report_build.specs.AnalysisResults.{AreFitting, AreAccessVerdicts, AreVerdicts, access_verdicts_at, verdict_at}
use Rattle.lra_report_build.proofs.Reports.{fitting_there, inside_there, lists_by_parts, verdicts_there}
use Rattle.lra_report_build.proofs.Verdicts.{all_told, are_fitting, are_inside, are_judged, judged_append}
use Rattle.lra_report_build.proofs.listing.list.Goals as goal

pub list_verdicts-requires-clause-assertions : goal.list_verdicts-requires-clause-assertions
list_verdicts-requires-clause-assertions c = verdicts_there c.args.outline.now.sites.now c.args.found.now.assertions.now c.requires.verdicts

pub list_verdicts-requires-clause-fitting : goal.list_verdicts-requires-clause-fitting
list_verdicts-requires-clause-fitting c =
    fitting_there c.args.outline.now.sites.now c.args.options.fits c.requires.graph.0 c.args.found.now.fitting.now
    (c.requires.fitting c.requires.graph.0 c.requires.graph.1)

pub list_verdicts-requires-clause-inside : goal.list_verdicts-requires-clause-inside
list_verdicts-requires-clause-inside c =
    inside_there c.args.outline.now.sites.now c.requires.graph.0 c.args.found.now.inside.now
    (c.requires.inside c.requires.graph.0 c.requires.graph.1)

pub returns-clause-lists : goal.returns-clause-lists
returns-clause-lists c =
    let tree = tree_view c.args.outline.now.tree.now in
    let asserted = c.args.found.now.assertions.now in
    let fitting = c.args.found.now.fitting.now in
    let inside = map reported_view c.args.found.now.inside.now in
    let found = λ (ls : List Labelled) (ss : List Site). map (verdict_at ls ss Assertion) asserted ++
    (map (verdict_at ls ss Fit) fitting ++ flat_map (access_verdicts_at ls ss) inside) in
    lists_by_parts tree c.in_ok-globals.globals c.args.outline.now.labels.now.labels (map site_view c.args.outline.now.sites.now) found
    (report_of (record { options = c.args.options; flagged = c.match-found.flagged; points = c.in_ok-points.points; verdicts = c.in_ok-verdicts.verdicts }))
    c.in_ok-globals.ensures c.requires.labels c.requires.sites c.in_ok-points.ensures.listed c.in_ok-verdicts.ensures c.requires.graph.0 c.requires.graph.1
    (λ g graph. judged_append (labels_of tree) (subjects_of (labels_of tree) Assertion (assertions_from 1 (sites_of (resolve tree))))
    (fits_asked (labels_of tree) c.args.options.fits g (sites_of (resolve tree)) ++ accesses_from (accesses_at g) 0 (sites_of (resolve tree))) _ _
    (are_judged (labels_of tree) (sites_of (resolve tree)) asserted _ refl
    (subst (λ (T : List Site). AreVerdicts T asserted) c.requires.sites c.requires.verdicts))
    (judged_append (labels_of tree) (fits_asked (labels_of tree) c.args.options.fits g (sites_of (resolve tree)))
    (accesses_from (accesses_at g) 0 (sites_of (resolve tree))) _ _
    (are_fitting (labels_of tree) c.args.options.fits g (sites_of (resolve tree)) fitting _ refl
    (subst (λ (T : List Site). AreFitting c.args.options.fits g T fitting) c.requires.sites (c.requires.fitting g graph)))
    (are_inside (labels_of tree) g (sites_of (resolve tree)) inside _ refl
    (subst (λ (T : List Site). AreAccessVerdicts g T inside) c.requires.sites (c.requires.inside g graph)))))

pub returns-clause-verdicts : goal.returns-clause-verdicts
returns-clause-verdicts c =
    all_told c.args.outline.now.labels.now.labels (map site_view c.args.outline.now.sites.now) c.args.found.now.assertions.now c.args.found.now.fitting.now
    (map reported_view c.args.found.now.inside.now) (map verdict_of c.in_ok-verdicts.verdicts.items) c.in_ok-verdicts.ensures
