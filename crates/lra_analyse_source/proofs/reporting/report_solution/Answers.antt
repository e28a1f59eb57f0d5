-- Goals of `report_solution`: the report of what an iteration found of the program that is read of a source.
use Rattle.std.proofs.{Common.◌≡◌, Common.map, Common.length, Common.ap, Common.◌∙◌, Common.arith, lemmas.List.length-map}
use Rattle.lra_analyse_source.specs.Crates.lra_operations.TreeViews.{node_view, site_view}
use Rattle.lra_analyse_source.specs.Crates.{lra_analysis_spec.Plan.plan_of, lra_base.AccessVerdicts.reported_view, lra_report.View.report_of, lra_syntax.Views.tree_view}
use Rattle.lra_analyse_source.proofs.ReportSteps.{few_points, tells_solution, canonical_there, shown_there, states_handed, verdicts_handed, few_dims, accessed_handed, asked_handed, fitting_handed}
use Rattle.lra_analyse_source.proofs.ReportSteps.{inside_handed, last_handed, is_told, told_so}
use Rattle.lra_analyse_source.proofs.reporting.report_solution.Goals as goal

pub list-requires-clause-numbers : goal.list-requires-clause-numbers
list-requires-clause-numbers g c =
    let few = few_points (tree_view c.args.front.now.tree) (node_view c.args.front.now.graph.tree) (map site_view c.args.front.now.graph.sites.items) c.requires.graph in
    let same = length-map c.args.front.now.graph.sites.items site_view in
    let slice = ap length c.as_slice-sites.ensures.value in
    omega (arith, few, same, slice)

pub list-requires-clause-states : goal.list-requires-clause-states
list-requires-clause-states g c =
    rw c.as_slice-sites.ensures.value (states_handed g.D.Domain.abstraction (tree_view c.args.front.now.tree) (node_view c.args.front.now.graph.tree)
    (map site_view c.args.front.now.graph.sites.items) c.requires.graph (plan_of c.args.options c.args.front.now.constants.items)
    c.args.solution.now.values.items c.args.solution.now.verdicts.items c.args.solution.now.flagged
    c.requires.solved
    g.met.D.Domain.laws c.args.options.domain g.D.Show.shown
    (shown_there g.D.Domain.abstraction g.D.Show.shown c.args.options.domain g.D.Show.named c.args.solution.now.values.items _ c.requires.named
    c.deref.ensures.value c.in_ok-states.ensures.told)
    _ (c.in_ok-states.ensures.shown ∙ ap (map _) c.deref.ensures.value))

pub list-requires-clause-verdicts : goal.list-requires-clause-verdicts
list-requires-clause-verdicts g c =
    rw (c.as_slice-sites.ensures.value, c.deref-2.ensures.value) (verdicts_handed g.D.Domain.abstraction (tree_view c.args.front.now.tree)
    (node_view c.args.front.now.graph.tree) (map site_view c.args.front.now.graph.sites.items) c.requires.graph
    (plan_of c.args.options c.args.front.now.constants.items)
    c.args.solution.now.values.items c.args.solution.now.verdicts.items c.args.solution.now.flagged
    c.requires.solved)

pub judge_solution-requires-clause-few : goal.judge_solution-requires-clause-few
judge_solution-requires-clause-few g c =
    few_dims g.D.Domain.abstraction (tree_view c.args.front.now.tree) (node_view c.args.front.now.graph.tree)
    (map site_view c.args.front.now.graph.sites.items) c.requires.graph
    (plan_of c.args.options c.args.front.now.constants.items) c.args.solution.now.values.items c.args.solution.now.verdicts.items
    c.args.solution.now.flagged
    c.requires.solved g.met.D.Domain.laws

pub judge_solution-requires-clause-computing : goal.judge_solution-requires-clause-computing
judge_solution-requires-clause-computing g c =
    asked_handed g.D.Domain.abstraction (tree_view c.args.front.now.tree) (node_view c.args.front.now.graph.tree)
    (map site_view c.args.front.now.graph.sites.items) c.requires.graph
    (plan_of c.args.options c.args.front.now.constants.items) c.args.solution.now.values.items c.args.solution.now.verdicts.items
    c.args.solution.now.flagged
    c.requires.solved

pub judge_solution-requires-clause-accessing : goal.judge_solution-requires-clause-accessing
judge_solution-requires-clause-accessing g c =
    accessed_handed g.D.Domain.abstraction (tree_view c.args.front.now.tree) (node_view c.args.front.now.graph.tree)
    (map site_view c.args.front.now.graph.sites.items) c.requires.graph
    (plan_of c.args.options c.args.front.now.constants.items) c.args.solution.now.values.items c.args.solution.now.verdicts.items
    c.args.solution.now.flagged
    c.requires.solved

pub list-requires-clause-graph : goal.list-requires-clause-graph
list-requires-clause-graph g c = (node_view c.args.front.now.graph.tree, c.requires.graph.is_graph)

pub list-requires-clause-fitting : goal.list-requires-clause-fitting
list-requires-clause-fitting g c = λ h also.
    rw (c.as_slice-sites.ensures.value, c.deref-3.ensures.value) (fitting_handed g.D.Domain.abstraction (tree_view c.args.front.now.tree)
    (node_view c.args.front.now.graph.tree)
    (map site_view c.args.front.now.graph.sites.items) c.requires.graph
    (plan_of c.args.options c.args.front.now.constants.items) c.args.solution.now.values.items c.args.solution.now.verdicts.items
    c.args.solution.now.flagged
    c.requires.solved
    c.args.options.fits c.in_ok-judged.judged.fitting.verdicts.items c.in_ok-judged.judged.fitting.flagged c.in_ok-judged.ensures.fits h also)

pub list-requires-clause-inside : goal.list-requires-clause-inside
list-requires-clause-inside g c = λ h also.
    rw (c.as_slice-sites.ensures.value, c.deref-4.ensures.value) (inside_handed g.D.Domain.abstraction (tree_view c.args.front.now.tree)
    (node_view c.args.front.now.graph.tree)
    (map site_view c.args.front.now.graph.sites.items) c.requires.graph
    (plan_of c.args.options c.args.front.now.constants.items) c.args.solution.now.values.items c.args.solution.now.verdicts.items
    c.args.solution.now.flagged
    c.requires.solved
    (map reported_view c.in_ok-judged.judged.inside.verdicts.items) c.in_ok-judged.judged.fitting.flagged c.in_ok-judged.judged.inside.flagged
    c.in_ok-judged.ensures.accesses h also)

pub list-requires-clause-flag : goal.list-requires-clause-flag
list-requires-clause-flag g c = λ q is.
    let low = last_handed g.D.Domain.abstraction (tree_view c.args.front.now.tree) (node_view c.args.front.now.graph.tree)
    (map site_view c.args.front.now.graph.sites.items) c.requires.graph
    (plan_of c.args.options c.args.front.now.constants.items) c.args.solution.now.values.items c.args.solution.now.verdicts.items c.args.solution.now.flagged
    c.requires.solved
    c.args.options.fits c.in_ok-judged.judged.fitting.verdicts.items (map reported_view c.in_ok-judged.judged.inside.verdicts.items)
    c.in_ok-judged.judged.fitting.flagged c.in_ok-judged.judged.inside.flagged c.in_ok-judged.ensures.fits c.in_ok-judged.ensures.accesses q is in
    let points = ap length c.requires.graph.points in
    let same = length-map c.args.front.now.graph.sites.items site_view in
    let slice = ap length c.as_slice-sites.ensures.value in
    omega (arith, low, points, same, slice)

pub returns-clause-told : goal.returns-clause-told
returns-clause-told g c =
    let o = c.args.options in
    let values = c.args.solution.now.values.items in
    let judged = c.in_ok-judged.judged in
    let shown : map (λ x. x.items) c.in_ok-states.states.items ≡ map g.D.Show.shown values = c.in_ok-states.ensures.shown ∙ ap (map _) c.deref.ensures.value
    in
    is_told g.D.Domain.abstraction g.D.Show.shown o c.args.front.now.constants.items (tree_view c.args.front.now.tree) (node_view c.args.front.now.graph.tree)
    (map site_view c.args.front.now.graph.sites.items)
    values c.args.solution.now.verdicts.items c.args.solution.now.flagged judged.fitting.verdicts.items judged.fitting.flagged
    (map reported_view judged.inside.verdicts.items) judged.inside.flagged
    (map (λ x. x.items) c.in_ok-states.states.items) (report_of c.in_ok-report.report) c.requires.graph
    c.requires.solved
    c.in_ok-judged.ensures.fits c.in_ok-judged.ensures.accesses shown
    (shown_there g.D.Domain.abstraction g.D.Show.shown o.domain g.D.Show.named values _ c.requires.named c.deref.ensures.value c.in_ok-states.ensures.told)
    c.in_ok-states.ensures.spelled g.met.D.Domain.laws
    (canonical_there g.D.Domain.abstraction.dims g.D.Show.shown o.domain g.D.Show.named values _ c.requires.named c.deref.ensures.value
    c.in_ok-states.ensures.canonical)
    c.in_ok-report.ensures.options c.in_ok-report.ensures.lists c.in_ok-report.ensures.states
    (told_so _ _ _ _ _ _ _ c.in_ok-report.ensures.verdicts c.deref-2.ensures.value c.deref-3.ensures.value (ap (map reported_view) c.deref-4.ensures.value))
    c.in_ok-report.ensures.flag

pub returns-clause-own : goal.returns-clause-own
returns-clause-own g c =
    tells_solution g.D.Domain.abstraction g.D.Show.shown c.args.options.fits (node_view c.args.front.now.graph.tree) c.args.solution.now.values.items
    c.args.solution.now.verdicts.items c.args.solution.now.flagged c.in_ok-judged.judged.fitting.verdicts.items c.in_ok-judged.judged.fitting.flagged
    (map reported_view c.in_ok-judged.judged.inside.verdicts.items)
    (map (λ x. x.items) c.in_ok-states.states.items) (report_of c.in_ok-report.report) c.in_ok-judged.ensures.fits
    (c.in_ok-states.ensures.shown ∙ ap (map _) c.deref.ensures.value) c.in_ok-report.ensures.states
    (told_so _ _ _ _ _ _ _ c.in_ok-report.ensures.verdicts c.deref-2.ensures.value c.deref-3.ensures.value (ap (map reported_view) c.deref-4.ensures.value))
