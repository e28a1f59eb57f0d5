-- Goals of `list_states`: the points of a source with the states that show these values.
use Rattle.std.proofs.{Common.length, Common.map, Common.ap, Common.arith, lemmas.List.length-map}
use Rattle.lra_back_source.specs.Crates.{lra_operations.TreeViews.node_view, lra_operations.TreeViews.site_view, lra_syntax.Views.tree_view}
use Rattle.lra_report.specs.View.{point_report_of}
use Rattle.lra_analyse_source.proofs.ReportSteps.{few_points}
use Rattle.lra_back_source.proofs.Showing.{shows_points, states_listed}
use Rattle.lra_back_source.proofs.back_report.list_states.Goals as goal

pub list_points-requires-clause-numbers : goal.list_points-requires-clause-numbers
list_points-requires-clause-numbers c =
    let few = few_points (tree_view c.args.front.now.tree) (node_view c.args.front.now.graph.tree) (map site_view c.args.front.now.graph.sites.items)
    c.requires.graph in
    let same = length-map c.args.front.now.graph.sites.items site_view in
    let slice = ap length c.as_slice-sites.ensures.value in
    omega (arith, few, same, slice)

pub list_points-requires-clause-states : goal.list_points-requires-clause-states
list_points-requires-clause-states c =
    rw c.as_slice-sites.ensures.value (states_listed (map site_view c.args.front.now.graph.sites.items) c.args.values.now
    (map (λ x. x.items) c.in_ok-states.states.items) c.requires.wide c.in_ok-states.ensures.told c.in_ok-states.ensures.shown)

pub returns : goal.returns
returns c =
    shows_points (tree_view c.args.front.now.tree) (node_view c.args.front.now.graph.tree) (map site_view c.args.front.now.graph.sites.items)
    c.requires.graph c.args.values.now (map (λ x. x.items) c.in_ok-states.states.items) (map point_report_of c.in_ok-points.points.items) _ _ c.requires.wide
    c.in_ok-states.ensures.told c.in_ok-states.ensures.shown c.in_ok-globals.ensures c.requires.labels
    (rw c.as_slice-sites.ensures.value at c.in_ok-points.ensures.listed) c.in_ok-points.ensures.states
