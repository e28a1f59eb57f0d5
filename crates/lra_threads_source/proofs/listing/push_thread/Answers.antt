-- Goals of `push_thread`: the points of one thread more.
use Rattle.std.proofs.{Common.◌∙◌, Common.length, Common.map, Common.refl, Common.sym, Common.ap, Common.arith, lemmas.List.length-map, lemmas.Option.slice_get_read}
use Rattle.lra_threads_source.specs.Crates.{lra_operations.TreeViews.site_view, lra_operations.declared.tree.InlinedProgram.InlinedProgram, lra_syntax.Views.tree_view}
use Rattle.lra_report.specs.Report as report
use Rattle.lra_report.specs.View.{point_report_of}
use Rattle.lra_threads_analysis.specs.Found.{sites_in, thread_values}
use Rattle.lra_threads_source.specs.{Listed.point_in_thread, Stages.CanFollow}
use Rattle.lra_threads_source.proofs.{Following.all_viewed, Following.points_follow, Pushing.if_ok, Pushing.listed_alone, Pushing.room, Pushing.states_listed, Pushing.turned}
use Rattle.lra_threads_source.proofs.listing.push_thread.Goals as goal

pub list_points-requires-clause-states : goal.list_points-requires-clause-states
list_points-requires-clause-states c =
    let graphs = c.args.outline.now.graphs.now in
    let graph = c.index-outline-k.result in
    let there = slice_get_read graphs (length graphs) c.args.k graph refl c.requires.there c.index-outline-k.is in
    let of = c.requires.found graph there in
    rw (c.as_slice-sites.ensures.value ∙ ap (λ (g : InlinedProgram). g.sites.items) (sym c.index-outline-k.is))
    (states_listed (sites_in graph) (thread_values c.args.found.now) (map (λ x. x.items) c.in_ok-states.states.items) of.wide of.points
    (rw c.deref.ensures.value at c.in_ok-states.ensures.told) (rw c.deref.ensures.value at c.in_ok-states.ensures.shown))

pub push_points-requires : goal.push_points-requires
push_points-requires c =
    let graphs = c.args.outline.now.graphs.now in
    let graph = c.index-outline-k.result in
    let there = slice_get_read graphs (length graphs) c.args.k graph refl c.requires.there c.index-outline-k.is in
    let sites = map site_view c.as_slice-sites.result.now in
    let many = length-map c.as_slice-sites.result.now site_view ∙ ap length (c.as_slice-sites.ensures.value ∙ ap (λ (g : InlinedProgram). g.sites.items) (sym c.index-outline-k.is)) in
    let few = room (tree_view c.args.outline.now.tree.now) graphs c.requires.graphs c.args.k graph there c.turn_of.result.before (length sites)
    c.turn_of.ensures.before many in
    all_viewed (λ (p : report.PointReport). CanFollow c.turn_of.result.before p.number p.path) point_report_of c.in_ok-points.points.items
    (points_follow c.turn_of.result.before (length sites) few _ _ 1 sites _ (omega arith) c.in_ok-points.ensures.listed)

pub returns : goal.returns
returns c =
    let t = tree_view c.args.outline.now.tree.now in
    let graphs = c.args.outline.now.graphs.now in
    let graph = c.index-outline-k.result in
    let there = slice_get_read graphs (length graphs) c.args.k graph refl c.requires.there c.index-outline-k.is in
    let points = map point_report_of c.in_ok-points.points.items in
    let alone = listed_alone t graphs c.requires.graphs c.args.k graph there c.args.found.now _ _ (map site_view c.as_slice-sites.result.now) points _
    c.requires.globals c.requires.labels (ap (map site_view) (c.as_slice-sites.ensures.value ∙ ap (λ (g : InlinedProgram). g.sites.items) (sym c.index-outline-k.is))) c.in_ok-points.ensures.listed
    c.in_ok-points.ensures.states
    (rw c.deref.ensures.value at c.in_ok-states.ensures.shown) (rw c.deref.ensures.value at c.in_ok-states.ensures.told) in
    if_ok _ _ (λ x all. (
      points,
      alone,
      turned t graphs c.requires.graphs c.args.k c.turn_of.result.before c.turn_of.result.thread point_in_thread points points _ _
          c.turn_of.ensures.before c.turn_of.ensures.thread refl all,
    )) c.push_points.result c.push_points.ensures
