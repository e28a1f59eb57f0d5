-- Goals of `solve_front`: what an iteration over a domain finds of the program that is read of a source.
use Rattle.std.proofs.Common.{map}
use Rattle.lra_analyse_source.specs.Crates.{lra_operations.TreeViews.node_view, lra_operations.TreeViews.site_view, lra_resolution_spec.Resolve.resolve, lra_syntax.Views.tree_view}
use Rattle.lra_analyse_source.proofs.ReportSteps.{fits, globals_seen, small_globals, good_globals, is_numbered}
use Rattle.lra_analyse_source.proofs.reporting.solve_front.Goals as goal

pub analyse-requires-clause-few : goal.analyse-requires-clause-few
analyse-requires-clause-few g c = small_globals (tree_view c.args.front.now.tree) (node_view c.args.front.now.graph.tree)
    (map site_view c.args.front.now.graph.sites.items) c.as_slice-globals.result.now c.requires.graph
    (globals_seen c.args.front.now.resolution.program (tree_view c.args.front.now.tree) c.as_slice-globals.result.now c.requires.program c.as_slice-globals.ensures.value)

pub analyse-requires-clause-globals : goal.analyse-requires-clause-globals
analyse-requires-clause-globals g c = good_globals (tree_view c.args.front.now.tree) (node_view c.args.front.now.graph.tree)
    (map site_view c.args.front.now.graph.sites.items) c.as_slice-globals.result.now c.requires.graph
    (globals_seen c.args.front.now.resolution.program (tree_view c.args.front.now.tree) c.as_slice-globals.result.now c.requires.program c.as_slice-globals.ensures.value)

pub analyse-requires-clause-fits : goal.analyse-requires-clause-fits
analyse-requires-clause-fits g c = fits (tree_view c.args.front.now.tree) (node_view c.args.front.now.graph.tree)
    (map site_view c.args.front.now.graph.sites.items) c.as_slice-globals.result.now c.requires.graph
    (globals_seen c.args.front.now.resolution.program (tree_view c.args.front.now.tree) c.as_slice-globals.result.now c.requires.program c.as_slice-globals.ensures.value)

pub analyse-requires-clause-numbered : goal.analyse-requires-clause-numbered
analyse-requires-clause-numbered g c = is_numbered (tree_view c.args.front.now.tree) (node_view c.args.front.now.graph.tree) (map site_view c.args.front.now.graph.sites.items) c.requires.graph

pub returns : goal.returns
returns g c = c.in_ok-solution.ensures.solved (resolve (tree_view c.args.front.now.tree))
    (globals_seen c.args.front.now.resolution.program (tree_view c.args.front.now.tree) c.as_slice-globals.result.now c.requires.program
    c.as_slice-globals.ensures.value)
