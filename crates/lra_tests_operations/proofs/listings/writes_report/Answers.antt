-- Goals of `writes_report`.
use Rattle.lra_tests_operations.specs.Crates.{lra_program.ProgramViews.program_view, lra_syntax.Views.tree_view}
use Rattle.lra_operations.specs.TreeViews.{node_view}
use Rattle.lra_tests_operations.proofs.{Given.graph_there, Given.sites_there, Silent.silent_trees}
use Rattle.lra_tests_operations.proofs.listings.writes_report.Goals as goal

pub report_of-requires-clause-sites : goal.report_of-requires-clause-sites
report_of-requires-clause-sites c =
    sites_there (tree_view c.in_ok-tree.tree) (program_view c.in_ok-resolution.resolution.program) c.as_slice-sites.result.now c.in-Ok.graph.sites.items
    c.as_slice-sites.ensures.value c.in-Ok.ensures.sites c.in_ok-resolution.ensures.program

pub report_of-requires-clause-graph : goal.report_of-requires-clause-graph
report_of-requires-clause-graph c =
    graph_there (tree_view c.in_ok-tree.tree) (program_view c.in_ok-resolution.resolution.program) (node_view c.in-Ok.graph.tree) c.in-Ok.ensures.graph
    c.in_ok-resolution.ensures.program

pub report_of-requires-clause-silent : goal.report_of-requires-clause-silent
report_of-requires-clause-silent c =
    silent_trees (tree_view c.in_ok-tree.tree) (program_view c.in_ok-resolution.resolution.program) (node_view c.in-Ok.graph.tree)
    c.in-Ok.ensures.graph c.in_ok-resolution.ensures.program (c.in_ok-accesses_nothing.ensures c.if-not-branch.false)
