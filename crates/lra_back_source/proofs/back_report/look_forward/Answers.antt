-- Goals of `look_forward`: what is gone back over.
use Rattle.std.proofs.Common.{map}
use Rattle.lra_back_source.specs.Crates.lra_operations.TreeViews.{node_view, site_view}
use Rattle.lra_back_source.specs.Crates.{lra_base.AccessVerdicts.reported_view, lra_poly_domain.Abstraction.polyhedron_abstraction, lra_poly_domain.Laws.polyhedron_laws, lra_syntax.Views.tree_view}
use Rattle.lra_analyse_source.proofs.ReportSteps.{accessed_handed, few_dims}
use Rattle.lra_back_source.specs.Forward.{forward_plan}
use Rattle.lra_back_source.proofs.{Answered.listed_number, Forward.are_wide, Forward.flag_there, Forward.is_forward}
use Rattle.lra_back_source.proofs.back_report.look_forward.Goals as goal

pub judge_accesses-requires-clause-few : goal.judge_accesses-requires-clause-few
judge_accesses-requires-clause-few c =
    let solution = c.in_ok-solution.solution in
    rw c.deref.ensures.value (few_dims polyhedron_abstraction (tree_view c.args.front.now.tree) (node_view c.args.front.now.graph.tree)
    (map site_view c.args.front.now.graph.sites.items) c.requires.graph (forward_plan c.args.front.now.constants.items) solution.values.items
    solution.verdicts.items solution.flagged c.in_ok-solution.ensures polyhedron_laws)

pub judge_accesses-requires-clause-below : goal.judge_accesses-requires-clause-below
judge_accesses-requires-clause-below c =
    let solution = c.in_ok-solution.solution in
    rw c.deref.ensures.value (accessed_handed polyhedron_abstraction (tree_view c.args.front.now.tree) (node_view c.args.front.now.graph.tree)
    (map site_view c.args.front.now.graph.sites.items) c.requires.graph (forward_plan c.args.front.now.constants.items) solution.values.items
    solution.verdicts.items solution.flagged c.in_ok-solution.ensures)

pub returns-clause-forward : goal.returns-clause-forward
returns-clause-forward c =
    let solution = c.in_ok-solution.solution in
    is_forward (tree_view c.args.front.now.tree) (node_view c.args.front.now.graph.tree) (map site_view c.args.front.now.graph.sites.items) c.requires.graph
    c.args.front.now.constants.items solution.values.items solution.verdicts.items solution.flagged c.in_ok-solution.ensures
    (map reported_view c.in_ok-inside.inside.verdicts.items) c.in_ok-inside.inside.flagged (rw c.deref.ensures.value at c.in_ok-inside.ensures)

pub returns-clause-wide : goal.returns-clause-wide
returns-clause-wide c =
    let solution = c.in_ok-solution.solution in
    are_wide (tree_view c.args.front.now.tree) (node_view c.args.front.now.graph.tree) (map site_view c.args.front.now.graph.sites.items) c.requires.graph
    c.args.front.now.constants.items solution.values.items solution.verdicts.items solution.flagged c.in_ok-solution.ensures

pub returns-clause-flag : goal.returns-clause-flag
returns-clause-flag c = λ q is.
    let solution = c.in_ok-solution.solution in
    listed_number c.args.front.now.graph.sites.items q
    (flag_there (tree_view c.args.front.now.tree) (node_view c.args.front.now.graph.tree) (map site_view c.args.front.now.graph.sites.items) c.requires.graph
    c.args.front.now.constants.items solution.values.items solution.verdicts.items solution.flagged c.in_ok-solution.ensures
    (map reported_view c.in_ok-inside.inside.verdicts.items) c.in_ok-inside.inside.flagged (rw c.deref.ensures.value at c.in_ok-inside.ensures) q is)
