-- Goals of `retrace`: what going back from a point finds.
use Rattle.std.proofs.Common.{map}
use Rattle.lra_back_source.specs.Crates.{lra_back.BackwardAnalysis.PathsFit, lra_operations.TreeViews.node_view, lra_operations.TreeViews.site_view, lra_syntax.Views.tree_view}
use Rattle.lra_analyse_source.proofs.ReportSteps.{globals_seen}
use Rattle.lra_back_source.proofs.Answered.{all_found, failed, flag_at, listed_number, retraced, unlisted_number}
use Rattle.lra_back_source.proofs.Forward.{asserted_at, handed, paths_at}
use Rattle.lra_back_source.proofs.back_report.retrace.Goals as goal

pub back-requires-clause-wide : goal.back-requires-clause-wide
back-requires-clause-wide c = rw c.deref.ensures.value c.in_ok-forward.ensures.wide

pub back-requires-clause-fit : goal.back-requires-clause-fit
back-requires-clause-fit c =
    let front = c.args.front.now in
    handed (tree_view front.tree) (node_view front.graph.tree) (map site_view front.graph.sites.items) c.requires.graph c.as_slice-globals.result.now
    (globals_seen front.resolution.program (tree_view front.tree) c.as_slice-globals.result.now c.requires.program c.as_slice-globals.ensures.value)
    (λ gs T. PathsFit gs T (node_view front.graph.tree))
    (paths_at (tree_view front.tree) (node_view front.graph.tree) (map site_view front.graph.sites.items) c.requires.graph)

pub back-requires-clause-asserted : goal.back-requires-clause-asserted
back-requires-clause-asserted c =
    let front = c.args.front.now in
    asserted_at (tree_view front.tree) (node_view front.graph.tree) (map site_view front.graph.sites.items) c.requires.graph

pub returns-clause-found : goal.returns-clause-found
returns-clause-found c =
    let front = c.args.front.now in
    let forward = c.in_ok-forward.forward in
    let globals = globals_seen front.resolution.program (tree_view front.tree) c.as_slice-globals.result.now c.requires.program
    c.as_slice-globals.ensures.value in
    all_found _ _ _ _ _
    (λ b traced proved few asks. retraced (tree_view front.tree) (node_view front.graph.tree) (map site_view front.graph.sites.items) c.requires.graph
    c.as_slice-globals.result.now globals front.constants.items c.args.point forward.values.items b.values.items forward.flagged b.flagged b.is_proved
    (rw c.deref.ensures.value at traced) c.in_ok-forward.ensures.forward asks few proved)
    c.back.result c.back.ensures.traced c.back.ensures.proved c.back.ensures.few c.back.ensures.asks

pub returns-clause-flag : goal.returns-clause-flag
returns-clause-flag c =
    let front = c.args.front.now in
    let forward = c.in_ok-forward.forward in
    let globals = globals_seen front.resolution.program (tree_view front.tree) c.as_slice-globals.result.now c.requires.program
    c.as_slice-globals.ensures.value in
    all_found _ _ _ _ _
    (λ b traced proved few asks q is. listed_number front.graph.sites.items q
    (flag_at (tree_view front.tree) (node_view front.graph.tree) (map site_view front.graph.sites.items) c.requires.graph
    c.as_slice-globals.result.now globals front.constants.items c.args.point forward.values.items b.values.items forward.flagged b.flagged b.is_proved
    (rw c.deref.ensures.value at traced) c.in_ok-forward.ensures.wide
    (λ k at. unlisted_number front.graph.sites.items k (c.in_ok-forward.ensures.flag k at)) q is))
    c.back.result c.back.ensures.traced c.back.ensures.proved c.back.ensures.few c.back.ensures.asks

pub returns-clause-failure : goal.returns-clause-failure
returns-clause-failure c =
    let front = c.args.front.now in
    failed (tree_view front.tree) (node_view front.graph.tree) (map site_view front.graph.sites.items) c.requires.graph c.as_slice-globals.result.now
    (globals_seen front.resolution.program (tree_view front.tree) c.as_slice-globals.result.now c.requires.program c.as_slice-globals.ensures.value)
    front.constants.items c.args.point c.back.result c.back.ensures.none c.back.ensures.many
