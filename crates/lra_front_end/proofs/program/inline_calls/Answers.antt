-- Goals of `inline_calls`: the tree of operations of a program without recursion and its points; or the refusal for its
-- first recursive call, or for the first limit that it passes.
use Rattle.std.proofs.Common.{◌≡◌, List, map, Some, ap}
use Rattle.lra_front_end.specs.Crates.lra_operations.TreeViews.{node_view, site_view}
use Rattle.lra_front_end.specs.Crates.{lra_inline_steps.Limits.refusal_of, lra_program.Program.Program, lra_program.ProgramViews.program_view, lra_program.Sites.events_of}
use Rattle.lra_front_end.specs.Crates.{lra_resolution_spec.EntryPoint.at_main, lra_resolution_spec.Refuse.limit_fault, lra_syntax.Labels.Labelled, lra_syntax.Views.tree_view}
use Rattle.lra_front_end.proofs.StageSteps.{has_graph, exit_recursive, limit_passed, limit_refused}
use Rattle.lra_front_end.proofs.program.inline_calls.Goals as goal

pub check_calls-requires-clause-functions : goal.check_calls-requires-clause-functions
check_calls-requires-clause-functions c = ap (λ (P : Program). P.functions) c.requires.program

pub returns-in_err-check_calls-clause-refused : goal.returns-in_err-check_calls-clause-refused
returns-in_err-check_calls-clause-refused c =
    exit_recursive at_main (tree_view c.args.tree.now) c.from_residual.result _ c.requires.clean c.from_residual.ensures.1 c.in_err-check_calls.ensures.refused

pub returns-in-Ok-clause-graph : goal.returns-in-Ok-clause-graph
returns-in-Ok-clause-graph c =
    let b = c.in-Ok.ensures in
    has_graph (tree_view c.args.tree.now) (program_view c.args.resolution.now.program) (node_view c.in-Ok.graph.tree)
    (map site_view c.in-Ok.graph.sites.items) c.requires.program c.requires.clean c.in_ok-check_calls.ensures.straight c.requires.well
    b.graph b.agrees b.sites b.few b.within

pub returns-in-Err-Passed-clause-refused : goal.returns-in-Err-Passed-clause-refused
returns-in-Err-Passed-clause-refused c =
    let x = c.in-Err-Passed.limit in
    let P = program_view c.args.resolution.now.program in
    limit_refused (tree_view c.args.tree.now) P x c.refusal.result c.args.resolution.now.labels.labels c.requires.program c.requires.clean c.in_ok-check_calls.ensures.straight
    (limit_passed (λ y. (ls : List Labelled) → limit_fault ls 0 (events_of P) ≡ Some (refusal_of ls y)) c.in-Err-Passed.field-0 x c.in-Err-Passed.field-0-is
    c.in-Err-Passed.ensures.limit) c.requires.labels c.refusal.ensures
