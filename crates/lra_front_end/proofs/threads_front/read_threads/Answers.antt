-- Goals of `read_threads`: all that is read of a source of several threads, or its one refusal; memory may run out.
use Rattle.std.proofs.Common.{◌∙◌, ap, sym, subst}
use Rattle.std.specs.List.{AllByRecursion, AllZip}
use Rattle.lra_front_end.specs.Crates.{lra_program.WellFormed.IsWellFormed, lra_resolution_spec.LabelTable.LabelLists, lra_resolution_spec.Threads.thread_program, lra_syntax.Views.tree_view}
use Rattle.lra_front_end.specs.ThreadsStages.{IsThreadInlined}
use Rattle.lra_front_end.specs.Crates.lra_resolution_spec.EntryPoint.{at_threads}
use Rattle.lra_front_end.proofs.{ReadSteps.exit_unread, ReadSteps.exit_tree, StageSteps.threads_well, StageSteps.accepted}
use Rattle.lra_front_end.proofs.threads_front.read_threads.Goals as goal

pub returns-in_err-reading-clause-refused : goal.returns-in_err-reading-clause-refused
returns-in_err-reading-clause-refused c = exit_unread at_threads c.args.bytes.now c.from_residual.result _ c.from_residual.ensures.1 c.in_err-reading.ensures.refused

pub returns-in_err-found-clause-refused : goal.returns-in_err-found-clause-refused
returns-in_err-found-clause-refused c =
    exit_tree at_threads c.args.bytes.now (tree_view c.in_ok-reading.reading.tree) c.from_residual-in_err-found.result _ c.in_ok-reading.ensures.found
    c.from_residual-in_err-found.ensures.1
    c.in_err-found.ensures.refused

pub returns-in_err-graphs-clause-refused : goal.returns-in_err-graphs-clause-refused
returns-in_err-graphs-clause-refused c =
    exit_tree at_threads c.args.bytes.now (tree_view c.in_ok-reading.reading.tree) c.from_residual-in_err-graphs.result _ c.in_ok-reading.ensures.found
    c.from_residual-in_err-graphs.ensures.1
    c.in_err-graphs.ensures.refused

pub returns-clause-accepted : goal.returns-clause-accepted
returns-clause-accepted c =
    accepted at_threads c.args.bytes.now (tree_view c.in_ok-reading.reading.tree) c.in_ok-reading.ensures.found c.in_ok-graphs.ensures.threads

pub inline_threads-requires-clause-threads : goal.inline_threads-requires-clause-threads
inline_threads-requires-clause-threads c = c.deref.ensures.value ∙ c.in_ok-found.ensures.threads

pub inline_threads-requires-clause-well : goal.inline_threads-requires-clause-well
inline_threads-requires-clause-well c =
    let t = tree_view c.in_ok-reading.reading.tree in
    subst (AllByRecursion (λ place. IsWellFormed (thread_program t place))) (sym (c.deref.ensures.value ∙ c.in_ok-found.ensures.threads))
    (threads_well c.args.bytes.now t c.in_ok-reading.ensures.found c.in_ok-found.ensures.clean)

pub returns-clause-labels : goal.returns-clause-labels
returns-clause-labels c = ap (λ (l : LabelLists). l.labels) c.in_ok-graphs.ensures.labels ∙ c.in_ok-found.ensures.labelled

pub returns-clause-graphs : goal.returns-clause-graphs
returns-clause-graphs c =
    subst (λ places. AllZip (IsThreadInlined (tree_view c.in_ok-reading.reading.tree)) places c.in_ok-graphs.graphs.items) c.deref.ensures.value
    c.in_ok-graphs.ensures.graphs
