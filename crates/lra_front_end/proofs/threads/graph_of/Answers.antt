-- Goals of `graph_of`: the tree of operations of one thread's program, or the refusal for the limit that it passes
-- after the threads before it.
use Rattle.std.proofs.Common.{◌≡◌, List, length, Some, sym, ap, ◌∙◌}
use Rattle.lra_front_end.specs.Crates.{lra_inline_steps.Inlining.points_in, lra_inline_steps.Limits.refusal_of, lra_program.ProgramViews.program_view, lra_program.Sites.events_of}
use Rattle.lra_front_end.specs.Crates.{lra_resolution_spec.Refuse.limit_fault, lra_syntax.Labels.Labelled}
use Rattle.lra_front_end.proofs.StageSteps.{limit_passed}
use Rattle.lra_front_end.proofs.threads.graph_of.Goals as goal

pub returns-in-Ok-clause-graph : goal.returns-in-Ok-clause-graph
returns-in-Ok-clause-graph c =
    let b = c.in-Ok.ensures in
    record { well = c.requires; few = b.few; is_graph = b.graph; agrees = b.agrees; points = b.sites }

pub returns-in-Err-Passed-clause-refused : goal.returns-in-Err-Passed-clause-refused
returns-in-Err-Passed-clause-refused c =
    let x = c.in-Err-Passed.limit in
    let P = program_view (record c.args.program.now { main = c.args.thread }) in
    let n = length (points_in c.args.before.now) in
    limit_passed (λ y. (ls : List Labelled) → limit_fault ls n (events_of P) ≡ Some (refusal_of ls y)) c.in-Err-Passed.field-0 x c.in-Err-Passed.field-0-is
    c.in-Err-Passed.ensures.limit c.args.labels.now.labels ∙ ap Some (sym c.refusal.ensures)
