-- Goals of `judge_accesses`: which accesses of a tree are inside.
use Rattle.std.proofs.Common.{None}
use Rattle.lra_bounds_checks.specs.Crates.lra_analysis_spec.Operations.{lossy_operations}
use Rattle.lra_bounds_checks.specs.Crates.{lra_analysis_spec.Accesses.OpInside, lra_operations.CheckedOperations.accessing_ops, lra_operations.TreeViews.node_view}
use Rattle.lra_bounds_checks.proofs.ShownSteps.{finds_shown}
use Rattle.lra_bounds_checks.proofs.judgements.judge_accesses.Goals as goal

pub returns : goal.returns
returns g c =
    let m = g.D.Domain.abstraction in
    finds_shown (lossy_operations m) (λ op v js e. OpInside m (lossy_operations m) op v js.items e) (OpInside m (lossy_operations m)) (λ js. js.items)
    (λ op v js e told. told)
    (accessing_ops None (node_view c.args.tree.now)) c.args.values.now c.args.flagged c.in_ok-found.found.flagged c.in_ok-found.found.answers.items
    c.in_ok-found.ensures
