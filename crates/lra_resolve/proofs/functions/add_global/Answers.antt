-- Goals of `add_global`.
use Rattle.std.proofs.Common.{List, ◌∷◌}
use Rattle.lra_syntax.specs.{Trees.GlobalTree, Views.global_view}
use Rattle.lra_resolve.specs.Crates.lra_resolution_spec.NameFaults.{globals_faults}
use Rattle.lra_scopes.proofs.Loops.{memory_told_all}
use Rattle.lra_resolve.proofs.functions.add_global.Goals as goal

pub returns-in_err-push-clause-told : goal.returns-in_err-push-clause-told
returns-in_err-push-clause-told c =
    memory_told_all (λ (rest : List GlobalTree). globals_faults c.args.number_type c.args.resolved.now.names (global_view c.args.global.now ∷ rest))
    c.from_residual-in_err-push.result c.from_residual-in_err-push.ensures.1

pub returns-in_err-declare_global-clause-told : goal.returns-in_err-declare_global-clause-told
returns-in_err-declare_global-clause-told c =
    memory_told_all (λ (rest : List GlobalTree). globals_faults c.args.number_type c.args.resolved.now.names (global_view c.args.global.now ∷ rest))
    c.from_residual-in_err-declare_global.result
    c.from_residual-in_err-declare_global.ensures.1
