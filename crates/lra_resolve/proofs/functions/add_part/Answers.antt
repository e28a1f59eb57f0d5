-- Goals of `add_part`.
use Rattle.std.proofs.Common.{List, ◌∷◌}
use Rattle.lra_syntax.specs.{Trees.ExternalTree, Views.external_view}
use Rattle.lra_resolve.specs.Crates.lra_resolution_spec.NameFaults.{parts_faults}
use Rattle.lra_scopes.specs.Calls.{functions_at}
use Rattle.lra_scopes.proofs.FirstFaults.{exit_tells_all}
use Rattle.lra_resolve.proofs.functions.add_part.Goals as goal

pub returns-in_err-add_function-in-Function-clause-told : goal.returns-in_err-add_function-in-Function-clause-told
returns-in_err-add_function-in-Function-clause-told c =
    exit_tells_all (λ (rest : List ExternalTree). parts_faults (functions_at c.args.functions.now) c.args.resolved.now.names c.args.resolved.now.scope.globals
    (external_view c.args.item.now ∷ rest))
    c.from_residual-in_err-add_function-in-Function.result _ c.from_residual-in_err-add_function-in-Function.ensures.1
    (λ (rest : List ExternalTree). rw c.in-Function.is (c.in_err-add_function-in-Function.ensures.told rest))
