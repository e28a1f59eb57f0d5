-- Goals of `add_globals`.
use Rattle.std.proofs.Common.{map}
use Rattle.lra_syntax.specs.Views.{global_view}
use Rattle.lra_resolve.specs.Crates.lra_resolution_spec.NameFaults.{globals_faults}
use Rattle.lra_scopes.proofs.FirstFaults.{exit_tells, rest_tells}
use Rattle.lra_resolve.proofs.functions.add_globals.Goals as goal

pub returns-in_err-add_global-clause-told : goal.returns-in_err-add_global-clause-told
returns-in_err-add_global-clause-told c =
    exit_tells _ c.from_residual.result _ c.from_residual.ensures.1 (c.in_err-add_global.ensures.told (map global_view c.args.globals.now.rest.items))

pub returns-in_err-add_global-2-clause-told : goal.returns-in_err-add_global-2-clause-told
returns-in_err-add_global-2-clause-told c =
    exit_tells _ c.from_residual-in_err-add_global-2.result _ c.from_residual-in_err-add_global-2.ensures.1
    (rest_tells (globals_faults c.args.globals.now.number_type c.globals.resolved.names) global_view c.deref-global-items.result.now c.globals.global-index
    c.global-item.result _ _ c.globals-test.true c.global-item.is c.globals.invariant.clean c.in_err-add_global-2.ensures.told)
