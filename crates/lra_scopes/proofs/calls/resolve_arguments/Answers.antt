-- Goals of `resolve_arguments`.
use Rattle.std.proofs.Common.{refl, map, ap}
use Rattle.lra_program.specs.ProgramViews.{expr_view}
use Rattle.lra_scopes.specs.Calls.{argument_faults, resolve_argument}
use Rattle.lra_scopes.proofs.{FirstFaults.parts_clean, Loops.memory_told, Loops.part_told, Loops.all_clean, Loops.parts_found, Loops.all_found}
use Rattle.lra_scopes.proofs.calls.resolve_arguments.Goals as goal

pub arguments-init : goal.arguments-init
arguments-init c = record { clean = refl; found = ap (map expr_view) c.new-values.ensures.items }

pub arguments-preserved : goal.arguments-preserved
arguments-preserved c = record {
  clean = parts_clean (argument_faults c.args.scope.now) c.args.arguments.now c.arguments.argument-index c.argument-item.result _ c.arguments-test.true c.argument-item.is
      c.arguments.invariant.clean c.in_ok-value.ensures.told;
  found = parts_found expr_view (resolve_argument c.args.scope.now) c.args.arguments.now c.arguments.argument-index c.argument-item.result c.arguments.values.items c.push.new.self.items
      c.in_ok-value.value
      c.arguments-test.true c.argument-item.is c.in_ok-push.ensures.items c.in_ok-value.ensures.found c.arguments.invariant.found;
}

pub returns-in_err-value-clause-told : goal.returns-in_err-value-clause-told
returns-in_err-value-clause-told c =
    part_told (argument_faults c.args.scope.now) c.args.arguments.now c.arguments.argument-index c.argument-item.result _ c.from_residual.result _
    c.arguments-test.true c.argument-item.is c.arguments.invariant.clean c.from_residual.ensures.1 c.in_err-value.ensures.told

pub returns-in_err-push-clause-told : goal.returns-in_err-push-clause-told
returns-in_err-push-clause-told c = memory_told _ c.from_residual-in_err-push.result c.from_residual-in_err-push.ensures.1

pub returns-clause-told : goal.returns-clause-told
returns-clause-told c = all_clean (argument_faults c.args.scope.now) c.args.arguments.now c.arguments.argument-index _ c.arguments.invariant.clean c.arguments-test.false

pub returns-clause-found : goal.returns-clause-found
returns-clause-found c = all_found expr_view (resolve_argument c.args.scope.now) c.args.arguments.now c.arguments.argument-index c.arguments.values.items c.arguments.invariant.found
    c.arguments-test.false
