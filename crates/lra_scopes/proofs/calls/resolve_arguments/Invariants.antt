-- The faults of the arguments that are left are those of all; what the first ones mean is there.
use Rattle.std.proofs.Common.{◌≡◌, map, take, drop}
use Rattle.std.specs.List.{flat_map}
use Rattle.lra_program.specs.ProgramViews.{expr_view}
use Rattle.lra_scopes.specs.Calls.{argument_faults, resolve_argument}
use Rattle.lra_scopes.proofs.calls.resolve_arguments.Given as goal

abbrev pub invariant-arguments : goal.invariant-arguments
invariant-arguments l = record {
  clean : flat_map (argument_faults l.scope) l.arguments ≡ flat_map (argument_faults l.scope) (drop l.argument-index l.arguments);
  found : map expr_view l.values.items ≡ map (resolve_argument l.scope) (take l.argument-index l.arguments);
}
