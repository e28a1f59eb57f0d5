-- The first parameters are declared; the faults of those that are left are those of all.
use Rattle.std.proofs.Common.{◌≡◌, [], map, take, drop}
use Rattle.lra_syntax.specs.declared.trees.Parameter.{Parameter}
use Rattle.lra_resolve.specs.Crates.{lra_resolution_spec.NameFaults.parameters_faults, lra_resolution_spec.Scope.names_in, lra_resolution_spec.Scope.function_scope}
use Rattle.lra_resolve.proofs.functions.declare_parameters.Given as goal

abbrev pub invariant-parameters : goal.invariant-parameters
invariant-parameters l = record {
  clean : parameters_faults [] l.parameters ≡ parameters_faults (names_in l.scope.locals) (drop l.parameter-index l.parameters);
  declared : l.scope ≡ function_scope l.fn.scope.globals (take l.parameter-index l.parameters);
  lives : l.labels.live ≡ map (λ (p : Parameter). p.name.word) (take l.parameter-index l.parameters);
  labelled : l.labels.labels ≡ l.fn.labels.labels;
  counted : l.labels.next ≡ l.fn.labels.next;
}
