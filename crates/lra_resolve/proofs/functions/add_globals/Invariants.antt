-- The first globals are there; the faults of those that are left are those of all.
use Rattle.std.proofs.Common.{◌≡◌, ◌∷◌, ◌++◌, map, take, drop}
use Rattle.std.specs.List.{flat_map}
use Rattle.lra_syntax.specs.{Trees.GlobalTree, Views.global_view}
use Rattle.lra_resolve.specs.Crates.lra_resolution_spec.NameFaults.{globals_faults, global_names}
use Rattle.lra_resolve.specs.Crates.{lra_resolution_spec.Resolve.variables_by, lra_resolution_spec.Resolve.arrays_by, lra_resolution_spec.Scope.global_entry}
use Rattle.lra_resolve.proofs.functions.add_globals.Given as goal

abbrev pub invariant-globals : goal.invariant-globals
invariant-globals l = record {
  clean : globals_faults l.globals.number_type l.fn.resolved.names (global_view l.globals.first ∷ map global_view l.globals.rest.items)
      ≡ globals_faults l.globals.number_type l.resolved.names (map global_view (drop l.global-index l.global-items));
  named : l.resolved.names ≡ l.fn.resolved.names ++ global_names (global_view l.globals.first ∷ map global_view (take l.global-index l.global-items));
  scoped : l.resolved.scope.globals ≡ l.fn.resolved.scope.globals
      ++ map (global_entry l.globals.number_type) (global_view l.globals.first ∷ map global_view (take l.global-index l.global-items));
  valued : l.resolved.globals.items ≡ l.fn.resolved.globals.items
      ++ flat_map (λ (g : GlobalTree). variables_by l.globals.number_type g.shape)
      (global_view l.globals.first ∷ map global_view (take l.global-index l.global-items));
  arrayed : l.resolved.arrays.items ≡ l.fn.resolved.arrays.items
      ++ flat_map (λ (g : GlobalTree). arrays_by l.globals.number_type g.name g.shape)
      (global_view l.globals.first ∷ map global_view (take l.global-index l.global-items));
  labels : l.resolved.labels ≡ l.fn.resolved.labels;
  functions : l.resolved.functions.items ≡ l.fn.resolved.functions.items;
}
