-- What is resolved so far, and then the parts that are left, are as all parts.
use Rattle.std.proofs.Common.{◌≡◌, [], ◌++◌, map, drop}
use Rattle.lra_syntax.specs.{Functions.functions_in, Views.external_view}
use Rattle.lra_program.specs.ProgramViews.{function_view}
use Rattle.lra_resolve.specs.Crates.lra_resolution_spec.NameFaults.{parts_faults}
use Rattle.lra_resolve.specs.Crates.lra_resolution_spec.Resolve.{globals_in, arrays_in, resolve_parts}
use Rattle.lra_scopes.specs.Calls.{functions_at}
use Rattle.lra_resolve_simple.specs.Labelling.{labels_of_functions}
use Rattle.lra_resolve.proofs.functions.resolve_all.Given as goal

abbrev pub invariant-parts : goal.invariant-parts
invariant-parts l = record {
  clean : parts_faults (functions_at l.functions) [] [] (map external_view l.parts)
      ≡ parts_faults (functions_at l.functions) l.resolved.names l.resolved.scope.globals (map external_view (drop l.item-index l.parts));
  found : resolve_parts (functions_at l.functions) [] 1 (map external_view l.parts)
      ≡ map function_view l.resolved.functions.items
      ++ resolve_parts (functions_at l.functions) l.resolved.scope.globals l.resolved.labels.next (map external_view (drop l.item-index l.parts));
  valued : globals_in (map external_view l.parts) ≡ l.resolved.globals.items ++ globals_in (map external_view (drop l.item-index l.parts));
  arrayed : arrays_in (map external_view l.parts) ≡ l.resolved.arrays.items ++ arrays_in (map external_view (drop l.item-index l.parts));
  labelled : l.resolved.labels.labels ++ labels_of_functions (functions_in (map external_view (drop l.item-index l.parts)))
      ≡ labels_of_functions (functions_in (map external_view l.parts));
}
