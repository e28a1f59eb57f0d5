-- What stands for the code's meanings of names.
use Rattle.lra_resolution_spec.specs.Scope as scope
use Rattle.lra_program.specs.ProgramViews.{slot_view}
use Rattle.lra_scopes.specs.{declared.bindings.Binding.Binding, declared.bindings.Lookup.Lookup}
use Rattle.lra_scopes.specs.declared.bindings.Binding.TheVariants as meaning

abbrev pub binding_view : Binding → scope.Binding
binding_view (meaning.Scalar t) = scope.scalar t
binding_view (meaning.Array a) = scope.array a

abbrev pub lookup_view : Lookup → scope.Lookup
lookup_view f = record { slot = slot_view f.slot; binding = binding_view f.meaning }
