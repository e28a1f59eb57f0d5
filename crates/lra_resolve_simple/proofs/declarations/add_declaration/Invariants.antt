-- The declarators that are left, in the scope of those before them, are as all of them in the scope of the declaration.
use Rattle.std.proofs.Common.{◌≡◌, ◌+◌, ◌∷◌, suc, map, take, drop}
use Rattle.lra_program.specs.{Program.BlockItems, ProgramViews.item_view}
use Rattle.lra_syntax.specs.Views.{declarator_view}
use Rattle.lra_resolve_simple.specs.Crates.{lra_resolution_spec.NameFaults.declarators_faults, lra_resolution_spec.Resolve.resolve_declarators, lra_resolution_spec.Scope.with_declarators}
use Rattle.lra_scopes.specs.Calls.{functions_at}
use Rattle.lra_resolve_simple.specs.{Labelling.Declares, Statements.followed}
use Rattle.lra_resolve_simple.proofs.declarations.add_declaration.Given as goal

abbrev pub invariant-declarators : goal.invariant-declarators
invariant-declarators l = record {
  clean : declarators_faults (functions_at l.functions) l.fn.scope l.declaration.number_type (declarator_view l.declaration.first ∷ map declarator_view l.declaration.rest.items)
      ≡ declarators_faults (functions_at l.functions) l.scope l.declaration.number_type (map declarator_view (drop l.declarator-index l.declarator-items));
  found : (more : BlockItems)
      → followed (map item_view l.fn.items.items) (resolve_declarators (functions_at l.functions) l.fn.scope l.fn.labels.next
      l.declaration.number_type (declarator_view l.declaration.first ∷ map declarator_view l.declaration.rest.items) more)
      ≡ followed (map item_view l.items.items) (resolve_declarators (functions_at l.functions) l.scope l.labels.next l.declaration.number_type
      (map declarator_view (drop l.declarator-index l.declarator-items)) more);
  declared : with_declarators l.fn.scope l.declaration.number_type (declarator_view l.declaration.first ∷ map declarator_view l.declaration.rest.items)
      ≡ with_declarators l.scope l.declaration.number_type (map declarator_view (drop l.declarator-index l.declarator-items));
  counted : l.labels.next ≡ suc (l.fn.labels.next + l.declarator-index);
  labelled : Declares l.fn.labels l.labels (declarator_view l.declaration.first ∷ map declarator_view (take l.declarator-index l.declarator-items));
}
