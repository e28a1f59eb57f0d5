-- No function of the parts so far has the name; there are so many of them.
use Rattle.std.proofs.Common.{◌≡◌, ◌≤◌, ◌+◌, drop}
use Rattle.lra_syntax.specs.Functions.{function_named}
use Rattle.lra_resolve.specs.Crates.lra_resolution_spec.Resolve.{function_place}
use Rattle.lra_scopes.specs.Calls.{functions_at}
use Rattle.lra_resolve.proofs.threads.find_alone.Given as goal

abbrev pub invariant-parts : goal.invariant-parts
invariant-parts l = record {
  named : function_named (functions_at l.parts) l.name ≡ function_named (functions_at (drop l.item-index l.parts)) l.name;
  placed : function_place (functions_at l.parts) l.name ≡ l.place + function_place (functions_at (drop l.item-index l.parts)) l.name;
  small : l.place ≤ l.item-index;
}
