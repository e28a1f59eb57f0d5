-- No function of the parts so far is `main`; there are so many of them.
use Rattle.std.proofs.Common.{◌≡◌, ◌≤◌, ◌+◌, drop}
use Rattle.std.specs.List.{list_any}
use Rattle.lra_syntax.specs.Functions.{is_main}
use Rattle.lra_scopes.specs.Calls.{functions_at}
use Rattle.lra_resolve.specs.Mains.{main_place}
use Rattle.lra_resolve.proofs.functions.find_main.Given as goal

abbrev pub invariant-parts : goal.invariant-parts
invariant-parts l = record {
  none : list_any is_main (functions_at l.parts) ≡ list_any is_main (functions_at (drop l.item-index l.parts));
  placed : main_place (functions_at l.parts) ≡ l.place + main_place (functions_at (drop l.item-index l.parts));
  small : l.place ≤ l.item-index;
}
