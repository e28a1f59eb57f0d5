-- The places so far, and then those of the functions of the parts that are left, are those of all.
use Rattle.std.proofs.Common.{◌≡◌, ◌++◌, drop, map}
use Rattle.lra_recursion.specs.Crates.{lra_syntax.Functions.functions_in, lra_syntax.Views.external_view}
use Rattle.lra_scopes.specs.Calls.{functions_at}
use Rattle.lra_recursion.specs.Calls.{first_places}
use Rattle.lra_recursion.proofs.calls.find_first_places.Given as goal

abbrev pub invariant-parts : goal.invariant-parts
invariant-parts l =
    l.places.items ++ first_places (functions_at l.index) (functions_in (map external_view (drop l.item-index l.parts)))
    ≡ first_places (functions_at l.index) (functions_at l.parts)
