-- The first of a name is among the functions so far, or else among those that are left.
use Rattle.std.proofs.Common.{◌≡◌, ◌≤◌, ℕ, List, drop}
use Rattle.std.specs.Option.{option_or}
use Rattle.indexmap.specs.IndexMap.{get_by_text}
use Rattle.lra_scopes.specs.{Calls.functions_at, Signatures.first_signature}
use Rattle.lra_scopes.proofs.signatures.Functions.new.Given as goal

abbrev pub invariant-parts : goal.invariant-parts
invariant-parts l = record {
  found : (name : List ℕ) → first_signature name 0 (functions_at l.parts)
      ≡ option_or (get_by_text l.signatures name) (first_signature name l.place (functions_at (drop l.item-index l.parts)));
  small : l.place ≤ l.item-index;
}
