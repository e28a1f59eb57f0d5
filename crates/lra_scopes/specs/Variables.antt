-- Scalars and arrays, by their names and what these mean.
use Rattle.std.specs.Prelude.{◌≡◌, ◌+◌, ℕ, List, [], ◌∷◌, ⊤}
use Rattle.lra_program.specs.Program.{Slot}
use Rattle.lra_resolution_spec.specs.Scope.{SymbolEntry, Lookup, width_of}
use Rattle.lra_scopes.specs.{Bindings.binding_view, declared.variables.Placed.Placed}

-- a meaning for each name
abbrev pub entries_of : List (List ℕ) → List Placed → List SymbolEntry
entries_of [] ps = []
entries_of (x ∷ xs) [] = []
entries_of (x ∷ xs) (p ∷ ps) = record { name = x; binding = binding_view p.meaning } ∷ entries_of xs ps

-- after so many scalars, each has the number of those before it
abbrev pub AreCounted : ℕ → List Placed → Type 0
AreCounted n [] = ⊤
AreCounted n (p ∷ ps) = (p.scalars ≡ n) × AreCounted (n + width_of (binding_view p.meaning)) ps

-- what is found, if these are locals or globals
abbrev pub placed_view : (ℕ → Slot) → Placed → Lookup
placed_view slot p = record { slot = slot p.scalars; binding = binding_view p.meaning }
