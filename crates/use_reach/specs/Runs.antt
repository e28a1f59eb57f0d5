-- Stores that changes give, and runs of a system of steps.
use Rattle.std.specs.Prelude.{◌≡◌, ℕ, zero, suc, ℤ, List, length}
use Rattle.guzhtarel.specs.{Domains.Actions.Action, Domains.Moves.LeadsAll, Domains.Moves.SomeLeads}

-- the actions may lead to the store from some store of n numbers: if they are tests, the store passes them
abbrev pub IsGiven : ℕ → List Action → List ℤ → Type 0
IsGiven n actions s = (any : List ℤ) × (length any ≡ n) × LeadsAll actions any s

-- so many steps, each one of the ways, may lead from the first store to the second
abbrev pub Runs : List (List Action) → ℕ → List ℤ → List ℤ → Type 0
Runs ways zero s t = t ≡ s
Runs ways (suc k) s t = (u : List ℤ) × SomeLeads ways s u × Runs ways k u t

abbrev pub Reaches : List (List Action) → List ℤ → List ℤ → Type 0
Reaches ways s t = (k : ℕ) × Runs ways k s t
