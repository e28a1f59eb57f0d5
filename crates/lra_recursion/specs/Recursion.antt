-- Calls whose callee reaches their caller, in the places of functions.
use Rattle.std.specs.{List.AllByRecursion, Prelude.◌≡◌, Prelude.ℕ, Prelude.List, Prelude.◌∷◌, Prelude.◌++◌}
use Rattle.lra_recursion.specs.Crates.lra_base.declared.refusals.Place.{Place}
use Rattle.lra_recursion.specs.{Search.IsReachableFrom, declared.calls.Call.Call}

-- the callee reaches the caller
abbrev pub IsRecursiveCall : List (List ℕ) → Call → Type 0
IsRecursiveCall rows c = IsReachableFrom rows c.callee c.caller

-- the first such call
abbrev pub IsFirstRecursiveCall : List (List ℕ) → List Call → Place → Type 0
IsFirstRecursiveCall rows calls at =
    (before after : List Call) × (c : Call) × (calls ≡ before ++ c ∷ after) × (at ≡ c.place)
    × IsRecursiveCall rows c × AllByRecursion (λ d. IsRecursiveCall rows d → ⊥) before
