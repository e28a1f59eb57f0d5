-- What is done to a value: nothing, a least change, one thing after the other, or what one leaves joined with what
-- another leaves; and what that may do to stores.
use Rattle.std.specs.List.{flat_map}
use Rattle.std.specs.Prelude.{◌≡◌, ◌⊎◌, ℕ, ℤ, List, [], ◌∷◌, ◌++◌, map}
use Rattle.lra_domain.specs.Actions.{Action, Leads, dims_after}

pub data Moves : Type 0 where
  stay : Moves
  make : Action → Moves
  first_then : Moves → Moves → Moves
  -- joined in this order
  join_of : Moves → Moves → Moves

-- what the moves may do to a store: if two are joined, the one or the other
abbrev pub MayLead : Moves → List ℤ → List ℤ → Type 0
MayLead stay s t = t ≡ s
MayLead (make step) s t = Leads step s t
MayLead (first_then a b) s t = (u : List ℤ) × MayLead a s u × MayLead b u t
MayLead (join_of a b) s t = MayLead a s t ⊎ MayLead b s t

-- how many dimensions there are after them; after a join those of its first side, which are those of the second, too,
-- wherever it can be made
abbrev pub dims_moved : Moves → ℕ → ℕ
dims_moved stay n = n
dims_moved (make step) n = dims_after step n
dims_moved (first_then a b) n = dims_moved b (dims_moved a n)
dims_moved (join_of a b) n = dims_moved a n

-- a list of actions, one after the other, may lead from the first store to the second; one of some lists may
abbrev pub LeadsAll : List Action → List ℤ → List ℤ → Type 0
LeadsAll [] s t = t ≡ s
LeadsAll (step ∷ steps) s t = (u : List ℤ) × Leads step s u × LeadsAll steps u t

abbrev pub SomeLeads : List (List Action) → List ℤ → List ℤ → Type 0
SomeLeads [] s t = ⊥
SomeLeads (way ∷ ways) s t = LeadsAll way s t ⊎ SomeLeads ways s t

-- the moves written out: each way through them as a list of actions, one for each side of a join
abbrev pub cases : Moves → List (List Action)
cases stay = [] ∷ []
cases (make step) = (step ∷ []) ∷ []
cases (first_then a b) = flat_map (λ before. map (λ behind. before ++ behind) (cases b)) (cases a)
cases (join_of a b) = cases a ++ cases b
