-- What an answer says of the faults of names in a part of a source: none, if there is a value; else the first
-- one, or that memory ran out.
use Rattle.std.specs.Prelude.{◌≡◌, List, [], ◌∷◌, Option, Some, None, Result, Ok, Err, ⊤}
use Rattle.lra_base.specs.declared.error.SourceError.TheVariants.{Refused, Memory}
use Rattle.lra_base.specs.{declared.error.SourceError.SourceError, declared.refusals.Refusal.Refusal}

abbrev pub first_fault : List Refusal → Option Refusal
first_fault [] = None
first_fault (r ∷ rs) = Some r

-- the error is the first of these faults, or runs out of memory
abbrev pub IsFirstFault : List Refusal → SourceError → Type 0
IsFirstFault faults (Refused r) = first_fault faults ≡ Some r
IsFirstFault faults Memory = ⊤

abbrev pub StopsAtFirstFault : {T : Type 0} → List Refusal → Result T SourceError → Type 0
StopsAtFirstFault faults (Ok v) = faults ≡ []
StopsAtFirstFault faults (Err e) = IsFirstFault faults e
