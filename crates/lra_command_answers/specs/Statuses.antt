-- Sets of statuses, as lists.
use Rattle.std.specs.Prelude.{◌≡◌, ◌⊎◌, ℕ, List, [], ◌∷◌, Option, None, Some}
use Rattle.lra_command_answers.specs.declared.status.Status.{Status}
use Rattle.lra_command_answers.specs.declared.status.Status.TheVariants.{Proved, Unknown, Refused, Usage, ReadFault}
use Rattle.lra_command_answers.specs.declared.status.Status.TheVariants.{WriteFault, Memory}

-- the status is one of these
abbrev pub Ends : List Status → Status → Type 0
Ends [] status = ⊥
Ends (one ∷ more) status = (status ≡ one) ⊎ Ends more status

-- a report, or what is reported about one, is written
abbrev pub reported : List Status
reported = Proved ∷ Unknown ∷ []

-- a script's output is written
abbrev pub printed : List Status
printed = Proved ∷ []

-- a refusal is written
abbrev pub refused : List Status
refused = Refused ∷ []

-- the statuses of an answer to a source: all that a command's answer has
abbrev pub source_statuses : List Status
source_statuses = Refused ∷ reported

-- a text is written whole
abbrev pub answered : List Status
answered = Proved ∷ Unknown ∷ Refused ∷ Usage ∷ []

-- nothing is written
abbrev pub silent : List Status
silent = ReadFault ∷ Memory ∷ []

-- there is no answer; no reading fails if there is no limit of bytes to read
abbrev pub faults : Option ℕ → List Status
faults None = WriteFault ∷ Memory ∷ []
faults (Some limit) = ReadFault ∷ WriteFault ∷ Memory ∷ []
