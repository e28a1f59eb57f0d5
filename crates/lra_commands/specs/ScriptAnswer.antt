-- What a script must get.
use Rattle.std.specs.Prelude.{◌≡◌, ◌⊎◌, ℕ, List, ◌∷◌, Ok, Err}
use Rattle.lra_calc.specs.Script as script
use Rattle.lra_command_answers.specs.Statuses.{printed, refused}
use Rattle.lra_command_answers.specs.declared.status.Status.{Status}
use Rattle.lra_command_answers.specs.declared.status.Status.TheVariants.{Proved, Refused}

-- the text is that of a refusal of the script
pub record IsScriptRefusal (bytes text : List ℕ) : Type 0 where
  pub refusal : script.Refusal
  pub answers : script.AnswersTo bytes (Err refusal)
  pub written : text ≡ script.script_refusal_text refusal

-- the text and the status that a script must get: one that it may write, or its refusal
abbrev pub AnswersScript : List ℕ → List ℕ → Status → Type 0
AnswersScript bytes text status =
    (IsScriptRefusal bytes text × (status ≡ Refused)) ⊎ (script.AnswersTo bytes (Ok text) × (status ≡ Proved))

-- the statuses of an answer to a script
abbrev pub script_statuses : List Status
script_statuses = Refused ∷ printed

-- by one of these a script is answered: a refusal if it has no output, its output if nothing refuses it
abbrev pub AllowedScriptStatuses : List ℕ → List Status → Type 0
AllowedScriptStatuses bytes among = (script.NeverRuns bytes × (among ≡ refused))
    ⊎ (script.NeverIsRefused bytes × (among ≡ printed))
