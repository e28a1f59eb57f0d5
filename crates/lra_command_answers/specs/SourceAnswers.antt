-- What a source must get of which a command reports something, where its runs begin at an entry point: the text of its
-- one refusal, or what is reported about it.
use Rattle.std.specs.Prelude.{◌≡◌, ◌⊎◌, ℕ, List}
use Rattle.lra_command_answers.specs.Crates.lra_resolution_spec.EntryPoint.{EntryPoint}
use Rattle.lra_command_answers.specs.Crates.lra_resolution_spec.Refuse.{Refuse, Accepts}
use Rattle.lra_command_answers.specs.Crates.lra_syntax.Trees.{FileTree}
use Rattle.lra_command_answers.specs.Crates.{lra_base.declared.refusals.Cause.Cause}
use Rattle.lra_command_answers.specs.Crates.{lra_base.declared.refusals.Place.Place, lra_syntax.Grammar.Spells}
use Rattle.lra_report.specs.RefusalText.{refusal_text}
use Rattle.lra_front_end.specs.Claims.{HasRefusal}
use Rattle.lra_command_answers.specs.declared.status.Status.TheVariants.{Refused}
use Rattle.lra_command_answers.specs.{Statuses.refused, declared.status.Status.Status}

-- the text is that of the source's refusal
pub record IsRefusal (entry : EntryPoint) (bytes text : List ℕ) : Type 0 where
  pub cause : Cause
  pub place : Place
  pub refused : Refuse entry Spells bytes cause place
  pub written : text ≡ refusal_text cause place

-- the text and the status that a source's bytes must get, if these are reported of it
abbrev pub AnswersSourceWith : EntryPoint → (List ℕ → List ℕ → Status → Type 0) → List ℕ → List ℕ → Status → Type 0
AnswersSourceWith entry Tells bytes text status =
    (IsRefusal entry bytes text × (status ≡ Refused)) ⊎ Tells bytes text status

-- by one of these a source is answered: its refusal, if it has one, and if it is accepted what is reported, whose
-- statuses these are
abbrev pub AllowedSourceStatuses : EntryPoint → List Status → List ℕ → List Status → Type 0
AllowedSourceStatuses entry told bytes among = (HasRefusal entry bytes × (among ≡ refused))
    ⊎ ((tree : FileTree) × Accepts entry Spells bytes tree × (among ≡ told))
