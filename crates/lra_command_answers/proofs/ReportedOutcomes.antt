-- From what a source must get of which something is reported to how a call ends that answers it.
use Rattle.std.proofs.Common.{◌≡◌, ◌≤◌, ◌<◌, ℕ, List, ◌∷◌, ◌++◌, length, take, subst, sym, arith, inl, inr}
use Rattle.std.proofs.{lemmas.Grind.common_steps, lemmas.List.take-append-le}
use Rattle.std.specs.Prelude.{Some}
use Rattle.lra_command_answers.specs.Crates.lra_resolution_spec.EntryPoint.{EntryPoint}
use Rattle.lra_command_answers.specs.Crates.lra_resolution_spec.Refuse.{NotParsed, too_long, bad_token, bad_text, Refuse, not_parsed, bad_tree, Accepts}
use Rattle.lra_command_answers.specs.Crates.{lra_base.Places.place_after, lra_base.Places.greatest_length, lra_base.declared.refusals.Cause.Cause, lra_base.declared.refusals.Cause.TheVariants.TooLong}
use Rattle.lra_command_answers.specs.Crates.{lra_base.declared.refusals.Place.Place, lra_syntax.Grammar.Spells, lra_syntax.Trees.FileTree}
use Rattle.lra_report.specs.RefusalText.{refusal_text}
use Rattle.lra_front_end.specs.Claims.{HasRefusal}
use Rattle.lra_front_end.proofs.EachAnswer.{each_answer}
use Rattle.lra_command_answers.specs.Statuses.{Ends, reported, refused, source_statuses}
use Rattle.lra_command_answers.specs.{SourceAnswers.AnswersSourceWith, SourceAnswers.AllowedSourceStatuses, declared.status.Status.Status, declared.status.Status.TheVariants.Refused}
use Rattle.lra_command_answers.proofs.Answering.{IsAnswering, small, past}

-- it is reported of accepted sources alone, and with these statuses
pub record IsReporting (entry : EntryPoint) (Tells : List ℕ → List ℕ → Status → Type 0) (told : List Status) : Type 0 where
  pub accepted : (bytes text : List ℕ) (status : Status) → Tells bytes text status → (t : FileTree) × Accepts entry Spells bytes t
  pub ends : (bytes text : List ℕ) (status : Status) → Tells bytes text status → Ends told status
  pub own : (status : Status) → Ends told status → Ends reported status

-- one byte past the limit ---------------------------------------------------------

-- an accepted source isn't past the limit
pub not_past : (bytes : List ℕ) → greatest_length < length bytes → length bytes ≤ greatest_length → ⊥
not_past bytes long within = omega arith

longer_too_long : (bytes rest : List ℕ) → greatest_length < length bytes → NotParsed Spells (bytes ++ rest) TooLong (place_after (take greatest_length bytes))
longer_too_long bytes rest past =
    let longer : greatest_length < length (bytes ++ rest) = grind (arith, common_steps) in
    let reached : greatest_length ≤ length bytes = omega arith in
    subst (λ (front : List ℕ). NotParsed Spells (bytes ++ rest) TooLong (place_after front)) (take-append-le greatest_length bytes rest reached) (too_long longer)

longer_unread : (bytes rest : List ℕ) (c : Cause) (at : Place) → greatest_length < length bytes → NotParsed Spells bytes c at → NotParsed Spells (bytes ++ rest) c at
longer_unread bytes rest _ _ long (too_long past) = longer_too_long bytes rest past
longer_unread bytes rest _ _ long (bad_token c p l e) = absurd (not_past bytes long l)
longer_unread bytes rest _ _ long (bad_text tokens c p l lexed e) = absurd (not_past bytes long l)

pub longer_refused : (entry : EntryPoint) (bytes rest : List ℕ) (c : Cause) (at : Place) → greatest_length < length bytes → Refuse entry Spells bytes c at
    → Refuse entry Spells (bytes ++ rest) c at
longer_refused entry bytes rest _ _ long (not_parsed c p e) = not_parsed c p (longer_unread bytes rest c p long e)
longer_refused entry bytes rest _ _ long (bad_tree tokens t c p l lexed is e) = absurd (not_past bytes long l)

-- answers -------------------------------------------------------------------------

-- a source that is refused must get its refusal's text
pub required_refusal : (entry : EntryPoint) (Tells : List ℕ → List ℕ → Status → Type 0) (bytes text : List ℕ) (c : Cause) (at : Place) (status : Status)
    → Refuse entry Spells bytes c at → text ≡ refusal_text c at
    → status ≡ Refused → AnswersSourceWith entry Tells bytes text status
required_refusal entry Tells bytes text c at status why written is = inl (record { cause = c; place = at; refused = why; written = written }, is)

module _ {entry : EntryPoint} {Tells : List ℕ → List ℕ → Status → Type 0} {told : List Status} (t : IsReporting entry Tells told) where
  longer_told : (bytes rest text : List ℕ) (status : Status) → greatest_length < length bytes → AnswersSourceWith entry Tells bytes text status
      → AnswersSourceWith entry Tells (bytes ++ rest) text status
  longer_told bytes rest text status long (inl (d, is)) =
      inl (record { cause = d.cause; place = d.place; refused = longer_refused entry bytes rest d.cause d.place long d.refused; written = d.written }, is)
  longer_told bytes rest text status long (inr d) = absurd (let (tree, accepted) = t.accepted bytes text status d in not_past bytes long accepted.not_long)

  told_ends : (bytes text : List ℕ) (status : Status) → AnswersSourceWith entry Tells bytes text status → Ends (Refused ∷ told) status
  told_ends bytes text status (inl (d, is)) = inl is
  told_ends bytes text status (inr d) = inr (t.ends bytes text status d)

  -- a source that is accepted
  pub accepted_ends : (bytes text : List ℕ) (status : Status) (tree : FileTree) → AnswersSourceWith entry Tells bytes text status → Accepts entry Spells bytes tree → Ends told status
  accepted_ends bytes text status tree (inl (d, is)) accepted = absurd ((each_answer entry bytes).2 tree d.cause d.place accepted d.refused)
  accepted_ends bytes text status tree (inr d) accepted = t.ends bytes text status d

  -- a source that is refused
  refused_ends : (bytes text : List ℕ) (status : Status) → AnswersSourceWith entry Tells bytes text status → HasRefusal entry bytes → Ends refused status
  refused_ends bytes text status (inl (d, is)) _ = inl is
  refused_ends bytes text status (inr d) (cause, at, why) = absurd (let (tree, accepted) = t.accepted bytes text status d in (each_answer entry bytes).2 tree cause at accepted why)

  told_called : (bytes text : List ℕ) (status : Status) (among : List Status) → AnswersSourceWith entry Tells bytes text status → AllowedSourceStatuses entry told bytes among → Ends among status
  told_called bytes text status among d (inl (why, is)) = subst (λ a. Ends a status) (sym is) (refused_ends bytes text status d why)
  told_called bytes text status among d (inr (tree, accepted, is)) = subst (λ a. Ends a status) (sym is) (accepted_ends bytes text status tree d accepted)

  told_own : (status : Status) → Ends (Refused ∷ told) status → Ends source_statuses status
  told_own status (inl is) = inl is
  told_own status (inr ends) = inr (t.own status ends)

  pub told_answering : (ranges : Type 0)
      → IsAnswering ranges (Some greatest_length) (λ bytes text status. AnswersSourceWith entry Tells bytes text status) (Refused ∷ told) (λ bytes among. AllowedSourceStatuses entry told bytes among)
  told_answering ranges = record {
    small = small;
    longer = λ n bytes rest text status limit long d. longer_told bytes rest text status (past n bytes limit long) d;
    any = λ bytes other text status none d. absurd (let wrong : ⊥ = cc in wrong);
    own = told_own;
    ends = λ bytes text status within d. told_ends bytes text status d;
    called = λ bytes text status among d calls. told_called bytes text status among d calls;
    too_long = λ n bytes text status limit long d. refused_ends bytes text status d (TooLong, _, not_parsed _ _ (too_long (past n bytes limit long)));
  }
