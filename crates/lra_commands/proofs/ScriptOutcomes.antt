-- From what a script must get to how a call ends that answers it.
use Rattle.std.proofs.Common.{◌≡◌, ◌∙◌, ◌≤◌, ◌<◌, ℕ, List, ◌++◌, length, take, refl, ap, sym, subst, arith, inl, inr}
use Rattle.std.proofs.{lemmas.Grind.common_steps, lemmas.List.take-append-le}
use Rattle.std.specs.Prelude.{Some, Result, Ok, Err}
use Rattle.lra_base.specs.Places.{greatest_length, place_after}
use Rattle.lra_calc.specs.Script as script
use Rattle.lra_calc.proofs.Limit.{answer_too_long, long_answer}
use Rattle.lra_command_answers.specs.Statuses.{Ends, refused, source_statuses}
use Rattle.lra_command_answers.specs.{declared.status.Status.Status, declared.status.Status.TheVariants.Proved, declared.status.Status.TheVariants.Refused}
use Rattle.lra_commands.specs.ScriptAnswer.{AnswersScript, AllowedScriptStatuses, script_statuses}
use Rattle.lra_command_answers.proofs.Answering.{IsAnswering, small, past}

-- answers ------------------------------------------------------------------------

pub deserves_output : (bytes text : List ℕ) → script.AnswersTo bytes (Ok text) → AnswersScript bytes text Proved
deserves_output bytes text answers = inr (answers, refl)

pub required_refused : (bytes text : List ℕ) (r : script.Refusal) → script.AnswersTo bytes (Err r) → text ≡ script.script_refusal_text r → AnswersScript bytes text Refused
required_refused bytes text r answers written = inl (record { refusal = r; answers = answers; written = written }, refl)

pub ruleset deserving = (deserves_output, required_refused)

-- one byte past the limit ---------------------------------------------------------

too_long_answer : (bytes : List ℕ) → greatest_length < length bytes → script.AnswersTo bytes (Err (script.TooLong (place_after (take greatest_length bytes))))
too_long_answer bytes long = answer_too_long greatest_length bytes refl long

-- more bytes after those past the limit change nothing
same_answer : (bytes rest : List ℕ) (answer : Result (List ℕ) script.Refusal) → greatest_length < length bytes → script.AnswersTo bytes answer → script.AnswersTo (bytes ++ rest) answer
same_answer bytes rest answer long a =
    let longer : greatest_length < length (bytes ++ rest) = grind (arith, common_steps) in
    let reached : greatest_length ≤ length bytes = omega arith in
    let same = ap (λ (front : List ℕ). let r : Result (List ℕ) script.Refusal = Err (script.TooLong (place_after front)) in r) (take-append-le greatest_length bytes rest reached) in
    subst (script.AnswersTo (bytes ++ rest)) (same ∙ sym (long_answer bytes answer long a)) (too_long_answer (bytes ++ rest) longer)

longer_script : (bytes rest text : List ℕ) (status : Status) → greatest_length < length bytes → AnswersScript bytes text status → AnswersScript (bytes ++ rest) text status
longer_script bytes rest text status long (inl (d, is)) = inl (record { refusal = d.refusal; answers = same_answer bytes rest (Err d.refusal) long d.answers; written = d.written }, is)
longer_script bytes rest text status long (inr (answers, is)) = inr (same_answer bytes rest (Ok text) long answers, is)

-- the status -----------------------------------------------------------------------

script_ends : (bytes text : List ℕ) (status : Status) → AnswersScript bytes text status → Ends script_statuses status
script_ends bytes text status (inl (d, is)) = inl is
script_ends bytes text status (inr (answers, is)) = inr (inl is)

script_refused : (bytes text : List ℕ) (status : Status) → AnswersScript bytes text status → script.NeverRuns bytes → Ends refused status
script_refused bytes text status (inl (d, is)) never = inl is
script_refused bytes text status (inr (answers, is)) never = absurd (never text answers)

script_called : (bytes text : List ℕ) (status : Status) (among : List Status) → AnswersScript bytes text status → AllowedScriptStatuses bytes among →
    Ends among status
script_called bytes text status among d (inl (never, calls)) = subst (λ a. Ends a status) (sym calls) (script_refused bytes text status d never)
script_called bytes text status among (inl (d, is)) (inr (never, calls)) = absurd (never d.refusal d.answers)
script_called bytes text status among (inr (answers, is)) (inr (never, calls)) = subst (λ a. Ends a status) (sym calls) (inl is)

-- a script that is too long has no output
too_long_never_runs : (bytes : List ℕ) → greatest_length < length bytes → script.NeverRuns bytes
too_long_never_runs bytes long = λ output a. absurd (let e = long_answer bytes (Ok output) long a in cc)

pub script_own : (status : Status) → Ends script_statuses status → Ends source_statuses status
script_own status (inl is) = inl is
script_own status (inr (inl is)) = inr (inl is)
script_own status (inr (inr none)) = absurd none

pub script_answering : (ranges : Type 0) →
    IsAnswering ranges (Some greatest_length) (λ bytes text status. AnswersScript bytes text status) script_statuses (λ bytes among. AllowedScriptStatuses bytes among)
script_answering ranges = record {
  small = small;
  longer = λ n bytes rest text status limit long d. longer_script bytes rest text status (past n bytes limit long) d;
  any = λ bytes other text status none d. absurd (let wrong : ⊥ = cc in wrong);
  own = script_own;
  ends = λ bytes text status within d. script_ends bytes text status d;
  called = λ bytes text status among d calls. script_called bytes text status among d calls;
  too_long = λ n bytes text status limit long d. script_refused bytes text status d (too_long_never_runs bytes (past n bytes limit long));
}
