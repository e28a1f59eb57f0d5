-- From what a source of several threads must get to how a call ends that answers it.
use Rattle.std.proofs.Common.{◌≡◌, ℕ, List, subst, sym, inr}
use Rattle.lra_base.specs.{declared.refusals.Cause.Cause, declared.refusals.Place.Place}
use Rattle.lra_commands.specs.Crates.lra_resolution_spec.EntryPoint.{at_threads}
use Rattle.lra_commands.specs.Crates.{lra_resolution_spec.Refuse.Refuse, lra_syntax.Grammar.Spells}
use Rattle.lra_report.specs.{RefusalText.refusal_text, ReportText.unknown_count}
use Rattle.lra_threads_source.specs.{ThreadsReports.IsThreadsReportOf, ThreadsText.ThreadsReport, ThreadsText.threads_text}
use Rattle.lra_command_answers.specs.{Statuses.Ends, Statuses.reported, declared.status.Status.Status, declared.status.Status.TheVariants.Refused}
use Rattle.lra_command_answers.proofs.ReportedOutcomes.{IsReporting}
use Rattle.lra_command_answers.proofs.ReportedOutcomes as told
use Rattle.lra_commands.specs.{SourceAnswer.report_status, ThreadsAnswer.IsThreadsAnswer, ThreadsAnswer.AnswersThreads}
use Rattle.lra_commands.proofs.SourceOutcomes.{report_ends}

pub required_report : (delay narrow : ℕ) (bytes : List ℕ) (r : ThreadsReport) (text : List ℕ) (status : Status) → IsThreadsReportOf delay narrow bytes r
    → text ≡ threads_text r → status ≡ report_status (unknown_count r.verdicts) → AnswersThreads delay narrow bytes text status
required_report delay narrow bytes r text status deserved written counted =
    inr (record { report = r; answers = deserved; written = written; counted = counted })

pub required_refusal : (delay narrow : ℕ) (bytes text : List ℕ) (c : Cause) (at : Place) (status : Status) → Refuse at_threads Spells bytes c at
    → text ≡ refusal_text c at → status ≡ Refused → AnswersThreads delay narrow bytes text status
required_refusal delay narrow = told.required_refusal at_threads (IsThreadsAnswer delay narrow)

pub ruleset deserving = (required_report, required_refusal)

-- it is reported of accepted sources alone
pub threads_telling : (delay narrow : ℕ) → IsReporting at_threads (IsThreadsAnswer delay narrow) reported
threads_telling delay narrow = record {
  accepted = λ bytes text status d. (d.answers.program.tree, d.answers.program.accepted);
  ends = λ bytes text status d. subst (Ends reported) (sym d.counted) (report_ends (unknown_count d.report.verdicts));
  own = λ status ends. ends;
}
