-- What a source of several threads must get: the text of its one refusal, or of a report of what is found of them, by
-- these two options of the iteration.
use Rattle.std.specs.Prelude.{◌≡◌, ℕ, List}
use Rattle.lra_commands.specs.Crates.lra_resolution_spec.EntryPoint.{at_threads}
use Rattle.lra_report.specs.ReportText.{unknown_count}
use Rattle.lra_threads_source.specs.ThreadsReports.{IsThreadsReportOf}
use Rattle.lra_threads_source.specs.ThreadsText.{ThreadsReport, threads_text}
use Rattle.lra_command_answers.specs.{SourceAnswers.AnswersSourceWith, declared.status.Status.Status}
use Rattle.lra_commands.specs.SourceAnswer.{report_status}

-- the text is that of a report which the source must get, and the status says whether some verdict is unknown
pub record IsThreadsAnswer (delay narrow : ℕ) (bytes text : List ℕ) (status : Status) : Type 0 where
  pub report : ThreadsReport
  pub answers : IsThreadsReportOf delay narrow bytes report
  pub written : text ≡ threads_text report
  pub counted : status ≡ report_status (unknown_count report.verdicts)

-- the text and the status that a source's bytes must get
abbrev pub AnswersThreads : ℕ → ℕ → List ℕ → List ℕ → Status → Type 0
AnswersThreads delay narrow bytes text status =
    AnswersSourceWith at_threads (IsThreadsAnswer delay narrow) bytes text status
