-- What a source must get: the text of its one refusal, or what is written of a report of it that states an analysis.
use Rattle.std.specs.Prelude.{◌≡◌, ℕ, zero, suc, List}
use Rattle.lra_commands.specs.Crates.lra_analyse_source.SourceReports.{IsAnalysisReport}
use Rattle.lra_commands.specs.Crates.lra_options.declared.options.Options.{Options}
use Rattle.lra_report.specs.{Report.Report, ReportText.report_text, ReportText.unknown_count}
use Rattle.lra_report_json.specs.ReportJson.{report_json}
use Rattle.lra_command_line.specs.declared.commands.Format.{Format}
use Rattle.lra_command_line.specs.declared.commands.Format.TheVariants.{Lines, Json}
use Rattle.lra_commands.specs.Crates.lra_resolution_spec.EntryPoint.{at_main}
use Rattle.lra_command_answers.specs.SourceAnswers.{AnswersSourceWith}
use Rattle.lra_command_answers.specs.declared.status.Status.{Status}
use Rattle.lra_command_answers.specs.declared.status.Status.TheVariants.{Proved, Unknown}

-- a report as it is written: a row for each output
abbrev pub written_report : Format → Report → List ℕ
written_report Lines r = report_text r
written_report Json r = report_json r

-- the status of a report in which so many verdicts are unknown
abbrev pub report_status : ℕ → Status
report_status zero = Proved
report_status (suc n) = Unknown

-- the text is what is written of a report which the source must get under these options, and the status is the report's
pub record IsReport (o : Options) (write : Report → List ℕ) (bytes text : List ℕ) (status : Status) : Type 0 where
  pub report : Report
  pub answered : IsAnalysisReport o bytes report
  pub written : text ≡ write report
  pub counted : status ≡ report_status (unknown_count report.verdicts)

-- the text and the status that a source's bytes must get under these options, if reports are written so
abbrev pub AnswersSource : Options → (Report → List ℕ) → List ℕ → List ℕ → Status → Type 0
AnswersSource o write bytes text status = AnswersSourceWith at_main (IsReport o write) bytes text status

-- two reports that a source must get under one list of options and that are written alike are the same report
abbrev pub OneWrittenReport : Type 0
OneWrittenReport = (format : Format) (o : Options) (source : List ℕ) (r s : Report)
    → IsAnalysisReport o source r → IsAnalysisReport o source s → written_report format r ≡ written_report format s →
    r ≡ s
