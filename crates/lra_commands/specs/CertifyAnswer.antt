-- What a source must get that is to be certified: its certificate, or its refusal.
use Rattle.std.specs.Fmt.{decimal}
use Rattle.std.specs.Prelude.{◌≡◌, ◌⊎◌, ℕ, suc, List, ◌++◌, codes}
use Rattle.lra_commands.specs.Crates.lra_resolution_spec.EntryPoint.{at_main}
use Rattle.lra_commands.specs.Crates.lra_analyse_source.SourceReports.{IsAnalysisReport}
use Rattle.lra_commands.specs.Crates.lra_certificate_spec.Claims.{IsProgram, program_of}
use Rattle.lra_commands.specs.Crates.lra_certify.declared.failures.StrainedAt.TheVariants.{Edge, Assertion}
use Rattle.lra_commands.specs.Crates.lra_paths.Paths.{HasTooManyPaths}
use Rattle.lra_commands.specs.Crates.{lra_front_end.Claims.HasRefusal, lra_row_text.Texts.text_line}
use Rattle.lra_report.specs.{RefusalText.refusal_text, Report.Report}
use Rattle.lra_certify_source.specs.Assertions.{unknown_assertions}
use Rattle.lra_certify_source.specs.Certified.{IsCertificateOf, IsCertifyRefusalOf}
use Rattle.lra_certify_source.specs.declared.refusals.CertifyRefusal.TheVariants.{Source, Paths, Strained}
use Rattle.lra_certify_source.specs.{Settings.certify_options, declared.refusals.CertifyRefusal.CertifyRefusal}
use Rattle.lra_command_answers.specs.declared.status.Status.TheVariants.{Refused}
use Rattle.lra_command_answers.specs.{Statuses.refused, declared.status.Status.Status}
use Rattle.lra_commands.specs.SourceAnswer.{report_status}

-- points are numbered from 1, and the start is 0 among the sources of paths
abbrev pub refused_text : CertifyRefusal → List ℕ
refused_text (Source r) = refusal_text r.cause r.place
refused_text (Paths p) = text_line (codes "refused paths at point " ++ decimal p)
refused_text (Strained (Edge p q)) =
    text_line (codes "refused strained at edge " ++ decimal p ++ codes " " ++ decimal (suc q))
refused_text (Strained (Assertion q)) = text_line (codes "refused strained at assert " ++ decimal (suc q))

-- the text is that of a refusal of the source
pub record IsCertifyRefusal (bytes text : List ℕ) : Type 0 where
  pub refusal : CertifyRefusal
  pub refused : IsCertifyRefusalOf bytes refusal
  pub written : text ≡ refused_text refusal

-- the text is a certificate by a report which the source must get, and the status is that of the report's assertions
pub record IsCertifyAnswer (bytes text : List ℕ) (status : Status) : Type 0 where
  pub report : Report
  pub answered : IsAnalysisReport certify_options bytes report
  pub certificate : IsCertificateOf bytes report text
  pub counted : status ≡ report_status (unknown_assertions report.verdicts)

-- the text and the status that a source must get that is to be certified
abbrev pub AnswersCertify : List ℕ → List ℕ → Status → Type 0
AnswersCertify bytes text status =
    (IsCertifyRefusal bytes text × (status ≡ Refused)) ⊎ IsCertifyAnswer bytes text status

-- the program of the source has too many paths
abbrev pub HasManyPaths : List ℕ → Type 0
HasManyPaths bytes = (x : IsProgram bytes) × (p : ℕ) × HasTooManyPaths (program_of x) x.operations p

-- it is refused if it is as a source, or has too many paths; else it may exceed a limit
abbrev pub AllowedCertifyStatuses : List ℕ → List Status → Type 0
AllowedCertifyStatuses bytes among = (HasRefusal at_main bytes ⊎ HasManyPaths bytes) × (among ≡ refused)
