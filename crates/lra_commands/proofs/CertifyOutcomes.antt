-- From what a source must get that is to be certified to how a call ends that answers it.
use Rattle.std.proofs.Common.{◌≡◌, ◌<◌, ℕ, List, ◌++◌, length, sym, subst, inl, inr}
use Rattle.std.specs.Prelude.{Some}
use Rattle.lra_base.specs.Places.{greatest_length}
use Rattle.lra_report.specs.Report.{Report}
use Rattle.lra_commands.proofs.Crates.lra_front_end.EachAnswer.{each_answer}
use Rattle.lra_commands.specs.Crates.lra_resolution_spec.EntryPoint.{at_main}
use Rattle.lra_commands.specs.Crates.lra_analyse_source.SourceReports.{IsAnalysisReport}
use Rattle.lra_certify_source.specs.declared.refusals.CertifyRefusal.TheVariants.{Source, Paths, Strained}
use Rattle.lra_certify_source.specs.{Assertions.unknown_assertions, Certified.IsCertificateOf, Certified.IsCertifyRefusalOf, Settings.certify_options, declared.refusals.CertifyRefusal.CertifyRefusal}
use Rattle.lra_certify_source.proofs.OneRefusal.{many_refused}
use Rattle.lra_command_answers.specs.{Statuses.Ends, Statuses.reported, Statuses.refused, Statuses.source_statuses, declared.status.Status.Status, declared.status.Status.TheVariants.Refused}
use Rattle.lra_command_answers.proofs.{Answering.IsAnswering, Answering.small, Answering.past, ReportedOutcomes.not_past, ReportedOutcomes.longer_refused}
use Rattle.lra_commands.specs.{CertifyAnswer.refused_text, CertifyAnswer.IsCertifyAnswer, CertifyAnswer.AnswersCertify, CertifyAnswer.AllowedCertifyStatuses, SourceAnswer.report_status}
use Rattle.lra_commands.proofs.SourceOutcomes.{report_ends}

-- answers ------------------------------------------------------------------------

pub deserves_certificate : (bytes text : List ℕ) (r : Report) (status : Status) → IsAnalysisReport certify_options bytes r → IsCertificateOf bytes r text
    → status ≡ report_status (unknown_assertions r.verdicts) → AnswersCertify bytes text status
deserves_certificate bytes text r status answered certificate counted =
    inr (record { report = r; answered = answered; certificate = certificate; counted = counted })

pub required_refusal : (bytes text : List ℕ) (r : CertifyRefusal) (status : Status) → IsCertifyRefusalOf bytes r → text ≡ refused_text r → status ≡ Refused
    → AnswersCertify bytes text status
required_refusal bytes text r status why written is = inl (record { refusal = r; refused = why; written = written }, is)

pub ruleset deserving = (deserves_certificate, required_refusal)

-- one byte past the limit ---------------------------------------------------------

longer_so : (bytes rest : List ℕ) (r : CertifyRefusal) → greatest_length < length bytes → IsCertifyRefusalOf bytes r → IsCertifyRefusalOf (bytes ++ rest) r
longer_so bytes rest (Source r) long why = longer_refused at_main bytes rest r.cause r.place long why
longer_so bytes rest (Paths p) long (x, many) = absurd (not_past bytes long x.read.not_long)
longer_so bytes rest (Strained at) long (r, s) = absurd (not_past bytes long s.answered.report.accepted.not_long)

longer : (bytes rest text : List ℕ) (status : Status) → greatest_length < length bytes → AnswersCertify bytes text status
    → AnswersCertify (bytes ++ rest) text status
longer bytes rest text status long (inl (d, is)) =
    inl (record { refusal = d.refusal; refused = longer_so bytes rest d.refusal long d.refused; written = d.written }, is)
longer bytes rest text status long (inr d) = absurd (not_past bytes long d.answered.report.accepted.not_long)

-- the status ---------------------------------------------------------------------

certified_ends : (bytes text : List ℕ) (status : Status) → AnswersCertify bytes text status → Ends source_statuses status
certified_ends bytes text status (inl (d, is)) = inl is
certified_ends bytes text status (inr d) = inr (subst (Ends reported) (sym d.counted) (report_ends (unknown_assertions d.report.verdicts)))

never_certified : (bytes text : List ℕ) (status : Status) → (IsCertifyAnswer bytes text status → ⊥) → AnswersCertify bytes text status → Ends refused status
never_certified bytes text status never (inl (d, is)) = inl is
never_certified bytes text status never (inr d) = absurd (never d)

certified_called : (bytes text : List ℕ) (status : Status) (among : List Status) → AnswersCertify bytes text status → AllowedCertifyStatuses bytes among
    → Ends among status
certified_called bytes text status among d (inl (cause, at, why), is) = subst (λ a. Ends a status) (sym is)
    (never_certified bytes text status (λ c. (each_answer at_main bytes).2 c.answered.report.tree cause at c.answered.report.accepted why) d)
certified_called bytes text status among d (inr (x, p, many), is) = subst (λ a. Ends a status) (sym is)
    (never_certified bytes text status (λ c. (many_refused bytes x p many).0 c.report text c.certificate) d)

pub certified_answering : (ranges : Type 0)
    → IsAnswering ranges (Some greatest_length) (λ bytes text status. AnswersCertify bytes text status) source_statuses
    (λ bytes among. AllowedCertifyStatuses bytes among)
certified_answering ranges = record {
  small = small;
  longer = λ n bytes rest text status limit long d. longer bytes rest text status (past n bytes limit long) d;
  any = λ bytes other text status none d. absurd (let wrong : ⊥ = cc in wrong);
  own = λ status ends. ends;
  ends = λ bytes text status within d. certified_ends bytes text status d;
  called = λ bytes text status among d calls. certified_called bytes text status among d calls;
  too_long = λ n bytes text status limit long d.
      never_certified bytes text status (λ c. not_past bytes (past n bytes limit long) c.answered.report.accepted.not_long) d;
}
