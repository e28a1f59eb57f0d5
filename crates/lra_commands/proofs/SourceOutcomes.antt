-- From a report that a source must get to how a call ends that answers it.
use Rattle.std.proofs.Common.{◌≡◌, ◌<◌, ℕ, zero, suc, List, refl, sym, subst, arith, inl, inr}
use Rattle.lra_base.specs.{declared.refusals.Cause.Cause, declared.refusals.Place.Place}
use Rattle.lra_commands.specs.Crates.lra_resolution_spec.EntryPoint.{at_main}
use Rattle.lra_commands.specs.Crates.{lra_analyse_source.SourceReports.IsAnalysisReport, lra_options.declared.options.Options.Options, lra_resolution_spec.Refuse.Refuse, lra_syntax.Grammar.Spells}
use Rattle.lra_report.specs.{RefusalText.refusal_text, Report.Report, ReportText.unknown_count}
use Rattle.lra_command_answers.specs.declared.status.Status.TheVariants.{Proved, Unknown, Refused}
use Rattle.lra_command_answers.specs.{Statuses.Ends, Statuses.reported, declared.status.Status.Status}
use Rattle.lra_command_answers.proofs.ReportedOutcomes.{IsReporting}
use Rattle.lra_command_answers.proofs.ReportedOutcomes as told
use Rattle.lra_commands.specs.SourceAnswer.{IsReport, report_status, AnswersSource}

-- answers ------------------------------------------------------------------------

pub none_unknown : (unknown : ℕ) → unknown ≡ 0 → Proved ≡ report_status unknown
none_unknown unknown is = subst (λ n. Proved ≡ report_status n) (sym is) refl

pub some_unknown : (unknown : ℕ) → 0 < unknown → Unknown ≡ report_status unknown
some_unknown zero some = absurd (let wrong : ⊥ = omega arith in wrong)
some_unknown (suc n) some = refl

pub ruleset counting = (none_unknown, some_unknown)

-- a source with a report must get what is written of it
pub required_report : (o : Options) (write : Report → List ℕ) (bytes : List ℕ) (r : Report) (text : List ℕ) (status : Status) → IsAnalysisReport o bytes r → text ≡ write r
    → status ≡ report_status (unknown_count r.verdicts) → AnswersSource o write bytes text status
required_report o write bytes r text status answered written counted = inr (record { report = r; answered = answered; written = written; counted = counted })

-- a source that is refused must get the refusal's
pub required_refusal : (o : Options) (write : Report → List ℕ) (bytes text : List ℕ) (c : Cause) (at : Place) (status : Status) → Refuse at_main Spells bytes c at
    → text ≡ refusal_text c at → status ≡ Refused
    → AnswersSource o write bytes text status
required_refusal o write = told.required_refusal at_main (IsReport o write)

pub ruleset deserving = (required_report, required_refusal)

-- the status -----------------------------------------------------------------------

pub report_ends : (unknown : ℕ) → Ends reported (report_status unknown)
report_ends zero = inl refl
report_ends (suc n) = inr (inl refl)

reported_ends : (o : Options) (write : Report → List ℕ) (bytes text : List ℕ) (status : Status) → IsReport o write bytes text status → Ends reported status
reported_ends o write bytes text status d = subst (Ends reported) (sym d.counted) (report_ends (unknown_count d.report.verdicts))

pub report_telling : (o : Options) (write : Report → List ℕ) → IsReporting at_main (IsReport o write) reported
report_telling o write = record {
  accepted = λ bytes text status d. (d.answered.report.tree, d.answered.report.accepted);
  ends = λ bytes text status d. reported_ends o write bytes text status d;
  own = λ status ends. ends;
}
