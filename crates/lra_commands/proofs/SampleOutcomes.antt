-- From the answer to a sample source to what the sample must get, and from that to how a call ends.
use Rattle.std.proofs.Common.{◌≡◌, ℕ, List, subst, inr}
use Rattle.std.specs.Prelude.{None, Result, Ok, Err, IfOk}
use Rattle.lra_base.specs.{declared.refusals.Cause.Cause, declared.refusals.Place.Place, declared.refusals.Refusal.Refusal}
use Rattle.lra_commands.specs.Crates.lra_resolution_spec.EntryPoint.{at_main}
use Rattle.lra_commands.specs.Crates.lra_analyse_source.SourceReports.{IsAnalysisReport}
use Rattle.lra_commands.specs.Crates.{lra_options.OptionRows.IsInRange, lra_options.declared.options.Options.Options, lra_resolution_spec.Refuse.Refuse, lra_syntax.Grammar.Spells}
use Rattle.lra_report.specs.{RefusalText.refusal_text, Report.Report, ReportText.unknown_count}
use Rattle.lra_sample.specs.{Sample.sample_source, Summary.summary_text}
use Rattle.lra_sample.proofs.Samples.{accepted}
use Rattle.lra_command_line.specs.{CommandLine.seed_option, CommandLine.size_option, ParsedCommand.default_options}
use Rattle.lra_command_answers.specs.{Statuses.reported, declared.answer.Answer.Answer, declared.status.Status.Status, declared.status.Status.TheVariants.Refused}
use Rattle.lra_commands.specs.{SampleAnswer.AnswersSample, SourceAnswer.report_status}
use Rattle.lra_command_answers.proofs.{Answering.IsAnswering, ReportedOutcomes.accepted_ends}
use Rattle.lra_commands.proofs.SourceOutcomes.{required_report, required_refusal, report_telling}

deserves_summary : (seed size : ℕ) (o : Options) (source : List ℕ) (r : Report) (text : List ℕ) (status : Status) → o ≡ default_options → source ≡ sample_source seed size
    → IsAnalysisReport o source r → text ≡ summary_text seed size r → status ≡ report_status (unknown_count r.verdicts) → AnswersSample seed size text status
deserves_summary seed size o source r text status default made answered written counted =
    let answered_default : IsAnalysisReport default_options source r = subst (λ (x : Options). IsAnalysisReport x source r) default answered in
    let answered_sample : IsAnalysisReport default_options (sample_source seed size) r = subst (λ (x : List ℕ). IsAnalysisReport default_options x r) made answered_default in
    required_report default_options (summary_text seed size) (sample_source seed size) r text status answered_sample written counted

sample_refused : (seed size : ℕ) (source text : List ℕ) (c : Cause) (at : Place) (status : Status) → source ≡ sample_source seed size
    → Refuse at_main Spells source c at → text ≡ refusal_text c at → status ≡ Refused → AnswersSample seed size text status
sample_refused seed size source text c at status made refused written s =
    required_refusal default_options (summary_text seed size) (sample_source seed size) text c at status (subst (λ (x : List ℕ). Refuse at_main Spells x c at) made refused) written s

-- of a call's result
pub summary_answer : {E : Type 0} (seed size : ℕ) (o : Options) (source : List ℕ) (r : Report) (result : Result Answer E) → o ≡ default_options → source ≡ sample_source seed size
    → IsAnalysisReport o source r → IfOk result (λ a. a.text.items ≡ summary_text seed size r) → IfOk result (λ a. a.status ≡ report_status (unknown_count r.verdicts))
    → IfOk result (λ a. AnswersSample seed size a.text.items a.status)
summary_answer seed size o source r (Ok a) default made answered written counted = deserves_summary seed size o source r a.text.items a.status default made answered written counted
summary_answer seed size o source r (Err e) default made answered written counted = tt

pub refusal_answer : {E : Type 0} (seed size : ℕ) (source : List ℕ) (r : Refusal) (result : Result Answer E) → source ≡ sample_source seed size → Refuse at_main Spells source r.cause r.place
    → IfOk result (λ a. a.text.items ≡ refusal_text r.cause r.place) → IfOk result (λ a. a.status ≡ Refused) → IfOk result (λ a. AnswersSample seed size a.text.items a.status)
refusal_answer seed size source r (Ok a) made refused written is = sample_refused seed size source a.text.items r.cause r.place a.status made refused written is
refusal_answer seed size source r (Err e) made refused written is = tt

-- a sample reads nothing, and its source is accepted
pub sample_answering : (seed size : ℕ)
    → IsAnswering (IsInRange seed_option seed × IsInRange size_option size) None (λ (bytes : List ℕ) text status. AnswersSample seed size text status) reported (λ (bytes : List ℕ) among. ⊥)
sample_answering seed size = record {
  small = λ n some. absurd (let wrong : ⊥ = cc in wrong);
  longer = λ n bytes rest text status some long d. d;
  any = λ bytes other text status none d. d;
  own = λ status ends. inr ends;
  ends = λ bytes text status within d.
      let (tree, is) = accepted seed size within.1.1 in
      accepted_ends (report_telling default_options (summary_text seed size)) (sample_source seed size) text status tree d is;
  called = λ bytes text status among d calls. absurd calls;
  too_long = λ n bytes text status some long d. absurd (let wrong : ⊥ = cc in wrong);
}
