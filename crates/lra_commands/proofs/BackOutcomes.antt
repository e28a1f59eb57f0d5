-- From what a source must get that is gone back over to how a call ends that answers it.
use Rattle.std.proofs.Common.{◌≡◌, ◌≤◌, ◌<◌, ℕ, suc, ◌-◌, Bool, true, false, List, ◌++◌, length, refl, sym, subst, arith, inl, inr}
use Rattle.std.specs.Prelude.{Some, Result, Ok, Err, IfOk}
use Rattle.lra_base.specs.Places.{greatest_length}
use Rattle.lra_report.specs.BackText.{BackReport, back_text}
use Rattle.lra_back_source.specs.declared.refusals.BackRefusal.TheVariants.{Source, NoAssertion, Paths}
use Rattle.lra_back_source.specs.{BackReports.CanGoBack, BackReports.IsBackReportOf, BackReports.IsBackRefusalOf, declared.refusals.BackRefusal.BackRefusal}
use Rattle.lra_back_source.proofs.OneAnswer.{back_or_refused}
use Rattle.lra_command_line.specs.CommandLine.{point_option}
use Rattle.lra_commands.specs.Crates.lra_resolution_spec.EntryPoint.{at_main}
use Rattle.lra_commands.specs.Crates.lra_options.OptionRows.{IsInRange}
use Rattle.lra_command_answers.specs.Statuses.{Ends, reported, refused, source_statuses}
use Rattle.lra_command_answers.specs.{declared.answer.Answer.Answer, declared.status.Status.Status, declared.status.Status.TheVariants.Refused}
use Rattle.lra_command_answers.proofs.{Answering.IsAnswering, Answering.small, Answering.past, ReportedOutcomes.not_past, ReportedOutcomes.longer_refused}
use Rattle.lra_commands.specs.BackAnswer.{back_refused_text, back_status, AllowedBackStatuses, AnswersBack, IsBackAnswer}

-- answers ------------------------------------------------------------------------

numbered : (number index : ℕ) → 1 ≤ number → index ≡ number - 1 → number ≡ suc index
numbered number index some is = omega (arith, some, is)

deserves_back : (number index : ℕ) (bytes text : List ℕ) (r : BackReport) (status : Status) → 1 ≤ number → index ≡ number - 1 → IsBackReportOf bytes index r
    → text ≡ back_text r → status ≡ back_status r.proved → AnswersBack number bytes text status
deserves_back number index bytes text r status some is deserved written counted = record {
  point = index;
  numbered = numbered number index some is;
  answer = inr (record { report = r; answers = deserved; written = written; counted = counted });
}

pub required_refusal : (number index : ℕ) (bytes text : List ℕ) (r : BackRefusal) (status : Status) → 1 ≤ number → index ≡ number - 1
    → IsBackRefusalOf bytes index r → text ≡ back_refused_text number r → status ≡ Refused → AnswersBack number bytes text status
required_refusal number index bytes text r status some is why written ends = record {
  point = index;
  numbered = numbered number index some is;
  answer = inl (record { refusal = r; refused = why; written = written }, ends);
}

-- of a call's result
pub report_answer : {E : Type 0} (number index : ℕ) (bytes : List ℕ) (r : BackReport) (result : Result Answer E) → 1 ≤ number → index ≡ number - 1
    → IsBackReportOf bytes index r → IfOk result (λ a. a.text.items ≡ back_text r) → IfOk result (λ a. a.status ≡ back_status r.proved)
    → IfOk result (λ a. AnswersBack number bytes a.text.items a.status)
report_answer number index bytes r (Ok a) some is deserved written counted =
    deserves_back number index bytes a.text.items r a.status some is deserved written counted
report_answer number index bytes r (Err e) some is deserved written counted = tt

pub ruleset deserving = (required_refusal)

-- one byte past the limit ---------------------------------------------------------

longer_so : (p : ℕ) (bytes rest : List ℕ) (r : BackRefusal) → greatest_length < length bytes → IsBackRefusalOf bytes p r → IsBackRefusalOf (bytes ++ rest) p r
longer_so p bytes rest (Source r) long why = longer_refused at_main bytes rest r.cause r.place long why
longer_so p bytes rest NoAssertion long (x, none) = absurd (not_past bytes long x.read.not_long)
longer_so p bytes rest (Paths q) long (x, asserts, many) = absurd (not_past bytes long x.read.not_long)

longer : (number : ℕ) (bytes rest text : List ℕ) (status : Status) → greatest_length < length bytes → AnswersBack number bytes text status
    → AnswersBack number (bytes ++ rest) text status
longer number bytes rest text status long d = record {
  point = d.point;
  numbered = d.numbered;
  answer = elim d.answer [
    | inl (r, is) ↦ inl (record { refusal = r.refusal; refused = longer_so d.point bytes rest r.refusal long r.refused; written = r.written }, is)
    | inr b ↦ absurd (not_past bytes long b.answers.program.read.not_long)
  ];
}

-- the status ---------------------------------------------------------------------

status_reported : (proved : Bool) → Ends reported (back_status proved)
status_reported true = inl refl
status_reported false = inr (inl refl)

back_reported : (p : ℕ) (bytes text : List ℕ) (status : Status) → IsBackAnswer p bytes text status → Ends reported status
back_reported p bytes text status b = subst (Ends reported) (sym b.counted) (status_reported b.report.proved)

back_ends : (number : ℕ) (bytes text : List ℕ) (status : Status) → AnswersBack number bytes text status → Ends source_statuses status
back_ends number bytes text status d = elim d.answer [ inl (r, is) ↦ inl is | inr b ↦ inr (back_reported d.point bytes text status b) ]

-- a report is of a source that can be gone back over
can_go : (bytes : List ℕ) (p : ℕ) (r : BackReport) → IsBackReportOf bytes p r → CanGoBack bytes p
can_go bytes p r x = record { program = x.program; asserts = x.found.asserts; few = x.found.few }

-- one number stands for one point
same_point : (number p q : ℕ) → number ≡ suc p → number ≡ suc q → p ≡ q
same_point number p q is also = omega (arith, is, also)

never_answered : (number : ℕ) (bytes text : List ℕ) (status : Status) (d : AnswersBack number bytes text status) → (CanGoBack bytes d.point → ⊥)
    → Ends refused status
never_answered number bytes text status d never =
    elim d.answer [ inl (r, is) ↦ inl is | inr b ↦ absurd (never (can_go bytes d.point b.report b.answers)) ]

never_refused : (number : ℕ) (bytes text : List ℕ) (status : Status) (d : AnswersBack number bytes text status)
    → ((r : BackRefusal) → IsBackRefusalOf bytes d.point r → ⊥) → Ends reported status
never_refused number bytes text status d never =
    elim d.answer [ inl (r, is) ↦ absurd (never r.refusal r.refused) | inr b ↦ back_reported d.point bytes text status b ]

back_called : (number : ℕ) (bytes text : List ℕ) (status : Status) (among : List Status) → AnswersBack number bytes text status
    → AllowedBackStatuses number bytes among → Ends among status
back_called number bytes text status among d (p, numbered_so, inl (refusal, why, is)) =
    let same = same_point number p d.point numbered_so d.numbered in
    subst (λ a. Ends a status) (sym is) (never_answered number bytes text status d
    (λ can. back_or_refused bytes d.point refusal can (subst (λ (q : ℕ). IsBackRefusalOf bytes q refusal) same why)))
back_called number bytes text status among d (p, numbered_so, inr (can, is)) =
    let same = same_point number p d.point numbered_so d.numbered in
    subst (λ a. Ends a status) (sym is) (never_refused number bytes text status d
    (λ r why. back_or_refused bytes d.point r (subst (λ (q : ℕ). CanGoBack bytes q) same can) why))

pub back_answering : (number : ℕ) → IsAnswering (IsInRange point_option number) (Some greatest_length)
    (λ bytes text status. AnswersBack number bytes text status) source_statuses (λ bytes among. AllowedBackStatuses number bytes among)
back_answering number = record {
  small = small;
  longer = λ n bytes rest text status limit long d. longer number bytes rest text status (past n bytes limit long) d;
  any = λ bytes other text status none d. absurd (let wrong : ⊥ = cc in wrong);
  own = λ status ends. ends;
  ends = λ bytes text status within d. back_ends number bytes text status d;
  called = λ bytes text status among d calls. back_called number bytes text status among d calls;
  too_long = λ n bytes text status limit long d. never_answered number bytes text status d
      (λ can. not_past bytes (past n bytes limit long) can.program.read.not_long);
}
