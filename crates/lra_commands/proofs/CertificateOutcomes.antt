-- From what an input must get that is to be a certificate to how a call ends that answers it.
use Rattle.std.proofs.Common.{◌≡◌, ◌∙◌, ◌≤◌, ◌<◌, ◌+◌, ◌^◌, ℕ, List, ◌++◌, length, refl, ap, sym, subst, arith, inl, inr}
use Rattle.std.proofs.lemmas.Grind.{common_steps}
use Rattle.std.specs.Prelude.{Some}
use Rattle.lra_commands.specs.Crates.lra_certificate_lines.declared.refusals.VerifyRefusal.TheVariants.{Source, Paths, Line}
use Rattle.lra_commands.specs.Crates.lra_certificate_spec.Claims.{VerifyAnswer, verified, source_refused, paths_refused, line_refused, VerifiesTo, IsCertificate, program_of, greatest_certificate}
use Rattle.lra_commands.specs.Crates.{lra_certificate_lines.declared.refusals.VerifyRefusal.VerifyRefusal, lra_program.Sites.sites_of, lra_verify.RefusalViews.refusal_view}
use Rattle.lra_command_answers.specs.{Statuses.Ends, Statuses.refused, declared.status.Status.Status, declared.status.Status.TheVariants.Proved, declared.status.Status.TheVariants.Refused}
use Rattle.lra_command_answers.proofs.Answering.{IsAnswering, small_as, past_as}
use Rattle.lra_commands.specs.CertificateAnswer.{AnswersCertificate, EachCertificateAnswer, AllowedCertificateStatuses, certificate_statuses, verify_answer_text, answer_status, verified_text}
use Rattle.lra_commands.proofs.{OneVerified.one_verified, OneVerified.not_past, ScriptOutcomes.script_own, SomeVerified.each_verified}

-- answers ------------------------------------------------------------------------

pub required_verified : (bytes text : List ℕ) (points proved : ℕ) → VerifiesTo bytes (verified points proved) → text ≡ verified_text points proved
    → AnswersCertificate bytes text Proved
required_verified bytes text points proved d written = record { answer = verified points proved; answers = d; written = written; ends = refl }

refused_status : (r : VerifyRefusal) → answer_status (refusal_view r) ≡ Refused
refused_status (Source r) = refl
refused_status (Paths p) = refl
refused_status (Line n fault) = refl

pub required_refusal : (bytes text : List ℕ) (r : VerifyRefusal) → VerifiesTo bytes (refusal_view r) → text ≡ verify_answer_text (refusal_view r)
    → AnswersCertificate bytes text Refused
required_refusal bytes text r d written = record { answer = refusal_view r; answers = d; written = written; ends = sym (refused_status r) }

pub ruleset deserving = (required_verified, required_refusal)

one_answer : (bytes text other : List ℕ) (status ending : Status) → AnswersCertificate bytes text status → AnswersCertificate bytes other ending
    → (text ≡ other) × (status ≡ ending)
one_answer bytes text other status ending d e =
    let same = one_verified bytes d.answer e.answer d.answers e.answers in
    (d.written ∙ ap verify_answer_text same ∙ sym e.written, d.ends ∙ ap answer_status same ∙ sym e.ends)

pub each_answer : EachCertificateAnswer
each_answer bytes =
    let (a, d) = (each_verified bytes).0 in
    ((verify_answer_text a, answer_status a, record { answer = a; answers = d; written = refl; ends = refl }), one_answer bytes)

-- the limit ----------------------------------------------------------------------

small_length : greatest_certificate + 2 < 2 ^ 32
small_length = omega arith

-- one byte past it ---------------------------------------------------------------

longer_answer : (bytes rest : List ℕ) (a : VerifyAnswer) → greatest_certificate < length bytes → VerifiesTo bytes a → VerifiesTo (bytes ++ rest) a
longer_answer bytes rest (verified points proved) long d = absurd (not_past bytes long d.short)
longer_answer bytes rest (source_refused cause place) long (h, head, why) = absurd (not_past bytes long head.0)
longer_answer bytes rest (paths_refused p) long (h, head, x, many) = absurd (not_past bytes long head.0)
longer_answer bytes rest (line_refused r) long (inl (beyond, is)) = inl (grind (arith, common_steps), is)
longer_answer bytes rest (line_refused r) long (inr (inl (short, none, is))) = absurd (not_past bytes long short)
longer_answer bytes rest (line_refused r) long (inr (inr (h, head, x, few, is))) = absurd (not_past bytes long head.0)

longer_certificate : (bytes rest text : List ℕ) (status : Status) → greatest_certificate < length bytes → AnswersCertificate bytes text status
    → AnswersCertificate (bytes ++ rest) text status
longer_certificate bytes rest text status long d =
    record { answer = d.answer; answers = longer_answer bytes rest d.answer long d.answers; written = d.written; ends = d.ends }

-- the status ---------------------------------------------------------------------

answer_ends : (a : VerifyAnswer) → Ends certificate_statuses (answer_status a)
answer_ends (verified points proved) = inr (inl refl)
answer_ends (source_refused cause place) = inl refl
answer_ends (paths_refused p) = inl refl
answer_ends (line_refused r) = inl refl

-- every answer but one is a refusal
unverified_ends : (bytes : List ℕ) (a : VerifyAnswer) → ((points proved : ℕ) → VerifiesTo bytes (verified points proved) → ⊥) → VerifiesTo bytes a
    → Ends refused (answer_status a)
unverified_ends bytes (verified points proved) never d = absurd (never points proved d)
unverified_ends bytes (source_refused cause place) never d = inl refl
unverified_ends bytes (paths_refused p) never d = inl refl
unverified_ends bytes (line_refused r) never d = inl refl

refused_ends : (bytes text : List ℕ) (status : Status) → ((points proved : ℕ) → VerifiesTo bytes (verified points proved) → ⊥)
    → AnswersCertificate bytes text status → Ends refused status
refused_ends bytes text status never d = subst (Ends refused) (sym d.ends) (unverified_ends bytes d.answer never d.answers)

-- a certificate that meets its program has one answer
met_ends : (bytes text : List ℕ) (status : Status) → IsCertificate bytes → length bytes ≤ greatest_certificate → AnswersCertificate bytes text status
    → status ≡ Proved
met_ends bytes text status is short d =
    let points = length (sites_of (program_of is.program)) in
    let proved = length is.certificate.asserted in
    let met : VerifiesTo bytes (verified points proved) = record { short = short; is = is; points_are = refl; proved_are = refl } in
    d.ends ∙ ap answer_status (one_verified bytes d.answer (verified points proved) d.answers met)

certificate_called : (bytes text : List ℕ) (status : Status) (among : List Status) → AnswersCertificate bytes text status →
    AllowedCertificateStatuses bytes among
    → Ends among status
certificate_called bytes text status among d (inl (never, calls)) =
    subst (λ a. Ends a status) (sym calls) (refused_ends bytes text status (λ points proved v. never v.is) d)
certificate_called bytes text status among d (inr (is, short, calls)) = subst (λ a. Ends a status) (sym calls) (inl (met_ends bytes text status is short d))

pub certificate_answering : (ranges : Type 0)
    → IsAnswering ranges (Some greatest_certificate) (λ bytes text status. AnswersCertificate bytes text status) certificate_statuses
    (λ bytes among. AllowedCertificateStatuses bytes among)
certificate_answering ranges = record {
  small = small_as greatest_certificate small_length;
  longer = λ n bytes rest text status limit long d. longer_certificate bytes rest text status (past_as greatest_certificate n bytes limit long) d;
  any = λ bytes other text status none d. absurd (let wrong : ⊥ = cc in wrong);
  own = script_own;
  ends = λ bytes text status within d. subst (Ends certificate_statuses) (sym d.ends) (answer_ends d.answer);
  called = λ bytes text status among d calls. certificate_called bytes text status among d calls;
  too_long = λ n bytes text status limit long d.
      let past = past_as greatest_certificate n bytes limit long in
      refused_ends bytes text status (λ points proved v. not_past bytes past v.short) d;
}
