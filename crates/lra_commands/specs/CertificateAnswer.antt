-- What an input must get that is to be a certificate.
use Rattle.std.specs.Fmt.{decimal}
use Rattle.std.specs.Prelude.{◌≡◌, ◌≤◌, ◌⊎◌, ℕ, List, ◌∷◌, ◌++◌, length, codes}
use Rattle.lra_commands.specs.Crates.lra_certificate_spec.Claims.{VerifyAnswer, verified, source_refused, paths_refused}
use Rattle.lra_commands.specs.Crates.lra_certificate_spec.Claims.{line_refused, VerifiesTo, IsCertificate}
use Rattle.lra_commands.specs.Crates.lra_certificate_spec.Claims.{greatest_certificate}
use Rattle.lra_commands.specs.Crates.{lra_certificate_spec.Judged.fault_name, lra_row_text.Texts.text_line}
use Rattle.lra_report.specs.RefusalText.{refusal_text}
use Rattle.lra_command_answers.specs.Statuses.{printed, refused}
use Rattle.lra_command_answers.specs.declared.status.Status.{Status}
use Rattle.lra_command_answers.specs.declared.status.Status.TheVariants.{Proved, Refused}

-- of a certificate with so many points and listed assertions
abbrev pub verified_text : ℕ → ℕ → List ℕ
verified_text points proved =
    text_line (codes "verified points " ++ decimal points ++ codes " proved " ++ decimal proved)

abbrev pub verify_answer_text : VerifyAnswer → List ℕ
verify_answer_text (verified points proved) = verified_text points proved
verify_answer_text (source_refused cause place) = refusal_text cause place
verify_answer_text (paths_refused p) = text_line (codes "refused paths at point " ++ decimal p)
verify_answer_text (line_refused r) =
    text_line (codes "refused line " ++ decimal r.line ++ codes " " ++ fault_name r.fault)

abbrev pub answer_status : VerifyAnswer → Status
answer_status (verified points proved) = Proved
answer_status (source_refused cause place) = Refused
answer_status (paths_refused p) = Refused
answer_status (line_refused r) = Refused

-- the text and the status are those of the answer that the input must get
pub record AnswersCertificate (bytes text : List ℕ) (status : Status) : Type 0 where
  pub answer : VerifyAnswer
  pub answers : VerifiesTo bytes answer
  pub written : text ≡ verify_answer_text answer
  pub ends : status ≡ answer_status answer

-- each input must get one text and one status
abbrev pub EachCertificateAnswer : Type 0
EachCertificateAnswer = (bytes : List ℕ) →
    ((text : List ℕ) × (status : Status) × AnswersCertificate bytes text status)
    × ((text other : List ℕ) (status ending : Status) → AnswersCertificate bytes text status →
    AnswersCertificate bytes other ending → (text ≡ other) × (status ≡ ending))

-- the statuses of an answer to a certificate
abbrev pub certificate_statuses : List Status
certificate_statuses = Refused ∷ printed

-- by one of these it is answered: by a refusal if the input is no certificate that meets its program, by what is
-- verified if it is one, of no more bytes than are accepted
abbrev pub AllowedCertificateStatuses : List ℕ → List Status → Type 0
AllowedCertificateStatuses bytes among = ((IsCertificate bytes → ⊥) × (among ≡ refused))
    ⊎ (IsCertificate bytes × (length bytes ≤ greatest_certificate) × (among ≡ printed))
