-- What each command reads, must get and may end with: a row for each.
use Rattle.std.specs.Prelude.{◌≡◌, ◌⊎◌, ◌<◌, ℕ, List, [], ◌∷◌, length, Option, None, Some, option_and_then}
use Rattle.lra_base.specs.Places.{greatest_length}
use Rattle.lra_command_line.specs.declared.commands.Command.{Command}
use Rattle.lra_command_line.specs.declared.commands.Command.TheVariants.{Analyse, Sample, Back, Threads, Plain}
use Rattle.lra_command_line.specs.declared.commands.PlainCommand.TheVariants.{Calc, Verify, Certify}
use Rattle.lra_command_answers.specs.SourceAnswers.{AllowedSourceStatuses}
use Rattle.lra_command_answers.specs.Statuses.{reported, refused, source_statuses}
use Rattle.lra_command_answers.specs.{declared.status.Status.Status, declared.status.Status.TheVariants.Usage}
use Rattle.lra_commands.specs.BackAnswer.{AnswersBack, AllowedBackStatuses}
use Rattle.lra_commands.specs.CertificateAnswer.{AnswersCertificate, AllowedCertificateStatuses, certificate_statuses}
use Rattle.lra_commands.specs.CertifyAnswer.{AnswersCertify, AllowedCertifyStatuses}
use Rattle.lra_commands.specs.ScriptAnswer.{AnswersScript, AllowedScriptStatuses, script_statuses}
use Rattle.lra_commands.specs.ThreadsAnswer.{AnswersThreads}
use Rattle.lra_commands.specs.{SampleAnswer.AnswersSample, SourceAnswer.AnswersSource, SourceAnswer.written_report}
use Rattle.lra_commands.specs.Crates.{lra_certificate_spec.Claims.greatest_certificate}
use Rattle.lra_commands.specs.Crates.lra_resolution_spec.EntryPoint.{at_main, at_threads}

-- the most bytes that a command takes of its input, if it reads it
abbrev pub limit_of : Command → Option ℕ
limit_of (Analyse options format) = Some greatest_length
limit_of (Sample seed size) = None
limit_of (Back number) = Some greatest_length
limit_of (Threads delay narrow) = Some greatest_length
limit_of (Plain Calc) = Some greatest_length
limit_of (Plain Verify) = Some greatest_certificate
limit_of (Plain Certify) = Some greatest_length

-- the text and the status that a command must get, by these bytes of the input if it reads it
abbrev pub AnswersInput : Command → List ℕ → List ℕ → Status → Type 0
AnswersInput (Analyse options format) bytes text status =
    AnswersSource options (written_report format) bytes text status
AnswersInput (Sample seed size) bytes text status = AnswersSample seed size text status
AnswersInput (Back number) bytes text status = AnswersBack number bytes text status
AnswersInput (Threads delay narrow) bytes text status = AnswersThreads delay narrow bytes text status
AnswersInput (Plain Calc) bytes text status = AnswersScript bytes text status
AnswersInput (Plain Verify) bytes text status = AnswersCertificate bytes text status
AnswersInput (Plain Certify) bytes text status = AnswersCertify bytes text status

-- the statuses of an answer
abbrev pub statuses_of : Command → List Status
statuses_of (Analyse options format) = source_statuses
statuses_of (Sample seed size) = reported
statuses_of (Back number) = source_statuses
statuses_of (Threads delay narrow) = source_statuses
statuses_of (Plain Calc) = script_statuses
statuses_of (Plain Verify) = certificate_statuses
statuses_of (Plain Certify) = source_statuses

-- the statuses of an answer to these bytes
abbrev pub AllowedInputStatuses : Command → List ℕ → List Status → Type 0
AllowedInputStatuses (Analyse options format) bytes among = AllowedSourceStatuses at_main reported bytes among
AllowedInputStatuses (Sample seed size) bytes among = ⊥
AllowedInputStatuses (Back number) bytes among = AllowedBackStatuses number bytes among
AllowedInputStatuses (Threads delay narrow) bytes among = AllowedSourceStatuses at_threads reported bytes among
AllowedInputStatuses (Plain Calc) bytes among = AllowedScriptStatuses bytes among
AllowedInputStatuses (Plain Verify) bytes among = AllowedCertificateStatuses bytes among
AllowedInputStatuses (Plain Certify) bytes among = AllowedCertifyStatuses bytes among

-- more bytes than the command takes
abbrev pub IsTooLong : Command → List ℕ → Type 0
IsTooLong c bytes = (limit : ℕ) × (limit_of c ≡ Some limit) × (limit < length bytes)

-- words that ask for no command are answered too, and read nothing --------------------

abbrev pub asked_limit : Option Command → Option ℕ
asked_limit asked = option_and_then limit_of asked

-- the input reports its bytes, and this is so of them
abbrev pub IsKnown : (List ℕ → Type 0) → Option (List ℕ) → Type 0
IsKnown so None = ⊥
IsKnown so (Some bytes) = so bytes

-- by one of these statuses what the words ask for is answered, whatever its input, or by what that reports: what is too
-- long is refused
abbrev pub AllowedStatuses : Option Command → Option (List ℕ) → List Status → Type 0
AllowedStatuses None left among = among ≡ Usage ∷ []
AllowedStatuses (Some c) left among = (among ≡ statuses_of c)
    ⊎ IsKnown (λ bytes. (IsTooLong c bytes × (among ≡ refused)) ⊎ AllowedInputStatuses c bytes among) left
