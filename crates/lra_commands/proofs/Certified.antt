-- From what a source must get that is to be certified to what is claimed of its certificate.
use Rattle.std.proofs.Common.{◌≡◌, ◌∙◌, ◌≤◌, ℕ, suc, List, [], ◌∷◌, length, refl, ap, sym, inl, inr}
use Rattle.std.proofs.lemmas.List.{length-map}
use Rattle.std.specs.Io.KnownBytes.{Appends}
use Rattle.lra_commands.specs.Crates.lra_certificate_spec.Certificates.{ListedAssertion, AreStates}
use Rattle.lra_commands.specs.Crates.lra_certificate_spec.Claims.{program_of, verified, greatest_certificate}
use Rattle.lra_commands.specs.Crates.{lra_certificate_spec.Judged.RowsAtPoint, lra_program.Sites.Site, lra_program.Sites.sites_of}
use Rattle.lra_certify_source.specs.{Certified.IsCertificateWith, Settings.certify_options}
use Rattle.lra_certify_source.proofs.Written.{certificates}
use Rattle.lra_command_line.specs.{ParsedCommand.Asks, declared.commands.Command.TheVariants.Plain, declared.commands.PlainCommand.TheVariants.Certify}
use Rattle.lra_command_answers.specs.{Statuses.Ends, Statuses.reported, declared.status.Status.Status, declared.status.Status.TheVariants.Proved}
use Rattle.lra_commands.specs.CertificateAnswer.{verified_text, AnswersCertificate}
use Rattle.lra_commands.specs.{CertifyAnswer.IsCertifyAnswer, CertifyAnswer.AnswersCertify, OutputClaims.WritesCertificate, Run.IsInput, Run.WritesAnswer, World.World}
use Rattle.lra_commands.proofs.{Headline.claims, Headline.not_refused, CommandOutcomes.asked_input}

-- a state for each point
states_many : (sites : List Site) (states : List RowsAtPoint) → AreStates sites states → length states ≡ length sites
states_many [] [] are = refl
states_many [] (s ∷ ss) are = absurd are
states_many (site ∷ sites) [] are = absurd are
states_many (site ∷ sites) (s ∷ ss) are = ap suc (states_many sites ss are.1)

-- it is verified, if it isn't too long
accepted : (source : List ℕ) (states : List RowsAtPoint) (proved text : List ℕ) → IsCertificateWith source states proved text →
    length text ≤ greatest_certificate
    → AnswersCertificate text (verified_text (length states) (length proved)) Proved
accepted source states proved text c short = record {
  answer = verified (length states) (length proved);
  answers = record {
    short = short;
    is = c.is;
    points_are = ap length (sym c.states_are) ∙ states_many (sites_of (program_of c.is.program)) c.is.certificate.states c.is.meets.states;
    proved_are = ap length (sym c.listed_are) ∙ length-map c.is.certificate.asserted (λ (one : ListedAssertion). one.number);
  };
  written = refl;
  ends = refl;
}

of_certified : (w : World) (bytes text : List ℕ) (status : Status) → IsInput w.left bytes → IsCertifyAnswer bytes text status → Appends w.held w.held_now text
    → WritesCertificate w status
of_certified w bytes text status input d written =
    let meets = certificates bytes d.report text d.certificate in
    record {
      bytes = bytes;
      input = input;
      report = d.report;
      claims = claims certify_options bytes d.report d.answered;
      counted = d.counted;
      text = text;
      certificate = d.certificate;
      meets = meets;
      verifies = accepted bytes d.certificate.states d.certificate.proved text meets;
      written = written;
    }

of_answer : (w : World) (bytes text : List ℕ) (status : Status) → IsInput w.left bytes → Ends reported status
    → AnswersCertify bytes text status → Appends w.held w.held_now text → WritesCertificate w status
of_answer w bytes text status input ends (inl (d, is)) written = absurd (not_refused status is ends)
of_answer w bytes text status input ends (inr d) written = of_certified w bytes text status input d written

pub writes_certificate : (w : World) (status : Status) → Asks w.words (Plain Certify) → Ends reported status → WritesAnswer w status → WritesCertificate w status
writes_certificate w status asks ends a =
    of_answer w a.answers.bytes a.text status a.answers.input ends (asked_input w.words w.left a.text status (Plain Certify) asks a.answers) a.written
