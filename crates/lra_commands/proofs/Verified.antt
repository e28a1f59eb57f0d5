-- From what an input must get that is verified to what is claimed of it.
use Rattle.std.proofs.Common.{◌≡◌, ◌∙◌, ℕ, ℤ, List, length, subst, sym}
use Rattle.std.specs.{Io.KnownBytes.Appends, Prelude.Option, Prelude.None, Prelude.Some, Prelude.slice_get}
use Rattle.lra_commands.specs.Crates.lra_certificate_spec.Certificates.{Certificate, state_or_empty}
use Rattle.lra_commands.specs.Crates.lra_certificate_spec.Claims.{VerifyAnswer, verified, source_refused, paths_refused, line_refused, VerifiesTo, IsVerified, RowsHoldAt, RowsHold}
use Rattle.lra_commands.specs.Crates.lra_program.Sites.{Site, sites_of}
use Rattle.lra_commands.specs.Crates.{lra_linear_spec.Descriptions.LinearRow, lra_operations.Agree.point_of, lra_program.Program.Program, lra_program.Run.At, lra_resolution_spec.Resolve.resolve}
use Rattle.lra_commands.proofs.Crates.{lra_certificate_spec.CertificatesHold.certificates_hold, lra_certificate_spec.OneProgram.accepted_of}
use Rattle.lra_command_line.specs.{ParsedCommand.Asks, declared.commands.Command.TheVariants.Plain, declared.commands.PlainCommand.TheVariants.Verify}
use Rattle.lra_commands.specs.CertificateAnswer.{AnswersCertificate, verify_answer_text, answer_status, verified_text}
use Rattle.lra_commands.specs.{OutputClaims.IsVerifiedInAllRuns, OutputClaims.WritesVerified, Run.IsInput, Run.WritesAnswer, World.World}
use Rattle.lra_commands.proofs.CommandOutcomes.{asked_input}
use Rattle.lra_command_answers.specs.{declared.status.Status.Status, declared.status.Status.TheVariants.Proved}

-- what holds in all runs --------------------------------------------------------------

module _ (P : Program) (c : Certificate) (h : RowsHold P c) where
  says : (q : ℕ) (s : Site) (store : List ℤ) (state : Option (Option (List LinearRow))) → slice_get (sites_of P) q ≡ Some s → slice_get c.states q ≡ state
      → At P (point_of s) store
      → RowsHoldAt (state_or_empty state) store
  says q s store state there is at = subst (λ x. RowsHoldAt (state_or_empty x) store) is (h.rows q s store there at)

  verified_in_runs : IsVerifiedInAllRuns P c
  verified_in_runs = record {
    rows = λ q s store given there is at. says q s store (Some (Some given)) there is at;
    unreached = λ q s store there is at. says q s store (Some None) there is at;
    asserted = h.asserted;
  }

-- what is written -----------------------------------------------------------------------

writes : (w : World) (bytes : List ℕ) (points proved : ℕ) → IsInput w.left bytes → IsVerified bytes points proved
    → Appends w.held w.held_now (verified_text points proved) → WritesVerified w
writes w bytes points proved input v written =
    let texts = subst (λ n. Appends w.held w.held_now (verified_text n proved)) v.points_are written in
    record {
      bytes = bytes;
      input = input;
      is = v.is;
      accepted = accepted_of v.is.certificate.source v.is.program;
      holds = verified_in_runs (resolve v.is.program.tree) v.is.certificate (certificates_hold bytes v.is);
      written = subst (λ n. Appends w.held w.held_now (verified_text (length (sites_of (resolve v.is.program.tree))) n)) v.proved_are texts;
    }

of_answer : (w : World) (bytes : List ℕ) (a : VerifyAnswer) → IsInput w.left bytes → answer_status a ≡ Proved → VerifiesTo bytes a
    → Appends w.held w.held_now (verify_answer_text a) → WritesVerified w
of_answer w bytes (verified points proved) input is d written = writes w bytes points proved input d written
of_answer w bytes (source_refused cause place) input is d written = absurd (let wrong : ⊥ = cc in wrong)
of_answer w bytes (paths_refused p) input is d written = absurd (let wrong : ⊥ = cc in wrong)
of_answer w bytes (line_refused r) input is d written = absurd (let wrong : ⊥ = cc in wrong)

pub writes_verified : (w : World) (status : Status) → Asks w.words (Plain Verify) → status ≡ Proved → WritesAnswer w status → WritesVerified w
writes_verified w status asks is a =
    let d : AnswersCertificate a.answers.bytes a.text status = asked_input w.words w.left a.text status (Plain Verify) asks a.answers in
    of_answer w a.answers.bytes d.answer a.answers.input (sym d.ends ∙ is) d.answers (subst (Appends w.held w.held_now) d.written a.written)
