-- From what a source must get that is gone back over to what is claimed of its report.
use Rattle.std.proofs.Common.{◌≡◌, ℕ, suc, List, subst, inl, inr}
use Rattle.std.specs.Io.KnownBytes.{Appends}
use Rattle.lra_commands.proofs.Crates.lra_certificate_spec.OneProgram.{accepted_of}
use Rattle.lra_back_source.proofs.{Showing.backs_same_points, Sound.backs_sound, Sound.proved_at_first, Strained.unflagged_defined, Strained.flagged_strain}
use Rattle.lra_command_line.specs.{ParsedCommand.Asks, declared.commands.Command.TheVariants.Back}
use Rattle.lra_command_answers.specs.{Statuses.Ends, Statuses.reported, declared.status.Status.Status}
use Rattle.lra_commands.specs.{BackAnswer.AnswersBack, BackAnswer.IsBackAnswer, OutputClaims.WritesBack, Run.IsInput, Run.WritesAnswer, World.World}
use Rattle.lra_commands.proofs.{Headline.not_refused, CommandOutcomes.asked_input}

of_back : (number : ℕ) (w : World) (bytes text : List ℕ) (status : Status) (point : ℕ) → IsInput w.left bytes
    → number ≡ suc point → IsBackAnswer point bytes text status → Appends w.held w.held_now text → WritesBack number w status
of_back number w bytes text status point input numbered b written = record {
  bytes = bytes;
  input = input;
  point = point;
  numbered = numbered;
  report = b.report;
  answers = b.answers;
  accepted = accepted_of bytes b.answers.program;
  holds = backs_sound bytes point b.report b.answers;
  first = proved_at_first bytes point b.report b.answers;
  is_defined = unflagged_defined bytes point b.report b.answers;
  strains = flagged_strain bytes point b.report b.answers;
  same_points = backs_same_points bytes point b.report b.answers;
  counted = b.counted;
  written = subst (Appends w.held w.held_now) b.written written;
}

of_answer : (number : ℕ) (w : World) (bytes text : List ℕ) (status : Status) → IsInput w.left bytes → Ends reported status
    → AnswersBack number bytes text status → Appends w.held w.held_now text → WritesBack number w status
of_answer number w bytes text status input ends d written = elim d.answer [
  | inl (r, is) ↦ absurd (not_refused status is ends)
  | inr b ↦ of_back number w bytes text status d.point input d.numbered b written
]

pub writes_back : (number : ℕ) (w : World) (status : Status) → Asks w.words (Back number) → Ends reported status → WritesAnswer w status → WritesBack number w status
writes_back number w status asks ends a =
    of_answer number w a.answers.bytes a.text status a.answers.input ends (asked_input w.words w.left a.text status (Back number) asks a.answers) a.written
