-- From what a source of several threads must get to what is claimed of its report.
use Rattle.std.proofs.Common.{ℕ, List, length, subst, inl, inr}
use Rattle.std.specs.Io.KnownBytes.{Appends}
use Rattle.lra_commands.proofs.Crates.lra_threads_fixpoint.FlagLemmas.{settles}
use Rattle.lra_commands.specs.Crates.lra_threads_analysis.Found.{IsThreadResultOf, thread_finding}
use Rattle.lra_threads_source.specs.ThreadsReports.{shared_program, threads_plan}
use Rattle.lra_threads_source.proofs.{Sound.threads_sound, Strained.unflagged_defined, Strained.flagged_strain}
use Rattle.lra_command_line.specs.{ParsedCommand.Asks, declared.commands.Command.TheVariants.Threads}
use Rattle.lra_command_answers.specs.{Statuses.Ends, Statuses.reported, declared.status.Status.Status}
use Rattle.lra_commands.specs.{OutputClaims.WritesThreads, Run.IsInput, Run.WritesAnswer, ThreadsAnswer.AnswersThreads, ThreadsAnswer.IsThreadsAnswer, World.World}
use Rattle.lra_commands.proofs.{Headline.not_refused, CommandOutcomes.asked_input}

module _ (delay narrow : ℕ) where
  of_threads : (w : World) (bytes text : List ℕ) (status : Status) → IsInput w.left bytes
      → IsThreadsAnswer delay narrow bytes text status → Appends w.held w.held_now text → WritesThreads delay narrow w status
  of_threads w bytes text status input d written = record {
    bytes = bytes;
    input = input;
    report = d.report;
    answers = d.answers;
    accepted = d.answers.program.accepted;
    holds = threads_sound delay narrow bytes d.report d.answers;
    found = (settles thread_finding (length (shared_program d.answers.program.tree).globals)
        (IsThreadResultOf (threads_plan delay narrow d.answers.constants) (shared_program d.answers.program.tree) d.answers.program.operations)
        (length d.answers.program.operations) d.answers.end d.answers.rounds).0;
    is_defined = unflagged_defined delay narrow bytes d.report d.answers;
    strains = flagged_strain delay narrow bytes d.report d.answers;
    counted = d.counted;
    written = subst (Appends w.held w.held_now) d.written written;
  }

  of_answer : (w : World) (bytes text : List ℕ) (status : Status) → IsInput w.left bytes → Ends reported status
      → AnswersThreads delay narrow bytes text status → Appends w.held w.held_now text → WritesThreads delay narrow w status
  of_answer w bytes text status input ends (inl (r, is)) written = absurd (not_refused status is ends)
  of_answer w bytes text status input ends (inr d) written = of_threads w bytes text status input d written

  pub writes_threads : (w : World) (status : Status) → Asks w.words (Threads delay narrow) → Ends reported status → WritesAnswer w status
      → WritesThreads delay narrow w status
  writes_threads w status asks ends a =
      of_answer w a.answers.bytes a.text status a.answers.input ends (asked_input w.words w.left a.text status (Threads delay narrow) asks a.answers) a.written
