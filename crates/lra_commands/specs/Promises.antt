-- What a call of `run` promises, field by field: which status, and what of the world stays and changes.
use Rattle.std.specs.Io.KnownBytes.{Keeps}
use Rattle.std.specs.Prelude.{◌≡◌, ◌≢◌, ◌≤◌, ◌⊎◌, ℕ, List, length, Option}
use Rattle.lra_io.specs.Causes.{AppendsPart, Rose}
use Rattle.lra_command_line.specs.ParsedCommand.{Asks, AsksNone, IsRejected}
use Rattle.lra_command_line.specs.declared.commands.Command.TheVariants.{Analyse, Sample, Back, Threads, Plain}
use Rattle.lra_command_line.specs.declared.commands.PlainCommand.TheVariants.{Certify, Verify}
use Rattle.lra_command_line.specs.{declared.commands.Command.Command, declared.commands.Format.Format}
use Rattle.lra_command_answers.specs.Statuses.{Ends, reported, answered, silent, faults}
use Rattle.lra_command_answers.specs.declared.status.Status.TheVariants.{Proved, ReadFault, WriteFault, Memory, Usage}
use Rattle.lra_command_answers.specs.declared.status.Status.{Status}
use Rattle.lra_commands.specs.OutputClaims.{WritesReport, WritesSummary, WritesVerified, WritesCertificate, WritesBack}
use Rattle.lra_commands.specs.Run.{IsAsked, IsAnswerToWords, WritesAnswer, WritesPrefix, IsRead, RisesAtFault}
use Rattle.lra_commands.specs.{Commands.asked_limit, Commands.AllowedStatuses, World.World}
use Rattle.lra_commands.specs.{Crates.lra_options.declared.options.Options.Options, OutputClaims.WritesThreads}

pub record RunPromises (w : World) (status : Status) : Type 0 where
  -- What is written, by status: the text that the words and the input's bytes must get, whole; or a prefix of it, and
  -- not all of it; or nothing.
  pub written : Ends answered status → WritesAnswer w status
  pub part : status ≡ WriteFault → WritesPrefix w
  pub nothing : Ends silent status → Keeps w.held w.held_now
  -- If the words ask for a report and the status is that of one: what is written is one report that the input must get,
  -- in the words' format. It holds in all runs. If nothing is flagged, it says what the written iteration finds. What
  -- it says of overflows and of accesses is so, and exactly what the values at the points say. Over polyhedra rows and
  -- generators describe the same points. The status is counted from its verdicts.
  pub report : (options : Options) (format : Format) → Asks w.words (Analyse options format) → Ends reported status →
      WritesReport options format w status
  -- If they ask for a sample: what is written sums up a report of its source, of which the same is so.
  pub sampled : (seed size : ℕ) → Asks w.words (Sample seed size) → Ends reported status →
      WritesSummary seed size w status
  -- If they ask to verify, and the status is that of a certificate that meets its program: what then holds in all runs
  -- of its source.
  pub verified : Asks w.words (Plain Verify) → status ≡ Proved → WritesVerified w
  -- If they ask to certify, and the status is that of a report: the certificate of a report that the input must get. It
  -- is verified if it isn't too long.
  pub certified : Asks w.words (Plain Certify) → Ends reported status → WritesCertificate w status
  -- If they ask to go back from an assertion, and the status is that of a report: at each point a value that has each
  -- store from which a run goes on to fail at the assertion. If the assertion is proved, no run does.
  pub backs : (number : ℕ) → Asks w.words (Back number) → Ends reported status → WritesBack number w status
  -- If they ask for threads, and the status is that of a report: what holds in every interleaving of the threads'
  -- steps. A verdict is unknown exactly where the values that are shown say so. If nothing is flagged, the report says
  -- what the written rounds find. A flag stands at a point of which an operation exceeds a limit, and all before it is
  -- exact.
  pub threads : (delay narrow : ℕ) → Asks w.words (Threads delay narrow) → Ends reported status →
      WritesThreads delay narrow w status
  -- With which statuses what the words ask for may end: those of its answer, by what the input says of its bytes, or of
  -- a fault. (If a flagged set is widened, both answers to a script may be right: which one is depends on the set.)
  -- `Usage` comes only if they ask for no command: the command line doesn't accept them, or their options conflict.
  pub ends : (asked : Option Command) → IsAsked w.words asked → (among : List Status) →
      AllowedStatuses asked w.left among → Ends among status ⊎ Ends (faults (asked_limit asked)) status
  pub usage : status ≡ Usage → AsksNone w.words × IsRejected w.words
  -- What of the input is read: at most one byte past the command's limit, nothing without one.
  pub reads : (asked : Option Command) → IsAsked w.words asked →
      IsRead (asked_limit asked) w.left w.left_now (status ≡ ReadFault) (status ≢ ReadFault × status ≢ Memory)
  -- A fault is the answer only if its count rose; every other answer leaves the counts. If nothing fails and memory
  -- doesn't run out, there is an answer, written whole. So a source without a cause of refusal gets its report, and a
  -- script that runs to its end gets its output. A sink that surely takes each text that is required doesn't fail.
  pub read_fault : RisesAtFault ReadFault w.read_faults w.read_faults_now status
  pub write_fault : RisesAtFault WriteFault w.write_faults w.write_faults_now status
  pub complete : (Rose w.read_faults w.read_faults_now → ⊥) → (Rose w.write_faults w.write_faults_now → ⊥) →
      status ≢ Memory → Ends answered status
  pub room : ((text : List ℕ) (answer : Status) → IsAnswerToWords w.words w.left text answer →
      AppendsPart w.held w.held_now text → length text ≤ w.spare) → status ≢ WriteFault
