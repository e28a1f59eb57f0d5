-- What a source of several threads must get: what rounds of boxes find of its threads, shown as one report; and what
-- that claims of the threads beside each other. Threads and points are counted from 0 here.
use Rattle.std.specs.List.{Contains}
use Rattle.std.specs.Prelude.{◌≡◌, ◌<◌, ◌+◌, ℕ, suc, ℤ, List, length, map, None, Some, slice_get, IsTrue}
use Rattle.lra_threads_source.specs.Crates.lra_resolution_spec.EntryPoint.{at_threads}
use Rattle.lra_threads_source.specs.Crates.lra_analysis_spec.Plan.{Plan, plan_of}
use Rattle.lra_threads_source.specs.Crates.lra_front_end.Claims.{IsAccepted}
use Rattle.lra_threads_source.specs.Crates.lra_interleavings.Interleavings.{AtThread, FailsThread, ThreadWritesValue}
use Rattle.lra_threads_source.specs.Crates.lra_interleavings.Interleavings.{OutOfBoundsThread}
use Rattle.lra_threads_source.specs.Crates.lra_options.OptionRows.{default_options}
use Rattle.lra_threads_source.specs.Crates.lra_program.Program.{Function, Program}
use Rattle.lra_threads_source.specs.Crates.lra_resolution_spec.Resolve.{resolved_functions}
use Rattle.lra_threads_source.specs.Crates.lra_resolution_spec.Threads.{thread_places, thread_program}
use Rattle.lra_threads_source.specs.Crates.lra_threads_fixpoint.Flags.{ComesToStrain}
use Rattle.lra_threads_source.specs.Crates.lra_threads_fixpoint.Rounds.{AllRounds, ThreadsFixpoint, joining_rounds}
use Rattle.lra_threads_source.specs.Crates.{lra_box.Bounds.InInterval, lra_front_end.Stages.HasConstants}
use Rattle.lra_threads_source.specs.Crates.{lra_operations.Agree.point_of, lra_operations.Tree.Node}
use Rattle.lra_threads_source.specs.Crates.{lra_options.declared.options.Domain.TheVariants.Box}
use Rattle.lra_threads_source.specs.Crates.{lra_options.declared.options.Options.Options}
use Rattle.lra_threads_source.specs.Crates.{lra_program.ProgramViews.function_or, lra_program.Run.Point}
use Rattle.lra_threads_source.specs.Crates.{lra_program.Sites.Site, lra_resolution_spec.LiveNames.globals_named}
use Rattle.lra_threads_source.specs.Crates.{lra_syntax.Trees.FileTree, lra_threads_fixpoint.Intervals.empty_table}
use Rattle.lra_report.specs.Report.{PointReport, Verdict, InvariantHolds}
use Rattle.lra_report.specs.declared.verdict_kinds.VerdictKind.{VerdictKind}
use Rattle.lra_report.specs.declared.verdict_kinds.VerdictKind.TheVariants.{Assertion, Fit, Access}
use Rattle.lra_threads_analysis.specs.Found.{IsThreadResultOf, IsExactResultOf, StrainsAt, thread_finding}
use Rattle.lra_threads_analysis.specs.Interleaved.{HoldsInterleaved}
use Rattle.lra_threads_analysis.specs.{Holding.AreFlagged, declared.found.ThreadResult.ThreadResult}
use Rattle.lra_threads_source.specs.Listed.{ShowsThreads, number_in, points_before, thread_place, thread_sites}
use Rattle.lra_threads_source.specs.ThreadsText.{ThreadsReport, Writes}

-- threads ----------------------------------------------------------------------------------------------------------

-- boxes of one part, delayed and narrowed so often
abbrev pub threads_options : ℕ → ℕ → Options
threads_options delay narrow = record default_options { domain = Box; delay = delay; narrow = narrow }

abbrev pub threads_plan : ℕ → ℕ → List ℤ → Plan
threads_plan delay narrow constants = plan_of (threads_options delay narrow) constants

-- the functions of the threads
abbrev pub thread_functions : FileTree → List Function
thread_functions t = map (λ place. function_or (slice_get (resolved_functions t) place)) (thread_places t)

-- the program of the first thread; that of another is the same with its function in the place of `main`
abbrev pub shared_program : FileTree → Program
shared_program t = thread_program t (thread_place t 0)

-- reports ----------------------------------------------------------------------------------------------------------

-- so it is reported of a source under these options: what the rounds end with, which holds of all that the threads do
-- beside each other
pub record IsThreadsReportOf (delay narrow : ℕ) (source : List ℕ) (r : ThreadsReport) : Type 0 where
  pub delay_told : r.delay ≡ delay
  pub narrow_told : r.narrow ≡ narrow
  pub program : IsAccepted at_threads source
  pub constants : List ℤ
  pub own : HasConstants source constants
  pub end : ThreadsFixpoint ThreadResult
  pub rounds : AllRounds thread_finding (length (shared_program program.tree).globals)
      (IsThreadResultOf (threads_plan delay narrow constants) (shared_program program.tree) program.operations)
      (length program.operations) end
  pub flags : AreFlagged (threads_plan delay narrow constants) (shared_program program.tree) program.operations end
  pub holds : HoldsInterleaved (shared_program program.tree) (thread_functions program.tree) end
  pub shows : ShowsThreads program.tree end r

-- claims -----------------------------------------------------------------------------------------------------------

-- the point q of the k-th thread
pub record IsPointOf (t : FileTree) (k q : ℕ) (s : Site) : Type 0 where
  pub is_thread : k < length (thread_places t)
  pub is_point : slice_get (thread_sites t k) q ≡ Some s

-- what no interleaving does at a point of the k-th thread if of the verdicts of the kind there the n-th holds
abbrev pub BreaksThread : VerdictKind → Program → List Function → ℕ → Point → ℕ → Type 0
BreaksThread Assertion P fs k p n = FailsThread P fs k p
BreaksThread Fit P fs k p n = ⊥
BreaksThread Access P fs k p n = OutOfBoundsThread P fs k p n

-- the number lies between the bounds; an absent one bounds nothing
abbrev pub LiesIn : Writes → ℤ → Type 0
LiesIn w z = InInterval (record { low = w.low; high = w.high }) z

-- the value that the k-th thread gives the global x is reported among those that it writes
pub record IsReportedWrite (t : FileTree) (r : ThreadsReport) (k x : ℕ) (z : ℤ) : Type 0 where
  pub name : List ℕ
  pub is_named : slice_get (globals_named t.parts) x ≡ Some name
  pub writes : Writes
  pub is_listed : Contains r.writes writes
  pub thread : writes.thread ≡ suc k
  pub own_name : writes.name ≡ name
  pub within : LiesIn writes z

-- Whatever the threads do beside each other: the state at a point holds whenever the thread is there, be it that it
-- says that it never is; what is judged to hold isn't broken; and each value that a thread gives a global is reported.
pub record HoldsInInterleavings (t : FileTree) (r : ThreadsReport) : Type 0 where
  pub states : (k q : ℕ) (s : Site) (x : PointReport) (store : List ℤ) → IsPointOf t k q s →
      slice_get r.points (points_before t k + q) ≡ Some x →
      AtThread (shared_program t) (thread_functions t) k (point_of s) store → InvariantHolds x.state store
  pub verdicts : (k q : ℕ) (s : Site) (v : Verdict) → IsPointOf t k q s → Contains r.verdicts v →
      v.number ≡ number_in t k q → IsTrue v.holds →
      BreaksThread v.kind (shared_program t) (thread_functions t) k (point_of s) v.which → ⊥
  pub writes : (k x : ℕ) (z : ℤ) → ThreadWritesValue (shared_program t) (thread_functions t) k x z →
      IsReportedWrite t r k x z

-- what is shown is what the written rounds end with: in them each operation of an iteration and of what is judged of
-- accesses gives its defined result
pub record AreDefinedThreads (plan : Plan) (t : FileTree) (trees : List Node) (r : ThreadsReport) : Type 0 where
  pub end : ThreadsFixpoint ThreadResult
  pub rounds : AllRounds thread_finding (length (shared_program t).globals)
      (IsExactResultOf plan (shared_program t) trees) (length trees) end
  pub shows : ShowsThreads t end r

-- the number is that of a thread's point, of which an operation exceeds a limit; all before it is exact: round by
-- round, in a round thread by thread, of a thread its iteration before its accesses
pub record StrainsAtNumber (plan : Plan) (t : FileTree) (trees : List Node) (number : ℕ) : Type 0 where
  pub thread : ℕ
  pub point : ℕ
  pub site : Site
  pub is_point : IsPointOf t thread point site
  pub is_number : number ≡ number_in t thread point
  pub strains : ComesToStrain thread_finding (length (shared_program t).globals)
      (IsExactResultOf plan (shared_program t) trees) (StrainsAt plan (shared_program t) trees) (length trees)
      joining_rounds (empty_table (length trees) (length (shared_program t).globals)) thread point

abbrev pub ThreadsAreSound : Type 0
ThreadsAreSound = (delay narrow : ℕ) (source : List ℕ) (r : ThreadsReport) →
    (x : IsThreadsReportOf delay narrow source r) →
    HoldsInInterleavings x.program.tree r

abbrev pub UnflaggedThreadsAreDefined : Type 0
UnflaggedThreadsAreDefined = (delay narrow : ℕ) (source : List ℕ) (r : ThreadsReport) →
    (x : IsThreadsReportOf delay narrow source r) → r.flagged ≡ None →
    AreDefinedThreads (threads_plan delay narrow x.constants) x.program.tree x.program.operations r

abbrev pub FlaggedThreadsStrain : Type 0
FlaggedThreadsStrain = (delay narrow : ℕ) (source : List ℕ) (r : ThreadsReport) →
    (x : IsThreadsReportOf delay narrow source r) → (number : ℕ) → r.flagged ≡ Some number →
    StrainsAtNumber (threads_plan delay narrow x.constants) x.program.tree x.program.operations number
