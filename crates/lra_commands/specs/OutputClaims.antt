-- What is claimed of the report that a call writes, and of what it says is verified.
use Rattle.std.specs.Prelude.{◌≡◌, ◌≤◌, ℕ, suc, ℤ, List, [], length, map, Bool, false, IsTrue, Option, None, Some, ◌∷◌}
use Rattle.std.specs.Prelude.{pos, option_map, slice_get, Contains}
use Rattle.std.specs.{Io.KnownBytes.Appends, List.AllByRecursion}
use Rattle.lra_base.specs.declared.refusals.Place.{Place}
use Rattle.lra_commands.specs.Crates.lra_resolution_spec.EntryPoint.{at_main, at_threads}
use Rattle.lra_commands.specs.Crates.lra_analyse_source.SourceReports.{ForOptions, IsAnalysisReport}
use Rattle.lra_commands.specs.Crates.lra_analysis_spec.Accesses.{JudgesAccesses}
use Rattle.lra_commands.specs.Crates.lra_analysis_spec.Analysis.{ExactIteration, IsSolution}
use Rattle.lra_commands.specs.Crates.lra_analysis_spec.Fits.{Judges, JudgesIf}
use Rattle.lra_commands.specs.Crates.lra_analysis_spec.Operations.{exact_operations, lossy_operations}
use Rattle.lra_commands.specs.Crates.lra_certificate_spec.Certificates.{ListedAssertion, Certificate}
use Rattle.lra_commands.specs.Crates.lra_certificate_spec.Claims.{IsCertificate, greatest_certificate, program_of}
use Rattle.lra_commands.specs.Crates.lra_linear_spec.Descriptions.{LinearRow, Con}
use Rattle.lra_commands.specs.Crates.lra_operations.Agree.{IsInlinedTree, point_of}
use Rattle.lra_commands.specs.Crates.lra_program.Sites.{Site, sites_of}
use Rattle.lra_commands.specs.Crates.lra_report_build.AnalysisResults.{reported_all, reported_of}
use Rattle.lra_commands.specs.Crates.lra_resolution_spec.Refuse.{Accepts}
use Rattle.lra_commands.specs.Crates.lra_threads_analysis.Found.{IsThreadResultOf}
use Rattle.lra_commands.specs.Crates.lra_threads_fixpoint.Rounds.{AreThreadResults}
use Rattle.lra_commands.specs.Crates.{lra_analysis_spec.Pass.PassResult, lra_analysis_spec.Plan.plan_of}
use Rattle.lra_commands.specs.Crates.{lra_domain.Abstraction.Abstraction, lra_front_end.Stages.HasConstants}
use Rattle.lra_commands.specs.Crates.{lra_operations.Tree.Node, lra_options.declared.options.Domain.TheVariants.Poly}
use Rattle.lra_commands.specs.Crates.{lra_options.declared.options.Options.Options, lra_program.Program.Program}
use Rattle.lra_commands.specs.Crates.{lra_program.Run.At, lra_program.Run.Fails, lra_report_build.Shown.AreShown}
use Rattle.lra_commands.specs.Crates.lra_resolution_spec.Resolve.{resolve}
use Rattle.lra_commands.specs.Crates.{lra_syntax.Grammar.Spells, lra_syntax.Trees.FileTree}
use Rattle.lra_report.specs.BackText.{BackReport, back_text}
use Rattle.lra_report.specs.Report.{HasSamePointsAt, Invariant, PointReport, Report, IsRight, IsSound}
use Rattle.lra_report.specs.{Listing.Lists, ReportText.unknown_count}
use Rattle.lra_sample.specs.{Sample.sample_source, Summary.summary_text}
use Rattle.lra_certify_source.specs.Certified.{IsCertificateOf, IsCertificateWith}
use Rattle.lra_certify_source.specs.{Assertions.unknown_assertions, Settings.certify_options}
use Rattle.lra_back_source.specs.BackReports.{ReportCoversFailingRuns, IsBackReportOf, IsDefinedBack, IsProvedAtFirst}
use Rattle.lra_back_source.specs.BackReports.{StrainsAt}
use Rattle.lra_threads_source.specs.ThreadsReports.{AreDefinedThreads, HoldsInInterleavings, IsThreadsReportOf}
use Rattle.lra_threads_source.specs.ThreadsReports.{StrainsAtNumber, shared_program, threads_plan}
use Rattle.lra_threads_source.specs.ThreadsText.{ThreadsReport, threads_text}
use Rattle.lra_command_line.specs.{ParsedCommand.default_options, declared.commands.Format.Format}
use Rattle.lra_command_answers.specs.{declared.status.Status.Status, declared.status.Status.TheVariants.Proved}
use Rattle.lra_commands.specs.CertificateAnswer.{verified_text, AnswersCertificate}
use Rattle.lra_commands.specs.{BackAnswer.back_status, Run.IsInput, SourceAnswer.report_status}
use Rattle.lra_commands.specs.{SourceAnswer.written_report, World.World}

-- no run reaches a point that is shown as unreachable
abbrev pub IsNeverReached : Program → PointReport → Type 0
IsNeverReached P p = p.state ≡ [] → (store : List ℤ) → At P p.point store → ⊥

-- The report lists all points of the accepted source and what is judged of them. Each state holds whenever a run is at
-- its point, no assertion that is marked proved fails, no run stops by a number if all is reported to fit, no access
-- that is reported to be in bounds is evaluated outside its array, and no point that is shown as unreachable is
-- reached.
pub record HoldsInAllRuns (bytes : List ℕ) (r : Report) : Type 0 where
  pub tree : FileTree
  pub accepted : Accepts at_main Spells bytes tree
  pub lists : Lists tree r
  pub sound : IsSound (resolve tree) r
  pub unreached : AllByRecursion (IsNeverReached (resolve tree)) r.points

-- the report shows what the written iteration finds, whose loops have these constants as thresholds if the options ask
-- for such: at each point the state that shows its value there, whose rows mean the value; on each assertion its
-- verdict; of each access whether it lies inside its array; and, if the options ask for it, at each point at which
-- something is computed whether all of it fits
pub record ReportsWritten {V H : Type 0} (m : Abstraction V H) (shown : V → Invariant) (o : Options)
    (constants : List ℤ)
    (P : Program) (r : Report) : Type 0 where
  pub tree : Node
  pub is_graph : IsInlinedTree P tree
  pub result : PassResult V
  pub written : ExactIteration m (plan_of o constants) P tree result
  pub values : List V
  pub verdicts : List (ℕ × Bool)
  pub solves : IsSolution m result values verdicts None
  pub states : map (λ (p : PointReport). p.state) r.points ≡ map shown values
  pub are_shown : AreShown m o.domain shown values
  pub fitting : List (ℕ × Bool)
  pub judged : JudgesIf m (exact_operations m) o.fits tree values None fitting None
  pub inside : List (ℕ × List (Place × Bool))
  pub accessed : JudgesAccesses m (exact_operations m) tree values None inside None
  pub proved : map reported_of r.verdicts ≡ reported_all verdicts fitting inside

-- if nothing is flagged, every value is the written iteration's, by the source's own constants
pub record IsWrittenUnlessFlagged (o : Options) (bytes : List ℕ) (r : Report) : Type 0 where
  pub tree : FileTree
  pub accepted : Accepts at_main Spells bytes tree
  pub constants : List ℤ
  pub own : HasConstants bytes constants
  pub tells : r.flagged ≡ None → ForOptions o (λ V H m shown. ReportsWritten m shown o constants (resolve tree) r)

-- A line for each access of an array, in the order in which they are evaluated at each point, says whether it is in
-- bounds by the values whose states are shown: it is unknown exactly if these leave an index outside. After what is
-- flagged of all else stands what is flagged of that.
pub record ReportsAccessing {V H : Type 0} (m : Abstraction V H) (shown : V → Invariant) (o : Options) (P : Program)
    (r : Report) : Type 0 where
  pub tree : Node
  pub is_graph : IsInlinedTree P tree
  pub values : List V
  pub states : map (λ (p : PointReport). p.state) r.points ≡ map shown values
  pub are_shown : AreShown m o.domain shown values
  pub verdicts : List (ℕ × Bool)
  pub fitting : List (ℕ × Bool)
  pub flag_before : Option ℕ
  pub inside : List (ℕ × List (Place × Bool))
  pub last : Option ℕ
  pub accessed : JudgesAccesses m (lossy_operations m) tree values flag_before inside last
  pub told : map reported_of r.verdicts ≡ reported_all verdicts fitting inside
  pub flag : r.flagged ≡ option_map suc last

-- and no run evaluates an access outside its array that is reported to be in bounds
pub record ReportsAccesses (o : Options) (bytes : List ℕ) (r : Report) : Type 0 where
  pub tree : FileTree
  pub accepted : Accepts at_main Spells bytes tree
  pub right : AllByRecursion (IsRight (resolve tree)) r.verdicts
  pub tells : ForOptions o (λ V H m shown. ReportsAccessing m shown o (resolve tree) r)

-- If it is asked for, a line for each point at which something is computed says whether all of it fits by the
-- values whose states are shown: it may overflow exactly if something doesn't.
pub record ReportsFitting {V H : Type 0} (m : Abstraction V H) (shown : V → Invariant) (o : Options) (P : Program)
    (r : Report) : Type 0 where
  pub beside : ReportsAccessing m shown o P r
  pub flagged : Option ℕ
  pub judged : Judges m (lossy_operations m) beside.tree beside.values flagged beside.fitting beside.flag_before

-- and if all of it fits no run stops there by a number; if it isn't asked for nothing is reported about it
pub record ReportsFits (o : Options) (bytes : List ℕ) (r : Report) : Type 0 where
  pub tree : FileTree
  pub accepted : Accepts at_main Spells bytes tree
  pub right : AllByRecursion (IsRight (resolve tree)) r.verdicts
  pub tells : IsTrue o.fits → ForOptions o (λ V H m shown. ReportsFitting m shown o (resolve tree) r)
  pub silent : o.fits ≡ false → (verdicts : List (ℕ × Bool)) × (inside : List (ℕ × List (Place × Bool))) ×
      (map reported_of r.verdicts ≡ reported_all verdicts [] inside)

-- over polyhedra the rows and the generators of each part describe the same points, flagged or not
abbrev pub ReportsSamePoints : Options → List ℕ → Report → Type 0
ReportsSamePoints o bytes r = o.domain ≡ Poly → AllByRecursion HasSamePointsAt r.points

-- all that is claimed of a report that a source must get under these options
pub record ReportClaims (o : Options) (bytes : List ℕ) (r : Report) : Type 0 where
  pub answers : IsAnalysisReport o bytes r
  pub holds : HoldsInAllRuns bytes r
  pub is_written : IsWrittenUnlessFlagged o bytes r
  pub fits : ReportsFits o bytes r
  pub accesses : ReportsAccesses o bytes r
  pub same_points : ReportsSamePoints o bytes r

-- One report is written whole in this format: the input must get it under the options, all of that is so of it, and the
-- status is that of its verdicts.
pub record WritesReport (o : Options) (format : Format) (w : World) (status : Status) : Type 0 where
  pub bytes : List ℕ
  pub input : IsInput w.left bytes
  pub report : Report
  pub claims : ReportClaims o bytes report
  pub counted : status ≡ report_status (unknown_count report.verdicts)
  pub written : Appends w.held w.held_now (written_report format report)

-- the summary of a report that the sample's source must get is written whole, and it is so with the claims and the
-- status of that report
pub record WritesSummary (seed size : ℕ) (w : World) (status : Status) : Type 0 where
  pub report : Report
  pub claims : ReportClaims default_options (sample_source seed size) report
  pub counted : status ≡ report_status (unknown_count report.verdicts)
  pub written : Appends w.held w.held_now (summary_text seed size report)

-- In all runs the rows of a certificate hold whenever a run is at their point, no run reaches a point that is empty
-- there, and no listed assertion is false. Points are counted from 0.
pub record IsVerifiedInAllRuns (P : Program) (c : Certificate) : Type 0 where
  pub rows : (q : ℕ) (s : Site) (store : List ℤ) (given : List LinearRow) → slice_get (sites_of P) q ≡ Some s →
      slice_get c.states q ≡ Some (Some given) → At P (point_of s) store → Con given (pos 1 ∷ store)
  pub unreached : (q : ℕ) (s : Site) (store : List ℤ) → slice_get (sites_of P) q ≡ Some s →
      slice_get c.states q ≡ Some None → At P (point_of s) store → ⊥
  pub asserted : (one : ListedAssertion) (s : Site) → Contains c.asserted one →
      slice_get (sites_of P) one.number ≡ Some s →
      Fails P (point_of s) → ⊥

-- the input is a certificate that meets the program of its source, all of this is so of it, and the numbers of its
-- points and of its listed assertions are written whole
pub record WritesVerified (w : World) : Type 0 where
  pub bytes : List ℕ
  pub input : IsInput w.left bytes
  pub is : IsCertificate bytes
  pub accepted : Accepts at_main Spells is.certificate.source is.program.tree
  pub holds : IsVerifiedInAllRuns (resolve is.program.tree) is.certificate
  pub written : Appends w.held w.held_now
      (verified_text (length (sites_of (resolve is.program.tree))) (length is.certificate.asserted))

-- The certificate of a report that the input must get, in which nothing is narrowed, is written whole: it has the rows,
-- the empty points and the proved assertions of that report, of which all is claimed that is claimed of reports, and
-- the status is that of its assertions alone. It is a certificate that meets its program, so it must be verified if it
-- isn't too long.
pub record WritesCertificate (w : World) (status : Status) : Type 0 where
  pub bytes : List ℕ
  pub input : IsInput w.left bytes
  pub report : Report
  pub claims : ReportClaims certify_options bytes report
  pub counted : status ≡ report_status (unknown_assertions report.verdicts)
  pub text : List ℕ
  pub certificate : IsCertificateOf bytes report text
  pub meets : IsCertificateWith bytes certificate.states certificate.proved text
  pub verifies : length text ≤ greatest_certificate → AnswersCertificate text
      (verified_text (length certificate.states) (length certificate.proved)) Proved
  pub written : Appends w.held w.held_now text

-- At each point of the input's program, whose forward analysis is gone back over, what is left of the stores from which
-- the assertion of this number may fail is written whole. A point's state holds at each store with which a run comes
-- there that goes on to fail at the assertion, flagged or not; rows and generators describe the same points. No run
-- fails if the assertion is proved, and the status says whether it is: exactly if the point to which paths from
-- the start lead is shown as unreachable. Without a flag all that is shown is as it is defined, over the values of the
-- written iteration; the number of a flag is that of a point of which an operation exceeds a limit, and all before it
-- is exact.
pub record WritesBack (number : ℕ) (w : World) (status : Status) : Type 0 where
  pub bytes : List ℕ
  pub input : IsInput w.left bytes
  pub point : ℕ
  pub numbered : number ≡ suc point
  pub report : BackReport
  pub answers : IsBackReportOf bytes point report
  pub accepted : Accepts at_main Spells bytes answers.program.tree
  pub holds : ReportCoversFailingRuns (program_of answers.program) point report
  pub first : IsProvedAtFirst (program_of answers.program) answers.program.operations report
  pub is_defined : report.flagged ≡ None →
      IsDefinedBack answers.constants (program_of answers.program) answers.program.operations point report
  pub strains : (q : ℕ) → report.flagged ≡ Some (suc q) →
      StrainsAt answers.constants (program_of answers.program) answers.program.operations point q
  pub same_points : AllByRecursion HasSamePointsAt report.points
  pub counted : status ≡ back_status report.proved
  pub written : Appends w.held w.held_now (back_text report)

-- What is found of the input's threads is written whole. It holds in every interleaving of their steps: the state of a
-- point whenever its thread is there, whatever the others have done by then; no assertion that is marked proved fails,
-- no access that is reported to be in bounds is evaluated outside its array, no thread reaches a point that is shown as
-- unreachable, and whatever value a thread gives a global variable lies in the interval that is reported for these two.
-- The status says whether some verdict is unknown. Flagged or not, what is shown of a thread was found of it among what
-- the settled intervals say of the others: a verdict is unknown exactly if the values that are shown say so. Without
-- a flag all that is shown is as it is defined, round by round; the number of a flag is that of a point of which an
-- operation exceeds a limit in the written rounds, all before it exact.
pub record WritesThreads (delay narrow : ℕ) (w : World) (status : Status) : Type 0 where
  pub bytes : List ℕ
  pub input : IsInput w.left bytes
  pub report : ThreadsReport
  pub answers : IsThreadsReportOf delay narrow bytes report
  pub accepted : Accepts at_threads Spells bytes answers.program.tree
  pub holds : HoldsInInterleavings answers.program.tree report
  pub found : AreThreadResults (length (shared_program answers.program.tree).globals)
      (IsThreadResultOf (threads_plan delay narrow answers.constants) (shared_program answers.program.tree)
      answers.program.operations) (length answers.program.operations) answers.end.table answers.end.found
  pub is_defined : report.flagged ≡ None → AreDefinedThreads (threads_plan delay narrow answers.constants)
      answers.program.tree answers.program.operations report
  pub strains : (number : ℕ) → report.flagged ≡ Some number →
      StrainsAtNumber (threads_plan delay narrow answers.constants) answers.program.tree answers.program.operations
      number
  pub counted : status ≡ report_status (unknown_count report.verdicts)
  pub written : Appends w.held w.held_now (threads_text report)
