-- What is known of the threads of a source before and after the rounds, as the report asks it.
use Rattle.std.specs.List.{AllZip, flat_map, sum_by}
use Rattle.std.specs.Prelude.{◌≡◌, ◌≤◌, ◌<◌, ◌+◌, ◌++◌, ◌^◌, ℕ, List, length, map, codes, All, Some, slice_get}
use Rattle.lra_threads_source.specs.Crates.lra_resolution_spec.EntryPoint.{at_threads}
use Rattle.lra_threads_source.specs.Crates.lra_base.AccessVerdicts.{reported_view}
use Rattle.lra_threads_source.specs.Crates.lra_box.Abstraction.{box_abstraction}
use Rattle.lra_threads_source.specs.Crates.lra_front_end.ThreadsStages.{IsThreadInlined}
use Rattle.lra_threads_source.specs.Crates.lra_front_end.declared.threads_front.AcceptedThreads.{AcceptedThreads}
use Rattle.lra_threads_source.specs.Crates.lra_operations.declared.tree.InlinedProgram.{InlinedProgram}
use Rattle.lra_threads_source.specs.Crates.lra_program.ProgramViews.{program_view}
use Rattle.lra_threads_source.specs.Crates.lra_report_build.AnalysisResults.{access_verdicts_at, verdict_at}
use Rattle.lra_threads_source.specs.Crates.lra_resolution_spec.Refuse.{greatest_points}
use Rattle.lra_threads_source.specs.Crates.lra_resolution_spec.Refuse.{Accepts}
use Rattle.lra_threads_source.specs.Crates.lra_resolution_spec.Threads.{thread_places, thread_program}
use Rattle.lra_threads_source.specs.Crates.{lra_analysis_spec.Instrumented.instrumented, lra_fixpoint.Lives.AreWide}
use Rattle.lra_threads_source.specs.Crates.{lra_front_end.Stages.HasConstants, lra_operations.TreeViews.node_view}
use Rattle.lra_threads_source.specs.Crates.{lra_report_build.declared.listing.Findings.Findings}
use Rattle.lra_threads_source.specs.Crates.{lra_syntax.Grammar.Spells, lra_syntax.Labels.labels_of}
use Rattle.lra_threads_source.specs.Crates.{lra_syntax.Trees.FileTree, lra_syntax.Views.tree_view}
use Rattle.lra_report.specs.Report.{Verdict}
use Rattle.lra_report.specs.declared.verdict_kinds.VerdictKind.TheVariants.{Assertion, Fit}
use Rattle.lra_threads_analysis.specs.Found.{sites_in, thread_values, verdicts_of}
use Rattle.lra_threads_analysis.specs.declared.found.ThreadResult.{ThreadResult}
use Rattle.lra_threads_source.specs.Listed.{thread_sites}

abbrev pub points_in : InlinedProgram → ℕ
points_in graph = length graph.sites.items

-- the second graph is the first with what others do written into its tree
abbrev pub IsInstrumented : ℕ → InlinedProgram → InlinedProgram → Type 0
IsInstrumented globals graph other =
    (node_view other.tree ≡ instrumented globals (node_view graph.tree)) × (other.sites ≡ graph.sites)

-- what is read of a source of several threads, before and after each graph is instrumented
pub record AreThreadsInstrumented (front other : AcceptedThreads) : Type 0 where
  pub rest : front ≡ record other { graphs = front.graphs }
  pub graphs : AllZip (IsInstrumented (length other.resolution.program.globals.items)) front.graphs.items
      other.graphs.items

-- all that the rounds and the report take from what is read of a source
pub record IsReadOf (source : List ℕ) (front : AcceptedThreads) : Type 0 where
  pub accepted : Accepts at_threads Spells source (tree_view front.tree)
  pub constants : HasConstants source front.constants.items
  pub program : program_view front.resolution.program
      ≡ thread_program (tree_view front.tree) front.resolution.program.main
  pub labels : front.resolution.labels.labels ≡ labels_of (tree_view front.tree)
  pub graphs : AllZip (IsThreadInlined (tree_view front.tree)) (thread_places (tree_view front.tree)) front.graphs.items

-- the graphs have the points of a source's threads, no more in all than a report may have
pub record AreGraphsOf (t : FileTree) (graphs : List InlinedProgram) : Type 0 where
  pub count : length graphs ≡ length (thread_places t)
  pub sites : (k : ℕ) (graph : InlinedProgram) → slice_get graphs k ≡ Some graph → sites_in graph ≡ thread_sites t k
  pub few : sum_by points_in graphs ≤ greatest_points

-- a value for each point, as wide as what lives there, and what is judged stands at points
pub record IsOfGraph (graph : InlinedProgram) (found : ThreadResult) : Type 0 where
  pub wide : AreWide box_abstraction (sites_in graph) (thread_values found)
  pub points : length (thread_values found) ≡ length (sites_in graph)
  pub assertions : All (λ v. v.0 < points_in graph) (verdicts_of found)
  pub inside : All (λ v. v.0 < points_in graph) found.inside.verdicts.items

-- of each thread
pub record AreOfGraphs (graphs : List InlinedProgram) (found : List ThreadResult) : Type 0 where
  pub count : length found ≡ length graphs
  pub each : (k : ℕ) (graph : InlinedProgram) (one : ThreadResult) → slice_get graphs k ≡ Some graph →
      slice_get found k ≡ Some one → IsOfGraph graph one

-- verdicts on a thread, as it is listed alone, stand at its points
pub record IsJudgedIn (graph : InlinedProgram) (found : Findings) : Type 0 where
  pub assertions : All (λ v. v.0 < points_in graph) found.assertions.now
  pub fitting : All (λ v. v.0 < points_in graph) found.fitting.now
  pub inside : All (λ v. v.0 < points_in graph) found.inside.now

-- the verdicts on a thread, as it is listed alone
abbrev pub judged_alone : FileTree → ℕ → Findings → List Verdict
judged_alone t k found =
    map (verdict_at (labels_of t) (thread_sites t k) Assertion) found.assertions.now ++
    (map (verdict_at (labels_of t) (thread_sites t k) Fit) found.fitting.now ++
    flat_map (access_verdicts_at (labels_of t) (thread_sites t k)) (map reported_view found.inside.now))

-- numbers ----------------------------------------------------------------------------------------------------------

abbrev pub BeginsAtMain : List ℕ → Type 0
BeginsAtMain path = (rest : List ℕ) × (path ≡ codes "main" ++ rest)

-- what has this number and path alone can come after so many points
abbrev pub CanFollow : ℕ → ℕ → List ℕ → Type 0
CanFollow before number path = (before + number < 2 ^ 32) × BeginsAtMain path

-- a flag is that of a point
abbrev pub IsFlagIn : List InlinedProgram → ℕ × ℕ → Type 0
IsFlagIn graphs flag = (graph : InlinedProgram) × (slice_get graphs flag.0 ≡ Some graph) × (flag.1 < points_in graph)
