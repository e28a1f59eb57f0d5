-- What is found of threads, each by its tree, among what the others give.
use Rattle.std.specs.List.{Contains}
use Rattle.std.specs.Prelude.{◌≡◌, ◌↔◌, ◌≤◌, ◌<◌, ◌⊎◌, ℕ, List, length, map, Bool, Option, None, Some, All, slice_get}
use Rattle.lra_threads_analysis.specs.Crates.lra_analysis_spec.Accesses.{JudgesAccesses}
use Rattle.lra_threads_analysis.specs.Crates.lra_analysis_spec.Operations.{exact_operations, lossy_operations}
use Rattle.lra_threads_analysis.specs.Crates.lra_analysis_spec.Operations.{straining_operations}
use Rattle.lra_threads_analysis.specs.Crates.lra_analysis_spec.Pass.{recorded, PassResult}
use Rattle.lra_threads_analysis.specs.Crates.lra_analysis_spec.UnderInterference.{ExactIterationUnder, StrainsUnder}
use Rattle.lra_threads_analysis.specs.Crates.lra_box.Abstraction.{box_abstraction}
use Rattle.lra_threads_analysis.specs.Crates.lra_operations.CheckedOperations.{accessing_ops}
use Rattle.lra_threads_analysis.specs.Crates.lra_operations.TreeViews.{node_view, site_view}
use Rattle.lra_threads_analysis.specs.Crates.lra_operations.declared.tree.InlinedProgram.{InlinedProgram}
use Rattle.lra_threads_analysis.specs.Crates.lra_program.WellFormed.{AreGoodGlobals}
use Rattle.lra_threads_analysis.specs.Crates.lra_program.declared.program.GlobalVariable.{GlobalVariable}
use Rattle.lra_threads_analysis.specs.Crates.{lra_analysis_spec.Analysis.IsSolution}
use Rattle.lra_threads_analysis.specs.Crates.{lra_analysis_spec.Instrumented.instrumented}
use Rattle.lra_threads_analysis.specs.Crates.{lra_analysis_spec.LiveLimit.most_live, lra_analysis_spec.Plan.Plan}
use Rattle.lra_threads_analysis.specs.Crates.{lra_base.AccessVerdicts.reported_view}
use Rattle.lra_threads_analysis.specs.Crates.{lra_base.declared.refusals.Place.Place, lra_box.Content.BoxContent}
use Rattle.lra_threads_analysis.specs.Crates.{lra_domain.Interference.Interference, lra_fixpoint.Lives.PointsHave}
use Rattle.lra_threads_analysis.specs.Crates.{lra_fixpoint.Numbers.IsNumbered, lra_fixpoint.Solved.IsSolvedUnder}
use Rattle.lra_threads_analysis.specs.Crates.{lra_fixpoint.Tables.note_view, lra_fixpoint.UnderInterference.HoldsUnder}
use Rattle.lra_threads_analysis.specs.Crates.{lra_fixpoint.declared.tables.Note.Note, lra_operations.Tree.Node}
use Rattle.lra_threads_analysis.specs.Crates.{lra_overflow_checks.Judged.AreBelow, lra_pass_results.Dimensions.TreeFits}
use Rattle.lra_threads_analysis.specs.Crates.{lra_program.Program.Program, lra_program.Sites.Site}
use Rattle.lra_threads_fixpoint.specs.Rounds.{ResultReadings}
use Rattle.lra_threads_analysis.specs.declared.found.ThreadResult.{ThreadResult}

abbrev pub sites_in : InlinedProgram → List Site
sites_in graph = map site_view graph.sites.items

-- an iteration may be made over the graph, with so many globals, and accesses may be judged by what it leaves
pub record IsReady (globals : ℕ) (graph : InlinedProgram) : Type 0 where
  pub fits : TreeFits (node_view graph.tree) globals
  pub numbered : IsNumbered (sites_in graph) (node_view graph.tree)
  pub points : PointsHave (sites_in graph) (node_view graph.tree) globals
  pub few : All (λ (s : Site). s.live < most_live) (sites_in graph)
  pub below : AreBelow (length (sites_in graph)) (accessing_ops None (node_view graph.tree))

pub record AreReady (plan : Plan) (globals : List GlobalVariable) (graphs : List InlinedProgram) : Type 0 where
  pub parts : 1 ≤ plan.parts
  pub few : length globals ≤ most_live
  pub good : AreGoodGlobals globals
  pub each : (k : ℕ) (graph : InlinedProgram) → slice_get graphs k ≡ Some graph → IsReady (length globals) graph

-- each graph's tree is one of these, the threads' own trees, instrumented
abbrev pub AreInstrumented : ℕ → List Node → List InlinedProgram → Type 0
AreInstrumented globals trees graphs =
    map (λ (x : InlinedProgram). node_view x.tree) graphs ≡ map (instrumented globals) trees

-- what is found of a thread -----------------------------------------------------------------------------------------

abbrev pub thread_values : ThreadResult → List BoxContent
thread_values f = f.noted.solution.values.items

abbrev pub verdicts_of : ThreadResult → List (ℕ × Bool)
verdicts_of f = f.noted.solution.verdicts.items

-- what variables got
abbrev pub notes_of : ThreadResult → List (ℕ × ℕ × BoxContent)
notes_of f = map note_view f.noted.notes.items

-- what is reported about accesses, point by point
abbrev pub access_verdicts_of : ThreadResult → List (ℕ × List (Place × Bool))
access_verdicts_of f = map reported_view f.inside.verdicts.items

-- the first flag: of the iteration, before those of accesses
abbrev pub flag_of_thread : ThreadResult → Option ℕ
flag_of_thread f = f.inside.flagged

-- the variables that got a value, each with the value after that
abbrev pub write_in : Note BoxContent → ℕ × BoxContent
write_in n = (n.variable, n.value)

abbrev pub writes_in : ThreadResult → List (ℕ × BoxContent)
writes_in f = map write_in f.noted.notes.items

abbrev pub thread_finding : ResultReadings ThreadResult
thread_finding = record { notes = writes_in; flag = flag_of_thread }

-- it holds in all runs of this tree among these others
abbrev pub HoldsOf : Interference BoxContent → Program → Node → ThreadResult → Type 0
HoldsOf o P g f = HoldsUnder o box_abstraction P g (thread_values f) (notes_of f) (verdicts_of f)

-- The iteration over the instrumented tree, and what is judged of the accesses of this tree by the values that it
-- leaves.
pub record IsThreadResult (o : Interference BoxContent) (plan : Plan) (P : Program) (g : Node) (f : ThreadResult) : Type
    0 where
  pub solved : IsSolvedUnder o box_abstraction plan P (instrumented (length P.globals) g) (thread_values f) (notes_of f)
      (verdicts_of f) f.noted.solution.flagged
  pub accessed : JudgesAccesses box_abstraction (lossy_operations box_abstraction) g (thread_values f)
      f.noted.solution.flagged
      (access_verdicts_of f) (flag_of_thread f)

-- of the k-th thread, of which this is its own tree
abbrev pub IsThreadResultOf : Plan → Program → List Node → ℕ → Interference BoxContent → ThreadResult → Type 0
IsThreadResultOf plan P trees k o f = (g : Node) × (slice_get trees k ≡ Some g) × IsThreadResult o plan P g f

-- without flags -----------------------------------------------------------------------------------------------------

-- what is found is that of the written iteration, and of accesses judged by what it leaves
pub record IsExactResult (o : Interference BoxContent) (plan : Plan) (P : Program) (g : Node) (f : ThreadResult) : Type
    0 where
  pub result : PassResult BoxContent
  pub written : ExactIterationUnder o box_abstraction plan P (instrumented (length P.globals) g) result
  pub solves : IsSolution box_abstraction result (thread_values f) (verdicts_of f) None
  pub noted : (q place : ℕ) (v : BoxContent) →
      Contains (notes_of f) (q, place, v) ↔ Contains result.entries (recorded q place v)
  pub accessed : JudgesAccesses box_abstraction (exact_operations box_abstraction) g (thread_values f) None
      (access_verdicts_of f) None

abbrev pub IsExactResultOf : Plan → Program → List Node → ℕ → Interference BoxContent → ThreadResult → Type 0
IsExactResultOf plan P trees k o f = (g : Node) × (slice_get trees k ≡ Some g) × IsExactResult o plan P g f

-- an access that is judged by what the written iteration leaves exceeds a limit at the point q
pub record StrainsInAccess (o : Interference BoxContent) (plan : Plan) (P : Program) (g : Node) (q : ℕ) : Type 0 where
  pub result : PassResult BoxContent
  pub written : ExactIterationUnder o box_abstraction plan P (instrumented (length P.globals) g) result
  pub values : List BoxContent
  pub verdicts : List (ℕ × Bool)
  pub solves : IsSolution box_abstraction result values verdicts None
  pub inside : List (ℕ × List (Place × Bool))
  pub judged : JudgesAccesses box_abstraction (straining_operations box_abstraction) g values None inside (Some q)

-- the written iteration over the k-th thread exceeds a limit there, or judging its accesses after it
abbrev pub StrainsAt : Plan → Program → List Node → ℕ → Interference BoxContent → ℕ → Type 0
StrainsAt plan P trees k o q = (g : Node) × (slice_get trees k ≡ Some g) ×
    (StrainsUnder o box_abstraction plan P (instrumented (length P.globals) g) q ⊎ StrainsInAccess o plan P g q)
