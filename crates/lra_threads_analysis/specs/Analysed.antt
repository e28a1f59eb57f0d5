-- What the code finds of a thread by its graph, whose tree is instrumented already.
use Rattle.std.specs.Prelude.{◌≡◌, ℕ, List, length, map, Some, slice_get}
use Rattle.lra_threads_analysis.specs.Crates.lra_analysis_spec.Operations.{lossy_operations}
use Rattle.lra_threads_analysis.specs.Crates.lra_fixpoint.Lives.{AreWide, NotesHave}
use Rattle.lra_threads_analysis.specs.Crates.{lra_analysis_spec.Accesses.JudgesAccesses}
use Rattle.lra_threads_analysis.specs.Crates.{lra_analysis_spec.Instrumented.instrumented, lra_analysis_spec.Plan.Plan}
use Rattle.lra_threads_analysis.specs.Crates.{lra_box.Abstraction.box_abstraction, lra_box.Content.BoxContent}
use Rattle.lra_threads_analysis.specs.Crates.{lra_domain.Interference.Interference, lra_fixpoint.Solved.IsSolvedUnder}
use Rattle.lra_threads_analysis.specs.Crates.{lra_operations.Tree.Node, lra_operations.TreeViews.node_view}
use Rattle.lra_threads_analysis.specs.Crates.{lra_operations.declared.tree.InlinedProgram.InlinedProgram}
use Rattle.lra_threads_analysis.specs.Crates.{lra_program.Assertions.assertions_from, lra_program.Program.Program}
use Rattle.lra_threads_analysis.specs.Crates.{lra_program.declared.program.GlobalVariable.GlobalVariable}
use Rattle.lra_threads_analysis.specs.Found.{sites_in, thread_values, verdicts_of, notes_of, access_verdicts_of}
use Rattle.lra_threads_analysis.specs.{Found.flag_of_thread, Found.HoldsOf, declared.found.ThreadResult.ThreadResult}

-- the iteration over the graph among these others; what holds of the runs of the thread's own tree; as many values as
-- points, and verdicts of all assertions; each value has a dimension for each variable that lives at its point, and
-- that of a note one for its variable; what is judged of accesses after that
pub record IsAnalysed (plan : Plan) (globals : List GlobalVariable) (graph : InlinedProgram)
    (o : Interference BoxContent)
    (f : ThreadResult) : Type 0 where
  pub solved : (P : Program) → P.globals ≡ globals → IsSolvedUnder o box_abstraction plan P (node_view graph.tree)
      (thread_values f) (notes_of f) (verdicts_of f) f.noted.solution.flagged
  pub sound : (P : Program) (g : Node) → P.globals ≡ globals →
      node_view graph.tree ≡ instrumented (length P.globals) g →
      HoldsOf o P g f
  pub wide : AreWide box_abstraction (sites_in graph) (thread_values f)
  pub notes : NotesHave box_abstraction (notes_of f)
  pub points : length (thread_values f) ≡ length graph.sites.items
  pub assertions : map (λ v. v.0) (verdicts_of f) ≡ map (λ a. a.0) (assertions_from 0 (sites_in graph))
  pub accessed : JudgesAccesses box_abstraction (lossy_operations box_abstraction) (node_view graph.tree)
      (thread_values f)
      f.noted.solution.flagged (access_verdicts_of f) (flag_of_thread f)

-- of the k-th thread
abbrev pub IsAnalysedOf : Plan → List GlobalVariable → List InlinedProgram → ℕ → Interference BoxContent → ThreadResult
    → Type 0
IsAnalysedOf plan globals graphs k o f =
    (graph : InlinedProgram) × (slice_get graphs k ≡ Some graph) × IsAnalysed plan globals graph o f
