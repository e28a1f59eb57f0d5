-- What the rounds of threads end with: of each thread it holds among what the others write.
use Rattle.std.specs.Prelude.{◌≡◌, ℕ, List, length, map, Option, None, Some, slice_get}
use Rattle.lra_threads_analysis.specs.Crates.lra_analysis_spec.Operations.{lossy_operations}
use Rattle.lra_threads_analysis.specs.Crates.lra_fixpoint.Lives.{AreWide, NotesHave}
use Rattle.lra_threads_analysis.specs.Crates.{lra_analysis_spec.Accesses.JudgesAccesses}
use Rattle.lra_threads_analysis.specs.Crates.{lra_analysis_spec.Instrumented.instrumented, lra_analysis_spec.Plan.Plan}
use Rattle.lra_threads_analysis.specs.Crates.{lra_box.Abstraction.box_abstraction, lra_fixpoint.Solved.IsSolvedUnder}
use Rattle.lra_threads_analysis.specs.Crates.{lra_operations.Tree.Node, lra_operations.TreeViews.node_view}
use Rattle.lra_threads_analysis.specs.Crates.{lra_operations.declared.tree.InlinedProgram.InlinedProgram}
use Rattle.lra_threads_analysis.specs.Crates.{lra_program.Assertions.assertions_from, lra_program.Program.Program}
use Rattle.lra_threads_analysis.specs.Crates.{lra_program.declared.program.GlobalVariable.GlobalVariable}
use Rattle.lra_threads_fixpoint.specs.Intervals as intervals
use Rattle.lra_threads_fixpoint.specs.Intervals.{TableWithin, empty_table}
use Rattle.lra_threads_fixpoint.specs.Rounds.{AllRounds, ThreadsFixpoint, joining_rounds, written_in}
use Rattle.lra_threads_fixpoint.specs.{Flags.ComesToStrain, Interference.threads_interference}
use Rattle.lra_threads_analysis.specs.Found.{sites_in, thread_values, verdicts_of, notes_of, access_verdicts_of}
use Rattle.lra_threads_analysis.specs.Found.{flag_of_thread, HoldsOf, IsExactResultOf, StrainsAt, thread_finding}
use Rattle.lra_threads_analysis.specs.declared.found.ThreadResult.{ThreadResult}

-- what was found of the k-th thread, whose own tree this is, is of an iteration among the others, as the table states
-- them, and holds in all runs of that tree among them; a value for each point, with a dimension for each variable that
-- lives there, a verdict for each assertion, and what is judged of the tree's accesses by these values. Of which plan,
-- and after which flag, the rounds report.
pub record HoldsInRound (P : Program) (k : ℕ) (graph : InlinedProgram) (g : Node)
    (end : ThreadsFixpoint ThreadResult) : Type 0 where
  pub found : ThreadResult
  pub is_found : slice_get end.found k ≡ Some found
  pub solved : (plan : Plan)
      × IsSolvedUnder (threads_interference (length P.globals) k end.table) box_abstraction plan P
      (node_view graph.tree) (thread_values found) (notes_of found) (verdicts_of found) found.noted.solution.flagged
  pub holds : HoldsOf (threads_interference (length P.globals) k end.table) P g found
  pub wide : AreWide box_abstraction (sites_in graph) (thread_values found)
  pub notes : NotesHave box_abstraction (notes_of found)
  pub points : length (thread_values found) ≡ length (sites_in graph)
  pub assertions : map (λ v. v.0) (verdicts_of found) ≡ map (λ a. a.0) (assertions_from 0 (sites_in graph))
  pub inside : (before : Option ℕ)
      × JudgesAccesses box_abstraction (lossy_operations box_abstraction) g (thread_values found) before
      (access_verdicts_of found) (flag_of_thread found)

-- the round that settles: nothing is written that isn't in the table, which has an interval for each thread and global;
-- and so much holds of each thread
pub record AllHold (globals : List GlobalVariable) (graphs : List InlinedProgram)
    (end : ThreadsFixpoint ThreadResult) : Type 0 where
  pub within : TableWithin (written_in thread_finding (length globals) end.found) end.table
  pub count : length end.found ≡ length graphs
  pub table : length end.table ≡ length graphs
  pub wide : intervals.AreRowsWide (length globals) end.table
  pub each : (P : Program) (k : ℕ) (graph : InlinedProgram) (g : Node) → P.globals ≡ globals →
      slice_get graphs k ≡ Some graph → node_view graph.tree ≡ instrumented (length P.globals) g →
      HoldsInRound P k graph g end

-- Without a flag all rounds are those of the written iterations and of accesses judged by what these leave. A first
-- flag is of a thread whose written iteration exceeds a limit there, or whose accesses do after it, and the rounds go
-- as far without a flag. These are the threads' own trees.
pub record AreFlagged (plan : Plan) (P : Program) (trees : List Node) (end : ThreadsFixpoint ThreadResult) : Type 0
  where
    pub written : end.flag ≡ None →
        AllRounds thread_finding (length P.globals) (IsExactResultOf plan P trees) (length trees) end
    pub strained : (k q : ℕ) → end.flag ≡ Some (k, q) → ComesToStrain thread_finding (length P.globals)
        (IsExactResultOf plan P trees) (StrainsAt plan P trees) (length trees) joining_rounds
        (empty_table (length trees) (length P.globals)) k q
