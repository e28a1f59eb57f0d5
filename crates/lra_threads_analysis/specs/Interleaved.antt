-- What the rounds of threads end with holds in every interleaving of the threads. Each thread's points have the numbers
-- of its own program's points, from 0.
use Rattle.std.specs.List.{Contains}
use Rattle.std.specs.Prelude.{◌≡◌, ℕ, ℤ, List, length, Bool, true, Some, slice_get}
use Rattle.lra_threads_analysis.specs.Crates.lra_analysis_spec.Analysis.{IsUnreachable}
use Rattle.lra_threads_analysis.specs.Crates.lra_analysis_spec.Instrumented.{instrumented}
use Rattle.lra_threads_analysis.specs.Crates.lra_box.Abstraction.{box_abstraction}
use Rattle.lra_threads_analysis.specs.Crates.lra_interleavings.Interleavings.{thread_program, AtThread, FailsThread}
use Rattle.lra_threads_analysis.specs.Crates.lra_interleavings.Interleavings.{OutOfBoundsThread, ThreadWritesValue}
use Rattle.lra_threads_analysis.specs.Crates.lra_operations.Agree.{IsInlinedTree, point_of}
use Rattle.lra_threads_analysis.specs.Crates.lra_operations.declared.tree.InlinedProgram.{InlinedProgram}
use Rattle.lra_threads_analysis.specs.Crates.lra_program.Program.{Function, Program}
use Rattle.lra_threads_analysis.specs.Crates.lra_program.Sites.{Site, sites_of}
use Rattle.lra_threads_analysis.specs.Crates.lra_program.WellFormed.{IsWellFormed}
use Rattle.lra_threads_analysis.specs.Crates.{lra_base.declared.refusals.Place.Place, lra_box.Content.BoxContent}
use Rattle.lra_threads_analysis.specs.Crates.{lra_operations.Tree.Node, lra_operations.TreeViews.node_view}
use Rattle.lra_threads_fixpoint.specs.Rounds.{ThreadsFixpoint}
use Rattle.lra_threads_analysis.specs.Found.{thread_values, verdicts_of, access_verdicts_of}
use Rattle.lra_threads_analysis.specs.{Holding.AllHold, Written.HasWritten, declared.found.ThreadResult.ThreadResult}

module _ (P : Program) (fs : List Function) (end : ThreadsFixpoint ThreadResult) where
  pub record HoldsInterleaved : Type 0 where
    -- the value at a thread's point has each store that the thread sees there, and as many dimensions as that has
    -- numbers
    pub stores : (k q : ℕ) (f : Function) (s : Site) (store : List ℤ) → slice_get fs k ≡ Some f →
        slice_get (sites_of (thread_program P f)) q ≡ Some s → AtThread P fs k (point_of s) store →
        (found : ThreadResult) × (slice_get end.found k ≡ Some found) × (v : BoxContent) ×
        (slice_get (thread_values found) q ≡ Some v) × box_abstraction.gamma v store
        × (box_abstraction.dims v ≡ length store)
    -- no thread fails an assertion that is proved
    pub proved : (k q : ℕ) (f : Function) (s : Site) (found : ThreadResult) → slice_get fs k ≡ Some f →
        slice_get (sites_of (thread_program P f)) q ≡ Some s → slice_get end.found k ≡ Some found →
        Contains (verdicts_of found) (q, true) → FailsThread P fs k (point_of s) → ⊥
    -- no thread reaches a point whose value has no part
    pub unreached : (k q : ℕ) (f : Function) (s : Site) (store : List ℤ) (found : ThreadResult) (v : BoxContent) →
        slice_get fs k ≡ Some f → slice_get (sites_of (thread_program P f)) q ≡ Some s →
        slice_get end.found k ≡ Some found → slice_get (thread_values found) q ≡ Some v →
        IsUnreachable box_abstraction v →
        AtThread P fs k (point_of s) store → ⊥
    -- no thread evaluates an access outside its array that is reported to be inside
    pub inside : (k q : ℕ) (f : Function) (s : Site) (found : ThreadResult) (js : List (Place × Bool)) (n : ℕ)
        (place : Place) → slice_get fs k ≡ Some f → slice_get (sites_of (thread_program P f)) q ≡ Some s →
        slice_get end.found k ≡ Some found → Contains (access_verdicts_of found) (q, js) →
        slice_get js n ≡ Some (place, true) →
        OutOfBoundsThread P fs k (point_of s) n → ⊥
    -- each number that a thread gives a global is in the thread's interval for it
    pub gives : (k x : ℕ) (z : ℤ) → ThreadWritesValue P fs k x z → HasWritten end.table k x z

-- the graph is the instrumented one of a tree of the program with this function in the place of `main`
pub record IsThread (P : Program) (f : Function) (graph : InlinedProgram) : Type 0 where
  pub well : IsWellFormed (thread_program P f)
  pub tree : Node
  pub is_graph : IsInlinedTree (thread_program P f) tree
  pub opens : node_view graph.tree ≡ instrumented (length P.globals) tree

-- a graph for each function
abbrev pub AreThreads : Program → List Function → List InlinedProgram → Type 0
AreThreads P fs graphs = (k : ℕ) (f : Function) → slice_get fs k ≡ Some f →
    (graph : InlinedProgram) × (slice_get graphs k ≡ Some graph) × IsThread P f graph

abbrev pub ThreadsHold : Type 0
ThreadsHold = (P : Program) (fs : List Function) (graphs : List InlinedProgram) (end : ThreadsFixpoint ThreadResult) →
    AreThreads P fs graphs → AllHold P.globals graphs end → HoldsInterleaved P fs end
