-- Each thread runs as one among others if the threads' trees give only what was said.
use Rattle.std.proofs.Common.{◌≡◌, ◌<◌, ℕ, ℤ, List, length, Some, slice_get}
use Rattle.lra_interference_sound.specs.Crates.lra_program.Program.{Function, Program}
use Rattle.lra_interference_sound.specs.Crates.{lra_operations.TracesAgree.KeepsWidth, lra_program.Run.Point, lra_program.Step.State, lra_program.Traces.Trace}
use Rattle.lra_interleavings.specs.{Interleavings.thread_program, ThreadModular.ThreadWritesUnder}
use Rattle.lra_interleavings.proofs.ThreadRuns.{threads_are_modular}
use Rattle.lra_interference_sound.specs.WritesAgree.{TreesWriteWithin, ModularByTrees}
use Rattle.lra_interference_sound.proofs.Writes.{writes_agree}

module _ (P : Program) (fs : List Function) (Within : ℕ → ℕ → ℤ → Type 0) (may : ℕ → State → State → Type 0) (keeps : (k : ℕ) → KeepsWidth (may k))
    (trees : TreesWriteWithin P fs Within may) where
  gives_within : (k x : ℕ) (z : ℤ) (a : Trace Point) → ThreadWritesUnder P fs Within may k x a → x < length P.globals → slice_get a.state.store x ≡ Some z
      → Within k x z
  gives_within k x z a r less v =
      let tree = trees k r.function r.is_thread in
      let there = writes_agree (may k) (keeps k) (thread_program P r.function) tree.0 tree.1 r.draws x a r.does in
      tree.2 r.draws there.0 x z a there.1 less v

pub interleaved_by_trees : ModularByTrees
interleaved_by_trees P fs Within may allowed keeps trees = threads_are_modular P fs Within may allowed (gives_within P fs Within may keeps trees)
