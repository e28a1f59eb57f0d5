-- What a run of a program gives to a variable, a run of its tree gives to it, on the same trace.
use Rattle.std.specs.Prelude.{◌≡◌, ◌<◌, ℕ, ℤ, List, [], length, Some, Bool, IsTrue, slice_get}
use Rattle.lra_interference_sound.specs.Crates.lra_operations.Agree.{IsInlinedTree}
use Rattle.lra_interference_sound.specs.Crates.lra_operations.TracesAgree.{KeepsWidth, point_at}
use Rattle.lra_interference_sound.specs.Crates.lra_program.Program.{Function, Program}
use Rattle.lra_interference_sound.specs.Crates.lra_program.Run.{begun, Point}
use Rattle.lra_interference_sound.specs.Crates.{lra_operations.Tree.Node, lra_program.Sites.sites_of}
use Rattle.lra_interference_sound.specs.Crates.{lra_program.Step.State, lra_program.Traces.Trace}
use Rattle.lra_analysis_spec.specs.Instrumented.{WritesVariable}
use Rattle.lra_interleavings.specs.Interleavings.{thread_program}
use Rattle.lra_interleavings.specs.ThreadModular.{WritesThere, OthersInterfere, AreAllowed, IsThreadModular}

-- the tree of the program, begun with these draws, gives the variable x a value at the point; the trace ends after it
abbrev pub TreeWrites : (State → State → Type 0) → Program → Node → List ℤ → ℕ → ℕ → Trace Point → Type 0
TreeWrites may P g draws q x a =
    WritesVariable (point_at (sites_of P)) may g (record { state = begun P draws; events = [] }) q x a

abbrev pub WritesAgree : (State → State → Type 0) → Type 0
WritesAgree may = (P : Program) (g : Node) → IsInlinedTree P g → (draws : List ℤ) (x : ℕ) (a : Trace Point) →
    WritesThere may P draws x a → (q : ℕ) × TreeWrites may P g draws q x a

-- if other threads change globals by what they may give, as this test says
abbrev pub OthersWritesAgree : Type 0
OthersWritesAgree = (P : Program) (fs : List Function) (within : ℕ → ℕ → ℤ → Bool) (k : ℕ) →
    WritesAgree (OthersInterfere P fs (λ j x z. IsTrue (within j x z)) k)

-- whatever others may do that brings no variable, and takes none away
abbrev pub AllWritesAgree : Type 1
AllWritesAgree = (may : State → State → Type 0) → KeepsWidth may → WritesAgree may

-- among others each thread's tree gives the globals only such values
abbrev pub TreesWriteWithin : Program → List Function → (ℕ → ℕ → ℤ → Type 0) → (ℕ → State → State → Type 0) → Type 0
TreesWriteWithin P fs Within may = (k : ℕ) (f : Function) → slice_get fs k ≡ Some f → (g : Node) ×
    IsInlinedTree (thread_program P f) g × ((draws : List ℤ) (q x : ℕ) (z : ℤ) (a : Trace Point) →
    TreeWrites (may k) (thread_program P f) g draws q x a → x < length P.globals →
    slice_get a.state.store x ≡ Some z → Within k x z)

-- so each thread runs as one among others
abbrev pub ModularByTrees : Type 1
ModularByTrees = (P : Program) (fs : List Function) (Within : ℕ → ℕ → ℤ → Type 0) (may : ℕ → State → State → Type 0) →
    AreAllowed P fs Within may → ((k : ℕ) → KeepsWidth (may k)) → TreesWriteWithin P fs Within may →
    IsThreadModular P fs Within may
