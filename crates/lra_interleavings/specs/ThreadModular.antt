-- Why each thread runs as one among others. Whenever a point is on top in a run of a program, others may change its
-- state. If these changes are what the other threads give the globals, what a thread does beside them is such a run.
use Rattle.std.specs.List.{AllByRecursion}
use Rattle.std.specs.Prelude.{◌≡◌, ◌≢◌, ◌<◌, ℕ, ℤ, List, [], ◌∷◌, length, Some, slice_get, slice_set, Bool, IsTrue}
use Rattle.lra_program.specs.Step.{State, Op, Config, next_at}
use Rattle.lra_program.specs.Traces.{TraceEvent, visit, Trace, with_visit, Becomes, TracedSteps, Arrives}
use Rattle.lra_program.specs.{Accesses.OpOutOfBounds, NextOperation.NextOpIs, Program.Function, Program.Program}
use Rattle.lra_program.specs.{Run.start, Run.label_on, Run.Point, Run.IsOn, Traces.ViolatesAssertion, Value.is_word}
use Rattle.lra_interleavings.specs.Interleavings.{thread_program, AtThread, FailsThread, OutOfBoundsThread}
use Rattle.lra_interleavings.specs.{Interleavings.ThreadWritesValue, Writes.StepWrites}

-- what runs do ------------------------------------------------------------------------------------------------------

module _ (may : State → State → Type 0) where
  -- The point is passed, and what is on top is asked this, of the state that the trace ends with.
  abbrev pub NextOpIsThere : (Op → State → Type 0) → Program → List ℤ → Point → Trace Point → Type 0
  NextOpIsThere Q P draws p a =
      (n : ℕ) × (c : Config) × (xs : List (TraceEvent Point)) × TracedSteps may P n (start P draws) [] c xs ×
      IsOn c p × may c.state a.state × NextOpIs Q P c.items c.here a.state × (a.events ≡ visit p c.state ∷ xs)

  -- A step of a run gives the variable x a value; the trace ends with the state after that.
  abbrev pub WritesThere : Program → List ℤ → ℕ → Trace Point → Type 0
  WritesThere P draws x a = (n : ℕ) × (c : Config) × (xs : List (TraceEvent Point)) × (s : State) × (d : Config) ×
      TracedSteps may P n (start P draws) [] c xs × Becomes may (label_on c.items) c.state s ×
      (next_at P c.items c.here s ≡ Some d) × StepWrites x a.state P c.items c.here s ×
      (a.events ≡ with_visit (label_on c.items) c.here.path c.state xs)

-- what others do ----------------------------------------------------------------------------------------------------

-- any number of the first n variables get values, one after the other, each one that the variable may get
pub data RepeatedWrites (n : ℕ) (Gets : ℕ → ℤ → Type 0) : List ℤ → List ℤ → Type 0 where
  none : (s : List ℤ) → RepeatedWrites n Gets s s
  more : (s t : List ℤ) (x : ℕ) (z : ℤ) → RepeatedWrites n Gets s t → x < n → Gets x z →
      RepeatedWrites n Gets s (slice_set t x z)

-- Within: the values z that the j-th thread may give the global x
module _ (P : Program) (fs : List Function) (Within : ℕ → ℕ → ℤ → Type 0) where
  -- a thread other than the k-th may give it
  pub record OthersWrite (k x : ℕ) (z : ℤ) : Type 0 where
    pub giver : ℕ
    pub function : Function
    pub is_thread : slice_get fs giver ≡ Some function
    pub is_other : giver ≢ k
    pub within : Within giver x z

  -- what may become of the k-th thread's state: globals get what others give, arrays hold anything
  pub record OthersInterfere (k : ℕ) (s t : State) : Type 0 where
    pub store : RepeatedWrites (length P.globals) (OthersWrite k) s.store t.store
    pub waiting : t.waiting ≡ s.waiting
    pub draws : t.draws ≡ s.draws

  module _ (may : ℕ → State → State → Type 0) where
    abbrev pub AreAllowed : Type 0
    AreAllowed = (k : ℕ) (s t : State) → OthersInterfere k s t → may k s t

    -- a run of the k-th thread among others; the trace says where it is
    pub record RunUnder (Does : (State → State → Type 0) → Program → List ℤ → Trace Point → Type 0) (k : ℕ)
        (a : Trace Point) : Type 0 where
      pub function : Function
      pub is_thread : slice_get fs k ≡ Some function
      pub draws : List ℤ
      pub words : AllByRecursion (λ z. IsTrue (is_word z)) draws
      pub does : Does (may k) (thread_program P function) draws a

    abbrev pub ArrivesUnder : ℕ → Point → Trace Point → Type 0
    ArrivesUnder k p a = RunUnder (λ m Q draws b. Arrives m Q draws p b) k a

    abbrev pub ViolatesUnder : ℕ → Point → Trace Point → Type 0
    ViolatesUnder k p a = RunUnder (λ m Q draws b. ViolatesAssertion m Q draws p b) k a

    abbrev pub OutOfBoundsUnder : ℕ → Point → ℕ → Trace Point → Type 0
    OutOfBoundsUnder k p n a = RunUnder (λ m Q draws b. NextOpIsThere m (λ op s. OpOutOfBounds op s n) Q draws p b) k a

    abbrev pub ThreadWritesUnder : ℕ → ℕ → Trace Point → Type 0
    ThreadWritesUnder k x a = RunUnder (λ m Q draws b. WritesThere m Q draws x b) k a

    -- among others each thread gives the globals only such values
    abbrev pub WriteWithin : Type 0
    WriteWithin = (k x : ℕ) (z : ℤ) (a : Trace Point) → ThreadWritesUnder k x a → x < length P.globals →
        slice_get a.state.store x ≡ Some z → Within k x z

    -- then what each thread does beside the others it does in a run among others
    pub record IsThreadModular : Type 0 where
      -- up to what others do where it stands
      pub stands : (k : ℕ) (p : Point) (store : List ℤ) → AtThread P fs k p store → (a : Trace Point) × (s : State) ×
          ArrivesUnder k p a × may k a.state s × (s.store ≡ store)
      pub fails : (k : ℕ) (p : Point) → FailsThread P fs k p → (a : Trace Point) × ViolatesUnder k p a
      pub strays : (k : ℕ) (p : Point) (n : ℕ) → OutOfBoundsThread P fs k p n →
          (a : Trace Point) × OutOfBoundsUnder k p n a
      pub gives : (k x : ℕ) (z : ℤ) → ThreadWritesValue P fs k x z → (a : Trace Point) × ThreadWritesUnder k x a ×
          (slice_get a.state.store x ≡ Some z)
      -- so what it gives is as was said
      pub within : (k x : ℕ) (z : ℤ) → ThreadWritesValue P fs k x z → Within k x z

abbrev pub ThreadsAreModular : Type 1
ThreadsAreModular = (P : Program) (fs : List Function) (Within : ℕ → ℕ → ℤ → Type 0)
    (may : ℕ → State → State → Type 0) →
    AreAllowed P fs Within may → WriteWithin P fs Within may → IsThreadModular P fs Within may

-- the values given by a test; others give globals such values, and to arrays anything
abbrev pub TestedThreadsAreModular : Type 0
TestedThreadsAreModular = (P : Program) (fs : List Function) (within : ℕ → ℕ → ℤ → Bool) →
    let Within : ℕ → ℕ → ℤ → Type 0 = λ k x z. IsTrue (within k x z) in
    WriteWithin P fs Within (OthersInterfere P fs Within) → IsThreadModular P fs Within (OthersInterfere P fs Within)
