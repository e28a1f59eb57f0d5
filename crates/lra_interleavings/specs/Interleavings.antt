-- Runs of several threads beside each other. A thread is a function without parameters; its program is the whole one
-- with that function in the place of `main`, so points, steps and what stops a run are those of a program that runs
-- alone. The threads share the global variables and the global arrays; all else is each one's own.
use Rattle.std.specs.Prelude.{◌≡◌, ◌⊎◌, ◌<◌, ℕ, suc, ℤ, List, [], ◌∷◌, ◌++◌, length, map, take, drop, Option, Some}
use Rattle.std.specs.{List.AllByRecursion, Prelude.None, Prelude.slice_get, Prelude.slice_set, Prelude.IsTrue}
use Rattle.lra_program.specs.Run.{zeros, start, label_on, Point, IsOn, IsFailing}
use Rattle.lra_program.specs.{Accesses.IsOutOfBounds, Arrays.Contents, Arrays.elements_of, Program.Function}
use Rattle.lra_program.specs.{Program.Program, Step.State, Step.CallContext, Step.Item, Step.Config, Step.next}
use Rattle.lra_program.specs.{Traces.TraceEvent, Traces.visit, Traces.NoChange, Traces.TracedSteps, Value.is_word}
use Rattle.lra_program.specs.{declared.arrays.Array.Array, declared.program.GlobalVariable.GlobalVariable}
use Rattle.lra_interleavings.specs.Writes.{StepWrites}

-- the program of the thread whose function this is
abbrev pub thread_program : Program → Function → Program
thread_program P f = record P { main = f }

-- configurations ---------------------------------------------------------------------------------------------------

-- what is a thread's own: its items, the call that runs, its variables after the globals, what its arrays hold, the
-- indexes that wait, and the draws that are left to it
pub record Thread : Type 0 where
  pub items : List Item
  pub here : CallContext
  pub variables : List ℤ
  pub arrays : Contents
  pub waiting : List ℕ
  pub draws : List ℤ

-- what all share, and the threads in the order of their numbers; none if one has ended
pub record Threads : Type 0 where
  pub globals : List ℤ
  pub arrays : Contents
  pub threads : List (Option Thread)

-- what the thread sees: the globals and then its own variables; of a global array what all share
abbrev pub seen_by : Threads → Thread → State
seen_by w t = record {
  store = w.globals ++ t.variables;
  arrays = w.arrays ++ t.arrays;
  waiting = t.waiting;
  draws = t.draws;
}

abbrev pub sees : Threads → Thread → Config
sees w t = record { items = t.items; here = t.here; state = seen_by w t }

-- what a configuration leaves to its thread, of which the first n variables are shared; what it still says of global
-- arrays comes after what all share, and isn't read
abbrev pub own_of : ℕ → Config → Thread
own_of n c = record {
  items = c.items;
  here = c.here;
  variables = drop n c.state.store;
  arrays = c.state.arrays;
  waiting = c.state.waiting;
  draws = c.state.draws;
}

-- what the global arrays hold
abbrev pub shared_in : List Array → Contents → Contents
shared_in arrays cs = map (λ (a : Array). (a.declared, elements_of a.declared cs)) arrays

-- the k-th thread stands at this configuration, and what that has of the globals is there for all
abbrev pub left_by : Program → Threads → ℕ → Config → Threads
left_by P w k c = record {
  globals = take (length P.globals) c.state.store;
  arrays = shared_in P.arrays c.state.arrays;
  threads = slice_set w.threads k (Some (own_of (length P.globals) c));
}

-- the k-th thread has ended; nothing else changes
abbrev pub ended : Threads → ℕ → Threads
ended w k = record w { threads = slice_set w.threads k None }

-- steps ------------------------------------------------------------------------------------------------------------

-- Steps of the program alone, n of them, lead from one configuration, with this point on top, to another; the point is
-- met, and no further one.
abbrev pub LeadsOn : Program → ℕ → Point → Config → Config → Type 0
LeadsOn P n p c d = IsOn c p × TracedSteps NoChange P n c [] d (visit p c.state ∷ [])

-- if no step follows, and no point is on top
abbrev pub IsOver : Program → Config → Type 0
IsOver P c = (label_on c.items ≡ None) × (next P c ≡ None)

module _ (P : Program) (fs : List Function) where
  -- the k-th thread runs there
  pub record RunsThere (w : Threads) (k : ℕ) (f : Function) (t : Thread) : Type 0 where
    pub function : slice_get fs k ≡ Some f
    pub thread : slice_get w.threads k ≡ Some (Some t)

  -- from its point to its next one
  pub record StepsToPoint (w : Threads) (k : ℕ) (v : Threads) : Type 0 where
    pub function : Function
    pub thread : Thread
    pub runs : RunsThere w k function thread
    pub from : Point
    pub to : Point
    pub steps : ℕ
    pub config : Config
    pub leads : LeadsOn (thread_program P function) steps from (sees w thread) config
    pub arrives : IsOn config to
    pub after : v ≡ left_by P w k config

  -- from its point to where no step follows, which may be the point: it returns, stops, or fails. Nothing that it does
  -- on this way is there for the others.
  pub record StepsToEnd (w : Threads) (k : ℕ) (v : Threads) : Type 0 where
    pub function : Function
    pub thread : Thread
    pub runs : RunsThere w k function thread
    pub from : Point
    pub steps : ℕ
    pub config : Config
    pub stops : (IsOn (sees w thread) from × (next (thread_program P function) (sees w thread) ≡ None)) ⊎
        (LeadsOn (thread_program P function) steps from (sees w thread) config ×
        IsOver (thread_program P function) config)
    pub after : v ≡ ended w k

  -- one step of them together
  abbrev pub ThreadStep : Threads → ℕ → Threads → Type 0
  ThreadStep w k v = StepsToPoint w k v ⊎ StepsToEnd w k v

  -- the thread stands at its first point, with any draws of 64 bits
  pub record IsAtFirst (f : Function) (t : Thread) : Type 0 where
    pub draws : List ℤ
    pub words : AllByRecursion (λ z. IsTrue (is_word z)) draws
    pub steps : ℕ
    pub config : Config
    pub point : Point
    pub walks : TracedSteps NoChange (thread_program P f) steps (start (thread_program P f) draws) [] config []
    pub arrives : IsOn config point
    pub own : t ≡ own_of (length P.globals) config

  -- each thread at its first point, the globals at their first values, with zeros in the global arrays
  pub record AreBegun (w : Threads) : Type 0 where
    pub globals : w.globals ≡ map (λ (g : GlobalVariable). g.value) P.globals
    pub arrays : w.arrays ≡ map zeros P.arrays
    pub count : length w.threads ≡ length fs
    pub first : (k : ℕ) (f : Function) → slice_get fs k ≡ Some f → (t : Thread) ×
        (slice_get w.threads k ≡ Some (Some t)) × IsAtFirst f t

  -- some list of steps leads there
  pub data Interleaves : Threads → Type 0 where
    begins : (w : Threads) → AreBegun w → Interleaves w
    moves : (w v : Threads) (k : ℕ) → Interleaves w → ThreadStep w k v → Interleaves v

  -- what is said of threads ------------------------------------------------------------------------------------------

  -- after some list of steps the k-th thread has the point on top
  pub record StandsAt (k : ℕ) (p : Point) (w : Threads) (f : Function) (t : Thread) : Type 0 where
    pub reached : Interleaves w
    pub runs : RunsThere w k f t
    pub on : IsOn (sees w t) p

  -- after some list of steps the k-th thread has the point on top, and sees this store
  abbrev pub AtThread : ℕ → Point → List ℤ → Type 0
  AtThread k p store = (w : Threads) × (f : Function) × (t : Thread) × StandsAt k p w f t ×
      ((seen_by w t).store ≡ store)

  -- after some list of steps the k-th thread has the point on top, and the assertion there is false
  abbrev pub FailsThread : ℕ → Point → Type 0
  FailsThread k p = (w : Threads) × (f : Function) × (t : Thread) × StandsAt k p w f t ×
      IsFailing t.items t.here (seen_by w t)

  -- after some list of steps the k-th thread evaluates the point's n-th access, counted from 0, outside its array
  abbrev pub OutOfBoundsThread : ℕ → Point → ℕ → Type 0
  OutOfBoundsThread k p n = (w : Threads) × (f : Function) × (t : Thread) × StandsAt k p w f t ×
      IsOutOfBounds (thread_program P f) n t.items t.here (seen_by w t)

  -- the k-th thread gives the global x the value z: one of the steps from its point to its next one does
  pub record ThreadWritesValue (k x : ℕ) (z : ℤ) : Type 0 where
    pub global : x < length P.globals
    pub before : Threads
    pub after : Threads
    pub reached : Interleaves before
    pub goes : StepsToPoint before k after
    pub done : ℕ
    pub left : ℕ
    pub config : Config
    pub met : List (TraceEvent Point)
    pub first : TracedSteps NoChange (thread_program P goes.function) done (sees before goes.thread) [] config met
    pub rest : TracedSteps NoChange (thread_program P goes.function) (suc left) config met goes.config
        (visit goes.from (seen_by before goes.thread) ∷ [])
    pub state : State
    pub gives : StepWrites x state (thread_program P goes.function) config.items config.here config.state
    pub value : slice_get state.store x ≡ Some z
