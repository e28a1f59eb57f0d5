-- Runs with what they meet: each point that is passed, with the state in which the run came there. Whenever a point is
-- on top the state may change, as `may` says, before the step is taken; nothing changes it if a program runs alone.
use Rattle.std.specs.Prelude.{◌≡◌, ℕ, zero, suc, ℤ, List, [], ◌∷◌, Option, Some, None}
use Rattle.lra_program.specs.Run.{start, label_on, Point, IsOn, IsFailing}
use Rattle.lra_program.specs.{Program.Program, Step.State, Step.Config, Step.next_at}

-- what a run meets; A is what distinguishes points
pub data TraceEvent (A : Type 0) : Type 0 where
  -- the point, and the state that came there
  visit : A → State → TraceEvent A

-- a state, and what was met on the way to it, the latest first
pub record Trace (A : Type 0) : Type 0 where
  pub state : State
  pub events : List (TraceEvent A)

-- if the program runs alone
abbrev pub NoChange : State → State → Type 0
NoChange s t = t ≡ s

-- what is met on top, before what was met so far
abbrev pub with_visit : Option ℕ → List ℕ → State → List (TraceEvent Point) → List (TraceEvent Point)
with_visit None path s xs = xs
with_visit (Some label) path s xs = visit (record { path = path; label = label }) s ∷ xs

module _ (may : State → State → Type 0) where
  -- what may become of the state before the step
  abbrev pub Becomes : Option ℕ → State → State → Type 0
  Becomes None s t = t ≡ s
  Becomes (Some label) s t = may s t

  -- so many steps lead from the one, where the first list is met, to the other, where the second is
  abbrev pub TracedSteps : Program → ℕ → Config → List (TraceEvent Point) → Config → List (TraceEvent Point) → Type 0
  TracedSteps P zero c xs d ys = (c ≡ d) × (xs ≡ ys)
  TracedSteps P (suc n) c xs d ys = (s : State) × (e : Config) × Becomes (label_on c.items) c.state s ×
      (next_at P c.items c.here s ≡ Some e)
      × TracedSteps P n e (with_visit (label_on c.items) c.here.path c.state xs) d ys

  -- a run with these draws, any numbers, reaches the point on this trace
  abbrev pub Arrives : Program → List ℤ → Point → Trace Point → Type 0
  Arrives P draws p a =
      (n : ℕ) × (c : Config) × TracedSteps P n (start P draws) [] c a.events × IsOn c p × (c.state ≡ a.state)

  -- a run with these draws reaches the point on this trace; it is that of an assertion, which is passed, and false in
  -- the state that the trace ends with
  abbrev pub ViolatesAssertion : Program → List ℤ → Point → Trace Point → Type 0
  ViolatesAssertion P draws p a =
      (n : ℕ) × (c : Config) × (xs : List (TraceEvent Point)) × TracedSteps P n (start P draws) [] c xs × IsOn c p ×
      may c.state a.state × IsFailing c.items c.here a.state × (a.events ≡ visit p c.state ∷ xs)

  -- from the one, where the point is on top, to the other, past no further point; it may stand anywhere before that
  abbrev pub RunSegment : Program → Point → Config → Config → Type 0
  RunSegment P p c d = IsOn c p × (n : ℕ)
      × ((xs : List (TraceEvent Point)) → TracedSteps P n c xs d (visit p c.state ∷ xs))
