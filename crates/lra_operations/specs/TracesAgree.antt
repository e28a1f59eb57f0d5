-- What the tree of a whole program must guarantee to traces: each run of the program is one of the tree, with the same
-- trace, and each of the tree is one of the program.
use Rattle.std.specs.Prelude.{◌≡◌, ◌↔◌, ℕ, ℤ, List, [], ◌∷◌, length, Option, Some, None, slice_get}
use Rattle.lra_program.specs.Traces.{TraceEvent, visit, Trace, NoChange, Arrives, ViolatesAssertion}
use Rattle.lra_program.specs.{Program.Program, Run.begun, Run.Point, Sites.Site, Sites.sites_of, Step.State}
use Rattle.lra_operations.specs.Traces.{to_point, to_failure, Stop, stopped, RunsUpTo}
use Rattle.lra_operations.specs.{Agree.IsInlinedTree, Agree.point_of, Agree.AreDistinct, Tree.Node}

-- the point that has the number in the list; if it has none, a point of no meaning
abbrev pub point_or_none : Option Site → Point
point_or_none None = record { path = []; label = 0 }
point_or_none (Some s) = point_of s

abbrev pub point_at : List Site → ℕ → Point
point_at T number = point_or_none (slice_get T number)

-- what may happen at a point brings no variable, and takes none away
abbrev pub KeepsWidth : (State → State → Type 0) → Type 0
KeepsWidth may = (s t : State) → may s t → length t.store ≡ length s.store

module _ (may : State → State → Type 0) (P : Program) (g : Node) where
  -- the tree of the program, begun with these draws, goes so far on this trace
  abbrev pub TreeRunsUpTo : List ℤ → Stop → Trace Point → Type 0
  TreeRunsUpTo draws z a =
      RunsUpTo (point_at (sites_of P)) may g (record { state = begun P draws; events = [] }) (stopped z) a

  pub record TracesAgree : Type 0 where
    -- a run reaches the point on the trace exactly if the tree does
    pub comes : (number : ℕ) (s : Site) (draws : List ℤ) (a : Trace Point) →
        slice_get (sites_of P) number ≡ Some s →
        (Arrives may P draws (point_of s) a ↔ TreeRunsUpTo draws (to_point number) a)
    -- and fails there exactly if the tree does
    pub fails : (number : ℕ) (s : Site) (draws : List ℤ) (a : Trace Point) →
        slice_get (sites_of P) number ≡ Some s →
        (ViolatesAssertion may P draws (point_of s) a ↔ TreeRunsUpTo draws (to_failure number) a)
    -- the store has as many variables as live there
    pub width : (number : ℕ) (s : Site) (draws : List ℤ) (a : Trace Point) →
        slice_get (sites_of P) number ≡ Some s → TreeRunsUpTo draws (to_point number) a → length a.state.store ≡ s.live
    -- no run is at another point
    pub others : (p : Point) (draws : List ℤ) (a : Trace Point) → Arrives may P draws p a → (number : ℕ) ×
        (s : Site) × (slice_get (sites_of P) number ≡ Some s) × (p ≡ point_of s)
    -- each point that was met is one to which the tree comes, on what was met before it
    pub before : (number : ℕ) (draws : List ℤ) (a : Trace Point) (p : Point) (t : State)
        (xs : List (TraceEvent Point)) →
        TreeRunsUpTo draws (to_point number) a → a.events ≡ visit p t ∷ xs → (earlier : ℕ) × (s : Site) ×
        (slice_get (sites_of P) earlier ≡ Some s) × (p ≡ point_of s) ×
        TreeRunsUpTo draws (to_point earlier) (record { state = t; events = xs })
    -- before a failure the tree is at its point, which is met last
    pub denied : (number : ℕ) (draws : List ℤ) (a : Trace Point) → TreeRunsUpTo draws (to_failure number) a →
        (b : Trace Point) × TreeRunsUpTo draws (to_point number) b × may b.state a.state ×
        (a.events ≡ visit (point_at (sites_of P) number) b.state ∷ b.events)

-- each tree of a program, which runs alone, has the program's traces. For other changes at points that keep the store's
-- length it is the lemma from which this follows (`traces_agree` of lra_inline's proofs)
abbrev pub TreesHaveTraces : Type 0
TreesHaveTraces = (P : Program) (g : Node) → AreDistinct (sites_of P) → IsInlinedTree P g → TracesAgree NoChange P g
