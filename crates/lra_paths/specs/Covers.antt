-- What paths must guarantee to runs: each piece of a run goes along one of them, and what they keep holds in all runs.
use Rattle.std.specs.Prelude.{◌≡◌, ℕ, suc, ℤ, List, [], ◌∷◌, Bool, IsTrue, Some, slice_get, Contains, length}
use Rattle.lra_paths.specs.Crates.lra_path_segments.Segments.{SegmentStep, Goal, comes_to, violates, through, enter}
use Rattle.lra_paths.specs.Crates.lra_path_segments.Segments.{exit_suffixes, inside, RunsOps}
use Rattle.lra_paths.specs.Crates.lra_program.Run.{start, Point, IsOn, Reaches, At, Fails, IsFailing}
use Rattle.lra_paths.specs.Crates.lra_program.Sites.{Site, sites_of}
use Rattle.lra_paths.specs.Crates.lra_program.Traces.{TraceEvent, visit, Trace, NoChange, TracedSteps, RunSegment}
use Rattle.lra_paths.specs.Crates.{lra_domain.Moves.SomeLeads, lra_program.Program.Program, lra_program.Step.State}
use Rattle.lra_paths.specs.Crates.{lra_program.Step.Config, lra_program.WellFormed.IsWellFormed}
use Rattle.lra_operations.specs.Traces.{by_jump, to_point, to_failure, RunExtent, to_end, stopped, RunsUpTo}
use Rattle.lra_operations.specs.{Agree.IsInlinedTree, Agree.point_of, Tree.normal, Tree.jump, Tree.Node}
use Rattle.lra_paths.specs.Paths.{live_at, actions_between}

-- trees ------------------------------------------------------------------------------------------------------------

-- the operations are those of a segment from the tree's start so far, past no point
abbrev pub IsFirstSegment : Node → RunExtent → List SegmentStep → Type 0
IsFirstSegment g to_end ops = Contains (through g normal) ops
IsFirstSegment g (stopped (by_jump j)) ops = Contains (through g (jump j)) ops
IsFirstSegment g (stopped (to_point q)) ops = Contains (enter g) (record { ops = ops; goal = comes_to q })
IsFirstSegment g (stopped (to_failure q)) ops = Contains (enter g) (record { ops = ops; goal = violates q })

-- the operations are those of a segment from the point in the tree so far, past no further point
abbrev pub IsNextSegment : ℕ → Node → RunExtent → List SegmentStep → Type 0
IsNextSegment p g to_end ops = Contains (exit_suffixes g normal) (record { source = p; ops = ops })
IsNextSegment p g (stopped (by_jump j)) ops = Contains (exit_suffixes g (jump j)) (record { source = p; ops = ops })
IsNextSegment p g (stopped (to_point q)) ops =
    Contains (inside g) (record { source = p; to_goal = record { ops = ops; goal = comes_to q } })
IsNextSegment p g (stopped (to_failure q)) ops =
    Contains (inside g) (record { source = p; to_goal = record { ops = ops; goal = violates q } })

-- the operations lead from the one state to the other; an assertion that is false leaves the store as it was
abbrev pub LeadsSo : RunExtent → List SegmentStep → State → State → Type 0
LeadsSo to_end ops s t = RunsOps ops s t
LeadsSo (stopped (by_jump j)) ops s t = RunsOps ops s t
LeadsSo (stopped (to_point q)) ops s t = RunsOps ops s t
LeadsSo (stopped (to_failure q)) ops s t = (u : State) × RunsOps ops s u × (u.store ≡ t.store)

-- the run has met no point, and has gone along a segment from the tree's start; or along one from the point that it met
-- last, to which the tree comes on what was met before
pub data HasGone {A : Type 0} (name : ℕ → A) (g : Node) (a : Trace A) (u : RunExtent) (b : Trace A) : Type 0 where
  along_first : (ops : List SegmentStep) → b.events ≡ a.events → IsFirstSegment g u ops →
      LeadsSo u ops a.state b.state →
      HasGone name g a u b
  along_next : (p : ℕ) (m : State) (before : List (TraceEvent A)) (ops : List SegmentStep) →
      b.events ≡ visit (name p) m ∷ before →
      RunsUpTo name NoChange g a (stopped (to_point p)) (record { state = m; events = before }) →
      IsNextSegment p g u ops → LeadsSo u ops m b.state → HasGone name g a u b

abbrev pub SegmentsCover : Type 0
SegmentsCover = (g : Node) (a : Trace ℕ) (u : RunExtent) (b : Trace ℕ) → RunsUpTo (λ q. q) NoChange g a u b →
    HasGone (λ q. q) g a u b

-- programs: well-formed ones, with the tree that stands for each -----------------------------------------------------

pub record PathsCover (P : Program) (g : Node) : Type 0 where
  -- from the start to the first point
  pub starts : (draws : List ℤ) (n : ℕ) (d : Config) (q : ℕ) (s : Site) →
      slice_get (sites_of P) q ≡ Some s → TracedSteps NoChange P n (start P draws) [] d [] →
      IsOn d (point_of s) → SomeLeads (actions_between P g 0 (comes_to q)) [] d.state.store
  -- from a point to the next one
  pub goes : (c d : Config) (p q : ℕ) (r s : Site) → slice_get (sites_of P) p ≡ Some r →
      slice_get (sites_of P) q ≡ Some s → Reaches P c → RunSegment NoChange P (point_of r) c d → IsOn d (point_of s) →
      SomeLeads (actions_between P g (suc p) (comes_to q)) c.state.store d.state.store
  -- where an assertion is false
  pub violated : (c : Config) (q : ℕ) (s : Site) → slice_get (sites_of P) q ≡ Some s → Reaches P c →
      IsOn c (point_of s) → IsFailing c.items c.here c.state →
      SomeLeads (actions_between P g (suc q) (violates q)) c.state.store c.state.store

abbrev pub AllPathsCover : Type 0
AllPathsCover = (P : Program) (g : Node) → IsWellFormed P → IsInlinedTree P g → PathsCover P g

-- the goal's point is one of the program's
abbrev pub IsGoalOf : Program → Goal → Type 0
IsGoalOf P (comes_to q) = (s : Site) × (slice_get (sites_of P) q ≡ Some s)
IsGoalOf P (violates q) = (s : Site) × (slice_get (sites_of P) q ≡ Some s)

-- What is kept of stores: each path from the start to a point leads to a store of which this holds, and so does each
-- path from a point with a store of which it holds.
pub record AreInductiveAlong (P : Program) (g : Node) (holds : Goal → List ℤ → Type 0) : Type 0 where
  pub first : (goal : Goal) (t : List ℤ) → IsGoalOf P goal → SomeLeads (actions_between P g 0 goal) [] t → holds goal t
  pub next : (p : ℕ) (r : Site) (goal : Goal) (s t : List ℤ) → slice_get (sites_of P) p ≡ Some r →
      length s ≡ live_at P p → IsGoalOf P goal → holds (comes_to p) s →
      SomeLeads (actions_between P g (suc p) goal) s t → holds goal t

-- it holds of the stores with which runs are at a point, and of one at each assertion that is false in some run
pub record HoldInAllRuns (P : Program) (holds : Goal → List ℤ → Type 0) : Type 0 where
  pub comes : (q : ℕ) (s : Site) (store : List ℤ) → slice_get (sites_of P) q ≡ Some s → At P (point_of s) store →
      holds (comes_to q) store
  pub fails : (q : ℕ) (s : Site) → slice_get (sites_of P) q ≡ Some s → Fails P (point_of s) → (store : List ℤ) ×
      holds (violates q) store

-- as a law of tests; for any relation it is the lemma from which this follows (`kept` of the proofs)
abbrev pub InductiveHolds : Type 0
InductiveHolds = (P : Program) (g : Node) → IsWellFormed P → IsInlinedTree P g → (holds : Goal → List ℤ → Bool) →
    AreInductiveAlong P g (λ goal t. IsTrue (holds goal t)) → HoldInAllRuns P (λ goal t. IsTrue (holds goal t))
