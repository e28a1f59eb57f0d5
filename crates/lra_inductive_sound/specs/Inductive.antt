-- Values that are inductive along paths: whatever a path leads to, from a point of its source's value, is a point of
-- its target's value, and no path leads to where a proved assertion is false.
use Rattle.std.specs.Prelude.{◌≡◌, ℕ, suc, List, Bool, true, Option, Some, slice_get, Contains}
use Rattle.lra_inductive_sound.specs.Crates.lra_analysis_spec.Analysis.{LossyIteration, IsSolution}
use Rattle.lra_inductive_sound.specs.Crates.lra_analysis_spec.Pass.{value, failing, PassResult, jumps_of}
use Rattle.lra_inductive_sound.specs.Crates.lra_domain.Abstraction.{Abstraction}
use Rattle.lra_inductive_sound.specs.Crates.lra_operations.Tree.{Completion, normal, jump, Node}
use Rattle.lra_inductive_sound.specs.Crates.lra_path_disjuncts.SegmentMoves.{live_after_steps}
use Rattle.lra_inductive_sound.specs.Crates.lra_path_segments.Segments.{SegmentStep, Goal, comes_to, violates}
use Rattle.lra_inductive_sound.specs.Crates.lra_path_segments.Segments.{GoalSegment, Segment, Suffix, through, enter}
use Rattle.lra_inductive_sound.specs.Crates.lra_path_segments.Segments.{exit_suffixes, inside}
use Rattle.lra_inductive_sound.specs.Crates.lra_program.Sites.{Site, sites_of}
use Rattle.lra_inductive_sound.specs.Crates.{lra_analysis_spec.Plan.Plan, lra_domain.Actions.Action}
use Rattle.lra_inductive_sound.specs.Crates.{lra_path_disjuncts.Disjuncts.written, lra_program.Program.Program}
use Rattle.lra_paths.specs.Paths.{actions_between}
use Rattle.lra_inductive_sound.specs.Points.{PointsOf, LeadsBy}

-- programs: what is reported of an iteration ----------------------------------------------------------------------

-- at a point its value has it; if an assertion is false, that assertion isn't proved
abbrev pub IsAtGoal : {V H X : Type 0} → PointsOf V H X → List V → List (ℕ × Bool) → Goal → X → Type 0
IsAtGoal {V} o values verdicts (comes_to q) y = (w : V) × (slice_get values q ≡ Some w) × o.on w y
IsAtGoal o values verdicts (violates q) y = ¬ Contains verdicts (q, true)

-- the start has the number 0, the points those from 1 on
pub record AreInductive {V H X : Type 0} (o : PointsOf V H X) (P : Program) (g : Node) (values : List V)
    (verdicts : List (ℕ × Bool)) : Type 0 where
  -- from the start
  pub first : (goal : Goal) (actions : List Action) → Contains (actions_between P g 0 goal) actions → (x y : X) →
      o.bare x →
      LeadsBy o actions x y → IsAtGoal o values verdicts goal y
  -- from a point
  pub next : (p : ℕ) (s : Site) (v : V) (goal : Goal) (actions : List Action) → slice_get (sites_of P) p ≡ Some s →
      slice_get values p ≡ Some v → Contains (actions_between P g (suc p) goal) actions → (x y : X) → o.on v x →
      LeadsBy o actions x y → IsAtGoal o values verdicts goal y

-- each value has a dimension for each variable that lives at its point
abbrev pub AreWide : {V H : Type 0} → Abstraction V H → Program → List V → Type 0
AreWide {V} m P values = (p : ℕ) (v : V) → slice_get values p ≡ Some v → (s : Site) →
    slice_get (sites_of P) p ≡ Some s → m.dims v ≡ s.live

-- no assertion has two values where it is false
abbrev pub FailOnce : {V : Type 0} → PassResult V → Type 0
FailOnce {V} r = (q : ℕ) (u w : V) → Contains r.entries (failing q u) → Contains r.entries (failing q w) → u ≡ w

-- Of an iteration that isn't narrowed, flagged or not. Narrowed once, a loop's value is the join of what came in first
-- with what one round left, and if its body isn't monotone, as one with a loop, another round may lead out of that.
abbrev pub ValuesAreInductive : {V H X : Type 0} → Abstraction V H → PointsOf V H X → Type 0
ValuesAreInductive {V} m o = (set : Plan) (P : Program) (g : Node) (r : PassResult V) (values : List V)
    (verdicts : List (ℕ × Bool)) (flagged : Option ℕ) → set.narrow ≡ 0 → LossyIteration m set P g r →
    IsSolution m r values verdicts flagged → AreWide m P values → FailOnce r → AreInductive o P g values verdicts

-- trees: a pass --------------------------------------------------------------------------------------------------

-- the second value has a dimension for each variable that lives after the segment, and all points to which the segment
-- leads from those of the first
pub record Keeps {V H X : Type 0} (m : Abstraction V H) (o : PointsOf V H X) (v : V) (ops : List SegmentStep) (w : V)
    : Type 0 where
  pub dims : m.dims w ≡ live_after_steps (m.dims v) ops
  pub points : (actions : List Action) (x y : X) → Contains (written (m.dims v) ops) actions → o.on v x →
      LeadsBy o actions x y → o.on w y

-- one of these values does
abbrev pub KeptBy : {V H X : Type 0} → Abstraction V H → PointsOf V H X → V → List SegmentStep → (V → Type 0) → Type 0
KeptBy {V} m o v ops among = (w : V) × among w × Keeps m o v ops w

-- so it is from the value at the point of this number
abbrev pub KeptFrom : {V H X : Type 0} → Abstraction V H → PointsOf V H X → PassResult V → ℕ → List SegmentStep →
    (V → Type 0) →
    Type 0
KeptFrom {V} m o r q ops among = (v : V) × Contains r.entries (value q v) × KeptBy m o v ops among

-- the tree is left so with the value
abbrev pub IsExitValue : {V : Type 0} → PassResult V → Completion → V → Type 0
IsExitValue r normal v = v ≡ r.normal
IsExitValue r (jump j) v = Contains (jumps_of j r) v

-- the value is one at the point, or where the assertion there is false
abbrev pub IsGoalValue : {V : Type 0} → PassResult V → Goal → V → Type 0
IsGoalValue r (comes_to q) v = Contains r.entries (value q v)
IsGoalValue r (violates q) v = Contains r.entries (failing q v)

-- from this value through the tree, with this result
pub record IsInductiveThrough {V H X : Type 0} (m : Abstraction V H) (o : PointsOf V H X) (g : Node) (v : V)
    (r : PassResult V)
    : Type 0 where
  pub passes : (h : Completion) (ops : List SegmentStep) → Contains (through g h) ops →
      KeptBy m o v ops (IsExitValue r h)
  pub enters : (way : GoalSegment) → Contains (enter g) way → KeptBy m o v way.ops (IsGoalValue r way.goal)
  pub leaves : (h : Completion) (out : Suffix) → Contains (exit_suffixes g h) out →
      KeptFrom m o r out.source out.ops (IsExitValue r h)
  pub goes : (s : Segment) → Contains (inside g) s →
      KeptFrom m o r s.source s.to_goal.ops (IsGoalValue r s.to_goal.goal)
