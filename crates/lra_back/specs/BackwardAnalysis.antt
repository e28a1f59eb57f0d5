-- Going back from an assertion of a program: what is found, and what is claimed of it.
use Rattle.std.specs.Prelude.{◌≡◌, ◌≢◌, ◌≤◌, ℕ, suc, ℤ, List, [], ◌∷◌, length, Option, Some, None, false, Contains}
use Rattle.std.specs.Prelude.{slice_get}
use Rattle.lra_domain.specs.{Abstraction.Abstraction, Actions.Action, Backward.BackwardAbstraction}
use Rattle.lra_domain.specs.{Changes.AllCanBeMade, Changes.dims_after_actions, declared.Exactness.Exactness}
use Rattle.lra_back.specs.Crates.lra_analysis_spec.Pass.{Filters, noted}
use Rattle.lra_back.specs.Crates.lra_path_segments.Segments.{Segment, comes_to, violates, does}
use Rattle.lra_back.specs.Crates.{lra_analysis_spec.Analysis.IsUnreachable, lra_analysis_spec.LiveLimit.most_live}
use Rattle.lra_program.specs.Assertions.{IsAssertion}
use Rattle.lra_program.specs.{Program.Program, Program.Cond, Run.Point, Run.IsOn, Run.IsFailing, Run.Reaches, Run.Steps}
use Rattle.lra_program.specs.{Sites.Site, Step.Config, Step.test, declared.program.GlobalVariable.GlobalVariable}
use Rattle.lra_operations.specs.Tree.{Node}
use Rattle.lra_paths.specs.Paths.{actions_between_in, next_segments}
use Rattle.lra_back.specs.Operations.{BackwardOperations, exact_back_operations, lossy_back_operations}
use Rattle.lra_back.specs.Operations.{straining_back_operations}
use Rattle.lra_back.specs.Rounds.{Task, AreStarted, Rounds, AreBackwardValues}

-- assertions -------------------------------------------------------------------------------------------------------

-- right after its point, to where its condition is false
abbrev pub violation_segment : ℕ → ℕ → Cond → Segment
violation_segment p base c =
    record { source = p; to_goal = record { ops = does (test base c false) ∷ []; goal = violates p } }

-- the condition is asserted at the point, and no other
abbrev pub IsAsserted : Node → ℕ → ℕ → Cond → Type 0
IsAsserted g p base c = next_segments g p (violates p) ≡ violation_segment p base c ∷ []

-- each site that asserts has one
abbrev pub AreAsserted : List Site → Node → Type 0
AreAsserted sites g = (p : ℕ) → IsAssertion sites p → (base : ℕ) × (c : Cond) × IsAsserted g p base c

-- paths ------------------------------------------------------------------------------------------------------------

-- each path between points can be made of a value with a dimension for each variable that lives at its source, and
-- leaves one for each that lives at its target
abbrev pub PathsFit : List GlobalVariable → List Site → Node → Type 0
PathsFit globals sites g = (p q : ℕ) (s r : Site) (path : List Action) → slice_get sites p ≡ Some s →
    slice_get sites q ≡ Some r → Contains (actions_between_in globals sites g (suc p) (comes_to q)) path →
    AllCanBeMade path s.live × (dims_after_actions path s.live ≡ r.live)

-- each value has a dimension for each variable that lives at its point; nowhere live more than may live where moves are
-- made
abbrev pub AreWide : {V H : Type 0} → Abstraction V H → List Site → List V → Type 0
AreWide {V} m sites values = (length values ≡ length sites) ×
    ((p : ℕ) (s : Site) (v : V) → slice_get sites p ≡ Some s → slice_get values p ≡ Some v →
    (m.dims v ≡ s.live) × (s.live ≤ most_live))

-- an iteration's values are gone back over --------------------------------------------------------------------------

-- points are counted from 0
abbrev pub task_of : {V : Type 0} → List GlobalVariable → List Site → Node → List V → ℕ → V → Task V
task_of globals sites g forward p seed = record {
  paths = λ q r. actions_between_in globals sites g (suc q) (comes_to r);
  forward = forward;
  assertion = p;
  seed = seed;
}

-- From forward values, with the first flagged point so far, to what is so at each point, by the operations: the seed is
-- what the forward value at the assertion leaves if its condition is false, and is made once; then come the rounds,
-- and last the meets, from the first point to the last.
pub record BackwardAnalysis {V H : Type 0} (ops : BackwardOperations V H) (globals : List GlobalVariable)
    (sites : List Site) (g : Node)
    (forward : List V) (f : Option ℕ) (p : ℕ) (values : List V) (flag : Option ℕ) : Type 0 where
  pub base : ℕ
  pub condition : Cond
  pub asserted : IsAsserted g p base condition
  pub at_assertion : V
  pub is_there : slice_get forward p ≡ Some at_assertion
  pub exactness : Exactness
  pub seed : V
  pub violated : Filters ops.forward base condition false at_assertion exactness seed
  pub first : List H
  pub started : AreStarted ops forward first
  pub last : List H
  pub rounds_flag : Option ℕ
  pub rounds : Rounds ops (task_of globals sites g forward p seed) (length forward) (noted p exactness f) first
      rounds_flag last
  pub met : AreBackwardValues ops 0 rounds_flag last forward flag values

-- what is found, flagged or not: without a flag it is what is defined; if the forward values have none, the first
-- flag stands where the definition exceeds a limit
pub record IsBackwardAnalysis {V H : Type 0} (m : Abstraction V H) (b : BackwardAbstraction V)
    (globals : List GlobalVariable) (sites : List Site)
    (g : Node) (forward : List V) (f : Option ℕ) (p : ℕ) (values : List V) (flag : Option ℕ) : Type 0 where
  pub drops : BackwardAnalysis (lossy_back_operations m b) globals sites g forward f p values flag
  pub written : flag ≡ None → BackwardAnalysis (exact_back_operations m b) globals sites g forward f p values flag
  pub strained : BackwardAnalysis (straining_back_operations m b) globals sites g forward f p values flag

-- proved is an assertion if no path from the start leads to a point at which something is left
abbrev pub NothingLeftAtStart : {V H : Type 0} → Abstraction V H → List GlobalVariable → List Site → Node → List V →
    Type 0
NothingLeftAtStart {V} m globals sites g values = (q : ℕ) (v : V) → slice_get values q ≡ Some v →
    actions_between_in globals sites g 0 (comes_to q) ≢ [] → IsUnreachable m v

-- runs that fail ----------------------------------------------------------------------------------------------------

-- some run reaches the point with the store, and goes on to where the assertion at the other one is false
pub record FailsFrom (P : Program) (assertion p : Point) (store : List ℤ) : Type 0 where
  pub there : Config
  pub reached : Reaches P there
  pub on : IsOn there p
  pub store_is : there.state.store ≡ store
  pub failing : Config
  pub count : ℕ
  pub steps : Steps P count there failing
  pub on_assertion : IsOn failing assertion
  pub fails : IsFailing failing.items failing.here failing.state
