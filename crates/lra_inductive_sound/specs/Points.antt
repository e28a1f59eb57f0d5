-- Points of a domain's values and heads, of any kind: stores of whole numbers, or rational points. How actions lead
-- from one to another, and what the operations of an iteration must guarantee to them.
use Rattle.std.specs.Prelude.{◌≡◌, ℕ, List, [], ◌∷◌}
use Rattle.lra_inductive_sound.specs.Crates.lra_domain.Abstraction.{Abstraction, Starts, Values}
use Rattle.lra_inductive_sound.specs.Crates.lra_domain.declared.Exactness.{Exactness}
use Rattle.lra_inductive_sound.specs.Crates.lra_systems.LinearSystems.{LinearSystem}
use Rattle.lra_inductive_sound.specs.Crates.{lra_domain.Actions.Action, lra_domain.declared.Included.TheVariants.Yes}
use Rattle.lra_inductive_sound.specs.Crates.{lra_domain.declared.Mode.Mode, lra_linear_spec.declared.ConKind.ConKind}

pub record PointsOf (V H X : Type 0) : Type 1 where
  -- the point is one of the value, of the head
  pub on : V → X → Type 0
  pub head_on : H → X → Type 0
  -- it is one of no dimension, as when no variable lives
  pub bare : X → Type 0
  -- the action may lead from the first point to the second
  pub leads : Action → X → X → Type 0

-- the actions, one after the other, may lead from the first point to the second
abbrev pub LeadsBy : {V H X : Type 0} → PointsOf V H X → List Action → X → X → Type 0
LeadsBy o [] x y = y ≡ x
LeadsBy {V} {H} {X} o (step ∷ steps) x y = (z : X) × o.leads step x z × LeadsBy o steps z y

-- what an operation gives has the points of its operands, flagged or not
pub record KeepPoints {V H X : Type 0} (m : Abstraction V H) (o : PointsOf V H X) : Type 0 where
  -- the value with all stores of no variable has all points of no dimension
  pub begun : (cap : ℕ) (v : V) → m.well_formed v → m.top 0 cap v → (x : X) → o.bare x → o.on v x
  -- a value that keeps a change has the points to which the change leads
  pub changed : (step : Action) (v w : V) → m.well_formed w → m.keeps step v w → (x y : X) → o.on v x →
      o.leads step x y → o.on w y
  pub covered : (v w : V) → m.well_formed w → m.leq v w → (x : X) → o.on v x → o.on w x
  -- a head has the points of its first value, those of the head that it grew from, and those of what stays in it; its
  -- value has its points
  pub started : (v : V) (given : LinearSystem ConKind) (h : H) → Starts m v given h → (x : X) → o.on v x → o.head_on h x
  pub old : (h : H) (v : V) (next : H) → m.head_well_formed next → m.holds_both h v next → (x : X) → o.head_on h x →
      o.head_on next x
  pub stays : (h : H) (v : V) (mode : Mode) → m.head_well_formed h → m.answers h v mode Yes → (x : X) → o.on v x →
      o.head_on h x
  pub valued : (h : H) (e : Exactness) (v : V) → Values m h e v → (x : X) → o.head_on h x → o.on v x
  -- a value without parts has none
  pub partless : (v : V) → m.parts v ≡ [] → (x : X) → ¬ o.on v x
