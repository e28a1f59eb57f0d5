-- What a pass with drops must guarantee: its values have all stores of the tree's runs.
use Rattle.std.specs.{List.Contains, Prelude.◌≡◌, Prelude.ℕ, Prelude.ℤ, Prelude.List, Prelude.Some, Prelude.Bool}
use Rattle.lra_analysis_spec.specs.Crates.{lra_base.Operators.equal, lra_program.Program.Expr, lra_program.Step.State}
use Rattle.lra_analysis_spec.specs.Crates.{lra_program.Step.environment_at, lra_program.Step.Op, lra_program.Step.run_op, lra_program.Value.value_of, lra_program.Value.compares}
use Rattle.lra_domain.specs.{Abstraction.Abstraction, Actions.Within, Laws.Laws, declared.Exactness.Exactness, declared.Mode.Mode}
use Rattle.lra_operations.specs.Tree.{Exit, normal, jump, Node, Completes, ReachesPoint, FailsAt}
use Rattle.lra_analysis_spec.specs.{Operations.lossy_operations, Pass.value, Pass.failing, Pass.PassResult, Pass.OpTransfer, Pass.ValueIs, Pass.jumps_of}

-- the list is a store of a value that is held, or of a head that is
abbrev pub Has : {V H : Type 0} → Abstraction V H → V → List ℤ → Type 0
Has m v store = m.well_formed v × m.gamma v store

abbrev pub HeadHas : {V H : Type 0} → Abstraction V H → H → List ℤ → Type 0
HeadHas m h store = m.head_well_formed h × m.head_gamma h store

-- what is covered, and lies in a head, has no store beyond those of what covers it, and of the head
pub covered_has : {V H : Type 0} (m : Abstraction V H) → Laws m → (v w : V) → m.well_formed w → m.leq v w → Within (Has m v) (Has m w)
covered_has m laws v w fine covered s h = (fine, laws.leq_stores v w h.0 fine covered s h.1)

pub stays_has : {V H : Type 0} (m : Abstraction V H) → Laws m → (h : H) (v : V) (mode : Mode) → m.head_well_formed h → m.stays h v mode
    → Within (Has m v) (HeadHas m h)
stays_has m laws h v mode fine stays s own = (fine, laws.stays_stores h v mode fine own.0 stays s own.1)

-- one of the values has the store
abbrev pub SomeHas : {V H : Type 0} → Abstraction V H → List V → List ℤ → Type 0
SomeHas {V} m vs store = (w : V) × Contains vs w × Has m w store

-- a least change of a value keeps the stores to which the change leads
abbrev pub ChangesKeep : {V H : Type 0} → Abstraction V H → Type 0
ChangesKeep {V} m = (op : Op) (v : V) (e : Exactness) (w : V) → OpTransfer (lossy_operations m) op v e w → (s t : State) →
    Has m v s.store → run_op op s ≡ Some t → Has m w t.store

-- what is left of a value if an expression has another value, or has not, keeps each store at which it has the one
abbrev pub ValuesKeep : {V H : Type 0} → Abstraction V H → Type 0
ValuesKeep {V} m = (base : ℕ) (e : Expr) (z : ℤ) (wanted : Bool) (v : V) (x : Exactness) (w : V) → ValueIs (lossy_operations m) base e z wanted v x w
    → (s : State) (y : ℤ) (left : List ℤ) →
    Has m v s.store → value_of e (environment_at base s) s.draws ≡ Some (y, left) → compares equal y z ≡ wanted → Has m w s.store

-- the result has the stores of the tree's runs from this state: after the tree, at its jumps, at its points and where
-- an assertion fails
pub record Covers {V H : Type 0} (m : Abstraction V H) (g : Node) (s : State) (r : PassResult V) : Type 0 where
  pub ends : (t : State) → Completes g s normal t → Has m r.normal t.store
  pub leaves : (k : Exit) (t : State) → Completes g s (jump k) t → SomeHas m (jumps_of k r) t.store
  pub comes : (p : ℕ) (t : State) → ReachesPoint g s p t → (w : V) × Contains r.entries (value p w) × Has m w t.store
  pub fails : (p : ℕ) → FailsAt g s p → (w : V) × (t : State) × Contains r.entries (failing p w) × Has m w t.store
