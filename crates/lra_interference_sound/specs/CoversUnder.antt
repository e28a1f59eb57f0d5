-- What a pass among others must guarantee: its values have all stores of the runs, among these others, of the program's
-- own tree.
use Rattle.std.specs.List.{Contains}
use Rattle.std.specs.Prelude.{◌≡◌, ◌<◌, ℕ, ℤ, List, Option, Bool}
use Rattle.lra_interference_sound.specs.Crates.lra_base.declared.case_labels.CaseLabel.{CaseLabel}
use Rattle.lra_interference_sound.specs.Crates.lra_domain.Abstraction.{Abstraction}
use Rattle.lra_interference_sound.specs.Crates.lra_domain.Interference.{Interference, RelyClosure}
use Rattle.lra_interference_sound.specs.Crates.lra_operations.Traces.{Stop, by_jump, to_point, to_failure, to_end}
use Rattle.lra_interference_sound.specs.Crates.lra_operations.Traces.{stopped, RunsUpTo, ArmsRunUpTo}
use Rattle.lra_interference_sound.specs.Crates.lra_operations.Tree.{Node, Arms}
use Rattle.lra_interference_sound.specs.Crates.{lra_program.Step.State, lra_program.Traces.Trace}
use Rattle.lra_analysis_spec.specs.Instrumented.{instrumented, WritesVariable, ArmsWriteVariable}
use Rattle.lra_analysis_spec.specs.Pass.{value, failing, recorded, PassResult, jumps_of}
use Rattle.lra_analysis_spec.specs.{Plan.Plan, UnderInterference.LossyPass}
use Rattle.lra_analysis_spec.proofs.Covers.{Has, SomeHas}

-- what others may do to a run's state: any number of changes of its store, and anything to what arrays hold
pub record MayBecome (may : List ℤ → List ℤ → Type 0) (s t : State) : Type 0 where
  pub store : RelyClosure may s.store t.store
  pub waiting : t.waiting ≡ s.waiting
  pub draws : t.draws ≡ s.draws

-- where a run is looked at: where it stops, or after what gives the variable at the place a value at the point
pub data Moment : Type 0 where
  stop : Stop → Moment
  after_write : ℕ → ℕ → Moment

module _ {A : Type 0} (name : ℕ → A) (may : State → State → Type 0) where
  abbrev pub Happens : Node → Trace A → Moment → Trace A → Type 0
  Happens g a (stop z) b = RunsUpTo name may g a (stopped z) b
  Happens g a (after_write p x) b = WritesVariable name may g a p x b

  abbrev pub ArmsHappen : CaseLabel → Bool → Arms → Trace A → Moment → Trace A → Type 0
  ArmsHappen l met arms a (stop z) b = ArmsRunUpTo name may l met arms a (stopped z) b
  ArmsHappen l met arms a (after_write p x) b = ArmsWriteVariable name may l met arms a p x b

module _ {V H : Type 0} (m : Abstraction V H) (may : State → State → Type 0) (n : ℕ) where
  -- what the result has of this state: at a point whatever becomes of it there; what the first n variables get is noted
  abbrev pub Owes : PassResult V → Moment → State → Type 0
  Owes r (stop (by_jump k)) s = SomeHas m (jumps_of k r) s.store
  Owes r (stop (to_point p)) s = (t : State) → may s t → (w : V) × Contains r.entries (value p w) × Has m w t.store
  Owes r (stop (to_failure p)) s = (w : V) × (t : State) × Contains r.entries (failing p w) × Has m w t.store
  Owes r (after_write p x) s = x < n → (w : V) × Contains r.entries (recorded p x w) × Has m w s.store

module _ {A V H : Type 0} (name : ℕ → A) (may : State → State → Type 0) (n : ℕ) (m : Abstraction V H) where
  pub record CoversUnder (g : Node) (a : Trace A) (r : PassResult V) : Type 0 where
    pub ends : (b : Trace A) → RunsUpTo name may g a to_end b → Has m r.normal b.state.store
    pub finds : (i : Moment) (b : Trace A) → Happens name may g a i b → Owes m may n r i b.state

  -- of a loop's body: what others make of what reaches its end
  pub record BodyCovers (g : Node) (a : Trace A) (r : PassResult V) : Type 0 where
    pub ends : (b : Trace A) → RunsUpTo name may g a to_end b → (t : State) → may b.state t → Has m r.normal t.store
    pub finds : (i : Moment) (b : Trace A) → Happens name may g a i b → Owes m may n r i b.state

  -- of arms, by the label to which a value goes, and whether it was met
  pub record ArmsCoverUnder (l : CaseLabel) (met : Bool) (arms : Arms) (a : Trace A) (r : PassResult V) : Type 0 where
    pub ends : (b : Trace A) → ArmsRunUpTo name may l met arms a to_end b → Has m r.normal b.state.store
    pub finds : (i : Moment) (b : Trace A) → ArmsHappen name may l met arms a i b → Owes m may n r i b.state

-- a pass among others over a tree with their places in it, from a store of its value: each run of the tree among them;
-- what the first n variables get is noted
abbrev pub PassesCoverUnder : {V H : Type 0} → Interference V → Abstraction V H → Type 0
PassesCoverUnder {V} o m = (set : Plan) (n : ℕ) (g : Node) (f : Option ℕ) (v : V) (r : PassResult V)
    → LossyPass o m set (instrumented n g) f v r → (a : Trace ℕ) → Has m v a.state.store
    → CoversUnder (λ q. q) (MayBecome o.rely) n m g a r
