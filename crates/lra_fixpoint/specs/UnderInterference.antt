-- What is found of a program's tree among others holds in all runs of the program's own tree among them.
use Rattle.std.specs.List.{Contains}
use Rattle.std.specs.Prelude.{◌≡◌, ◌<◌, ℕ, ℤ, List, [], length, Bool, true, Some, slice_get}
use Rattle.lra_fixpoint.specs.Crates.lra_analysis_spec.Instrumented.{WritesVariable}
use Rattle.lra_fixpoint.specs.Crates.{lra_analysis_spec.Analysis.IsUnreachable, lra_domain.Abstraction.Abstraction}
use Rattle.lra_fixpoint.specs.Crates.{lra_domain.Interference.Interference, lra_program.Program.Program}
use Rattle.lra_fixpoint.specs.Crates.{lra_program.Run.begun, lra_program.Step.State, lra_program.Traces.Trace}
use Rattle.lra_operations.specs.Traces.{Stop, to_point, to_failure, stopped, RunsUpTo}
use Rattle.lra_operations.specs.Tree.{Node}
use Rattle.lra_interference_sound.specs.CoversUnder.{MayBecome}

-- where a run with these draws begins; in its trace each point is named by its number
abbrev pub begins : Program → List ℤ → Trace ℕ
begins P draws = record { state = begun P draws; events = [] }

-- a run among others goes so far
abbrev pub RunsUnder : {V : Type 0} → Interference V → Program → Node → List ℤ → Stop → Trace ℕ → Type 0
RunsUnder o P g draws z a = RunsUpTo (λ q. q) (MayBecome o.rely) g (begins P draws) (stopped z) a

-- it reaches where an operation of the point q has just given the variable at this place a value
abbrev pub WritesUnder : {V : Type 0} → Interference V → Program → Node → List ℤ → ℕ → ℕ → Trace ℕ → Type 0
WritesUnder o P g draws q place a = WritesVariable (λ q. q) (MayBecome o.rely) g (begins P draws) q place a

-- g is the program's own tree
pub record HoldsUnder {V H : Type 0} (o : Interference V) (m : Abstraction V H) (P : Program) (g : Node)
    (values : List V)
    (notes : List (ℕ × ℕ × V)) (verdicts : List (ℕ × Bool)) : Type 0 where
  -- if a run reaches a point, and whatever others do there, the value there has its store, and as many dimensions
  -- as that has numbers
  pub stores : (q : ℕ) (draws : List ℤ) (a : Trace ℕ) (t : State) → RunsUnder o P g draws (to_point q) a →
      MayBecome o.rely a.state t →
      (v : V) × (slice_get values q ≡ Some v) × m.gamma v t.store × (m.dims v ≡ length t.store)
  -- no run fails an assertion that is proved
  pub proved : (q : ℕ) (draws : List ℤ) (a : Trace ℕ) → Contains verdicts (q, true) →
      RunsUnder o P g draws (to_failure q) a → ⊥
  -- no run reaches a point whose value has no part
  pub unreached : (q : ℕ) (v : V) (draws : List ℤ) (a : Trace ℕ) → slice_get values q ≡ Some v → IsUnreachable m v →
      RunsUnder o P g draws (to_point q) a → ⊥
  -- where a variable has just got a value that is noted, a note there has the store
  pub gives : (q place : ℕ) (draws : List ℤ) (a : Trace ℕ) → place < length P.globals →
      WritesUnder o P g draws q place a → (v : V) × Contains notes (q, place, v) × m.gamma v a.state.store
