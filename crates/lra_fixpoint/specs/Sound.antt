-- What is found of a program's tree of operations holds in all of the tree's runs.
use Rattle.std.specs.List.{Contains}
use Rattle.std.specs.Prelude.{◌≡◌, ℕ, ℤ, List, length, Bool, true, Some, slice_get}
use Rattle.lra_fixpoint.specs.Crates.{lra_analysis_spec.Analysis.IsUnreachable, lra_domain.Abstraction.Abstraction}
use Rattle.lra_fixpoint.specs.Crates.{lra_program.Program.Program, lra_program.Run.begun, lra_program.Step.State}
use Rattle.lra_operations.specs.Tree.{Node, ReachesPoint, FailsAt}

pub record HoldsInTree {V H : Type 0} (m : Abstraction V H) (P : Program) (tree : Node) (values : List V)
    (verdicts : List (ℕ × Bool)) : Type 0 where
  -- if a run reaches a point, the value there has its store, and as many dimensions as that has numbers
  pub stores : (q : ℕ) (draws : List ℤ) (t : State) → ReachesPoint tree (begun P draws) q t → (v : V) ×
      (slice_get values q ≡ Some v) × m.gamma v t.store × (m.dims v ≡ length t.store)
  -- no run fails an assertion that is proved
  pub proved : (q : ℕ) (draws : List ℤ) → Contains verdicts (q, true) → FailsAt tree (begun P draws) q → ⊥
  -- no run reaches a point whose value has no part
  pub unreached : (q : ℕ) (v : V) (draws : List ℤ) (t : State) → slice_get values q ≡ Some v → IsUnreachable m v →
      ReachesPoint tree (begun P draws) q t → ⊥
