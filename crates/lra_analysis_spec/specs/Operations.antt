-- The operations of which an iteration is made. Each is a relation of its operands, its exactness and its result, so
-- that one definition of the iteration serves for the written one, for one in which operations may be flagged, and for
-- if one exceeds a limit.
use Rattle.std.specs.Prelude.{◌≡◌, ℕ}
use Rattle.lra_analysis_spec.specs.Crates.lra_linear_spec.declared.ConKind.{ConKind}
use Rattle.lra_analysis_spec.specs.Crates.lra_systems.LinearSystems.{LinearSystem}
use Rattle.lra_domain.specs.Abstraction.{Abstraction, TransfersTo, Joins, Starts, GrowthStrains, Grew, Values}
use Rattle.lra_domain.specs.declared.Exactness.TheVariants.{Exact, Flagged}
use Rattle.lra_domain.specs.{Actions.Action, Actions.dims_after, Parts.CapsWithin, declared.Exactness.Exactness}
use Rattle.lra_domain.specs.{declared.Included.TheVariants.Yes, declared.Mode.Mode}

pub record Operations (V H : Type 0) : Type 1 where
  pub dims : V → ℕ
  -- the value of so many dimensions and this cap that has all stores; that has none
  pub top : ℕ → ℕ → V → Type 0
  pub bottom : ℕ → ℕ → V → Type 0
  pub changed : Action → V → Exactness → V → Type 0
  pub joined : V → V → Exactness → V → Type 0
  -- a loop's head starts with a value and the widening thresholds; it is stable under the next value, or grows by it;
  -- its value
  pub started : V → LinearSystem ConKind → H → Type 0
  pub stays : H → V → Mode → Type 0
  pub grown : H → V → Mode → Exactness → H → Type 0
  pub valued : H → Exactness → V → Type 0

-- every operation is exact and gives its defined result
abbrev pub exact_operations : {V H : Type 0} → Abstraction V H → Operations V H
exact_operations m = record {
  dims = m.dims;
  top = m.top;
  bottom = m.bottom;
  changed = λ step v e w. (e ≡ Exact) × m.transferred step v w;
  joined = λ u v e w. (e ≡ Exact) × m.joined u v w;
  started = m.started;
  stays = m.stays;
  grown = λ h v mode e next. (e ≡ Exact) × (¬ m.stays h v mode) × m.grown h v mode next;
  valued = λ h e v. (e ≡ Exact) × m.valued h v;
}

-- an operation that exceeds a limit on the operands that it has may be flagged; its result then covers the defined one.
-- Operands and results have the dimensions that they must have, and results are held; a result has the caps that all
-- its operands have
abbrev pub lossy_operations : {V H : Type 0} → Abstraction V H → Operations V H
lossy_operations m = record {
  dims = m.dims;
  top = λ n cap v. m.top n cap v × m.well_formed v;
  bottom = λ n cap v. m.bottom n cap v × m.well_formed v;
  changed = λ step v e w. TransfersTo m step v e w × (m.dims w ≡ dims_after step (m.dims v)) ×
      CapsWithin (m.capped v) (m.capped w);
  joined = λ u v e w. Joins m u v e w × (m.dims v ≡ m.dims u) × (m.dims w ≡ m.dims u) ×
      CapsWithin (λ c. m.capped u c × m.capped v c) (m.capped w);
  started = λ v rows h. Starts m v rows h × (m.head_dims h ≡ m.dims v) × CapsWithin (m.capped v) (m.head_capped h);
  stays = λ h v mode. m.answers h v mode Yes × (m.dims v ≡ m.head_dims h);
  grown = λ h v mode e next. Grew m h v mode e next × (m.dims v ≡ m.head_dims h) × (m.head_dims next ≡ m.head_dims h) ×
      CapsWithin (λ c. m.head_capped h c × m.capped v c) (m.head_capped next);
  valued = λ h e v. Values m h e v × (m.dims v ≡ m.head_dims h) × CapsWithin (m.head_capped h) (m.capped v);
}

-- an operation that exceeds a limit may be flagged, and then gives anything: so what comes before the first flag is as
-- it is defined, and the first flagged operation exceeds a limit on the operands that the written iteration has there
abbrev pub straining_operations : {V H : Type 0} → Abstraction V H → Operations V H
straining_operations m = record {
  dims = m.dims;
  top = m.top;
  bottom = m.bottom;
  changed = λ step v e w. (e ≡ Exact → m.transferred step v w) × (e ≡ Flagged → m.strains step v);
  joined = λ u v e w. (e ≡ Exact → m.joined u v w) × (e ≡ Flagged → m.join_strains u v);
  started = m.started;
  stays = m.stays;
  grown = λ h v mode e next. (e ≡ Exact → (¬ m.stays h v mode) × m.grown h v mode next) ×
      (e ≡ Flagged → GrowthStrains m h v mode);
  valued = λ h e v. (e ≡ Exact → m.valued h v) × (e ≡ Flagged → m.value_strains h);
}
