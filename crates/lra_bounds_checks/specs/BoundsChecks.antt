-- What is reported about accesses after others, as the definitions have it.
use Rattle.std.specs.Prelude.{◌≡◌, ℕ, List, Bool, Option, None, Some, length, ⊤}
use Rattle.lra_bounds_checks.specs.Crates.lra_analysis_spec.Accesses.{EachJudged, OpInside}
use Rattle.lra_bounds_checks.specs.Crates.lra_analysis_spec.Operations.{lossy_operations}
use Rattle.lra_bounds_checks.specs.Crates.lra_base.declared.refusals.Place.{Place}
use Rattle.lra_bounds_checks.specs.Crates.lra_linear_forms.declared.test.Test.{Test}
use Rattle.lra_domain.specs.{Abstraction.Abstraction, declared.Exactness.Exactness}
use Rattle.lra_program.specs.{Program.Element, Step.Op}
use Rattle.lra_overflow_checks.specs.Judged.{HasAnswers}

-- a coefficient for each of so many variables
abbrev pub AreWide : ℕ → Option (Test × Test) → Type 0
AreWide n None = ⊤
AreWide n (Some tests) = (length tests.0.expr.coefficients ≡ n) × (length tests.1.expr.coefficients ≡ n)

module _ {V H : Type 0} (m : Abstraction V H) where
  -- what is reported about each access, and of those of an operation, came after the others
  abbrev pub IsEachTold : V → ℕ → List Element → List (Place × Bool) → Exactness → List (Place × Bool) → Type 0
  IsEachTold v base xs old e new = HasAnswers (λ js. EachJudged m (lossy_operations m) v base xs js e) old new

  abbrev pub IsOpTold : Op → V → List (Place × Bool) → Exactness → List (Place × Bool) → Type 0
  IsOpTold op v old e new = HasAnswers (λ js. OpInside m (lossy_operations m) op v js e) old new
