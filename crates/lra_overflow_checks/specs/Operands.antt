-- The operands of a chain of conditions, one after the other.
use Rattle.std.specs.Prelude.{◌≡◌, ℕ, Bool, List}
use Rattle.lra_overflow_checks.specs.Crates.{lra_analysis_spec.Operations.Operations, lra_analysis_spec.Pass.Filters}
use Rattle.lra_overflow_checks.specs.Crates.{lra_domain.Abstraction.worse, lra_domain.declared.Exactness.Exactness}
use Rattle.lra_program.specs.Program.{Expr, Cond}
use Rattle.lra_overflow_checks.specs.Judged.{IsCondJudged}

-- what is reported about the operand came after the others, and of the first value it leaves the second one
abbrev pub IsPassed : {V H A : Type 0} → Operations V H → (ℕ → Expr → Expr → V → List A → Exactness → Type 0) →
    (ℕ → Expr → V → List A → Exactness → Type 0) → ℕ → Cond → Bool → V → Exactness → List A → V → Exactness →
    List A → Type 0
IsPassed ops Both One base c wanted v before old w after new = (f g : Exactness) ×
    IsCondJudged ops Both One base c v old f new × Filters ops base c wanted v g w × (after ≡ worse (worse before f) g)
