-- The step of the proof on the tests of an index.
use Rattle.std.proofs.Common.{◌≡◌, ℕ, Some, refl}
use Rattle.lra_bounds_checks.specs.Crates.{lra_analysis_spec.Accesses.outside, lra_analysis_spec.Linear.comparison_test, lra_analysis_spec.Linear.less_by, lra_base.Operators.below}
use Rattle.lra_bounds_checks.specs.Crates.{lra_linear_forms.Form.Form, lra_linear_forms.declared.test.Test.Test, lra_linear_spec.declared.ConKind.TheVariants.Ge}

pub both_tests : (e : Form) (n : ℕ) (under : Test) (over : Form) → Some under ≡ comparison_test below e → Some over ≡ less_by n e →
    Some (under, record { expr = over; kind = Ge }) ≡ outside e n
both_tests e n under over one two = rw (← one, ← two) refl
