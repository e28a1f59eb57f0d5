-- Sums and chains, of which a linear form is made, and a division's parts.
use Rattle.std.specs.Prelude.{ℕ, List, [], ◌∷◌, ℤ, ◌+ℤ◌, ◌-ℤ◌, Bool, true, false, Option, Some}
use Rattle.lra_linearize.specs.Crates.{lra_linear_forms.Form.Form, lra_program.Program.Expr, lra_program.Value.◌>>=◌}
use Rattle.lra_base.specs.Operators.{Operator}
use Rattle.lra_analysis_spec.specs.{Linearization.division, declared.linearization.Division.Division}
use Rattle.lra_analysis_spec.specs.Linear as linear

-- plus, or minus
abbrev pub sum_or_difference : Bool → ℤ → ℤ → ℤ
sum_or_difference true x y = x -ℤ y
sum_or_difference false x y = x +ℤ y

-- a chain's form, of which so much is there
abbrev pub rest_form : ℕ → ℕ → Option Form → List (Operator × Expr) → Option Form
rest_form live base f [] = f
rest_form live base f (o ∷ os) = rest_form live base
    (f >>= λ x. linear.form_of live base o.1 >>= λ y. linear.operator_form o.0 x y) os

-- the division of a form by an operand's, with the form of what it gives
abbrev pub share_by : ℕ → ℕ → Form → Form → Expr → Option (Division × Form)
share_by live base h f e = linear.form_of live base e >>= λ g. division f g >>= λ d. Some (d, h)
