-- What an analysis sees of the numbers that a program computes: a linear form, if the expression has one. A linear
-- form A divided by a constant k above 0 has none, but whole numbers say of it more than that it is any: A is
-- k*t + r for the quotient t and what is left, r, and r has the sign of A and lies nearer to 0 than k. So t and r are
-- taken as two variables after the live ones, first t, then r, and what is seen is a linear form over all of them.
use Rattle.std.specs.Prelude.{◌≡◌, ◌≤ℤ◌, ⊤, ℕ, ◌+◌, ℤ, pos, negsuc, neg_ℤ, ◌-ℤ◌, ◌&&◌, if◌then◌else◌, List, [], ◌∷◌}
use Rattle.std.specs.Prelude.{◌++◌, length, Option, Some, None, int_le, int_div, int_rem}
use Rattle.lra_analysis_spec.specs.Crates.lra_base.Operators.{Operator, plus, minus, times, over, modulo}
use Rattle.lra_analysis_spec.specs.Crates.lra_linear_forms.Form.{Form, form_value, opposite_form}
use Rattle.lra_analysis_spec.specs.Crates.lra_program.Program.{Expr, literal, read, input, negate, binary, element}
use Rattle.lra_analysis_spec.specs.Crates.lra_program.Value.{◌>>=◌, Environment, value_of}
use Rattle.lra_analysis_spec.specs.Linear.{fitting, combined_forms, is_constant, constant_form, form_of}
use Rattle.lra_analysis_spec.specs.declared.linearization.Division.{Division}
use Rattle.lra_analysis_spec.specs.declared.linearization.Linearized.{Linearized}
use Rattle.lra_analysis_spec.specs.declared.linearization.Linearized.TheVariants.{Linear, Divided, Unseen}

-- forms over two variables more ------------------------------------------------------------------------------------

-- the form, with these coefficients of the two
abbrev pub extended : Form → ℤ → ℤ → Form
extended f a b = record f { coefficients = f.coefficients ++ a ∷ b ∷ [] }

-- a constant and the two alone
abbrev pub behind_form : ℕ → ℤ → ℤ → ℤ → Form
behind_form live k a b = extended (constant_form live k) a b

abbrev pub quotient_form : ℕ → Form
quotient_form live = behind_form live (pos 0) (pos 1) (pos 0)

abbrev pub remainder_form : ℕ → Form
remainder_form live = behind_form live (pos 0) (pos 0) (pos 1)

-- divisions --------------------------------------------------------------------------------------------------------

-- A + 1, the difference of `A <= -1`
abbrev pub form_plus_one : Form → Option Form
form_plus_one f = combined_forms (λ x y. x -ℤ y) f (constant_form (length f.coefficients) (negsuc 0))

-- of these two forms: the second is a constant above 0, and `A <= -1` has a difference and a test
abbrev pub division : Form → Form → Option Division
division f g = if is_constant g && int_le (pos 1) g.constant
    then (form_plus_one f >>= λ more. fitting (opposite_form f) >>= λ less.
    Some (record { numerator = f; opposite = less; divisor = g.constant })) else None

-- what holds of each that is seen: its form is one over so many variables, it has the opposite of that, and its divisor
-- is above 0
pub record Divides (d : Division) (n : ℕ) : Type 0 where
  pub wide : length d.numerator.coefficients ≡ n
  pub some : pos 1 ≤ℤ d.divisor
  pub opposite : opposite_form d.numerator ≡ d.opposite

-- A - k*t - r, which is 0
abbrev pub left_over : Division → Form
left_over d = extended d.numerator (neg_ℤ d.divisor) (negsuc 0)

-- what `/` and `%` give
abbrev pub share_form : ℕ → Operator → Option Form
share_form live over = Some (quotient_form live)
share_form live modulo = Some (remainder_form live)
share_form live plus = None
share_form live minus = None
share_form live times = None

-- an expression whose last operator is one of these; none if it is another one
abbrev pub share_of : ℕ → ℕ → Expr → Option (Division × Form)
share_of live base (binary op a b) = share_form live op >>= λ h. form_of live base a >>= λ f.
    form_of live base b >>= λ g. division f g >>= λ d. Some (d, h)
share_of live base (literal t n) = None
share_of live base (read v) = None
share_of live base input = None
share_of live base (negate e) = None
share_of live base (element a at e) = None

-- what is seen ------------------------------------------------------------------------------------------------------

abbrev pub linearized_from : Option Form → Option (Division × Form) → Linearized
linearized_from (Some f) o = Linear f
linearized_from None (Some (d, h)) = Divided d h
linearized_from None None = Unseen

-- with so many live variables, of which the call's own come after the first `base`
abbrev pub linearized : ℕ → ℕ → Expr → Linearized
linearized live base e = linearized_from (form_of live base e) (share_of live base e)

-- over so many variables: a form has a coefficient for each of them, and for the two after them if they are there
abbrev pub LinearizedFits : Linearized → ℕ → Type 0
LinearizedFits (Linear f) n = length f.coefficients ≡ n
LinearizedFits (Divided d f) n = Divides d n × (length f.coefficients ≡ n + 2)
LinearizedFits Unseen n = ⊤

abbrev pub linear_if : Option Form → Linearized
linear_if None = Unseen
linear_if (Some f) = Linear f

abbrev pub divided_if : Division → Option Form → Linearized
divided_if d None = Unseen
divided_if d (Some f) = Divided d f

-- the one minus the other; if both are divisions nothing is seen
abbrev pub subtracted : Linearized → Linearized → Linearized
subtracted (Linear f) (Linear g) = linear_if (combined_forms (λ x y. x -ℤ y) f g)
subtracted (Linear f) (Divided d g) = divided_if d (combined_forms (λ x y. x -ℤ y) (extended f (pos 0) (pos 0)) g)
subtracted (Linear f) Unseen = Unseen
subtracted (Divided d f) (Linear g) = divided_if d (combined_forms (λ x y. x -ℤ y) f (extended g (pos 0) (pos 0)))
subtracted (Divided d f) (Divided c g) = Unseen
subtracted (Divided d f) Unseen = Unseen
subtracted Unseen v = Unseen

-- a comparison's left side minus its right one
abbrev pub linearized_difference : ℕ → ℕ → Expr → Expr → Linearized
linearized_difference live base a b = subtracted (linearized live base a) (linearized live base b)

-- what is seen is right -------------------------------------------------------------------------------------------

-- the store with the quotient and with what is left after it
abbrev pub with_both : Division → List ℤ → List ℤ
with_both d s =
    s ++ int_div (form_value d.numerator s) d.divisor ∷ int_rem (form_value d.numerator s) d.divisor ∷ []

abbrev pub HasValue : Linearized → List ℤ → ℤ → Type 0
HasValue (Linear f) s z = form_value f s ≡ z
HasValue (Divided d f) s z = form_value f (with_both d s) ≡ z
HasValue Unseen s z = ⊤

-- wherever the expression has a value
abbrev pub LinearizationIsRight : Type 0
LinearizationIsRight = (s : Environment) (e : Expr) (draws left : List ℤ) (z : ℤ) →
    value_of e s draws ≡ Some (z, left) →
    HasValue (linearized (length s.store) s.base e) s.store z
