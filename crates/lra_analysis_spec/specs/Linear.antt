-- Linear forms of expressions (Cousot and Halbwachs 1978): a constant and a coefficient for each live variable, all of
-- 64 bits.
use Rattle.std.specs.List.{list_all}
use Rattle.std.specs.Prelude.{◌≡◌, ℕ, ℤ, pos, ◌+ℤ◌, ◌-ℤ◌, ◌*ℤ◌, Bool, ◌&&◌, if◌then◌else◌, List, [], ◌∷◌, map}
use Rattle.std.specs.Prelude.{replicate, slice_set, Option, Some, None, nat_lt, negsuc, length, IsTrue, ◌↔◌, ◌⊎◌}
use Rattle.lra_analysis_spec.specs.Crates.lra_base.Operators.{Operator, plus, minus, times, over, modulo, Comparison}
use Rattle.lra_analysis_spec.specs.Crates.lra_base.Operators.{below, at_most, above, at_least, equal, differs}
use Rattle.lra_analysis_spec.specs.Crates.lra_linear_forms.Form.{Form, form_value, opposite_form, HoldsAt}
use Rattle.lra_analysis_spec.specs.Crates.lra_linear_forms.declared.test.Test.{Test}
use Rattle.lra_analysis_spec.specs.Crates.lra_linear_spec.declared.ConKind.TheVariants.{Ge, Eq}
use Rattle.lra_analysis_spec.specs.Crates.lra_program.Program.{Expr, literal, read, input, negate, binary, element}
use Rattle.lra_analysis_spec.specs.Crates.lra_program.Program.{compare}
use Rattle.lra_analysis_spec.specs.Crates.lra_program.Value.{◌>>=◌, is_word, is_zero, index_of, Environment, value_of}
use Rattle.lra_analysis_spec.specs.Crates.lra_program.Value.{truth_of}

-- the form, if the constant and all coefficients have 64 bits
abbrev pub fitting : Form → Option Form
fitting f = if is_word f.constant && list_all is_word f.coefficients then Some f else None

abbrev pub entrywise : (ℤ → ℤ → ℤ) → List ℤ → List ℤ → List ℤ
entrywise op [] ys = []
entrywise op (x ∷ xs) [] = []
entrywise op (x ∷ xs) (y ∷ ys) = op x y ∷ entrywise op xs ys

abbrev pub combined_forms : (ℤ → ℤ → ℤ) → Form → Form → Option Form
combined_forms op f g = fitting (record {
  constant = op f.constant g.constant;
  coefficients = entrywise op f.coefficients g.coefficients;
})

abbrev pub scaled : ℤ → Form → Option Form
scaled k f = fitting (record { constant = k *ℤ f.constant; coefficients = map (λ c. k *ℤ c) f.coefficients })

-- no variable occurs
abbrev pub is_constant : Form → Bool
is_constant f = list_all is_zero f.coefficients

-- one side is constant
abbrev pub product_form : Form → Form → Option Form
product_form f g = if is_constant f then scaled f.constant g else (if is_constant g then scaled g.constant f else None)

-- `/` and `%` have no form
abbrev pub operator_form : Operator → Form → Form → Option Form
operator_form plus f g = combined_forms (λ x y. x +ℤ y) f g
operator_form minus f g = combined_forms (λ x y. x -ℤ y) f g
operator_form times f g = product_form f g
operator_form over f g = None
operator_form modulo f g = None

abbrev pub constant_form : ℕ → ℤ → Form
constant_form live k = record { constant = k; coefficients = replicate live (pos 0) }

-- one variable alone
abbrev pub variable_form : ℕ → ℕ → Form
variable_form live place = record { constant = pos 0; coefficients = slice_set (replicate live (pos 0)) place (pos 1) }

-- none if the variable doesn't live
abbrev pub live_form : ℕ → ℕ → Option Form
live_form live place = if nat_lt place live then Some (variable_form live place) else None

-- with so many live variables, of which the call's own come after the first `base`; none if the expression isn't
-- linear: an element of an array has none
abbrev pub form_of : ℕ → ℕ → Expr → Option Form
form_of live base (literal t n) = fitting (constant_form live (pos n))
form_of live base (read v) = live_form live (index_of base v.slot)
form_of live base input = None
form_of live base (negate e) = form_of live base e >>= λ f. scaled (negsuc 0) f
form_of live base (binary op a b) = form_of live base a >>= λ f. form_of live base b >>= λ g. operator_form op f g
form_of live base (element a at e) = None

-- What an operator's form has as its value, whatever fits: the exact sum, difference or product. The form of `a / b`
-- and `a % b` isn't there.
abbrev pub exactly : Operator → ℤ → ℤ → ℤ
exactly plus x y = x +ℤ y
exactly minus x y = x -ℤ y
exactly times x y = x *ℤ y
exactly over x y = pos 0
exactly modulo x y = pos 0

abbrev pub OperatorFormsAreExact : Type 0
OperatorFormsAreExact = (op : Operator) (f g h : Form) (s : List ℤ) → length f.coefficients ≡ length s →
    length g.coefficients ≡ length s → operator_form op f g ≡ Some h →
    form_value h s ≡ exactly op (form_value f s) (form_value g s)

-- of what is read in a scene
abbrev pub form_in : Environment → Expr → Option Form
form_in s e = form_of (length s.store) s.base e

-- if the expression has a value, its form has the same
abbrev pub FormsAreRight : Type 0
FormsAreRight = (s : Environment) (e : Expr) (f : Form) (draws left : List ℤ) (z : ℤ)
    → form_in s e ≡ Some f → value_of e s draws ≡ Some (z, left) → form_value f s.store ≡ z

-- tests ------------------------------------------------------------------------------------------------------------

-- the test holds at the store
abbrev pub TestHolds : Test → List ℤ → Type 0
TestHolds t store = HoldsAt t.kind t.expr store

abbrev pub at_least_zero : Option Form → Option Test
at_least_zero None = None
at_least_zero (Some f) = Some (record { expr = f; kind = Ge })

-- d - n, d - 1, -d
abbrev pub less_by : ℕ → Form → Option Form
less_by n d = fitting (record d { constant = d.constant -ℤ pos n })

abbrev pub less_one : Form → Option Form
less_one d = less_by 1 d

abbrev pub negated_form : Form → Option Form
negated_form d = scaled (negsuc 0) d

-- the test of a comparison, d the left side minus the right one; over whole numbers d < 0 is -d - 1 >= 0. `!=` has no
-- test of its own
abbrev pub comparison_test : Comparison → Form → Option Test
comparison_test below d = at_least_zero (fitting (opposite_form d))
comparison_test at_most d = at_least_zero (negated_form d)
comparison_test above d = at_least_zero (less_one d)
comparison_test at_least d = at_least_zero (Some d)
comparison_test equal d = Some (record { expr = d; kind = Eq })
comparison_test differs d = None

-- left minus right
abbrev pub difference_form : ℕ → ℕ → Expr → Expr → Option Form
difference_form live base a b = form_of live base (binary minus a b)

abbrev pub difference_in : Environment → Expr → Expr → Option Form
difference_in s a b = difference_form (length s.store) s.base a b

-- if both sides have a value, the comparison is true exactly if its test passes
abbrev pub TestsAreRight : Type 0
TestsAreRight = (s : Environment) (op : Comparison) (a b : Expr) (d : Form) (t : Test) (draws left : List ℤ) (v : Bool)
    → difference_in s a b ≡ Some d → comparison_test op d ≡ Some t
    → truth_of (compare op a b) s draws ≡ Some (v, left) → (IsTrue v ↔ TestHolds t s.store)

-- and `!=` is true exactly if the test of `<` or that of `>` passes
abbrev pub DiffersIsRight : Type 0
DiffersIsRight = (s : Environment) (a b : Expr) (d : Form) (less more : Test) (draws left : List ℤ) (v : Bool)
    → difference_in s a b ≡ Some d → comparison_test below d ≡ Some less → comparison_test above d ≡ Some more
    → truth_of (compare differs a b) s draws ≡ Some (v, left) →
    (IsTrue v ↔ (TestHolds less s.store ⊎ TestHolds more s.store))
