-- The rows that a loop's condition gives to its head: from its comparisons in text order, `!` pushed to them.
use Rattle.std.specs.Prelude.{ℕ, ℤ, pos, neg_ℤ, ◌+ℤ◌, List, [], ◌∷◌, ◌++◌, map, Option, None, Some, Bool, true, not}
use Rattle.lra_analysis_spec.specs.Crates.lra_base.Operators.{Comparison, equal, differs}
use Rattle.lra_analysis_spec.specs.Crates.lra_linear_forms.declared.test.Test.{Test}
use Rattle.lra_analysis_spec.specs.Crates.lra_linear_spec.declared.ConKind.{ConKind}
use Rattle.lra_analysis_spec.specs.Crates.lra_program.Program.{literal, Cond, compare, nonzero, opposite, both_of}
use Rattle.lra_analysis_spec.specs.Crates.lra_program.Program.{either_of}
use Rattle.lra_analysis_spec.specs.Crates.lra_systems.LinearSystems.{LinearSystem}
use Rattle.lra_analysis_spec.specs.Crates.{lra_base.declared.number_types.NumberType.TheVariants.Int}
use Rattle.lra_analysis_spec.specs.Crates.{lra_linear_forms.Form.Form, lra_linear_spec.declared.ConKind.TheVariants.Ge}
use Rattle.lra_analysis_spec.specs.{Linear.comparison_test, Linear.difference_form, MovesOf.comparison_as}

-- the row `form + more >= 0`
abbrev pub row_of : Form → ℤ → List ℤ
row_of f more = (f.constant +ℤ more) ∷ f.coefficients

abbrev pub opposite_row : Form → List ℤ
opposite_row f = neg_ℤ f.constant ∷ map neg_ℤ f.coefficients

-- of the test `e >= 0` the rows e >= 0 and e + 1 >= 0
abbrev pub test_rows : Option Test → List (List ℤ)
test_rows None = []
test_rows (Some t) = row_of t.expr (pos 0) ∷ row_of t.expr (pos 1) ∷ []

-- d the left side minus the right one; of `==` and `!=` the rows d >= 0 and -d >= 0; none if it isn't linear
abbrev pub comparison_rows : Comparison → Option Form → List (List ℤ)
comparison_rows op None = []
comparison_rows equal (Some d) = row_of d (pos 0) ∷ opposite_row d ∷ []
comparison_rows differs (Some d) = row_of d (pos 0) ∷ opposite_row d ∷ []
comparison_rows op (Some d) = test_rows (comparison_test op d)

-- of the condition if it is to be so
abbrev pub guard_rows : ℕ → ℕ → Bool → Cond → List (List ℤ)
guard_rows live base wanted (compare op a b) =
    comparison_rows (comparison_as wanted op) (difference_form live base a b)
guard_rows live base wanted (nonzero e) =
    comparison_rows (comparison_as wanted differs) (difference_form live base e (literal Int 0))
guard_rows live base wanted (opposite c) = guard_rows live base (not wanted) c
guard_rows live base wanted (both_of a b) = guard_rows live base wanted a ++ guard_rows live base wanted b
guard_rows live base wanted (either_of a b) = guard_rows live base wanted a ++ guard_rows live base wanted b

abbrev pub inequalities : ℕ → List (List ℤ) → LinearSystem ConKind
inequalities live rows = record { dims = live; rows = rows; kinds = map (λ row. Ge) rows }

abbrev pub guard_thresholds : ℕ → ℕ → Cond → LinearSystem ConKind
guard_thresholds live base c = inequalities live (guard_rows live base true c)
