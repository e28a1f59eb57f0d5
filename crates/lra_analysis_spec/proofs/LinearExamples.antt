-- Linear forms, tests and widening thresholds. Which slip an example would catch stands beside it.
use Rattle.std.proofs.Common.{◌≡◌, ℤ, pos, negsuc, List, [], ◌∷◌, Some, None, true, refl}
use Rattle.std.specs.Int.Signed.{le_z_yes}
use Rattle.lra_analysis_spec.specs.Crates.lra_base.Operators.{plus, minus, times, over, below, above, at_least, differs}
use Rattle.lra_analysis_spec.specs.Crates.lra_program.Program.{local, Expr, literal, read, input, binary, compare, nonzero, opposite, both_of, either_of}
use Rattle.lra_analysis_spec.specs.Crates.{lra_base.declared.number_types.NumberType.TheVariants.Int, lra_base.declared.number_types.NumberType.TheVariants.Long, lra_linear_forms.Form.Form}
use Rattle.lra_analysis_spec.specs.Crates.{lra_linear_spec.declared.ConKind.TheVariants.Ge, lra_program.Value.Environment, lra_program.Value.value_of, lra_program.Value.truth_of}
use Rattle.lra_analysis_spec.proofs.Crates.lra_program.RunExamples.{long_variable}
use Rattle.lra_analysis_spec.specs.{GuardThresholds.guard_thresholds, Linear.TestHolds, Linear.form_of, Linear.comparison_test}

-- two live variables
abbrev x : Expr
x = read (long_variable (local 0))

abbrev y : Expr
y = read (long_variable (local 1))

abbrev form : ℤ → List ℤ → Form
form c cs = record { constant = c; coefficients = cs }

-- 2*x - y + 1
sum_form : form_of 2 0 (binary plus (binary minus (binary times (literal Int 2) x) y) (literal Int 1)) ≡ Some (form (pos 1) (pos 2 ∷ negsuc 0 ∷ []))
sum_form = refl

-- catches a call's variables that are counted from the first
in_a_call : form_of 3 1 (binary plus x y) ≡ Some (form (pos 0) (pos 0 ∷ pos 1 ∷ pos 1 ∷ []))
in_a_call = refl

not_linear : (form_of 2 0 (binary times x y) ≡ None) × (form_of 2 0 (binary plus x input) ≡ None) × (form_of 2 0 (binary over x (literal Int 2)) ≡ None)
not_linear = (refl, refl, refl)

-- x - x has no variable, so its product with y is linear
constant_side : form_of 2 0 (binary times (binary plus (binary minus x x) (literal Int 3)) y) ≡ Some (form (pos 0) (pos 0 ∷ pos 3 ∷ []))
constant_side = refl

-- 9223372036854775807 * x + x, and its half way in 9223372036854775807 * 2 * x - ..: catches a test of the last form alone
too_wide : (form_of 1 0 (binary plus (binary times (literal Long 9223372036854775807) x) x) ≡ None)
    × (form_of 1 0 (binary minus (binary plus (binary times (literal Long 9223372036854775807) x) x) x) ≡ None)
too_wide = (refl, refl)

-- x < y is y - x - 1 >= 0: catches x <= y - 2, which has the constant -2, and x <= y, which has 0
less_test : comparison_test below (form (pos 0) (pos 1 ∷ negsuc 0 ∷ [])) ≡ Some (record { expr = form (negsuc 0) (negsuc 0 ∷ pos 1 ∷ []); kind = Ge })
less_test = refl

greater_test : comparison_test above (form (pos 0) (pos 1 ∷ negsuc 0 ∷ [])) ≡ Some (record { expr = form (negsuc 0) (pos 1 ∷ negsuc 0 ∷ []); kind = Ge })
greater_test = refl

-- x < y at -2^63 and 2^63 - 1, whose difference has no value: the comparison is true, and its test passes; catches a test of the difference's value
abbrev at_ends : Environment
at_ends = record { base = 0; store = negsuc 9223372036854775807 ∷ pos 9223372036854775807 ∷ []; arrays = [] }

test_past_words : (truth_of (compare below x y) at_ends [] ≡ Some (true, [])) × (value_of (binary minus x y) at_ends [] ≡ None)
    × TestHolds (record { expr = form (negsuc 0) (negsuc 0 ∷ pos 1 ∷ []); kind = Ge }) at_ends.store
test_past_words = (refl, refl, le_z_yes tt)

-- x < 1 || y < 2: catches rows of the opposite of x < 1, of which the right side is reported as well
given_by_or : (guard_thresholds 2 0 (either_of (compare below x (literal Int 1)) (compare below y (literal Int 2)))).rows ≡
    (pos 0 ∷ negsuc 0 ∷ pos 0 ∷ []) ∷ (pos 1 ∷ negsuc 0 ∷ pos 0 ∷ [])
    ∷ (pos 1 ∷ pos 0 ∷ negsuc 0 ∷ []) ∷ (pos 2 ∷ pos 0 ∷ negsuc 0 ∷ []) ∷ []
given_by_or = refl

-- !(x != y || y): both give d >= 0 and -d >= 0, for d = x - y and for d = y
given_by_equal : (guard_thresholds 2 0 (opposite (either_of (compare differs x y) (nonzero y)))).rows ≡
    (pos 0 ∷ pos 1 ∷ negsuc 0 ∷ []) ∷ (pos 0 ∷ negsuc 0 ∷ pos 1 ∷ [])
    ∷ (pos 0 ∷ pos 0 ∷ pos 1 ∷ []) ∷ (pos 0 ∷ pos 0 ∷ negsuc 0 ∷ []) ∷ []
given_by_equal = refl

-- x - 9223372036854775807 - 1 < 0: the second row's constant is 2^63, and the row is there; catches rows that are held to 64 bits
given_wide : (guard_thresholds 1 0 (compare below (binary minus (binary minus x (literal Long 9223372036854775807)) (literal Int 1)) (literal Int 0))).rows ≡
    (pos 9223372036854775807 ∷ negsuc 0 ∷ []) ∷ (pos 9223372036854775808 ∷ negsuc 0 ∷ []) ∷ []
given_wide = refl

-- an atom that isn't linear gives none, and the others theirs
given_beside_input : (guard_thresholds 1 0 (both_of (compare below x input) (compare at_least x (literal Int 3)))).rows ≡ (negsuc 2 ∷ pos 1 ∷ []) ∷ (negsuc 1 ∷ pos 1 ∷ []) ∷ []
given_beside_input = refl
