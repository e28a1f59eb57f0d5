-- Values of expressions and conditions, and where a run stops (ISO/IEC 9899:2011, 6.5.5, 6.5.6, 6.5.13, 6.5.14).
-- Which slip each would catch stands beside it.
use Rattle.std.proofs.Common.{◌≡◌, pos, negsuc, [], ◌∷◌, map, Some, None, true, false, refl}
use Rattle.lra_base.specs.Operators.{plus, minus, times, over, modulo, below, at_most, above, at_least, equal, differs}
use Rattle.lra_base.specs.declared.number_types.NumberType.TheVariants.{Int, Long}
use Rattle.lra_program.specs.Program.{Slot, global, local, Variable, Expr, literal, read, input, negate, binary, compare, nonzero, opposite, both_of, either_of}
use Rattle.lra_program.specs.Value.{Environment, Argument, value_of, values_of, truth_of, compares}

-- if no variable lives
abbrev nowhere : Environment
nowhere = record { base = 0; store = []; arrays = [] }

abbrev long_variable : Slot → Variable
long_variable s = record { slot = s; number_type = Long }

-- for a parameter of 64 bits
abbrev long_argument : Expr → Argument
long_argument e = record { number_type = Long; value = e }

-- 2^63 - 1 and -2^63
abbrev greatest : Expr
greatest = literal Long 9223372036854775807

abbrev least : Expr
least = binary minus (negate greatest) (literal Int 1)

-- catches a limit that is one too small
greatest_is_reached : value_of (binary plus (literal Long 9223372036854775806) (literal Int 1)) nowhere [] ≡ Some (pos 9223372036854775807, [])
greatest_is_reached = refl

-- catches a sum that wraps around
sum_overflows : value_of (binary plus greatest (literal Int 1)) nowhere [] ≡ None
sum_overflows = refl

-- catches a range that is symmetric
least_is_reached : value_of least nowhere [] ≡ Some (negsuc 9223372036854775807, [])
least_is_reached = refl

difference_overflows : value_of (binary minus least (literal Int 1)) nowhere [] ≡ None
difference_overflows = refl

product_overflows : value_of (binary times (literal Long 4294967296) (literal Long 2147483648)) nowhere [] ≡ None
product_overflows = refl

sign_overflows : value_of (negate least) nowhere [] ≡ None
sign_overflows = refl

-- -2^63 / -1
least_over_minus_one : value_of (binary over least (negate (literal Int 1))) nowhere [] ≡ None
least_over_minus_one = refl

-- -2^63 % -1: catches a remainder that is 0 there, as its number would be
least_modulo_minus_one : value_of (binary modulo least (negate (literal Int 1))) nowhere [] ≡ None
least_modulo_minus_one = refl

zero_divisor : value_of (binary over input (literal Int 0)) nowhere (pos 3 ∷ []) ≡ None
zero_divisor = refl

zero_modulus : value_of (binary modulo input (literal Int 0)) nowhere (pos 3 ∷ []) ≡ None
zero_modulus = refl

-- -7 / 2 is -3: catches rounding down
truncates : value_of (binary over (negate (literal Int 7)) (literal Int 2)) nowhere [] ≡ Some (negsuc 2, [])
truncates = refl

-- -7 % 2 is -1, since (-7 / 2) * 2 + -7 % 2 is -7
remainder_of_minus_seven : value_of (binary modulo (negate (literal Int 7)) (literal Int 2)) nowhere [] ≡ Some (negsuc 0, [])
remainder_of_minus_seven = refl

remainder_by_minus_two : value_of (binary modulo (literal Int 7) (negate (literal Int 2))) nowhere [] ≡ Some (pos 1, [])
remainder_by_minus_two = refl

-- catches operands from right to left
left_to_right : value_of (binary minus input input) nowhere (pos 5 ∷ pos 3 ∷ pos 1 ∷ []) ≡ Some (pos 2, pos 1 ∷ [])
left_to_right = refl

arguments_left_to_right : values_of (map long_argument (input ∷ literal Int 9 ∷ input ∷ [])) nowhere (pos 5 ∷ pos 3 ∷ []) ≡ Some (pos 5 ∷ pos 9 ∷ pos 3 ∷ [], [])
arguments_left_to_right = refl

no_draw_left : value_of input nowhere [] ≡ None
no_draw_left = refl

-- catches one numbering for the variables of the program and of the call
global_and_local : value_of (binary minus (read (long_variable (global 0))) (read (long_variable (local 0)))) (record { base = 2; store = pos 1 ∷ pos 2 ∷ pos 5 ∷ []; arrays = [] }) []
    ≡ Some (negsuc 3, [])
global_and_local = refl

-- catches `&&` that evaluates both sides: the draw stays
and_stops_early : truth_of (both_of (nonzero (literal Int 0)) (nonzero input)) nowhere (pos 5 ∷ []) ≡ Some (false, pos 5 ∷ [])
and_stops_early = refl

or_stops_early : truth_of (either_of (nonzero (literal Int 7)) (nonzero (binary over (literal Int 1) (literal Int 0)))) nowhere [] ≡ Some (true, [])
or_stops_early = refl

or_goes_on : truth_of (either_of (nonzero (literal Int 0)) (nonzero (binary over (literal Int 1) (literal Int 0)))) nowhere [] ≡ None
or_goes_on = refl

negation_of_condition : truth_of (opposite (compare below (literal Int 1) (literal Int 1))) nowhere [] ≡ Some (true, [])
negation_of_condition = refl

-- catches `<` taken as `<=`, and `a < b` as `a <= b - 2`
below_is_strict : (compares below (pos 3) (pos 3) ≡ false) × (compares below (pos 3) (pos 4) ≡ true) × (compares below (negsuc 0) (pos 0) ≡ true)
below_is_strict = (refl, refl, refl)

above_is_strict : (compares above (pos 3) (pos 3) ≡ false) × (compares above (pos 4) (pos 3) ≡ true)
above_is_strict = (refl, refl)

at_most_and_at_least : (compares at_most (pos 3) (pos 3) ≡ true) × (compares at_least (pos 3) (pos 3) ≡ true) × (compares at_least (pos 2) (pos 3) ≡ false) × (compares at_most (pos 4) (pos 3) ≡ false)
at_most_and_at_least = (refl, refl, refl, refl)

equal_and_differs : (compares equal (negsuc 4) (negsuc 4) ≡ true) × (compares equal (pos 4) (negsuc 4) ≡ false) × (compares differs (pos 4) (negsuc 4) ≡ true) ×
    (compares differs (pos 4) (pos 4) ≡ false)
equal_and_differs = (refl, refl, refl, refl)
