-- The moves of a program's least changes and of its conditions, over so many live variables. An assignment of a linear
-- form assigns, that of a division does so in two cases, if what is divided is at least 0 and if it is below 0,
-- and joins them; any other one forgets. Of what arrays hold nothing is reported, so an element that is read forgets,
-- and one that gets a value changes nothing. After each that an `int` gets, and after its declaration, stand the tests
-- that it lies within 32 bits. Conditions (Cousot and Halbwachs 1978): `!` is pushed to the comparisons; a
-- comparison tests, if its difference is linear, and in the two cases, if one side is a division and the other
-- one linear; `&&` is the one after the other; `||` joins what the left side leaves with what the right side leaves
-- if the left one is false.
use Rattle.std.specs.Prelude.{ℕ, zero, suc, ◌-◌, ℤ, pos, negsuc, neg_ℤ, ◌-ℤ◌, List, [], ◌∷◌, Bool, true, false, not}
use Rattle.std.specs.Prelude.{Option, None, Some, replicate, slice_set}
use Rattle.lra_analysis_spec.specs.Crates.lra_base.NumberTypes.{least_of, greatest_of}
use Rattle.lra_analysis_spec.specs.Crates.lra_base.Operators.{Comparison, below, at_most, above, at_least, equal}
use Rattle.lra_analysis_spec.specs.Crates.lra_base.Operators.{differs}
use Rattle.lra_analysis_spec.specs.Crates.lra_base.declared.number_types.NumberType.{NumberType}
use Rattle.lra_analysis_spec.specs.Crates.lra_base.declared.number_types.NumberType.TheVariants.{Int, Long}
use Rattle.lra_analysis_spec.specs.Crates.lra_linear_spec.declared.ConKind.TheVariants.{Ge, Eq}
use Rattle.lra_analysis_spec.specs.Crates.lra_program.Program.{Expr, literal, Cond, compare, nonzero, opposite, both_of}
use Rattle.lra_analysis_spec.specs.Crates.lra_program.Program.{either_of}
use Rattle.lra_analysis_spec.specs.Crates.lra_program.Step.{Op, append, fill, store_value, store_element, havoc, push}
use Rattle.lra_analysis_spec.specs.Crates.lra_program.Step.{push_for, truncate_to}
use Rattle.lra_analysis_spec.specs.Crates.lra_program.Value.{Argument}
use Rattle.lra_analysis_spec.specs.Crates.lra_program.declared.program.GlobalVariable.{GlobalVariable}
use Rattle.lra_analysis_spec.specs.Crates.lra_program.declared.receivers.Cell.{Cell}
use Rattle.lra_analysis_spec.specs.Crates.lra_program.declared.receivers.Cell.TheVariants.{Variable, Waiting}
use Rattle.lra_analysis_spec.specs.Crates.lra_program.declared.receivers.Target.{Target}
use Rattle.lra_analysis_spec.specs.Crates.{lra_linear_forms.Form.Form, lra_linear_forms.declared.test.Test.Test}
use Rattle.lra_analysis_spec.specs.Crates.lra_program.Step as step
use Rattle.lra_domain.specs.Actions.{Action, assign, forget, embed, remove_last}
use Rattle.lra_domain.specs.Moves.{Moves, stay, make, first_then, join_of}
use Rattle.lra_domain.specs.Actions as action
use Rattle.lra_analysis_spec.specs.Linear as linear
use Rattle.lra_analysis_spec.specs.Linearization.{behind_form, remainder_form, left_over, linearized, subtracted}
use Rattle.lra_analysis_spec.specs.Linearization.{linearized_difference}
use Rattle.lra_analysis_spec.specs.declared.linearization.Linearized.TheVariants.{Linear, Divided, Unseen}
use Rattle.lra_analysis_spec.specs.{Linear.comparison_test, declared.linearization.Division.Division}
use Rattle.lra_analysis_spec.specs.{declared.linearization.Linearized.Linearized}

-- divisions -------------------------------------------------------------------------------------------------------

abbrev pub in_turn : List Action → Moves
in_turn [] = stay
in_turn (step ∷ steps) = first_then (make step) (in_turn steps)

-- if A is at least 0: t and r come after the live variables, and 0 <= r, r <= k - 1, A = k*t + r
abbrev pub first_case : ℕ → Division → List Action
first_case live d = action.test Ge d.numerator ∷ embed 2 ∷ action.test Ge (remainder_form live)
    ∷ action.test Ge (behind_form live (d.divisor -ℤ pos 1) (pos 0) (negsuc 0)) ∷ action.test Eq (left_over d) ∷ []

-- if it is below 0: 1 - k <= r, r <= 0, A = k*t + r
abbrev pub second_case : ℕ → Division → List Action
second_case live d = action.test Ge d.opposite ∷ embed 2
    ∷ action.test Ge (behind_form live (d.divisor -ℤ pos 1) (pos 0) (pos 1))
    ∷ action.test Ge (behind_form live (pos 0) (pos 0) (negsuc 0)) ∷ action.test Eq (left_over d) ∷ []

-- so begun, the action; then both go
abbrev pub in_case : List Action → Action → Moves
in_case begun step = first_then (in_turn begun) (first_then (make step) (make (remove_last 2)))

-- the action in both cases, joined in this order
abbrev pub in_cases : ℕ → Division → Action → Moves
in_cases live d step = join_of (in_case (first_case live d) step) (in_case (second_case live d) step)

-- conditions ------------------------------------------------------------------------------------------------------

abbrev pub opposite_comparison : Comparison → Comparison
opposite_comparison below = at_least
opposite_comparison at_most = above
opposite_comparison above = at_most
opposite_comparison at_least = below
opposite_comparison equal = differs
opposite_comparison differs = equal

-- the comparison, or its opposite
abbrev pub comparison_as : Bool → Comparison → Comparison
comparison_as true op = op
comparison_as false op = opposite_comparison op

abbrev pub test_action : Test → Action
test_action t = action.test t.kind t.expr

-- a test that doesn't fit 64 bits does nothing
abbrev pub test_moves : Option Test → Moves
test_moves None = stay
test_moves (Some t) = make (test_action t)

abbrev pub case_moves : ℕ → Division → Option Test → Moves
case_moves live d None = stay
case_moves live d (Some t) = in_cases live d (test_action t)

-- the test of the comparison, by what is seen of the left side minus the right one
abbrev pub linearized_moves : ℕ → Comparison → Linearized → Moves
linearized_moves live op (Linear d) = test_moves (comparison_test op d)
linearized_moves live op (Divided c d) = case_moves live c (comparison_test op d)
linearized_moves live op Unseen = stay

-- `!=` joins `<` with `>`, in this order
abbrev pub split_moves : ℕ → Comparison → Linearized → Moves
split_moves live differs d = join_of (linearized_moves live below d) (linearized_moves live above d)
split_moves live op d = linearized_moves live op d

-- a comparison of which nothing is seen does nothing
abbrev pub comparison_moves : ℕ → Comparison → Linearized → Moves
comparison_moves live op (Linear d) = split_moves live op (Linear d)
comparison_moves live op (Divided c d) = split_moves live op (Divided c d)
comparison_moves live op Unseen = stay

-- the condition if it is to be so; a bare `e` is `e != 0`
abbrev pub guard : ℕ → ℕ → Bool → Cond → Moves
guard live base wanted (compare op a b) =
    comparison_moves live (comparison_as wanted op) (linearized_difference live base a b)
guard live base wanted (nonzero e) =
    comparison_moves live (comparison_as wanted differs) (linearized_difference live base e (literal Int 0))
guard live base wanted (opposite c) = guard live base (not wanted) c
guard live base true (both_of a b) = first_then (guard live base true a) (guard live base true b)
guard live base false (both_of a b) =
    join_of (guard live base false a) (first_then (guard live base true a) (guard live base false b))
guard live base true (either_of a b) =
    join_of (guard live base true a) (first_then (guard live base false a) (guard live base true b))
guard live base false (either_of a b) = first_then (guard live base false a) (guard live base false b)

-- what is seen has this value or, if it is not wanted, another one: the comparison with a literal
abbrev pub number_moves : ℕ → Bool → Linearized → ℤ → Moves
number_moves live wanted s z =
    comparison_moves live (comparison_as wanted equal) (subtracted s (Linear (linear.constant_form live z)))

-- the expression has it
abbrev pub value_moves : ℕ → ℕ → Bool → Expr → ℤ → Moves
value_moves live base wanted e z = number_moves live wanted (linearized live base e) z

-- types -----------------------------------------------------------------------------------------------------------

-- x - the least number of the type, the greatest one - x
abbrev pub above_least : NumberType → ℕ → ℕ → Form
above_least t live x = record (linear.variable_form live x) { constant = neg_ℤ (least_of t) }

abbrev pub below_greatest : NumberType → ℕ → ℕ → Form
below_greatest t live x = record {
  constant = greatest_of t;
  coefficients = slice_set (replicate live (pos 0)) x (negsuc 0);
}

-- After what gives the variable a value, if so many live then: an `int` lies within 32 bits. Nothing is tested of
-- 64 bits, which every number of a store has.
abbrev pub within_type : NumberType → ℕ → ℕ → Moves → Moves
within_type Long live x p = p
within_type Int live x p = first_then p (first_then (make (action.test Ge (above_least Int live x)))
    (make (action.test Ge (below_greatest Int live x))))

-- least changes ---------------------------------------------------------------------------------------------------

-- the variable gets the number that is seen; any value if nothing is seen
abbrev pub set_to : ℕ → ℕ → Linearized → Moves
set_to live x (Linear f) = make (assign x f)
set_to live x (Divided d f) = in_cases live d (assign x f)
set_to live x Unseen = make (forget x)

-- a new variable that gets this value, after so many
abbrev pub append_set : ℕ → Linearized → Moves
append_set live v = first_then (make (embed 1)) (set_to (suc live) live v)

-- the arguments, each a new variable of its parameter's type, with its value
abbrev pub push_all : ℕ → ℕ → List Argument → Moves
push_all live base [] = stay
push_all live base (a ∷ rest) = first_then
    (within_type a.number_type (suc live) live (append_set live (linearized (suc live) base a.value)))
    (push_all (suc live) base rest)

-- the variable of this type is set so; nothing is reported about an element
abbrev pub set_cell : ℕ → NumberType → Cell → Linearized → Moves
set_cell live t (Variable x) v = within_type t live x (set_to live x v)
set_cell live t (Waiting p) v = stay

-- the target, if there is one, is set so
abbrev pub set_target : ℕ → Option Target → Linearized → Moves
set_target live None v = stay
set_target live (Some t) v = set_cell live t.number_type t.cell v

-- so many of the newest variables go; if none goes there is nothing to do
abbrev pub drop_last : ℕ → Moves
drop_last zero = stay
drop_last (suc k) = make (remove_last (suc k))

abbrev pub moves_of : ℕ → Op → Moves
moves_of live (append t) = within_type t (suc live) live (make (embed 1))
moves_of live (fill a) = stay
moves_of live (store_value base x e) = set_target live x.target (linearized live base e)
moves_of live (store_element base x e) = stay
moves_of live (havoc x) = set_target live x.target Unseen
moves_of live (push base given) = push_all live base given
moves_of live (push_for base x given) = push_all live base given
moves_of live (truncate_to n) = drop_last (live - n)
moves_of live (step.test base c wanted) = guard live base wanted c

-- the globals at their first values
abbrev pub first_values : ℕ → List GlobalVariable → Moves
first_values live [] = stay
first_values live (g ∷ gs) = first_then
    (within_type g.number_type (suc live) live (append_set live (Linear (linear.constant_form (suc live) g.value))))
    (first_values (suc live) gs)
