-- Rows that thresholds give, on small loops. Which slip an example would catch stands beside it.
use Rattle.std.proofs.Common.{◌≡◌, ℕ, ℤ, pos, negsuc, List, [], ◌∷◌, ◌++◌, true, refl}
use Rattle.lra_analysis_spec.specs.Crates.lra_base.Operators.{minus, plus, below, above, equal}
use Rattle.lra_analysis_spec.specs.Crates.lra_program.Program.{local, Expr, literal, read, input, binary, Cond, compare, nonzero, opposite, either_of}
use Rattle.lra_analysis_spec.specs.Crates.lra_program.Step.{store_value, truncate_to, push, test}
use Rattle.lra_analysis_spec.specs.Crates.{lra_base.declared.number_types.NumberType.TheVariants.Int, lra_base.declared.number_types.NumberType.TheVariants.Long, lra_program.Receivers.variable_at}
use Rattle.lra_options.specs.OptionRows.{best_options, default_options}
use Rattle.lra_analysis_spec.proofs.Crates.lra_program.RunExamples.{long_variable}
use Rattle.lra_operations.specs.Tree.{Node, continued, returned, empty, point, act, check, seq, choose, iterate, catch}
use Rattle.lra_analysis_spec.specs.Thresholds.{all_threshold_rows, condition_rows, constant_rows, loop_thresholds, rows_in, rows_once}
use Rattle.lra_analysis_spec.specs.{GuardThresholds.guard_thresholds, Plan.standard, Plan.limited, Plan.by_thresholds, Plan.plan_of}

-- the first variable of a call, and the second
abbrev x_var : Expr
x_var = read (long_variable (local 0))

abbrev y_var : Expr
y_var = read (long_variable (local 1))

-- the row c + a*x >= 0
abbrev line : ℤ → ℤ → List ℤ
line c a = c ∷ a ∷ []

-- x == 100, d = x - 100: the rows x >= 101, x <= 99, x >= 100, x <= 100, x >= 99, x <= 101; catches k = 2, and k = 0 alone
around_one : condition_rows 1 0 (compare equal x_var (literal Int 100)) ≡ line (negsuc 100) (pos 1) ∷ line (pos 99) (negsuc 0) ∷
    line (negsuc 99) (pos 1) ∷ line (pos 100) (negsuc 0) ∷ line (negsuc 98) (pos 1) ∷ line (pos 101) (negsuc 0) ∷ []
around_one = refl

-- whatever its sign: those of !(x < 3) and of x < 3 are the same
around_opposite : condition_rows 1 0 (opposite (compare below x_var (literal Int 3))) ≡ condition_rows 1 0 (compare below x_var (literal Int 3))
around_opposite = refl

-- a bare x, and beside it x < input(), which isn't linear
around_bare : condition_rows 1 0 (either_of (nonzero x_var) (compare below x_var input)) ≡ line (negsuc 0) (pos 1) ∷ line (negsuc 0) (negsuc 0) ∷
    line (pos 0) (pos 1) ∷ line (pos 0) (negsuc 0) ∷ line (pos 1) (pos 1) ∷ line (pos 1) (negsuc 0) ∷ []
around_bare = refl

-- one variable lives at the loop: a comparison with one of its body's own gives nothing, one of the two's difference neither;
-- catches a row in which the second variable is taken for 0
around_dead : (condition_rows 1 0 (compare below y_var (literal Int 3)) ≡ []) × (condition_rows 1 0 (compare below (binary minus x_var y_var) (literal Int 3)) ≡ [])
around_dead = (refl, refl)

-- in a call that runs with one variable before its own, its parameter doesn't live at the loop
around_called : condition_rows 1 1 (compare below x_var (literal Int 3)) ≡ []
around_called = refl

-- a comparison without variables: 1 != 0, so d = 1
around_none : condition_rows 1 0 (nonzero (literal Int 1)) ≡ line (pos 0) (pos 0) ∷ line (negsuc 1) (pos 0) ∷
    line (pos 1) (pos 0) ∷ line (negsuc 0) (pos 0) ∷ line (pos 2) (pos 0) ∷ line (pos 0) (pos 0) ∷ []
around_none = refl

-- a number of 64 bits at its end gives rows of more bits, which aren't narrow; catches a k that is added within 64 bits
around_wide : condition_rows 1 0 (compare above x_var (literal Long 9223372036854775807)) ≡ line (negsuc 9223372036854775807) (pos 1) ∷ line (pos 9223372036854775806) (negsuc 0) ∷
    line (negsuc 9223372036854775806) (pos 1) ∷ line (pos 9223372036854775807) (negsuc 0) ∷ line (negsuc 9223372036854775805) (pos 1) ∷ line (pos 9223372036854775808) (negsuc 0) ∷ []
around_wide = refl

-- trees -----------------------------------------------------------------------------------------------------------------

abbrev less : ℕ → Cond
less n = compare below x_var (literal Int n)

-- for (..; x < 1; (a call with assume x < 2)) { if (x < 3) assert(x < 4); else while (x < 5) ; x = x + 7; }: the loop's
-- own, then its step, then its body; catches a step after its body, as the tree has it, and a condition that is left
-- out in a branch, a loop or a call
abbrev step_tree : Node
step_tree = seq (act 2 (push 1 [])) (catch 2 returned (seq (act 3 (test 0 (less 2) true)) (act 2 (truncate_to 1))))

abbrev body_tree : Node
body_tree = seq (choose 4 0 (less 3) (check 5 0 (less 4)) (catch 6 continued (iterate 6 0 (less 5) (seq (point 7) empty))))
    (act 8 (store_value 0 (variable_at 0 Long) (binary plus x_var (literal Int 7))))

in_text_order : rows_in 1 (iterate 1 0 (less 1) (seq (catch 1 continued body_tree) step_tree))
    ≡ condition_rows 1 0 (less 1) ++ (condition_rows 1 0 (less 2) ++ (condition_rows 1 0 (less 3) ++ (condition_rows 1 0 (less 4) ++ condition_rows 1 0 (less 5))))
in_text_order = refl

-- once each ----------------------------------------------------------------------------------------------------------

-- x < 1 and x < 2: of twelve rows eight; catches one that is given again
once_each : rows_once (condition_rows 1 0 (less 1) ++ condition_rows 1 0 (less 2)) ≡ line (negsuc 1) (pos 1) ∷ line (pos 0) (negsuc 0) ∷
    line (negsuc 0) (pos 1) ∷ line (pos 1) (negsuc 0) ∷ line (pos 0) (pos 1) ∷ line (pos 2) (negsuc 0) ∷
    line (negsuc 2) (pos 1) ∷ line (pos 3) (negsuc 0) ∷ []
once_each = refl

-- numbers up to 2^31 in magnitude stay, the next ones go
narrow_rows : rows_once (line (pos 2147483648) (pos 1) ∷ line (pos 2147483649) (pos 1) ∷ line (negsuc 2147483647) (pos 1) ∷
    line (negsuc 2147483648) (pos 1) ∷ line (pos 0) (pos 2147483649) ∷ []) ≡ line (pos 2147483648) (pos 1) ∷ line (negsuc 2147483647) (pos 1) ∷ []
narrow_rows = refl

-- constants ------------------------------------------------------------------------------------------------------------

-- two variables, constants 5 and -1: x >= 5, x <= 5, x >= -1, x <= -1, then those of y; catches constants before variables, and a sign that is lost
two_by_two : constant_rows 2 (pos 5 ∷ negsuc 0 ∷ []) ≡
    (negsuc 4 ∷ pos 1 ∷ pos 0 ∷ []) ∷ (pos 5 ∷ negsuc 0 ∷ pos 0 ∷ []) ∷ (pos 1 ∷ pos 1 ∷ pos 0 ∷ []) ∷ (negsuc 0 ∷ negsuc 0 ∷ pos 0 ∷ []) ∷
    (negsuc 4 ∷ pos 0 ∷ pos 1 ∷ []) ∷ (pos 5 ∷ pos 0 ∷ negsuc 0 ∷ []) ∷ (pos 1 ∷ pos 0 ∷ pos 1 ∷ []) ∷ (negsuc 0 ∷ pos 0 ∷ negsuc 0 ∷ []) ∷ []
two_by_two = refl

-- a row that a condition gives isn't given for a constant
not_again : all_threshold_rows (line (negsuc 4) (pos 1) ∷ []) (constant_rows 1 (pos 5 ∷ [])) ≡ line (negsuc 4) (pos 1) ∷ line (pos 5) (negsuc 0) ∷ []
not_again = refl

-- the whole --------------------------------------------------------------------------------------------------------------

-- while (input()) if (x == 100) ..; of a program with the constants 0, 1, 100, 99
whole_list : (loop_thresholds (by_thresholds (pos 0 ∷ pos 1 ∷ pos 100 ∷ pos 99 ∷ [])) 1 0 (nonzero input)
    (seq (catch 2 continued (choose 4 0 (compare equal x_var (literal Int 100)) empty empty)) empty)).rows ≡
    line (negsuc 100) (pos 1) ∷ line (pos 99) (negsuc 0) ∷ line (negsuc 99) (pos 1) ∷ line (pos 100) (negsuc 0) ∷ line (negsuc 98) (pos 1) ∷ line (pos 101) (negsuc 0) ∷
    line (pos 0) (pos 1) ∷ line (pos 0) (negsuc 0) ∷ line (negsuc 0) (pos 1) ∷ line (pos 1) (negsuc 0) ∷ []
whole_list = refl

-- without thresholds a loop has the rows of its own condition
own_list : (loop_thresholds limited 1 0 (less 1) (check 5 0 (less 4)) ≡ guard_thresholds 1 0 (less 1)) × (loop_thresholds standard 1 0 (less 1) (check 5 0 (less 4)) ≡ guard_thresholds 1 0 (less 1))
own_list = (refl, refl)

-- plans
best_plan : plan_of best_options (pos 7 ∷ []) ≡ record { parts = 4; delay = 1; narrow = 1; widening = by_thresholds (pos 7 ∷ []) }
best_plan = refl

default_plan : plan_of default_options (pos 7 ∷ []) ≡ record { parts = 1; delay = 1; narrow = 1; widening = standard }
default_plan = refl
