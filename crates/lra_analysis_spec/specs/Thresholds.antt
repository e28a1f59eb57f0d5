-- The rows that thresholds give to a loop: around the comparisons of its own condition and of each condition in its
-- step and its body, and at the program's constants for each variable that lives at the loop.
use Rattle.std.specs.List.{filter, flat_map, list_all, list_any}
use Rattle.std.specs.Prelude.{ℕ, zero, suc, ℤ, pos, negsuc, neg_ℤ, ◌+ℤ◌, ◌^◌, ◌&&◌, Bool, not, List, [], ◌∷◌, ◌++◌, map}
use Rattle.std.specs.Prelude.{fold, Option, None, Some, nat_le, unsigned_abs, if◌then◌else◌}
use Rattle.std.specs.{Cmp.Lexicographic.pointwise, Ordering.int_eq}
use Rattle.lra_analysis_spec.specs.Crates.lra_program.Program.{literal, Cond, compare, nonzero, opposite, both_of}
use Rattle.lra_analysis_spec.specs.Crates.lra_program.Step.{Op, append, fill, store_value, store_element, havoc, push}
use Rattle.lra_analysis_spec.specs.Crates.lra_program.Step.{push_for, truncate_to, test}
use Rattle.lra_analysis_spec.specs.Crates.{lra_base.declared.number_types.NumberType.TheVariants.Int}
use Rattle.lra_analysis_spec.specs.Crates.{lra_linear_forms.Form.Form, lra_linear_spec.declared.ConKind.ConKind}
use Rattle.lra_analysis_spec.specs.Crates.{lra_program.Program.either_of, lra_systems.LinearSystems.LinearSystem}
use Rattle.lra_operations.specs.Tree.{Node, empty, probe, point, act, check, seq, choose, iterate, catch, leave, select}
use Rattle.lra_operations.specs.Tree.{Arms, no_arms, entry, arm}
use Rattle.lra_analysis_spec.specs.GuardThresholds.{guard_thresholds, inequalities, row_of}
use Rattle.lra_analysis_spec.specs.Linear.{difference_form, variable_form}
use Rattle.lra_analysis_spec.specs.Plan.{Widening, standard, limited, by_thresholds}

-- conditions -------------------------------------------------------------------------------------------------------

-- the row `more - form >= 0`
abbrev pub row_against : Form → ℤ → List ℤ
row_against f more = (neg_ℤ f.constant +ℤ more) ∷ map neg_ℤ f.coefficients

-- d + k >= 0 and -d + k >= 0 for k = -1, 0, 1, with d the left side minus the right one; none if it isn't linear, or
-- if a variable doesn't live
abbrev pub rows_around : Option Form → List (List ℤ)
rows_around None = []
rows_around (Some d) =
    row_of d (negsuc 0) ∷ row_against d (negsuc 0) ∷ row_of d (pos 0) ∷ row_against d (pos 0) ∷ row_of d (pos 1) ∷
    row_against d (pos 1) ∷ []

-- around each comparison of the condition, in text order, whatever its sign; a bare `e` is compared with 0
abbrev pub condition_rows : ℕ → ℕ → Cond → List (List ℤ)
condition_rows live base (compare op a b) = rows_around (difference_form live base a b)
condition_rows live base (nonzero e) = rows_around (difference_form live base e (literal Int 0))
condition_rows live base (opposite c) = condition_rows live base c
condition_rows live base (both_of a b) = condition_rows live base a ++ condition_rows live base b
condition_rows live base (either_of a b) = condition_rows live base a ++ condition_rows live base b

-- of the changes a test has a condition, that of an `assume`
abbrev pub op_rows : ℕ → Op → List (List ℤ)
op_rows live (append t) = []
op_rows live (fill a) = []
op_rows live (store_value base x e) = []
op_rows live (store_element base x e) = []
op_rows live (havoc x) = []
op_rows live (push base es) = []
op_rows live (push_for base x es) = []
op_rows live (truncate_to n) = []
op_rows live (test base c wanted) = condition_rows live base c

-- around each condition of a tree, in text order, of those in calls that are written out too; the loop, of whose
-- variables so many live, lies around it. A loop's step stands before its body in the text, and after it in the tree
abbrev mutual
  pub rows_in : ℕ → Node → List (List ℤ)
  rows_in live empty = []
  rows_in live (probe here what) = []
  rows_in live (point q) = []
  rows_in live (act q op) = op_rows live op
  rows_in live (check q base c) = condition_rows live base c
  rows_in live (seq a b) = rows_in live a ++ rows_in live b
  rows_in live (choose q base c a b) = condition_rows live base c ++ (rows_in live a ++ rows_in live b)
  rows_in live (iterate q base c (seq body step)) =
      condition_rows live base c ++ (rows_in live step ++ rows_in live body)
  rows_in live (iterate q base c a) = condition_rows live base c ++ rows_in live a
  rows_in live (catch q k a) = rows_in live a
  rows_in live (leave n k) = []
  -- a value that is looked for is no condition
  rows_in live (select q base e arms) = rows_in_arms live arms

  pub rows_in_arms : ℕ → Arms → List (List ℤ)
  rows_in_arms live no_arms = []
  rows_in_arms live (entry l arms) = rows_in_arms live arms
  rows_in_arms live (arm a arms) = rows_in live a ++ rows_in_arms live arms

-- of what a loop does in a round: its step, then its body
abbrev pub round_rows : ℕ → Node → List (List ℤ)
round_rows live (seq body step) = rows_in live step ++ rows_in live body
round_rows live a = rows_in live a

-- constants --------------------------------------------------------------------------------------------------------

-- x - t >= 0 and t - x >= 0 for each constant t, x the variable of this place
abbrev pub constant_rows_at : ℕ → List ℤ → ℕ → List (List ℤ)
constant_rows_at live constants place =
    flat_map (λ t. row_of (variable_form live place) (neg_ℤ t) ∷ row_against (variable_form live place) t ∷ [])
    constants

-- of so many variables from this one on
abbrev pub rows_from : ℕ → List ℤ → ℕ → ℕ → List (List ℤ)
rows_from live constants place zero = []
rows_from live constants place (suc more) =
    constant_rows_at live constants place ++ rows_from live constants (suc place) more

-- of each variable that lives, the oldest first
abbrev pub constant_rows : ℕ → List ℤ → List (List ℤ)
constant_rows live constants = rows_from live constants 0 live

-- the whole --------------------------------------------------------------------------------------------------------

-- no number of it is above 2^31 in magnitude
abbrev pub has_small_numbers : List ℤ → Bool
has_small_numbers row = list_all (λ z. nat_le (unsigned_abs z) (2 ^ 31)) row

abbrev pub is_among : List (List ℤ) → List ℤ → Bool
is_among rows row = list_any (λ other. pointwise int_eq other row) rows

-- the rows so far with one more after them, unless it is among them, or has a large number
abbrev pub with_threshold_row : List (List ℤ) → List ℤ → List (List ℤ)
with_threshold_row so row = if has_small_numbers row && not (is_among so row) then so ++ row ∷ [] else so

abbrev pub rows_once : List (List ℤ) → List (List ℤ)
rows_once rows = fold with_threshold_row [] rows

-- the threshold rows: those of conditions once each, then those of constants that aren't among them; no row is there
-- twice, since different constants give different rows
abbrev pub all_threshold_rows : List (List ℤ) → List (List ℤ) → List (List ℤ)
all_threshold_rows own more = own ++ filter (λ row. not (is_among own row)) more

abbrev pub threshold_rows : List ℤ → ℕ → ℕ → Cond → Node → LinearSystem ConKind
threshold_rows constants live base c a =
    inequalities live
    (all_threshold_rows (rows_once (condition_rows live base c ++ round_rows live a)) (constant_rows live constants))

-- the rows that a loop's head is given, of which so many variables live
abbrev pub loop_thresholds : Widening → ℕ → ℕ → Cond → Node → LinearSystem ConKind
loop_thresholds standard live base c a = guard_thresholds live base c
loop_thresholds limited live base c a = guard_thresholds live base c
loop_thresholds (by_thresholds constants) live base c a = threshold_rows constants live base c a
