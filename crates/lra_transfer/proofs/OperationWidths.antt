-- How many dimensions values have after moves.
use Rattle.std.proofs.Common.{◌≡◌, ℕ, ℤ, zero, suc, ◌+◌, ◌-◌, List, [], ◌∷◌, length, Option, Some, None, Bool, true, false, refl, ap, ◌∙◌, arith}
use Rattle.std.specs.Prelude.{not}
use Rattle.lra_transfer.specs.Crates.lra_analysis_spec.Linearization.{linearized, subtracted, linearized_difference}
use Rattle.lra_transfer.specs.Crates.lra_analysis_spec.MovesOf.{within_type, set_to, append_set, set_target, push_all, drop_last, moves_of, first_values, test_action, test_moves, case_moves, set_cell}
use Rattle.lra_transfer.specs.Crates.lra_analysis_spec.MovesOf.{linearized_moves, split_moves, comparison_moves, comparison_as, guard, value_moves}
use Rattle.lra_transfer.specs.Crates.lra_analysis_spec.declared.linearization.Linearized.TheVariants.{Linear, Divided, Unseen}
use Rattle.lra_transfer.specs.Crates.lra_base.Operators.{Comparison, below, at_most, above, at_least, equal, differs}
use Rattle.lra_transfer.specs.Crates.lra_base.declared.number_types.NumberType.TheVariants.{Int, Long}
use Rattle.lra_transfer.specs.Crates.lra_domain.Moves.{Moves, stay, make, first_then, join_of, dims_moved}
use Rattle.lra_transfer.specs.Crates.{lra_analysis_spec.Linear.comparison_test, lra_analysis_spec.Live.live_after_op, lra_analysis_spec.Moves.AreMade, lra_analysis_spec.Operations.lossy_operations}
use Rattle.lra_transfer.specs.Crates.{lra_analysis_spec.Pass.OpTransfer, lra_analysis_spec.Pass.Filters, lra_analysis_spec.Pass.ValueIs, lra_analysis_spec.declared.linearization.Division.Division}
use Rattle.lra_transfer.specs.Crates.{lra_analysis_spec.declared.linearization.Linearized.Linearized, lra_base.declared.number_types.NumberType.NumberType, lra_domain.Abstraction.Abstraction}
use Rattle.lra_transfer.specs.Crates.{lra_domain.Actions.embed, lra_domain.declared.Exactness.Exactness, lra_linear_forms.declared.test.Test.Test}
use Rattle.lra_program.specs.{Program.Expr, Program.Cond, Program.literal, Program.compare, Program.nonzero, Program.opposite, Program.both_of, Program.either_of, Step.Op, Step.append, Step.fill}
use Rattle.lra_program.specs.{Step.store_value, Step.store_element, Step.havoc, Step.push_for, Step.truncate_to, Step.test, Value.Argument, declared.program.GlobalVariable.GlobalVariable}
use Rattle.lra_program.specs.{declared.receivers.Cell.Cell, declared.receivers.Cell.TheVariants.Variable, declared.receivers.Cell.TheVariants.Waiting, declared.receivers.Target.Target}
use Rattle.lra_program.specs.Step as step
use Rattle.lra_transfer.specs.Crates.lra_analysis_spec.Linear as linear
use Rattle.lra_transfer.proofs.ChangeSteps.{cases_dims, set_dims}

-- moves ----------------------------------------------------------------------------------------------------------------

-- the tests after an `int` change none
pub within_after : (t : NumberType) (live x : ℕ) (p : Moves) (n k : ℕ) → dims_moved p n ≡ k → dims_moved (within_type t live x p) n ≡ k
within_after Long live x p n k e = e
within_after Int live x p n k e = e

pub push_after : (live base : ℕ) (given : List Argument) (n : ℕ) → dims_moved (push_all live base given) n ≡ n + length given
push_after live base [] n = omega arith
push_after live base (a ∷ rest) n =
    let w = linearized (suc live) base a.value in
    ap (dims_moved (push_all (suc live) base rest))
    (within_after a.number_type (suc live) live (append_set live w) n (n + 1) (set_dims (suc live) live w (n + 1))) ∙
    push_after (suc live) base rest (n + 1) ∙ omega arith

cell_after : (live : ℕ) (t : NumberType) (c : Cell) (w : Linearized) (n : ℕ) → dims_moved (set_cell live t c w) n ≡ n
cell_after live t (Variable x) w n = within_after t live x (set_to live x w) n n (set_dims live x w n)
cell_after live t (Waiting p) w n = refl

pub target_after : (live : ℕ) (o : Option Target) (w : Linearized) (n : ℕ) → dims_moved (set_target live o w) n ≡ n
target_after live None w n = refl
target_after live (Some t) w n = cell_after live t.number_type t.cell w n

pub drop_after : (k n : ℕ) → dims_moved (drop_last k) n ≡ n - k
drop_after zero n = omega arith
drop_after (suc k) n = refl

pub test_after : (o : Option Test) (n : ℕ) → dims_moved (test_moves o) n ≡ n
test_after None n = refl
test_after (Some t) n = refl

pub case_after : (live : ℕ) (c : Division) (o : Option Test) (n : ℕ) → dims_moved (case_moves live c o) n ≡ n
case_after live c None n = refl
case_after live c (Some t) n = cases_dims live c (test_action t) n refl

pub seen_after : (live : ℕ) (op : Comparison) (w : Linearized) (n : ℕ) → dims_moved (linearized_moves live op w) n ≡ n
seen_after live op (Linear d) n = test_after (comparison_test op d) n
seen_after live op (Divided c d) n = case_after live c (comparison_test op d) n
seen_after live op Unseen n = refl

pub split_after : (live : ℕ) (op : Comparison) (w : Linearized) (n : ℕ) → dims_moved (split_moves live op w) n ≡ n
split_after live differs w n = seen_after live below w n
split_after live below w n = seen_after live below w n
split_after live at_most w n = seen_after live at_most w n
split_after live above w n = seen_after live above w n
split_after live at_least w n = seen_after live at_least w n
split_after live equal w n = seen_after live equal w n

pub comparison_after : (live : ℕ) (op : Comparison) (w : Linearized) (n : ℕ) → dims_moved (comparison_moves live op w) n ≡ n
comparison_after live op (Linear d) n = split_after live op (Linear d) n
comparison_after live op (Divided c d) n = split_after live op (Divided c d) n
comparison_after live op Unseen n = refl

pub guard_after : (live base : ℕ) (wanted : Bool) (c : Cond) (n : ℕ) → dims_moved (guard live base wanted c) n ≡ n
guard_after live base wanted (compare op a b) n = comparison_after live (comparison_as wanted op) (linearized_difference live base a b) n
guard_after live base wanted (nonzero e) n = comparison_after live (comparison_as wanted differs) (linearized_difference live base e (literal Int 0)) n
guard_after live base wanted (opposite c) n = guard_after live base (not wanted) c n
guard_after live base true (both_of a b) n = ap (dims_moved (guard live base true b)) (guard_after live base true a n) ∙ guard_after live base true b n
guard_after live base false (both_of a b) n = guard_after live base false a n
guard_after live base true (either_of a b) n = guard_after live base true a n
guard_after live base false (either_of a b) n = ap (dims_moved (guard live base false b)) (guard_after live base false a n) ∙ guard_after live base false b n

pub first_after : (gs : List GlobalVariable) (live n : ℕ) → dims_moved (first_values live gs) n ≡ n + length gs
first_after [] live n = omega arith
first_after (g ∷ gs) live n =
    ap (dims_moved (first_values (suc live) gs))
    (within_after g.number_type (suc live) live (append_set live (Linear (linear.constant_form (suc live) g.value))) n (n + 1) refl) ∙
    first_after gs (suc live) (n + 1) ∙ omega arith

pub op_after : (op : Op) (n : ℕ) → dims_moved (moves_of n op) n ≡ live_after_op op n
op_after (append t) n = within_after t (suc n) n (make (embed 1)) n (suc n) (omega arith)
op_after (fill a) n = refl
op_after (store_value base x y) n = target_after n x.target (linearized n base y) n
op_after (store_element base x y) n = refl
op_after (havoc x) n = target_after n x.target Unseen n
op_after (step.push base given) n = push_after n base given n
op_after (push_for base x given) n = push_after n base given n
op_after (truncate_to k) n = drop_after (n - k) n
op_after (test base c wanted) n = guard_after n base wanted c n

-- values ---------------------------------------------------------------------------------------------------------------

module _ (V H : Type 0) (m : Abstraction V H) where
  pub made_dims : (p : Moves) (v : V) (e : Exactness) (w : V) → AreMade (lossy_operations m) p v e w → m.dims w ≡ dims_moved p (m.dims v)
  made_dims stay v e w (same, exact) = ap (λ (x : V). m.dims x) same
  made_dims (make step) v e w made = made.1
  made_dims (first_then p q) v e w (x, c, d, one, two, worst) = made_dims q x d w two ∙ ap (dims_moved q) (made_dims p v c x one)
  made_dims (join_of p q) v e w (x, y, c, d, i, one, two, joined, worst) = joined.2 ∙ made_dims p v c x one

  pub leaves_dims : (base : ℕ) (c : Cond) (wanted : Bool) (v : V) (e : Exactness) (w : V) → Filters (lossy_operations m) base c wanted v e w →
      m.dims w ≡ m.dims v
  leaves_dims base c wanted v e w is = made_dims (guard (m.dims v) base wanted c) v e w is ∙ guard_after (m.dims v) base wanted c (m.dims v)

  pub changes_dims : (op : Op) (v : V) (e : Exactness) (w : V) → OpTransfer (lossy_operations m) op v e w → m.dims w ≡ live_after_op op (m.dims v)
  changes_dims op v e w is = made_dims (moves_of (m.dims v) op) v e w is ∙ op_after op (m.dims v)

  pub value_dims : (base : ℕ) (e : Expr) (z : ℤ) (wanted : Bool) (v : V) (x : Exactness) (w : V) → ValueIs (lossy_operations m) base e z wanted v x w
      → m.dims w ≡ m.dims v
  value_dims base e z wanted v x w is =
      let n = m.dims v in
      made_dims (value_moves n base wanted e z) v x w is ∙
      comparison_after n (comparison_as wanted equal) (subtracted (linearized n base e) (Linear (linear.constant_form n z))) n

  pub globals_dims : (globals : List GlobalVariable) (v : V) (e : Exactness) (w : V) → AreMade (lossy_operations m) (first_values 0 globals) v e w →
      m.dims v ≡ 0
      → m.dims w ≡ length globals
  globals_dims globals v e w is none =
      made_dims (first_values 0 globals) v e w is ∙ first_after globals 0 (m.dims v) ∙ sum_of (m.dims v) (length globals) none
    where
      sum_of : (n k : ℕ) → n ≡ 0 → n + k ≡ k
      sum_of n k e = omega (arith, e)
