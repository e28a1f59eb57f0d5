-- The tables of octagons: what each change makes of the matrix, and when it may be flagged.
use Rattle.std.specs.Prelude.{◌≡◌, ℕ, zero, suc, ◌+◌, ◌-◌, ◌*◌, ◌/◌, ◌%◌, ◌<◌, ◌==◌, cond, int_lt, ℤ, pos, neg_ℤ, ◌+ℤ◌}
use Rattle.std.specs.Prelude.{◌≤ℤ◌, ◌<ℤ◌, ◌^◌, Bool, true, false, if◌then◌else◌, List, [], ◌∷◌, map, length, replicate}
use Rattle.std.specs.Prelude.{slice_set, slice_index_or, Option, None, Some, ◌⊎◌}
use Rattle.std.specs.{Int.int_div_euclid, Option.option_map}
use Rattle.lra_octagon.specs.Crates.lra_linear_forms.Form.{Form}
use Rattle.lra_linear_spec.specs.declared.ConKind.{ConKind}
use Rattle.lra_linear_spec.specs.declared.ConKind.TheVariants.{Ge, Eq}
use Rattle.lra_dbm.specs.Cells.{Cells, entries, entered, forgotten, first_entries, IsMatrix}
use Rattle.lra_dbm.specs.{Closing.closing, Closure.IsClosure, Entry.◌⊞◌, Entry.half_of, Entry.lesser}
use Rattle.lra_dbm.specs.{Entry.passes_range, Shifting.shifted, Shifting.ShiftPasses, Tight.Entries, Tight.opposite}
use Rattle.lra_domain.specs.Actions.{Action, assign, forget, test, embed, remove_last}
use Rattle.lra_box.specs.Bounds.{full_interval, crossed, end_sum, SumPasses}
use Rattle.lra_box.specs.declared.interval.Side.TheVariants.{Low, High}
use Rattle.lra_box.specs.{Refine.ge_tested, Refine.RefinePasses, declared.interval.Interval.Interval}
use Rattle.lra_octagon.specs.Content.{OctagonContent}
use Rattle.lra_octagon.specs.declared.assigning.Assignment.TheVariants.{Equate, Shift, Bound}
use Rattle.lra_octagon.specs.declared.forms.FormShape.TheVariants.{Constant, One, Two, Other}
use Rattle.lra_octagon.specs.{Forms.shape, declared.assigning.Assignment.Assignment, declared.forms.FormShape.FormShape}

-- ---- unary bounds

-- the greatest value of a signed variable that the matrix allows, rounded down
abbrev pub most : Entries → ℕ → Option ℤ
most m i = half_of (m (opposite i) i)

-- half of a number in the range
abbrev pub IsHalf : ℤ → Type 0
IsHalf a = (neg_ℤ (pos (2 ^ 126)) ≤ℤ a) × (a <ℤ pos (2 ^ 126))

-- the numbers of x_k that the matrix allows
abbrev pub interval : Entries → ℕ → Interval
interval m k = record { low = option_map neg_ℤ (most m (2 * k + 1)); high = most m (2 * k) }

abbrev pub intervals_from : Entries → ℕ → ℕ → List Interval
intervals_from m k zero = []
intervals_from m k (suc n) = interval m k ∷ intervals_from m (suc k) n

abbrev pub intervals : ℕ → Entries → List Interval
intervals n m = intervals_from m 0 n

-- some interval is crossed
abbrev pub some_crossed : List Interval → Bool
some_crossed [] = false
some_crossed (i ∷ is) = if crossed i then true else some_crossed is

-- the upper bound that an interval sets for a variable, or with sign 1 for its opposite
abbrev pub upper_of : ℕ → Interval → Option ℤ
upper_of zero i = i.high
upper_of (suc k) i = option_map neg_ℤ i.low

-- the upper bound of a signed variable, if each variable lies in its interval
abbrev pub upper : List Interval → ℕ → Option ℤ
upper is j = upper_of (j % 2) (slice_index_or is (j / 2) full_interval)

-- the entries with each variable in its interval: twice the upper bound of each signed variable is entered
abbrev pub bounded : List Interval → Entries → Entries
bounded is m i j = cond (i == opposite j) (lesser (m i j) (upper is j ⊞ upper is j)) (m i j)

-- the matrix with these entries
pub record Bounds (n : ℕ) (ends : List Interval) (old new : Cells) : Type 0 where
  pub is : IsMatrix n new
  pub entries : (i j : ℕ) → i < 2 * n → j < 2 * n → entries n new i j ≡ bounded ends (entries n old) i j

-- twice a bound passes the range
abbrev pub SomePasses : ℕ → List Interval → Type 0
SomePasses n is = (j : ℕ) × (j < 2 * n) × (passes_range (upper is j ⊞ upper is j) ≡ true)

-- ---- assignments

-- the cells with all entries of x infinite
pub record Forgets (n x : ℕ) (old new : Cells) : Type 0 where
  pub is : IsMatrix n new
  pub entries : (i j : ℕ) → entries n new i j ≡ forgotten x (entries n old) i j

-- x is v_i + c, for another variable's signed variable i
abbrev pub equated : ℕ → ℕ → ℤ → Cells → Cells
equated x i c cells = entered (2 * x) i (Some (neg_ℤ c)) (entered i (2 * x) (Some c) cells)

-- the cells when x becomes x + c, or if it flips -x + c
pub record Shifts (n : ℕ) (flips : Bool) (x : ℕ) (c : ℤ) (old new : Cells) : Type 0 where
  pub is : IsMatrix n new
  pub entries : (i j : ℕ) → i < 2 * n → j < 2 * n → entries n new i j ≡ shifted flips x c (entries n old) i j

-- what an assignment does, by the form's shape
abbrev pub assignment_of : ℕ → FormShape → Assignment
assignment_of x Constant = Bound
assignment_of x (One m i) = cond (m == 1) (cond (i / 2 == x) (Shift (i % 2 == 1)) (Equate i)) Bound
assignment_of x (Two m i j) = Bound
assignment_of x Other = Bound

abbrev pub form_interval : ℕ → Entries → Form → Interval
form_interval n m e = record {
  low = end_sum Low e.constant e.coefficients (intervals n m);
  high = end_sum High e.constant e.coefficients (intervals n m);
}

-- one variable in the interval
abbrev pub alone : ℕ → ℕ → Interval → List Interval
alone n x i = slice_set (replicate n full_interval) x i

abbrev pub AssignsTo : ℕ → ℕ → Form → Assignment → Cells → Option Cells → Type 0
AssignsTo n x e (Shift flips) old None = ⊥
AssignsTo n x e (Shift flips) old (Some new) = Shifts n flips x e.constant old new
AssignsTo n x e (Equate i) old new =
    (cells : Cells) × Forgets n x old cells × IsClosure n (entries n (equated x i e.constant cells)) new
AssignsTo n x e Bound old new = (cells : Cells) × Forgets n x old cells
    × IsClosure n (bounded (alone n x (form_interval n (entries n old) e)) (entries n cells)) new

-- ---- tests

-- e >= 0 if e divided by the magnitude of its coefficients is v_i + v_j + q, or v_i + q
abbrev pub at_least : ℕ → ℕ → ℤ → Cells → Cells
at_least i j q cells = entered i (opposite j) (Some q) cells

abbrev pub quotient : Form → ℕ → ℤ
quotient e m = int_div_euclid e.constant (pos m)

-- the closure of the matrix with these bounds, if there are any
abbrev pub BoundsTo : ℕ → Cells → Option (List Interval) → Option Cells → Type 0
BoundsTo n old None new = new ≡ None
BoundsTo n old (Some is) new = IsClosure n (bounded is (entries n old)) new

-- without a variable the matrix stays as it is
abbrev pub TestsTo : ℕ → Form → FormShape → Option Cells → Option Cells → Type 0
TestsTo n e s None new = new ≡ None
TestsTo n e Constant (Some old) new = new ≡ cond (int_lt e.constant (pos 0)) None (Some old)
TestsTo n e (One m i) (Some old) new = IsClosure n (entries n (at_least i i (quotient e m +ℤ quotient e m) old)) new
TestsTo n e (Two m i j) (Some old) new = IsClosure n (entries n (at_least i j (quotient e m) old)) new
TestsTo n e Other (Some old) new =
    BoundsTo n old (ge_tested e.constant e.coefficients (Some (intervals n (entries n old)))) new

-- -e
abbrev pub minus_form : Form → Form
minus_form e = record { constant = neg_ℤ e.constant; coefficients = map neg_ℤ e.coefficients }

-- `e = 0` is `e >= 0`, then `-e >= 0`
abbrev pub Tests : ConKind → ℕ → Form → Option Cells → Option Cells → Type 0
Tests Ge n e old new = TestsTo n e (shape e) old new
Tests Eq n e old new =
    (between : Option Cells) × TestsTo n e (shape e) old between
    × TestsTo n (minus_form e) (shape (minus_form e)) between new

-- ---- all changes

abbrev pub Assigns : ℕ → ℕ → Form → Option Cells → Option Cells → Type 0
Assigns n x e None new = new ≡ None
Assigns n x e (Some old) new = AssignsTo n x e (assignment_of x (shape e)) old new

-- the entries of the new matrix are those that the old one is to have
abbrev pub Becomes : ℕ → (Entries → Entries) → ℕ → Option Cells → Option Cells → Type 0
Becomes k f n None new = new ≡ None
Becomes k f n (Some old) None = ⊥
Becomes k f n (Some old) (Some new) = IsMatrix k new × ((i j : ℕ) → entries k new i j ≡ f (entries n old) i j)

-- the defined result of a change
abbrev pub OctagonTransfersTo : Action → OctagonContent → OctagonContent → Type 0
OctagonTransfersTo (assign x e) a b = (b.dims ≡ a.dims) × Assigns a.dims x e a.cells b.cells
OctagonTransfersTo (forget x) a b = (b.dims ≡ a.dims) × Becomes a.dims (forgotten x) a.dims a.cells b.cells
OctagonTransfersTo (test kind e) a b = (b.dims ≡ a.dims) × Tests kind a.dims e a.cells b.cells
OctagonTransfersTo (embed k) a b = (b.dims ≡ a.dims + k) × Becomes (a.dims + k) (λ m. m) a.dims a.cells b.cells
OctagonTransfersTo (remove_last k) a b =
    (b.dims ≡ a.dims - k) × Becomes (a.dims - k) (first_entries (a.dims - k)) a.dims a.cells b.cells

-- ---- strains

-- a number of the numbered steps of closing passes the range
abbrev pub ClosingPasses : ℕ → Cells → Type 0
ClosingPasses n cells = (closing n cells).progress.flagged ≡ true

-- a number of the numbered steps of closing the matrix with each variable in its interval passes the range
abbrev pub BoundedPasses : ℕ → List Interval → Cells → Type 0
BoundedPasses n is old = (cells : Cells) × Bounds n is old cells × ClosingPasses n cells

abbrev pub MatrixAssignPasses : ℕ → ℕ → Form → Assignment → Cells → Type 0
MatrixAssignPasses n x e (Shift flips) old = ShiftPasses n flips x e.constant (entries n old)
MatrixAssignPasses n x e (Equate i) old =
    (cells : Cells) × Forgets n x old cells × ClosingPasses n (equated x i e.constant cells)
MatrixAssignPasses n x e Bound old =
    SumPasses Low e.constant e.coefficients (intervals n (entries n old))
    ⊎ SumPasses High e.constant e.coefficients (intervals n (entries n old))
    ⊎ SomePasses n (alone n x (form_interval n (entries n old) e))
    ⊎ ((cells : Cells) × Forgets n x old cells × BoundedPasses n (alone n x (form_interval n (entries n old) e)) cells)

abbrev pub BoundsPass : ℕ → Cells → Option (List Interval) → Type 0
BoundsPass n old None = ⊥
BoundsPass n old (Some is) = SomePasses n is ⊎ BoundedPasses n is old

-- a test `e >= 0` may be flagged
abbrev pub FirstTestPasses : ℕ → Form → FormShape → Option Cells → Type 0
FirstTestPasses n e s None = ⊥
FirstTestPasses n e Constant (Some old) = ⊥
FirstTestPasses n e (One m i) (Some old) = ClosingPasses n (at_least i i (quotient e m +ℤ quotient e m) old)
FirstTestPasses n e (Two m i j) (Some old) = ClosingPasses n (at_least i j (quotient e m) old)
FirstTestPasses n e Other (Some old) =
    RefinePasses e.constant e.coefficients (length e.coefficients) (Some (intervals n (entries n old)))
    ⊎ BoundsPass n old (ge_tested e.constant e.coefficients (Some (intervals n (entries n old))))

abbrev pub MatrixTestPasses : ConKind → ℕ → Form → Option Cells → Type 0
MatrixTestPasses Ge n e old = FirstTestPasses n e (shape e) old
MatrixTestPasses Eq n e old =
    FirstTestPasses n e (shape e) old
    ⊎ ((between : Option Cells) × TestsTo n e (shape e) old between
    × FirstTestPasses n (minus_form e) (shape (minus_form e)) between)

abbrev pub SomeAssignPasses : ℕ → ℕ → Form → Option Cells → Type 0
SomeAssignPasses n x e None = ⊥
SomeAssignPasses n x e (Some old) = MatrixAssignPasses n x e (assignment_of x (shape e)) old

-- a change may be flagged: a number of its table passes the range
abbrev pub OctagonTransferPasses : Action → OctagonContent → Type 0
OctagonTransferPasses (assign x e) a = SomeAssignPasses a.dims x e a.cells
OctagonTransferPasses (forget x) a = ⊥
OctagonTransferPasses (test kind e) a = MatrixTestPasses kind a.dims e a.cells
OctagonTransferPasses (embed k) a = ⊥
OctagonTransferPasses (remove_last k) a = ⊥
