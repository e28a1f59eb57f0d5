-- The tables of boxes: what each call makes of the bounds, and when it may be flagged.
use Rattle.std.specs.Prelude.{ℕ, ◌+◌, ◌*◌, ◌-◌, ℤ, ◌≤ℤ◌, int_lt, cond, List, [], ◌∷◌, ◌++◌, take, replicate, slice_set}
use Rattle.std.specs.Prelude.{Option, None, Some, ◌⊎◌, slice_index_or}
use Rattle.lra_box.specs.Crates.lra_linear_forms.Form.{Form}
use Rattle.lra_domain.specs.Actions.{Action, assign, forget, test, embed, remove_last}
use Rattle.lra_domain.specs.Bounds.{AtMost, finite, greater, lesser_low, stable}
use Rattle.lra_domain.specs.declared.Mode.TheVariants.{Join, Widen, Limited, Tightest}
use Rattle.lra_domain.specs.{declared.Mode.Mode, declared.Rank.Rank}
use Rattle.lra_box.specs.Bounds.{full_interval, InBounds, end_sum, SumPasses}
use Rattle.lra_box.specs.declared.interval.Side.TheVariants.{Low, High}
use Rattle.lra_box.specs.{Content.BoxContent, Refine.tested, Refine.TestPasses, declared.interval.Interval.Interval}

-- the list is a store of the box
abbrev pub has_bounds : Option (List Interval) → List ℤ → Type 0
has_bounds None s = ⊥
has_bounds (Some is) s = InBounds is s

-- the box with these bounds where it had bounds
abbrev pub on_bounds : (List Interval → List Interval) → Option (List Interval) → Option (List Interval)
on_bounds f None = None
on_bounds f (Some is) = Some (f is)

abbrev pub assigned_bounds : ℕ → Form → List Interval → List Interval
assigned_bounds x e is = slice_set is x (record {
  low = end_sum Low e.constant e.coefficients is;
  high = end_sum High e.constant e.coefficients is;
})

abbrev pub AssignPasses : Form → Option (List Interval) → Type 0
AssignPasses e None = ⊥
AssignPasses e (Some is) = SumPasses Low e.constant e.coefficients is ⊎ SumPasses High e.constant e.coefficients is

-- the lesser lower and the greater upper bound, each absent if one of the two is
abbrev pub joined_interval : Interval → Interval → Interval
joined_interval i j = record { low = lesser_low i.low j.low; high = greater i.high j.high }

abbrev pub joined_intervals : List Interval → List Interval → List Interval
joined_intervals [] is = []
joined_intervals (i ∷ is) [] = []
joined_intervals (i ∷ is) (j ∷ js) = joined_interval i j ∷ joined_intervals is js

abbrev pub joined_bounds : Option (List Interval) → Option (List Interval) → Option (List Interval)
joined_bounds None b = b
joined_bounds (Some is) None = Some is
joined_bounds (Some is) (Some js) = Some (joined_intervals is js)

-- a bound of the old stays if the new is no wider
abbrev pub LowWithin : Option ℤ → Option ℤ → Type 0
LowWithin a None = Unit {0}
LowWithin None (Some b) = ⊥
LowWithin (Some a) (Some b) = b ≤ℤ a

-- each bound that the second has is there in the first too, and no wider there
abbrev pub IntervalWithin : Interval → Interval → Type 0
IntervalWithin i j = LowWithin i.low j.low × AtMost i.high j.high

abbrev pub IntervalsWithin : List Interval → List Interval → Type 0
IntervalsWithin [] [] = Unit {0}
IntervalsWithin [] (j ∷ js) = ⊥
IntervalsWithin (i ∷ is) [] = ⊥
IntervalsWithin (i ∷ is) (j ∷ js) = IntervalWithin i j × IntervalsWithin is js

abbrev pub BoundsWithin : Option (List Interval) → Option (List Interval) → Type 0
BoundsWithin None b = Unit {0}
BoundsWithin (Some is) None = ⊥
BoundsWithin (Some is) (Some js) = IntervalsWithin is js

-- the bounds of a place; none if the box is empty
abbrev pub bound_at : ℕ → Option (List Interval) → Option Interval
bound_at x None = None
bound_at x (Some is) = Some (slice_index_or is x full_interval)

-- the interval comes in at a place: the bounds there are joined with it
abbrev pub admitting : ℕ → Interval → List Interval → List Interval
admitting x i is = slice_set is x (joined_interval (slice_index_or is x full_interval) i)

abbrev pub admitted : ℕ → Interval → BoxContent → BoxContent
admitted x i b = record b { bounds = on_bounds (admitting x i) b.bounds }

-- how many bounds there are
abbrev pub finite_bounds : List Interval → ℕ
finite_bounds [] = 0
finite_bounds (i ∷ is) = (finite i.low + finite i.high) + finite_bounds is

abbrev pub rank_number : ℕ → Option (List Interval) → ℕ
rank_number n None = 2 * n + 1
rank_number n (Some is) = finite_bounds is

abbrev pub rank_of : BoxContent → Rank
rank_of b = record { first = 1; second = 0; third = 0; fourth = rank_number b.dims b.bounds }

abbrev pub widened_low : Option ℤ → Option ℤ → Option ℤ
widened_low None b = None
widened_low (Some a) None = None
widened_low (Some a) (Some b) = cond (int_lt b a) None (Some a)

abbrev pub widened_intervals : List Interval → List Interval → List Interval
widened_intervals [] is = []
widened_intervals (i ∷ is) [] = []
widened_intervals (i ∷ is) (j ∷ js) = record { low = widened_low i.low j.low; high = stable i.high j.high } ∷
    widened_intervals is js

abbrev pub widened_bounds : Option (List Interval) → Option (List Interval) → Option (List Interval)
widened_bounds None b = b
widened_bounds (Some is) None = Some is
widened_bounds (Some is) (Some js) = Some (widened_intervals is js)

abbrev pub grown_bounds : Mode → Option (List Interval) → Option (List Interval) → Option (List Interval)
grown_bounds Join a b = joined_bounds a b
grown_bounds Widen a b = widened_bounds a (joined_bounds a b)
grown_bounds Limited a b = widened_bounds a (joined_bounds a b)
grown_bounds Tightest a b = widened_bounds a (joined_bounds a b)

-- the defined result of a change
abbrev pub stepped : Action → BoxContent → BoxContent
stepped (assign x e) b = record b { bounds = on_bounds (assigned_bounds x e) b.bounds }
stepped (forget x) b = record b { bounds = on_bounds (λ is. slice_set is x full_interval) b.bounds }
stepped (test kind e) b = record b { bounds = tested kind e b.bounds }
stepped (embed k) b = record { dims = b.dims + k; bounds = on_bounds (λ is. is ++ replicate k full_interval) b.bounds }
stepped (remove_last k) b = record { dims = b.dims - k; bounds = on_bounds (λ is. take (b.dims - k) is) b.bounds }

-- a number of the table passes the range
abbrev pub BoxTransferPasses : Action → BoxContent → Type 0
BoxTransferPasses (assign x e) b = AssignPasses e b.bounds
BoxTransferPasses (forget x) b = ⊥
BoxTransferPasses (test kind e) b = TestPasses kind e b.bounds
BoxTransferPasses (embed k) b = ⊥
BoxTransferPasses (remove_last k) b = ⊥
