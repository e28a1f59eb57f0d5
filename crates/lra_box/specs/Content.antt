-- What a box holds.
use Rattle.std.specs.Prelude.{◌≡◌, ℕ, List, length, Option, None, Some, Vec}
use Rattle.std.specs.{Option.option_map, declared.alloc.Global.Global}
use Rattle.lra_box.specs.{Bounds.AllValidIntervals, declared.interval.Interval.Interval}

-- the dimensions of a box, and its intervals, or none if it is empty
pub record BoxContent : Type 0 where
  pub dims : ℕ
  pub bounds : Option (List Interval)

-- there is an interval for each dimension
abbrev pub BoundsFit : ℕ → Option (List Interval) → Type 0
BoundsFit n None = Unit {0}
BoundsFit n (Some is) = length is ≡ n

-- each interval is in order
abbrev pub BoundsAreValid : Option (List Interval) → Type 0
BoundsAreValid None = Unit {0}
BoundsAreValid (Some is) = AllValidIntervals is

-- what a box holds: an interval for each dimension, none of them crossed
abbrev pub WellFormedBox : BoxContent → Type 0
WellFormedBox b = BoundsFit b.dims b.bounds × BoundsAreValid b.bounds

-- what the code's bounds are seen as
abbrev pub bounds_view : Option (Vec Interval Global) → Option (List Interval)
bounds_view o = option_map (λ v. v.items) o
