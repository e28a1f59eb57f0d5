-- What threads write: the numbers in the intervals of a table.
use Rattle.std.specs.Prelude.{◌≡◌, ℕ, ℤ, Some, slice_get}
use Rattle.lra_threads_analysis.specs.Crates.{lra_box.Bounds.InInterval, lra_box.declared.interval.Interval.Interval}
use Rattle.lra_threads_fixpoint.specs.{Interference.interval_at, Intervals.IntervalRow, Intervals.IntervalTable}

-- the row has an interval for the global x, and the number is in it
abbrev pub HasNumber : IntervalRow → ℕ → ℤ → Type 0
HasNumber row x z = (i : Interval) × (interval_at x row ≡ Some i) × InInterval i z

-- so has that of the k-th thread
abbrev pub HasWritten : IntervalTable → ℕ → ℕ → ℤ → Type 0
HasWritten table k x z = (row : IntervalRow) × (slice_get table k ≡ Some row) × HasNumber row x z
