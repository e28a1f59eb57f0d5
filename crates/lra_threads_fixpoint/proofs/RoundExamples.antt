-- Worked examples: the intervals of two threads over one global, round by round.
use Rattle.std.proofs.{Common.◌≡◌, Common.ℤ, Common.pos, Common.[], Common.◌∷◌, Common.None, Common.Some, Common.refl, Common.arith, lemmas.Int.ints}
use Rattle.lra_box.specs.declared.interval.Interval.{Interval}
use Rattle.lra_threads_fixpoint.specs.{Interference.interference_on, Intervals.IntervalTable, Intervals.empty_table, Intervals.next_table, Intervals.TableWithin, Intervals.table_measure}

abbrev from_to : ℤ → ℤ → Interval
from_to low high = record { low = Some low; high = Some high }

-- the first thread counts the global from 0 up to 5, the other reads it
abbrev counted : IntervalTable
counted = (Some (from_to (pos 1) (pos 5)) ∷ []) ∷ (None ∷ []) ∷ []

-- after the first round the interval is what is written
counted_first : next_table 2 (empty_table 2 1) counted ≡ counted
counted_first = refl

counted_moves : ¬ TableWithin counted (empty_table 2 1)
counted_moves h = h.0.0

-- then the reader is reported it, and the counter nothing
reader_is_told : interference_on 1 1 counted ≡ Some (from_to (pos 1) (pos 5)) ∷ []
reader_is_told = refl

counter_is_told : interference_on 1 0 counted ≡ None ∷ []
counter_is_told = refl

-- the same is written again: the second round settles
counted_settles : TableWithin counted counted
counted_settles = (((omega (arith, ints), omega (arith, ints)), tt), ((tt, tt), tt))

-- two threads that each count from below 4 by one: 1, then up to 2, then up to 3
abbrev both : Interval → IntervalTable
both i = (Some i ∷ []) ∷ (Some i ∷ []) ∷ []

both_first : next_table 2 (empty_table 2 1) (both (from_to (pos 1) (pos 1))) ≡ both (from_to (pos 1) (pos 1))
both_first = refl

both_second : next_table 1 (both (from_to (pos 1) (pos 1))) (both (from_to (pos 1) (pos 2))) ≡ both (from_to (pos 1) (pos 2))
both_second = refl

-- in the third round the bound that would move goes
both_third : next_table 0 (both (from_to (pos 1) (pos 2))) (both (from_to (pos 1) (pos 3))) ≡ both (record { low = Some (pos 1); high = None })
both_third = refl

-- and the measure falls from 4 to 2
both_measures : (table_measure (both (from_to (pos 1) (pos 2))) ≡ 4) × (table_measure (both (record { low = Some (pos 1); high = None })) ≡ 2)
both_measures = (refl, refl)
