-- For each thread and scalar global an interval, or none while no value of the thread's was found for that global.
use Rattle.std.specs.Prelude.{◌≡◌, ◌+◌, ℕ, zero, suc, List, [], ◌∷◌, length, Option, None, Some, ⊤, replicate}
use Rattle.lra_domain.specs.Bounds.{finite, stable}
use Rattle.lra_box.specs.Tables.{joined_interval, IntervalWithin, widened_low}
use Rattle.lra_box.specs.{Bounds.EndsInRange, declared.interval.Interval.Interval}
use Rattle.lra_threads_fixpoint.specs.declared.growth.Growth.{Growth}
use Rattle.lra_threads_fixpoint.specs.declared.growth.Growth.TheVariants.{Join, Widen}

-- a thread's intervals, global by global
abbrev pub IntervalRow : Type 0
IntervalRow = List (Option Interval)

-- thread by thread
abbrev pub IntervalTable : Type 0
IntervalTable = List IntervalRow

abbrev pub no_values : ℕ → IntervalRow
no_values globals = replicate globals None

abbrev pub empty_table : ℕ → ℕ → IntervalTable
empty_table threads globals = replicate threads (no_values globals)

-- single intervals -------------------------------------------------------------------------------------------------

abbrev pub joined_option : Option Interval → Option Interval → Option Interval
joined_option None j = j
joined_option (Some i) None = Some i
joined_option (Some i) (Some j) = Some (joined_interval i j)

abbrev pub OptionWithin : Option Interval → Option Interval → Type 0
OptionWithin None j = ⊤
OptionWithin (Some i) None = ⊥
OptionWithin (Some i) (Some j) = IntervalWithin i j

-- the bounds that stay when the other comes in
abbrev pub widened_interval : Interval → Interval → Interval
widened_interval i w = record {
  low = widened_low i.low (joined_interval i w).low;
  high = stable i.high (joined_interval i w).high;
}

-- an empty interval becomes what is written; of any other a bound that would move goes
abbrev pub widened_option : Option Interval → Option Interval → Option Interval
widened_option None w = w
widened_option (Some i) None = Some i
widened_option (Some i) (Some w) = Some (widened_interval i w)

abbrev pub grown_option : Growth → Option Interval → Option Interval → Option Interval
grown_option Join i w = joined_option i w
grown_option Widen i w = widened_option i w

-- lists ------------------------------------------------------------------------------------------------------------

-- one by one; if the second list ends, the first stays
abbrev pub by_ones : {A : Type 0} → (A → A → A) → List A → List A → List A
by_ones f [] ys = []
by_ones f (x ∷ xs) [] = x ∷ xs
by_ones f (x ∷ xs) (y ∷ ys) = f x y ∷ by_ones f xs ys

-- each of the first has its own in the second
abbrev pub EachHas : {A : Type 0} → (A → A → Type 0) → List A → List A → Type 0
EachHas Has [] ys = ⊤
EachHas Has (x ∷ xs) [] = ⊥
EachHas Has (x ∷ xs) (y ∷ ys) = Has x y × EachHas Has xs ys

-- another element at a place, if there is that
abbrev pub updated : {A : Type 0} → ℕ → (A → A) → List A → List A
updated x f [] = []
updated zero f (a ∷ xs) = f a ∷ xs
updated (suc x) f (a ∷ xs) = a ∷ updated x f xs

abbrev pub grown_row : Growth → IntervalRow → IntervalRow → IntervalRow
grown_row growth row other = by_ones (grown_option growth) row other

abbrev pub grown_table : Growth → IntervalTable → IntervalTable → IntervalTable
grown_table growth table other = by_ones (grown_row growth) table other

abbrev pub RowWithin : IntervalRow → IntervalRow → Type 0
RowWithin row other = EachHas OptionWithin row other

-- each interval of the first lies in its own of the second
abbrev pub TableWithin : IntervalTable → IntervalTable → Type 0
TableWithin table other = EachHas RowWithin table other

-- how intervals grow after a round that isn't settled; so many rounds of joining are left
abbrev pub growth_of : ℕ → Growth
growth_of (suc left) = Join
growth_of zero = Widen

abbrev pub next_table : ℕ → IntervalTable → IntervalTable → IntervalTable
next_table left table written = grown_table (growth_of left) table written

-- how far a table is from the end of all rounds: 3 for an interval that is none, else its bounds
abbrev pub option_measure : Option Interval → ℕ
option_measure None = 3
option_measure (Some i) = finite i.low + finite i.high

abbrev pub row_measure : IntervalRow → ℕ
row_measure [] = 0
row_measure (i ∷ is) = option_measure i + row_measure is

abbrev pub table_measure : IntervalTable → ℕ
table_measure [] = 0
table_measure (row ∷ rows) = row_measure row + table_measure rows

-- what the code holds ----------------------------------------------------------------------------------------------

-- the bounds that there are lie in the range
abbrev pub OptionFits : Option Interval → Type 0
OptionFits None = ⊤
OptionFits (Some i) = EndsInRange i

abbrev pub RowFits : IntervalRow → Type 0
RowFits [] = ⊤
RowFits (i ∷ is) = OptionFits i × RowFits is

-- each thread has an interval, or none, for each of so many globals
abbrev pub AreRowsWide : ℕ → IntervalTable → Type 0
AreRowsWide globals [] = ⊤
AreRowsWide globals (row ∷ rows) = (length row ≡ globals) × AreRowsWide globals rows
