-- What threads tell each other: what others may do to a thread's stores, what a value becomes for it, and what a thread
-- writes.
use Rattle.std.specs.Prelude.{◌≡◌, ◌++◌, ℕ, zero, suc, ℤ, List, [], ◌∷◌, take, drop, length, Option, None, Some}
use Rattle.std.specs.Prelude.{slice_set, nat_eq, if◌then◌else◌}
use Rattle.std.proofs.{Common.subst, Common.sym, Math.ListN.length-set}
use Rattle.lra_domain.specs.Interference.{Interference}
use Rattle.lra_box.specs.Tables.{bound_at, admitted}
use Rattle.lra_box.specs.{Bounds.InInterval, Content.BoxContent, declared.interval.Interval.Interval}
use Rattle.lra_threads_fixpoint.specs.Intervals.{IntervalRow, IntervalTable, no_values, joined_option, grown_option}
use Rattle.lra_threads_fixpoint.specs.{Intervals.grown_row, Intervals.updated, declared.growth.Growth.TheVariants.Join}

-- all but the k-th
abbrev pub others_than : {A : Type 0} → ℕ → List A → List A
others_than k xs = take k xs ++ drop (suc k) xs

-- a value among others ---------------------------------------------------------------------------------------------

abbrev pub admitting_option : ℕ → Option Interval → BoxContent → BoxContent
admitting_option x None v = v
admitting_option x (Some i) v = admitted x i v

-- dimension x may have each value of these intervals, one after the other
abbrev pub admitting_all : ℕ → List (Option Interval) → BoxContent → BoxContent
admitting_all x [] v = v
admitting_all x (i ∷ is) v = admitting_all x is (admitting_option x i v)

-- the interval at a place of a row, none after its end
abbrev pub interval_at : ℕ → IntervalRow → Option Interval
interval_at x [] = None
interval_at zero (i ∷ is) = i
interval_at (suc x) (i ∷ is) = interval_at x is

-- the intervals of global x
abbrev pub column : ℕ → IntervalTable → List (Option Interval)
column x [] = []
column x (row ∷ rows) = interval_at x row ∷ column x rows

-- for each global from x on, in order, those of these threads, in the order of threads
abbrev pub interfered_from : ℕ → ℕ → IntervalTable → BoxContent → BoxContent
interfered_from x zero rows v = v
interfered_from x (suc more) rows v = interfered_from (suc x) more rows (admitting_all x (column x rows) v)

-- what the other threads make of a value of the k-th
abbrev pub interfered : ℕ → ℕ → IntervalTable → BoxContent → BoxContent
interfered globals k table v = interfered_from 0 globals (others_than k table) v

-- what is reported at once -----------------------------------------------------------------------------------------

-- global by global, the join of these rows' intervals
abbrev pub joined_rows : IntervalRow → IntervalTable → IntervalRow
joined_rows row [] = row
joined_rows row (other ∷ rows) = joined_rows (grown_row Join row other) rows

-- what the k-th thread is reported: of each global the join of the other threads' intervals
abbrev pub interference_on : ℕ → ℕ → IntervalTable → IntervalRow
interference_on globals k table = joined_rows (no_values globals) (others_than k table)

-- from global x on, each may have the values of its interval
abbrev pub admitting_row : ℕ → IntervalRow → BoxContent → BoxContent
admitting_row x [] v = v
admitting_row x (i ∷ is) v = admitting_row (suc x) is (admitting_option x i v)

-- one change: a global gets a value within the interval that is reported about it, which is the join of the other
-- threads'
pub record MayWrite (told : IntervalRow) (s t : List ℤ) : Type 0 where
  pub global : ℕ
  pub number : ℤ
  pub interval : Interval
  pub is_told : interval_at global told ≡ Some interval
  pub is_in : InInterval interval number
  pub after : t ≡ slice_set s global number

pub as_long : (told : IntervalRow) (s t : List ℤ) → MayWrite told s t → length t ≡ length s
as_long told s t h = subst (λ (u : List ℤ). length u ≡ length s) (sym h.after) (length-set {A = ℤ} s h.global h.number)

-- what others may do of whom this is reported
abbrev pub row_interference : IntervalRow → Interference BoxContent
row_interference told = record {
  rely = MayWrite told;
  as_long = as_long told;
  done = λ v w. w ≡ admitting_row 0 told v;
  strains = λ v. ⊥;
}

-- the other threads, to the k-th; what a value becomes is written one by one
abbrev pub threads_interference : ℕ → ℕ → IntervalTable → Interference BoxContent
threads_interference globals k table = record {
  rely = MayWrite (interference_on globals k table);
  as_long = as_long (interference_on globals k table);
  done = λ v w. w ≡ interfered globals k table v;
  strains = λ v. ⊥;
}

-- what is written --------------------------------------------------------------------------------------------------

-- the bounds of the variable x in each value that was noted for it, joined; none if all these are empty
abbrev pub written_to : ℕ → List (ℕ × BoxContent) → Option Interval
written_to x [] = None
written_to x ((y, v) ∷ notes) =
    if nat_eq y x then joined_option (bound_at x v.bounds) (written_to x notes) else written_to x notes

-- of so many globals from x on
abbrev pub written_from : ℕ → ℕ → List (ℕ × BoxContent) → IntervalRow
written_from x zero notes = []
written_from x (suc more) notes = written_to x notes ∷ written_from (suc x) more notes

-- by a thread whose notes these are
abbrev pub written_by : ℕ → List (ℕ × BoxContent) → IntervalRow
written_by globals notes = written_from 0 globals notes

-- note by note, of all globals
abbrev pub taken_all : IntervalRow → List (ℕ × BoxContent) → IntervalRow
taken_all row [] = row
taken_all row ((x, v) ∷ notes) = taken_all (updated x (λ i. grown_option Join i (bound_at x v.bounds)) row) notes
