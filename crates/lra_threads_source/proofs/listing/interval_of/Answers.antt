-- Goals of `interval_of`: the interval of a global in a row.
use Rattle.std.proofs.Common.{◌≡◌, ◌≤◌, ◌<◌, ℕ, zero, suc, [], ◌∷◌, length, get_or, refl, arith}
use Rattle.std.specs.Prelude.{Option, None}
use Rattle.lra_threads_source.specs.Crates.{lra_box.declared.interval.Interval.Interval, lra_threads_fixpoint.Interference.interval_at, lra_threads_fixpoint.Intervals.IntervalRow}
use Rattle.lra_threads_source.proofs.listing.interval_of.Goals as goal

past_row : (row : IntervalRow) (x : ℕ) → length row ≤ x → None ≡ interval_at x row
past_row [] x past = refl
past_row (i ∷ row) zero past = absurd (omega (arith, past))
past_row (i ∷ row) (suc x) past = past_row row x (omega (arith, past))

in_row : (row : IntervalRow) (x : ℕ) (i : Option Interval) → x < length row → i ≡ get_or row x i → i ≡ interval_at x row
in_row [] x i low is = absurd (omega (arith, low))
in_row (j ∷ row) zero i low is = is
in_row (j ∷ row) (suc x) i low is = in_row row x i (omega (arith, low)) is

pub returns-in-None : goal.returns-in-None
returns-in-None c = past_row c.args.row.now c.args.global (rw c.as_slice.ensures at c.in-None.ensures.lookup.3)

pub returns-in-Some : goal.returns-in-Some
returns-in-Some c =
    in_row c.args.row.now c.args.global c.in-Some.interval.now (rw c.as_slice.ensures at c.in-Some.ensures.lookup.3.0)
    (rw c.as_slice.ensures at c.in-Some.ensures.lookup.1)
