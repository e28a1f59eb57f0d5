-- A number in the interval of one thread's row is in that of the row that another thread is reported.
use Rattle.std.proofs.Common.{◌≡◌, ◌≢◌, ◌<◌, ℕ, zero, suc, ℤ, [], ◌∷◌, Option, None, Some, length, refl, ap, sym, subst, arith}
use Rattle.std.proofs.{lemmas.List.length-replicate, lemmas.Option.same_Some, lemmas.Option.none-some}
use Rattle.std.specs.Prelude.{slice_get}
use Rattle.lra_threads_analysis.specs.Crates.{lra_box.Bounds.InInterval, lra_box.Tables.joined_interval, lra_box.declared.interval.Interval.Interval}
use Rattle.lra_threads_analysis.proofs.Crates.lra_box.AdmitLemmas.{joined_first, joined_second}
use Rattle.lra_threads_fixpoint.specs.Intervals.{IntervalRow, IntervalTable, no_values, joined_option, grown_option, grown_row}
use Rattle.lra_threads_fixpoint.specs.{Interference.others_than, Interference.joined_rows, Interference.interference_on, declared.growth.Growth.TheVariants.Join}
use Rattle.lra_threads_fixpoint.proofs.ListLemmas.{ones_length}
use Rattle.lra_threads_analysis.specs.Written.{HasNumber}

-- the number is in the interval, which is one
abbrev pub IsIn : ℤ → Option Interval → Type 0
IsIn z o = (i : Interval) × (o ≡ Some i) × InInterval i z

pub in_first : (o p : Option Interval) (z : ℤ) → IsIn z o → IsIn z (joined_option o p)
in_first None p z (i, e, h) = absurd (none-some i e)
in_first (Some i) None z h = h
in_first (Some i) (Some j) z (k, e, h) =
    (joined_interval i j, refl, joined_first i j z (subst (λ (y : Interval). InInterval y z) (sym (same_Some i k e)) h))

pub in_second : (o p : Option Interval) (z : ℤ) → IsIn z p → IsIn z (joined_option o p)
in_second None p z h = h
in_second (Some i) None z (k, e, h) = absurd (none-some k e)
in_second (Some i) (Some j) z (k, e, h) =
    (joined_interval i j, refl, joined_second i j z (subst (λ (y : Interval). InInterval y z) (sym (same_Some j k e)) h))

-- rows -------------------------------------------------------------------------------------------------------------------

row_first : (row other : IntervalRow) (x : ℕ) (z : ℤ) → HasNumber row x z → HasNumber (grown_row Join row other) x z
row_first [] other x z h = h
row_first (i ∷ is) [] x z h = h
row_first (i ∷ is) (j ∷ js) zero z h = in_first i j z h
row_first (i ∷ is) (j ∷ js) (suc x) z h = row_first is js x z h

row_second : (row other : IntervalRow) (x : ℕ) (z : ℤ) → x < length row → HasNumber other x z → HasNumber (grown_row Join row other) x z
row_second [] other x z few h = absurd (omega (arith, few))
row_second (i ∷ is) [] x z few (k, e, h) = absurd (none-some k e)
row_second (i ∷ is) (j ∷ js) zero z few h = in_second i j z h
row_second (i ∷ is) (j ∷ js) (suc x) z few h = row_second is js x z (omega (arith, few)) h

rows_first : (rows : IntervalTable) (row : IntervalRow) (x : ℕ) (z : ℤ) → HasNumber row x z → HasNumber (joined_rows row rows) x z
rows_first [] row x z h = h
rows_first (other ∷ rows) row x z h = rows_first rows (grown_row Join row other) x z (row_first row other x z h)

-- of the row at this place
rows_have : (rows : IntervalTable) (j : ℕ) (other row : IntervalRow) (x : ℕ) (z : ℤ) → x < length row → slice_get rows j ≡ Some other → HasNumber other x z
    → HasNumber (joined_rows row rows) x z
rows_have [] j other row x z few at h = absurd (none-some other at)
rows_have (o ∷ rows) zero other row x z few at h =
    rows_first rows (grown_row Join row o) x z
    (row_second row o x z few (subst (λ (r : IntervalRow). HasNumber r x z) (sym (same_Some o other at)) h))
rows_have (o ∷ rows) (suc j) other row x z few at h =
    let wide = ones_length (grown_option Join) row o in
    rows_have rows j other (grown_row Join row o) x z (omega (arith, wide, few)) at h

-- if all but the k-th are joined
others_have : (k j : ℕ) (table : IntervalTable) (other row : IntervalRow) (x : ℕ) (z : ℤ) → x < length row → slice_get table j ≡ Some other → j ≢ k
    → HasNumber other x z
    → HasNumber (joined_rows row (others_than k table)) x z
others_have k j [] other row x z few at differ h = absurd (none-some other at)
others_have zero zero (o ∷ rows) other row x z few at differ h = absurd (differ refl)
others_have zero (suc j) (o ∷ rows) other row x z few at differ h = rows_have rows j other row x z few at h
others_have (suc k) zero (o ∷ rows) other row x z few at differ h =
    rows_first (others_than k rows) (grown_row Join row o) x z
    (row_second row o x z few (subst (λ (r : IntervalRow). HasNumber r x z) (sym (same_Some o other at)) h))
others_have (suc k) (suc j) (o ∷ rows) other row x z few at differ h =
    let wide = ones_length (grown_option Join) row o in
    others_have k j rows other (grown_row Join row o) x z (omega (arith, wide, few)) at (λ e. differ (ap suc e)) h

pub told_has : (globals k j : ℕ) (table : IntervalTable) (other : IntervalRow) (x : ℕ) (z : ℤ) → x < globals → slice_get table j ≡ Some other → j ≢ k
    → HasNumber other x z → HasNumber (interference_on globals k table) x z
told_has globals k j table other x z low at differ h =
    let start : length (no_values globals) ≡ globals = length-replicate globals None in
    others_have k j table other (no_values globals) x z (omega (arith, low, start)) at differ h
