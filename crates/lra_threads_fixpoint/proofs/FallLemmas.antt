-- Why rounds end: the measure of the intervals, with the rounds of joining that are left, falls in each unsettled round.
use Rattle.std.proofs.Common.{◌≡◌, ◌+◌, ◌-◌, ◌<◌, ◌≤◌, ◌⊎◌, inl, inr, ℕ, zero, suc, true, false, cond, ℤ, [], ◌∷◌, length, replicate, Option, None, Some, refl, ap, ap₂, sym, subst, ◌∙◌, arith}
use Rattle.std.proofs.{lemmas.Int.ints, lemmas.Int.clamps, lemmas.List.length-replicate}
use Rattle.std.specs.{Int.int_min, Int.int_max, Prelude.◌≤ℤ◌, Prelude.int_lt}
use Rattle.lra_domain.specs.Bounds.{AtMost, finite, greater, stable, lesser_low}
use Rattle.lra_box.specs.{Tables.widened_low, Tables.LowWithin, declared.interval.Interval.Interval}
use Rattle.lra_threads_fixpoint.specs.Intervals.{IntervalRow, IntervalTable, OptionWithin, RowWithin, TableWithin, grown_option, grown_row, grown_table, growth_of, option_measure, row_measure}
use Rattle.lra_threads_fixpoint.specs.Intervals.{table_measure, AreRowsWide, empty_table}
use Rattle.lra_threads_fixpoint.specs.{declared.growth.Growth.Growth, declared.growth.Growth.TheVariants.Join, declared.growth.Growth.TheVariants.Widen}
use Rattle.lra_threads_fixpoint.proofs.ListLemmas.{ones_length}

finite_few : (o : Option ℤ) → finite o ≤ 1
finite_few None = omega arith
finite_few (Some x) = omega arith

-- joining ----------------------------------------------------------------------------------------------------------

low_no_more : (a b : Option ℤ) → finite (lesser_low a b) ≤ finite a
low_no_more None b = omega arith
low_no_more (Some a) None = omega arith
low_no_more (Some a) (Some b) = omega arith

high_no_more : (a b : Option ℤ) → finite (greater a b) ≤ finite a
high_no_more None b = omega arith
high_no_more (Some a) None = omega arith
high_no_more (Some a) (Some b) = omega arith

joined_no_more : (i w : Option Interval) → option_measure (grown_option Join i w) ≤ option_measure i
joined_no_more None None = omega arith
joined_no_more None (Some w) = let l = finite_few w.low in let h = finite_few w.high in omega (arith, l, h)
joined_no_more (Some i) None = omega arith
joined_no_more (Some i) (Some w) = let l = low_no_more i.low w.low in let h = high_no_more i.high w.high in omega (arith, l, h)

joined_row_no_more : (row other : IntervalRow) → row_measure (grown_row Join row other) ≤ row_measure row
joined_row_no_more [] other = omega arith
joined_row_no_more (i ∷ is) [] = omega arith
joined_row_no_more (i ∷ is) (j ∷ js) = let one = joined_no_more i j in let rest = joined_row_no_more is js in omega (arith, one, rest)

joined_table_no_more : (table other : IntervalTable) → table_measure (grown_table Join table other) ≤ table_measure table
joined_table_no_more [] other = omega arith
joined_table_no_more (row ∷ rows) [] = omega arith
joined_table_no_more (row ∷ rows) (w ∷ ws) =
    let one = joined_row_no_more row w in let rest = joined_table_no_more rows ws in omega (arith, one, rest)

-- widening: the measure falls, or what comes in lies within --------------------------------------------------------

abbrev Falls : ℕ → ℕ → Type 0 → Type 0
Falls after before Within = (after ≤ before) × ((after < before) ⊎ Within)

low_falls : (a b : Option ℤ) → Falls (finite (widened_low a (lesser_low a b))) (finite a) (LowWithin b a)
low_falls None b = (omega arith, inr tt)
low_falls (Some a) None = (omega arith, inl (omega arith))
low_falls (Some a) (Some b) =
    elim (int_lt (int_min a b) a) as (λ v. int_lt (int_min a b) a ≡ v → (finite (cond v None (Some a)) ≤ 1) × ((finite (cond v None (Some a)) < 1) ⊎ (a ≤ℤ b)))
    [ true ↦ λ e. (omega arith, inl (omega arith)) | false ↦ λ e. (omega arith, inr (grind (arith, ints, clamps))) ] refl

high_falls : (a b : Option ℤ) → Falls (finite (stable a (greater a b))) (finite a) (AtMost b a)
high_falls None b = (omega arith, inr tt)
high_falls (Some a) None = (omega arith, inl (omega arith))
high_falls (Some a) (Some b) =
    elim (int_lt a (int_max a b)) as (λ v. int_lt a (int_max a b) ≡ v → (finite (cond v None (Some a)) ≤ 1) × ((finite (cond v None (Some a)) < 1) ⊎ (b ≤ℤ a)))
    [ true ↦ λ e. (omega arith, inl (omega arith)) | false ↦ λ e. (omega arith, inr (grind (arith, ints, clamps))) ] refl

-- of two parts one falls, or both lie within
both_fall : (a b c d : ℕ) (A B : Type 0) → Falls a b A → Falls c d B → Falls (a + c) (b + d) (A × B)
both_fall a b c d A B (less, inl falls) (no_more, other) = (omega (arith, less, no_more), inl (omega (arith, falls, no_more)))
both_fall a b c d A B (less, inr within) (no_more, inl falls) = (omega (arith, less, no_more), inl (omega (arith, falls, less)))
both_fall a b c d A B (less, inr within) (no_more, inr too) = (omega (arith, less, no_more), inr (within, too))

option_falls : (i w : Option Interval) → Falls (option_measure (grown_option Widen i w)) (option_measure i) (OptionWithin w i)
option_falls None None = (omega arith, inr tt)
option_falls None (Some w) = let l = finite_few w.low in let h = finite_few w.high in (omega (arith, l, h), inl (omega (arith, l, h)))
option_falls (Some i) None = (omega arith, inr tt)
option_falls (Some i) (Some w) = both_fall _ _ _ _ _ _ (low_falls i.low w.low) (high_falls i.high w.high)

row_falls : (row w : IntervalRow) → length w ≡ length row → Falls (row_measure (grown_row Widen row w)) (row_measure row) (RowWithin w row)
row_falls [] [] e = (omega arith, inr tt)
row_falls [] (w ∷ ws) e = absurd (omega (arith, e))
row_falls (i ∷ is) [] e = absurd (omega (arith, e))
row_falls (i ∷ is) (w ∷ ws) e = both_fall _ _ _ _ _ _ (option_falls i w) (row_falls is ws (omega (arith, e)))

table_falls : (globals : ℕ) (table written : IntervalTable) → AreRowsWide globals table → AreRowsWide globals written → length written ≡ length table
    → Falls (table_measure (grown_table Widen table written)) (table_measure table) (TableWithin written table)
table_falls globals [] [] wide too e = (omega arith, inr tt)
table_falls globals [] (w ∷ ws) wide too e = absurd (omega (arith, e))
table_falls globals (row ∷ rows) [] wide too e = absurd (omega (arith, e))
table_falls globals (row ∷ rows) (w ∷ ws) wide too e =
    let one = wide.0 in let two = too.0 in
    both_fall _ _ _ _ _ _ (row_falls row w (omega (arith, one, two))) (table_falls globals rows ws wide.1 too.1 (omega (arith, e)))

-- rounds -----------------------------------------------------------------------------------------------------------

unsettled_falls : (a b : ℕ) (Within : Type 0) → Falls a b Within → ¬ Within → a < b
unsettled_falls a b Within (less, inl falls) moves = falls
unsettled_falls a b Within (less, inr within) moves = absurd (moves within)

-- an unsettled round lowers the measure, together with the rounds of joining that are left
pub round_falls : (globals left : ℕ) (table written : IntervalTable) → AreRowsWide globals table → AreRowsWide globals written
    → length written ≡ length table → ¬ TableWithin written table
    → (left - 1) + table_measure (grown_table (growth_of left) table written) < left + table_measure table
round_falls globals zero table written wide too e moves =
    let falls = unsettled_falls _ _ _ (table_falls globals table written wide too e) moves in
    omega (arith, falls)
round_falls globals (suc left) table written wide too e moves =
    let no_more = joined_table_no_more table written in omega (arith, no_more)

pub measure_falls : (globals left later : ℕ) (table written next : IntervalTable) → later ≡ left - 1 → next ≡ grown_table (growth_of left) table written
    → AreRowsWide globals table → AreRowsWide globals written → length written ≡ length table → ¬ TableWithin written table
    → later + table_measure next < left + table_measure table
measure_falls globals left later table written next e is wide too long moves =
    let falls = round_falls globals left table written wide too long moves in
    let named = subst (λ (t : IntervalTable). (left - 1) + table_measure t < left + table_measure table) (sym is) falls in
    subst (λ (n : ℕ). n + table_measure next < left + table_measure table) (sym e) named

-- tables stay as wide and as long ----------------------------------------------------------------------------------

grown_wide : (globals : ℕ) (growth : Growth) (table other : IntervalTable) → AreRowsWide globals table → AreRowsWide globals (grown_table growth table other)
grown_wide globals growth [] other wide = tt
grown_wide globals growth (row ∷ rows) [] wide = wide
grown_wide globals growth (row ∷ rows) (w ∷ ws) wide =
    (ones_length (grown_option growth) row w ∙ wide.0, grown_wide globals growth rows ws wide.1)

empty_wide : (threads globals : ℕ) → AreRowsWide globals (empty_table threads globals)
empty_wide zero globals = tt
empty_wide (suc threads) globals = (length-replicate globals None, empty_wide threads globals)

-- the table at first
pub first_table : (count globals n m : ℕ) (table : IntervalTable) → table ≡ empty_table n m → n ≡ count → m ≡ globals
    → (table ≡ empty_table count globals) × AreRowsWide globals table × (length table ≡ count)
first_table count globals n m table e a b =
    let is : table ≡ empty_table count globals = e ∙ ap₂ (λ (x y : ℕ). empty_table x y) a b in (
      is,
      subst (AreRowsWide globals) (sym is) (empty_wide count globals),
      ap length is ∙ length-replicate count (replicate globals None),
    )

-- and after a round
pub next_is : (left : ℕ) (growth : Growth) (table written wrote next : IntervalTable) → next ≡ grown_table growth table wrote → growth ≡ growth_of left
    → wrote ≡ written → next ≡ grown_table (growth_of left) table written
next_is left growth table written wrote next e a b = e ∙ ap₂ (λ (x : Growth) (w : IntervalTable). grown_table x table w) a b

pub next_fits : (count globals left : ℕ) (table written next : IntervalTable) → next ≡ grown_table (growth_of left) table written → AreRowsWide globals table
    → length table ≡ count → AreRowsWide globals next × (length next ≡ count)
next_fits count globals left table written next e wide long = (
  subst (AreRowsWide globals) (sym e) (grown_wide globals (growth_of left) table written wide),
  ap length e ∙ ones_length (grown_row (growth_of left)) table written ∙ long,
)
