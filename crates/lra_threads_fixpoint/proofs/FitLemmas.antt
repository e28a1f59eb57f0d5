-- Bounds stay in range, and what a box says of a place is in range.
use Rattle.std.proofs.Common.{◌≡◌, ◌≤◌, ℕ, zero, suc, List, [], ◌∷◌, length, Option, None, Some, refl, ap, arith}
use Rattle.std.specs.Prelude.{slice_index_or}
use Rattle.lra_box.specs.Content.{BoxContent, WellFormedBox, BoundsFit, BoundsAreValid}
use Rattle.lra_box.specs.{Bounds.full_interval, Parts.box_parts, Tables.bound_at, declared.interval.Interval.Interval}
use Rattle.lra_box.proofs.SoundLemmas.{at_sound, low_range, high_range, widen_low_range, widen_high_range}
use Rattle.lra_threads_fixpoint.specs.Intervals.{IntervalRow, OptionFits, RowFits, grown_option, grown_row, updated, no_values}
use Rattle.lra_threads_fixpoint.specs.{declared.growth.Growth.Growth, declared.growth.Growth.TheVariants.Join, declared.growth.Growth.TheVariants.Widen}

option_fits : (growth : Growth) (i j : Option Interval) → OptionFits i → OptionFits j → OptionFits (grown_option growth i j)
option_fits Join None j p q = q
option_fits Join (Some i) None p q = p
option_fits Join (Some i) (Some j) p q = (low_range i.low j.low p.0 q.0, high_range i.high j.high p.1 q.1)
option_fits Widen None j p q = q
option_fits Widen (Some i) None p q = p
option_fits Widen (Some i) (Some j) p q = (widen_low_range i.low _ p.0, widen_high_range i.high _ p.1)

pub grown_fits : (growth : Growth) (row other : IntervalRow) → RowFits row → RowFits other → RowFits (grown_row growth row other)
grown_fits growth [] other p q = tt
grown_fits growth (i ∷ is) [] p q = p
grown_fits growth (i ∷ is) (j ∷ js) p q = (option_fits growth i j p.0 q.0, grown_fits growth is js p.1 q.1)

pub updated_fits : (growth : Growth) (x : ℕ) (j : Option Interval) (row : IntervalRow) → OptionFits j → RowFits row
    → RowFits (updated x (λ i. grown_option growth i j) row)
updated_fits growth x j [] q p = tt
updated_fits growth zero j (i ∷ is) q p = (option_fits growth i j p.0 q, p.1)
updated_fits growth (suc x) j (i ∷ is) q p = (p.0, updated_fits growth x j is q p.1)

pub none_fits : (n : ℕ) → RowFits (no_values n)
none_fits zero = tt
none_fits (suc n) = (tt, none_fits n)

-- the bounds of a place --------------------------------------------------------------------------------------------

pub bound_fits : (x : ℕ) (v : BoxContent) → WellFormedBox v → OptionFits (bound_at x v.bounds)
bound_fits x v fine = by_bounds v.bounds fine.1
  where
    by_bounds : (b : Option (List Interval)) → BoundsAreValid b → OptionFits (bound_at x b)
    by_bounds None sound = tt
    by_bounds (Some is) sound = (at_sound is x sound).0

pub bound_none : (x : ℕ) (v : BoxContent) → box_parts v.dims v.bounds ≡ [] → None ≡ bound_at x v.bounds
bound_none x v none = by_bounds v.bounds none
  where
    by_bounds : (b : Option (List Interval)) → box_parts v.dims b ≡ [] → None ≡ bound_at x b
    by_bounds None none = refl
    by_bounds (Some is) none = let wrong : ⊥ = cc in absurd wrong

index_past : (is : List Interval) (x : ℕ) → length is ≤ x → full_interval ≡ slice_index_or is x full_interval
index_past [] x past = refl
index_past (i ∷ is) zero past = absurd (omega (arith, past))
index_past (i ∷ is) (suc x) past = index_past is x (omega (arith, past))

pub bound_past : (x : ℕ) (v : BoxContent) → WellFormedBox v → ¬ (box_parts v.dims v.bounds ≡ []) → v.dims ≤ x
    → Some full_interval ≡ bound_at x v.bounds
bound_past x v fine some past = by_bounds v.bounds fine.0 some
  where
    by_bounds : (b : Option (List Interval)) → BoundsFit v.dims b → ¬ (box_parts v.dims b ≡ []) → Some full_interval ≡ bound_at x b
    by_bounds None fit some = absurd (some refl)
    by_bounds (Some is) fit some = ap (λ (i : Interval). Some i) (index_past is x (omega (arith, fit, past)))
