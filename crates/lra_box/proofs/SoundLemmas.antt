-- Intervals in order hold some number, and the tables keep them in order.
use Rattle.std.proofs.Common.{◌≡◌, ℕ, zero, suc, Bool, true, false, cond, ℤ, pos, List, [], ◌∷◌, ◌++◌, take, replicate, Option, None, Some, IfSome, refl, arith}
use Rattle.std.proofs.lemmas.Int.{ints, clamps}
use Rattle.std.specs.{Prelude.slice_set, Prelude.slice_index_or, Prelude.int_lt, Prelude.IsTrue, Prelude.◌↔◌, Prelude.not, Prelude.is_some, Prelude.Vec, declared.alloc.Global.Global}
use Rattle.lra_box.specs.Crates.lra_linear_spec.Range.{InRange}
use Rattle.lra_domain.specs.declared.Mode.TheVariants.{Join, Widen, Limited, Tightest}
use Rattle.lra_domain.specs.{Bounds.greater, Bounds.stable, Bounds.lesser_low, declared.Mode.Mode}
use Rattle.lra_box.specs.Bounds.{BoundHolds, InInterval, InBounds, full_interval, crossed, crossed_ends, EndsInRange, IsValidInterval, AllValidIntervals}
use Rattle.lra_box.specs.Tables.{has_bounds, joined_interval, joined_intervals, joined_bounds, widened_low, widened_intervals, widened_bounds, grown_bounds}
use Rattle.lra_box.specs.{Content.BoundsAreValid, Content.bounds_view, declared.interval.Interval.Interval, declared.interval.Side.TheVariants.Low, declared.interval.Side.TheVariants.High}
use Rattle.lra_box.proofs.{BoundLemmas.widen_low_old, BoundLemmas.widen_high_old, BoxLemmas.low_left, BoxLemmas.high_left}

-- an interval that isn't crossed holds a number
pub some_number : (i : Interval) → crossed i ≡ false → (x : ℤ) × InInterval i x
some_number i h = ends i.low i.high h
  where
    ends : (a b : Option ℤ) → crossed_ends a b ≡ false → (x : ℤ) × (BoundHolds Low a x × BoundHolds High b x)
    ends None None h = (pos 0, (tt, tt))
    ends None (Some b) h = (b, (tt, omega (arith, ints)))
    ends (Some a) None h = (a, (omega (arith, ints), tt))
    ends (Some a) (Some b) h = (a, (omega (arith, ints), grind (arith, ints)))

-- a box of intervals in order has a store
pub some_store : (is : List Interval) → AllValidIntervals is → (s : List ℤ) × InBounds is s
some_store [] h = ([], tt)
some_store (i ∷ is) h = let x = some_number i h.0.1 in let s = some_store is h.1 in (x.0 ∷ s.0, (x.1, s.1))

-- an interval that holds a number isn't crossed
pub not_crossed : (i : Interval) (x : ℤ) → InInterval i x → crossed i ≡ false
not_crossed i x h = ends i.low i.high h.0 h.1
  where
    ends : (a b : Option ℤ) → BoundHolds Low a x → BoundHolds High b x → crossed_ends a b ≡ false
    ends None b l h = refl
    ends (Some a) None l h = refl
    ends (Some a) (Some b) l h = grind (arith, ints)

pub open_sound : IsValidInterval full_interval
open_sound = ((tt, tt), refl)

pub set_sound : (is : List Interval) (k : ℕ) (i : Interval) → AllValidIntervals is → IsValidInterval i → AllValidIntervals (slice_set is k i)
set_sound [] k i h p = tt
set_sound (j ∷ js) zero i h p = (p, h.1)
set_sound (j ∷ js) (suc k) i h p = (h.0, set_sound js k i h.1 p)

pub at_sound : (is : List Interval) (k : ℕ) → AllValidIntervals is → IsValidInterval (slice_index_or is k full_interval)
at_sound [] k h = open_sound
at_sound (i ∷ is) zero h = h.0
at_sound (i ∷ is) (suc k) h = at_sound is k h.1

pub take_sound : (n : ℕ) (is : List Interval) → AllValidIntervals is → AllValidIntervals (take n is)
take_sound zero is h = tt
take_sound (suc n) [] h = tt
take_sound (suc n) (i ∷ is) h = (h.0, take_sound n is h.1)

pub open_all_sound : (n : ℕ) → AllValidIntervals (replicate n full_interval)
open_all_sound zero = tt
open_all_sound (suc n) = (open_sound, open_all_sound n)

pub append_sound : (is js : List Interval) → AllValidIntervals is → AllValidIntervals js → AllValidIntervals (is ++ js)
append_sound [] js h k = k
append_sound (i ∷ is) js h k = (h.0, append_sound is js h.1 k)

pub low_range : (a b : Option ℤ) → IfSome a InRange → IfSome b InRange → IfSome (lesser_low a b) InRange
low_range None b p q = tt
low_range (Some a) None p q = tt
low_range (Some a) (Some b) p q = grind (arith, ints, clamps)

pub high_range : (a b : Option ℤ) → IfSome a InRange → IfSome b InRange → IfSome (greater a b) InRange
high_range None b p q = tt
high_range (Some a) None p q = tt
high_range (Some a) (Some b) p q = grind (arith, ints, clamps)

-- joined with an interval whose bounds lie in the range, a sound one stays sound
pub interval_sound : (i j : Interval) → IsValidInterval i → EndsInRange j → IsValidInterval (joined_interval i j)
interval_sound i j h k =
    let x = some_number i h.1 in (
      (low_range i.low j.low h.0.0 k.0, high_range i.high j.high h.0.1 k.1),
      not_crossed (joined_interval i j) x.0 (low_left i.low j.low x.0 x.1.0, high_left i.high j.high x.0 x.1.1),
    )

joined_all_sound : (is js : List Interval) → AllValidIntervals is → AllValidIntervals js → AllValidIntervals (joined_intervals is js)
joined_all_sound [] js h k = tt
joined_all_sound (i ∷ is) [] h k = tt
joined_all_sound (i ∷ is) (j ∷ js) h k = (interval_sound i j h.0 k.0.0, joined_all_sound is js h.1 k.1)

by_test : (t : Bool) (a : ℤ) → InRange a → IfSome (cond t None (Some a)) InRange
by_test true a h = tt
by_test false a h = h

pub widen_low_range : (a b : Option ℤ) → IfSome a InRange → IfSome (widened_low a b) InRange
widen_low_range None b p = tt
widen_low_range (Some a) None p = tt
widen_low_range (Some a) (Some b) p = by_test (int_lt b a) a p

pub widen_high_range : (a b : Option ℤ) → IfSome a InRange → IfSome (stable a b) InRange
widen_high_range None b p = tt
widen_high_range (Some a) None p = tt
widen_high_range (Some a) (Some b) p = by_test (int_lt a b) a p

widened_all_sound : (is js : List Interval) → AllValidIntervals is → AllValidIntervals (widened_intervals is js)
widened_all_sound [] js h = tt
widened_all_sound (i ∷ is) [] h = tt
widened_all_sound (i ∷ is) (j ∷ js) h =
    let x = some_number i h.0.1 in (
      (
        (widen_low_range i.low j.low h.0.0.0, widen_high_range i.high j.high h.0.0.1),
        not_crossed (record { low = widened_low i.low j.low; high = stable i.high j.high }) x.0
            (widen_low_old i.low j.low x.0 x.1.0, widen_high_old i.high j.high x.0 x.1.1),
      ),
      widened_all_sound is js h.1,
    )

pub joined_sound : (a b : Option (List Interval)) → BoundsAreValid a → BoundsAreValid b → BoundsAreValid (joined_bounds a b)
joined_sound None b h k = k
joined_sound (Some is) None h k = h
joined_sound (Some is) (Some js) h k = joined_all_sound is js h k

widened_sound : (a b : Option (List Interval)) → BoundsAreValid a → BoundsAreValid b → BoundsAreValid (widened_bounds a b)
widened_sound None b h k = k
widened_sound (Some is) None h k = h
widened_sound (Some is) (Some js) h k = widened_all_sound is js h

pub grown_sound : (mode : Mode) (a b : Option (List Interval)) → BoundsAreValid a → BoundsAreValid b → BoundsAreValid (grown_bounds mode a b)
grown_sound Join a b h k = joined_sound a b h k
grown_sound Widen a b h k = widened_sound a _ h (joined_sound a b h k)
grown_sound Limited a b h k = widened_sound a _ h (joined_sound a b h k)
grown_sound Tightest a b h k = widened_sound a _ h (joined_sound a b h k)

-- the bounds are absent exactly if there is no store
pub none_stores : (b : Option (Vec Interval Global)) (answer : Bool) → is_some b ≡ not answer → BoundsAreValid (bounds_view b) → IsTrue answer ↔ ((s : List ℤ) → ¬ has_bounds (bounds_view b) s)
none_stores None true e h = (λ t s k. k, λ none. refl)
none_stores None false e h = absurd (let no : false ≡ true = e in cc)
none_stores (Some v) true e h = absurd (let no : true ≡ false = e in cc)
none_stores (Some v) false e h = (λ t. cc, λ none. let s = some_store v.items h in absurd (none s.0 s.1))
