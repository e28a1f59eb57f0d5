-- Being within: wider bounds have each store of narrower ones, and the join of two bounds is the narrowest that is
-- wider than both.
use Rattle.std.proofs.Common.{◌≡◌, ℕ, zero, suc, ℤ, List, [], ◌∷◌, length, replicate, Option, None, Some, arith}
use Rattle.std.proofs.lemmas.Int.{ints, clamps}
use Rattle.lra_box.specs.Tables.{has_bounds, joined_interval, joined_intervals, joined_bounds, LowWithin}
use Rattle.lra_box.specs.Tables.{IntervalWithin, IntervalsWithin, BoundsWithin}
use Rattle.lra_box.specs.declared.interval.Side.TheVariants.{Low, High}
use Rattle.lra_box.specs.{Bounds.BoundHolds, Bounds.InBounds, Bounds.full_interval, declared.interval.Interval.Interval}
use Rattle.lra_domain.specs.Bounds.{AtMost, greater, lesser_low}

-- bounds that are all absent hold of every number
pub in_open : (s : List ℤ) (n : ℕ) → length s ≡ n → InBounds (replicate n full_interval) s
in_open [] zero e = tt
in_open [] (suc n) e = absurd (omega arith)
in_open (x ∷ xs) zero e = absurd (omega arith)
in_open (x ∷ xs) (suc n) e = ((tt, tt), in_open xs n (omega arith))

-- a wider bound holds of what the narrower one does
low_wider : (a b : Option ℤ) (x : ℤ) → LowWithin a b → BoundHolds Low a x → BoundHolds Low b x
low_wider a None x w h = tt
low_wider None (Some b) x w h = absurd w
low_wider (Some a) (Some b) x w h = omega (arith, ints)

high_wider : (a b : Option ℤ) (x : ℤ) → AtMost a b → BoundHolds High a x → BoundHolds High b x
high_wider a None x w h = tt
high_wider None (Some b) x w h = absurd w
high_wider (Some a) (Some b) x w h = omega (arith, ints)

in_wider : (is js : List Interval) (s : List ℤ) → IntervalsWithin is js → InBounds is s → InBounds js s
in_wider [] [] s w h = h
in_wider [] (j ∷ js) s w h = absurd w
in_wider (i ∷ is) [] s w h = absurd w
in_wider (i ∷ is) (j ∷ js) [] w h = absurd h
in_wider (i ∷ is) (j ∷ js) (x ∷ xs) w h = (
  (low_wider i.low j.low x w.0.0 h.0.0, high_wider i.high j.high x w.0.1 h.0.1),
  in_wider is js xs w.1 h.1,
)

-- a store of the bounds is one of wider bounds
pub has_wider : (a b : Option (List Interval)) (s : List ℤ) → BoundsWithin a b → has_bounds a s → has_bounds b s
has_wider None b s w h = absurd h
has_wider (Some is) None s w h = absurd w
has_wider (Some is) (Some js) s w h = in_wider is js s w h

pub low_within_refl : (a : Option ℤ) → LowWithin a a
low_within_refl None = tt
low_within_refl (Some a) = omega (arith, ints)

pub high_within_refl : (a : Option ℤ) → AtMost a a
high_within_refl None = tt
high_within_refl (Some a) = omega (arith, ints)

pub low_within_trans : (a b c : Option ℤ) → LowWithin a b → LowWithin b c → LowWithin a c
low_within_trans a b None p q = tt
low_within_trans a None (Some c) p q = absurd q
low_within_trans None (Some b) (Some c) p q = absurd p
low_within_trans (Some a) (Some b) (Some c) p q = omega (arith, ints)

pub high_within_trans : (a b c : Option ℤ) → AtMost a b → AtMost b c → AtMost a c
high_within_trans a b None p q = tt
high_within_trans a None (Some c) p q = absurd q
high_within_trans None (Some b) (Some c) p q = absurd p
high_within_trans (Some a) (Some b) (Some c) p q = omega (arith, ints)

pub intervals_within_refl : (is : List Interval) → IntervalsWithin is is
intervals_within_refl [] = tt
intervals_within_refl (i ∷ is) = ((low_within_refl i.low, high_within_refl i.high), intervals_within_refl is)

intervals_within_trans : (is js ks : List Interval) → IntervalsWithin is js → IntervalsWithin js ks →
    IntervalsWithin is ks
intervals_within_trans [] [] ks p q = q
intervals_within_trans [] (j ∷ js) ks p q = absurd p
intervals_within_trans (i ∷ is) [] ks p q = absurd p
intervals_within_trans (i ∷ is) (j ∷ js) [] p q = absurd q
intervals_within_trans (i ∷ is) (j ∷ js) (k ∷ ks) p q = (
  (low_within_trans i.low j.low k.low p.0.0 q.0.0, high_within_trans i.high j.high k.high p.0.1 q.0.1),
  intervals_within_trans is js ks p.1 q.1,
)

pub within_refl : (a : Option (List Interval)) → BoundsWithin a a
within_refl None = tt
within_refl (Some is) = intervals_within_refl is

pub within_trans : (a b c : Option (List Interval)) → BoundsWithin a b → BoundsWithin b c → BoundsWithin a c
within_trans None b c p q = tt
within_trans (Some is) None c p q = absurd p
within_trans (Some is) (Some js) None p q = absurd q
within_trans (Some is) (Some js) (Some ks) p q = intervals_within_trans is js ks p q

-- ---- joins

low_least : (a b c : Option ℤ) → LowWithin a c → LowWithin b c → LowWithin (lesser_low a b) c
low_least a b None p q = tt
low_least None b (Some c) p q = absurd p
low_least (Some a) None (Some c) p q = absurd q
low_least (Some a) (Some b) (Some c) p q = omega (arith, ints, clamps)

high_least : (a b c : Option ℤ) → AtMost a c → AtMost b c → AtMost (greater a b) c
high_least a b None p q = tt
high_least None b (Some c) p q = absurd p
high_least (Some a) None (Some c) p q = absurd q
high_least (Some a) (Some b) (Some c) p q = omega (arith, ints, clamps)

interval_least : (i j k : Interval) → IntervalWithin i k → IntervalWithin j k → IntervalWithin (joined_interval i j) k
interval_least i j k p q = (low_least i.low j.low k.low p.0 q.0, high_least i.high j.high k.high p.1 q.1)

joined_least : (is js ks : List Interval) → IntervalsWithin is ks → IntervalsWithin js ks →
    IntervalsWithin (joined_intervals is js) ks
joined_least [] js ks p q = p
joined_least (i ∷ is) [] [] p q = q
joined_least (i ∷ is) [] (k ∷ ks) p q = absurd q
joined_least (i ∷ is) (j ∷ js) [] p q = absurd p
joined_least (i ∷ is) (j ∷ js) (k ∷ ks) p q =
    (interval_least i j k p.0 q.0, joined_least is js ks p.1 q.1)

-- what is wider than both is wider than their join
pub least_within : (a b c : Option (List Interval)) → BoundsWithin a c → BoundsWithin b c →
    BoundsWithin (joined_bounds a b) c
least_within None b c p q = q
least_within (Some is) None c p q = p
least_within (Some is) (Some js) None p q = absurd p
least_within (Some is) (Some js) (Some ks) p q = joined_least is js ks p q
