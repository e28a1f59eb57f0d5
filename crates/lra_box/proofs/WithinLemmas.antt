-- Being within is kept by the tables of a test.
use Rattle.std.proofs.Common.{◌≡◌, ℕ, zero, suc, ℤ, List, [], ◌∷◌, length, Option, None, Some, true, refl, ap, arith}
use Rattle.std.proofs.{lemmas.Bool.false≢true, lemmas.Int.ints, lemmas.Int.clamps}
use Rattle.std.specs.Prelude.{slice_set, slice_index_or}
use Rattle.lra_box.specs.Covering.{low_within_refl, high_within_refl, intervals_within_refl, within_refl}
use Rattle.lra_box.specs.Tables.{joined_intervals, joined_bounds, LowWithin, IntervalWithin, IntervalsWithin, BoundsWithin}
use Rattle.lra_box.specs.{Bounds.full_interval, Bounds.crossed, Bounds.crossed_ends, Content.BoundsFit, declared.interval.Interval.Interval}
use Rattle.lra_domain.specs.Bounds.{AtMost, greater, lesser_low}

pub set_within : (is js : List Interval) (k : ℕ) (i j : Interval) → IntervalsWithin is js → IntervalWithin i j → IntervalsWithin (slice_set is k i) (slice_set js k j)
set_within [] [] k i j h w = h
set_within [] (b ∷ js) k i j h w = absurd h
set_within (a ∷ is) [] k i j h w = absurd h
set_within (a ∷ is) (b ∷ js) zero i j h w = (w, h.1)
set_within (a ∷ is) (b ∷ js) (suc k) i j h w = (h.0, set_within is js k i j h.1 w)

pub at_within : (is js : List Interval) (k : ℕ) → IntervalsWithin is js → IntervalWithin (slice_index_or is k full_interval) (slice_index_or js k full_interval)
at_within [] [] k h = (tt, tt)
at_within [] (b ∷ js) k h = absurd h
at_within (a ∷ is) [] k h = absurd h
at_within (a ∷ is) (b ∷ js) zero h = h.0
at_within (a ∷ is) (b ∷ js) (suc k) h = at_within is js k h.1

pub set_one : (is : List Interval) (k : ℕ) (i : Interval) → IntervalWithin i (slice_index_or is k full_interval) → IntervalsWithin (slice_set is k i) is
set_one [] k i w = tt
set_one (a ∷ is) zero i w = (w, intervals_within_refl is)
set_one (a ∷ is) (suc k) i w = ((low_within_refl a.low, high_within_refl a.high), set_one is k i w)

-- a crossed interval crosses what lies within it
pub crossed_within : (i j : Interval) → IntervalWithin i j → crossed j ≡ true → crossed i ≡ true
crossed_within i j w h = ends i.low i.high j.low j.high w.0 w.1 h
  where
    ends : (a b c d : Option ℤ) → LowWithin a c → AtMost b d → crossed_ends c d ≡ true → crossed_ends a b ≡ true
    ends a b None d p q h = absurd (false≢true h)
    ends a b (Some c) None p q h = absurd (false≢true h)
    ends None b (Some c) (Some d) p q h = absurd p
    ends (Some a) None (Some c) (Some d) p q h = absurd q
    ends (Some a) (Some b) (Some c) (Some d) p q h = grind (arith, ints)

low_both : (a b : Option ℤ) → LowWithin a b → LowWithin b a → a ≡ b
low_both None None p q = refl
low_both None (Some b) p q = absurd p
low_both (Some a) None p q = absurd q
low_both (Some a) (Some b) p q = ap Some (omega (arith, ints))

high_both : (a b : Option ℤ) → AtMost a b → AtMost b a → a ≡ b
high_both None None p q = refl
high_both None (Some b) p q = absurd p
high_both (Some a) None p q = absurd q
high_both (Some a) (Some b) p q = ap Some (omega (arith, ints))

made : (a b c d : Option ℤ) → a ≡ b → c ≡ d → (let i : Interval = record { low = a; high = c } in let j : Interval = record { low = b; high = d } in i ≡ j)
made a b c d l h = rw (l, h) refl

intervals_both : (is js : List Interval) → IntervalsWithin is js → IntervalsWithin js is → is ≡ js
intervals_both [] [] p q = refl
intervals_both [] (j ∷ js) p q = absurd p
intervals_both (i ∷ is) [] p q = absurd p
intervals_both (i ∷ is) (j ∷ js) p q =
    let l : i.low ≡ j.low = low_both i.low j.low p.0.0 q.0.0 in
    let h : i.high ≡ j.high = high_both i.high j.high p.0.1 q.0.1 in
    let t : is ≡ js = intervals_both is js p.1 q.1 in
    let same : i ≡ j = one i j l h in
    rw (same, t) refl
  where
    one : (i j : Interval) → i.low ≡ j.low → i.high ≡ j.high → i ≡ j
    one i j l h = made i.low j.low i.high j.high l h

-- bounds that lie within each other are equal
pub within_both : (a b : Option (List Interval)) → BoundsWithin a b → BoundsWithin b a → a ≡ b
within_both None None p q = refl
within_both None (Some js) p q = absurd q
within_both (Some is) None p q = absurd p
within_both (Some is) (Some js) p q = ap Some (intervals_both is js p q)

pub equal_within : (a b : Option (List Interval)) → a ≡ b → BoundsWithin a b × BoundsWithin b a
equal_within a b e = rw e (within_refl b, within_refl b)

-- joins ----------------------------------------------------------------------------------------

low_left : (a b : Option ℤ) → LowWithin a (lesser_low a b)
low_left None b = tt
low_left (Some a) None = tt
low_left (Some a) (Some b) = omega (arith, ints, clamps)

low_right : (a b : Option ℤ) → LowWithin b (lesser_low a b)
low_right None b = tt
low_right (Some a) None = tt
low_right (Some a) (Some b) = omega (arith, ints, clamps)

high_left : (a b : Option ℤ) → AtMost a (greater a b)
high_left None b = tt
high_left (Some a) None = tt
high_left (Some a) (Some b) = omega (arith, ints, clamps)

high_right : (a b : Option ℤ) → AtMost b (greater a b)
high_right None b = tt
high_right (Some a) None = tt
high_right (Some a) (Some b) = omega (arith, ints, clamps)

joined_left : (is js : List Interval) → length is ≡ length js → IntervalsWithin is (joined_intervals is js)
joined_left [] js e = tt
joined_left (i ∷ is) [] e = absurd (omega arith)
joined_left (i ∷ is) (j ∷ js) e = ((low_left i.low j.low, high_left i.high j.high), joined_left is js (omega arith))

joined_right : (is js : List Interval) → length is ≡ length js → IntervalsWithin js (joined_intervals is js)
joined_right [] [] e = tt
joined_right [] (j ∷ js) e = absurd (omega arith)
joined_right (i ∷ is) [] e = absurd (omega arith)
joined_right (i ∷ is) (j ∷ js) e = ((low_right i.low j.low, high_right i.high j.high), joined_right is js (omega arith))

-- the join of bounds of as many dimensions is wider than both
pub left_within : (n : ℕ) (a b : Option (List Interval)) → BoundsFit n a → BoundsFit n b →
    BoundsWithin a (joined_bounds a b)
left_within n None b f g = tt
left_within n (Some is) None f g = intervals_within_refl is
left_within n (Some is) (Some js) f g = joined_left is js (omega arith)

pub right_within : (n : ℕ) (a b : Option (List Interval)) → BoundsFit n a → BoundsFit n b →
    BoundsWithin b (joined_bounds a b)
right_within n None b f g = within_refl b
right_within n (Some is) None f g = tt
right_within n (Some is) (Some js) f g = joined_right is js (omega arith)
