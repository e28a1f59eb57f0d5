-- The unary bounds of a matrix: its stores lie in them, and a narrower matrix has narrower ones.
use Rattle.std.proofs.Common.{◌≡◌, ℕ, zero, suc, ◌+◌, ◌-◌, ◌*◌, ◌/◌, ◌%◌, ◌<◌, ℤ, pos, List, [], ◌∷◌, ◌++◌, length, Option, None, Some, inl, inr, refl, ap, sym, ◌∙◌, subst, arith, add-one, cond, Bool}
use Rattle.std.proofs.{Common.true, Common.false, lemmas.Bool.Decides.eqb_tells, lemmas.Int.ints}
use Rattle.std.specs.{Option.option_map, Prelude.◌-ℤ◌, Prelude.neg_ℤ, Prelude.slice_index_or}
use Rattle.lra_linear_spec.specs.Vectors.{entry}
use Rattle.lra_dbm.specs.Tight.{Entries, opposite, with_sign, signed_value, IsStore}
use Rattle.lra_dbm.specs.{Cells.Cells, Cells.entries, Cells.IsMatrix, Closure.IsClosure, Entry.◌⊑◌, Entry.◌⊞◌, Entry.half_of, Entry.EntryInRange, Pointwise.CellsWithin}
use Rattle.lra_dbm.proofs.EntryLemmas.{le_refl, le_same, le_trans, lesser_left, lesser_right}
use Rattle.lra_dbm.proofs.{CellLemmas.opposite_below, Closed.signed_opposite, Lowering.half_fits, PointwiseLemmas.within_entries, Strong.half_bounds}
use Rattle.lra_box.specs.{Bounds.full_interval, Bounds.crossed, Bounds.BoundHolds, Bounds.InInterval, Bounds.InBounds, Bounds.EndsInRange, Bounds.AllValidIntervals, Tables.LowWithin}
use Rattle.lra_box.specs.{Tables.IntervalWithin, Tables.IntervalsWithin, declared.interval.Interval.Interval, declared.interval.Side.TheVariants.Low, declared.interval.Side.TheVariants.High}
use Rattle.lra_box.proofs.{RefineLemmas.in_at, WithinLemmas.at_within}
use Rattle.lra_octagon.specs.Tables.{interval, intervals_from, intervals, some_crossed, upper_of, upper, bounded}
use Rattle.lra_domain.specs.Bounds.{AtMost}

both_parts : (is js ks : List Interval) → is ++ (js ++ ks) ≡ (is ++ js) ++ ks
both_parts [] js ks = refl
both_parts (i ∷ is) js ks = ap (λ z. i ∷ z) (both_parts is js ks)

nothing_more : (is : List Interval) → is ++ [] ≡ is
nothing_more [] = refl
nothing_more (i ∷ is) = ap (λ z. i ∷ z) (nothing_more is)

-- the intervals before k are there
pub record IntervalsRead (n : ℕ) (m : Entries) (k : ℕ) (is : List Interval) : Type 0 where
  pub all_is : intervals n m ≡ is ++ intervals_from m k (n - k)

pub intervals_start : (n : ℕ) (m : Entries) → IntervalsRead n m 0 []
intervals_start n m = record { all_is = ap (intervals_from m 0) (omega arith) }

pub intervals_more : (n : ℕ) (m : Entries) (k : ℕ) (is js : List Interval) → k < n → js ≡ is ++ (interval m k ∷ []) →
    IntervalsRead n m k is → IntervalsRead n m (k + 1) js
intervals_more n m k is js h e read = record {
  all_is = read.all_is ∙ ap (λ z. is ++ z) (step (n - k) (n - (k + 1)) (omega arith)) ∙
      both_parts is (interval m k ∷ []) (intervals_from m (k + 1) (n - (k + 1)))
      ∙ ap (λ z. z ++ intervals_from m (k + 1) (n - (k + 1))) (sym e);
}
  where
    step : (a b : ℕ) → a ≡ suc b → intervals_from m k a ≡ (interval m k ∷ []) ++ intervals_from m (k + 1) b
    step a b f = ap (intervals_from m k) f ∙ ap (λ z. interval m k ∷ intervals_from m z b) (sym (add-one k))

pub intervals_end : (n : ℕ) (m : Entries) (k : ℕ) (is : List Interval) → k ≡ n → IntervalsRead n m k is →
    is ≡ intervals n m
intervals_end n m k is e read = let none : n - k ≡ 0 = omega arith in sym
    (read.all_is ∙ ap (λ z. is ++ intervals_from m k z) none ∙ nothing_more is)

-- ---- a narrower matrix has narrower intervals

half_wider : (a b : Option ℤ) → a ⊑ b → AtMost (half_of a) (half_of b)
half_wider a None h = tt
half_wider None (Some b) h = absurd h.at_most
half_wider (Some a) (Some b) h =
    let p = h.at_most in let c = half_bounds a in let d = half_bounds b in omega (arith, ints)

half_lower : (a b : Option ℤ) → a ⊑ b → LowWithin (option_map neg_ℤ (half_of a)) (option_map neg_ℤ (half_of b))
half_lower a None h = tt
half_lower None (Some b) h = absurd h.at_most
half_lower (Some a) (Some b) h =
    let p = h.at_most in let c = half_bounds a in let d = half_bounds b in omega (arith, ints)

wider_from : (m w : Entries) (k n : ℕ) → ((i j : ℕ) → m i j ⊑ w i j) →
    IntervalsWithin (intervals_from m k n) (intervals_from w k n)
wider_from m w k zero h = tt
wider_from m w k (suc n) h = (
  (
    half_lower (m (opposite (2 * k + 1)) (2 * k + 1)) (w (opposite (2 * k + 1)) (2 * k + 1))
        (h (opposite (2 * k + 1)) (2 * k + 1)),
    half_wider (m (opposite (2 * k)) (2 * k)) (w (opposite (2 * k)) (2 * k)) (h (opposite (2 * k)) (2 * k)),
  ),
  wider_from m w (suc k) n h,
)

pub intervals_wider : (n : ℕ) (cs ds : Cells) → CellsWithin cs ds →
    IntervalsWithin (intervals n (entries n cs)) (intervals n (entries n ds))
intervals_wider n cs ds w = wider_from (entries n cs) (entries n ds) 0 n (within_entries n cs ds w)

-- ---- upper bounds of signed variables

number_index : (s : List ℤ) (k : ℕ) → entry s k ≡ slice_index_or s k (pos 0)
number_index [] k = refl
number_index (x ∷ s) zero = refl
number_index (x ∷ s) (suc k) = number_index s k

high_holds : (o : Option ℤ) (x : ℤ) → BoundHolds High o x → Some x ⊑ o
high_holds None x h = record { at_most = tt }
high_holds (Some a) x h = record { at_most = h }

low_holds : (o : Option ℤ) (x : ℤ) → BoundHolds Low o x → Some (neg_ℤ x) ⊑ option_map neg_ℤ o
low_holds None x h = record { at_most = tt }
low_holds (Some a) x h = record { at_most = omega (arith, ints) }

pub side_holds : (r : ℕ) (i : Interval) (x : ℤ) → InInterval i x → Some (with_sign r x) ⊑ upper_of r i
side_holds zero i x h = high_holds i.high x h.1
side_holds (suc r) i x h = low_holds i.low x h.0

pub upper_holds : (is : List Interval) (s : List ℤ) (j : ℕ) → InBounds is s → j < 2 * length is →
    Some (signed_value s j) ⊑ upper is j
unfolding signed_value
upper_holds is s j h l = side_holds (j % 2) (slice_index_or is (j / 2) full_interval) (entry s (j / 2))
    (subst (λ z. InInterval (slice_index_or is (j / 2) full_interval) z) (sym (number_index s (j / 2)))
    (in_at is s (j / 2) h (omega arith)))

high_wider : (a b : Option ℤ) → AtMost a b → a ⊑ b
high_wider a None h = record { at_most = tt }
high_wider None (Some b) h = absurd h
high_wider (Some a) (Some b) h = record { at_most = h }

low_wider : (a b : Option ℤ) → LowWithin a b → option_map neg_ℤ a ⊑ option_map neg_ℤ b
low_wider a None h = record { at_most = tt }
low_wider None (Some b) h = absurd h
low_wider (Some a) (Some b) h = record { at_most = omega (arith, ints) }

side_wider : (r : ℕ) (i j : Interval) → IntervalWithin i j → upper_of r i ⊑ upper_of r j
side_wider zero i j w = high_wider i.high j.high w.1
side_wider (suc r) i j w = low_wider i.low j.low w.0

pub upper_wider : (is js : List Interval) (j : ℕ) → IntervalsWithin is js → upper is j ⊑ upper js j
upper_wider is js j w = side_wider (j % 2) (slice_index_or is (j / 2) full_interval)
    (slice_index_or js (j / 2) full_interval) (at_within is js (j / 2) w)

-- ---- the stores of a bounded matrix

bounded_falls : (is : List Interval) (m : Entries) (i j : ℕ) → bounded is m i j ⊑ m i j
bounded_falls is m i j = elim (eqb_tells i (opposite j)) as (λ _. bounded is m i j ⊑ m i j) [
  | inl e ↦ rw e.0 (lesser_left (m i j) (upper is j ⊞ upper is j))
  | inr e ↦ rw e.0 (le_refl (m i j))
]

bounded_here : (is : List Interval) (m : Entries) (j : ℕ) → bounded is m (opposite j) j ⊑ upper is j ⊞ upper is j
bounded_here is m j = elim (eqb_tells (opposite j) (opposite j)) as
    (λ _. bounded is m (opposite j) j ⊑ upper is j ⊞ upper is j) [
      | inl e ↦ rw e.0 (lesser_right (m (opposite j) j) (upper is j ⊞ upper is j))
      | inr e ↦ absurd (e.1 refl)
    ]

halved : (o : Option ℤ) (x y : ℤ) → y ≡ neg_ℤ x → Some (x -ℤ y) ⊑ o ⊞ o → Some x ⊑ o
halved None x y e h = record { at_most = tt }
halved (Some a) x y e h = let p = h.at_most in record { at_most = omega (arith, ints) }

-- a store of a bounded matrix is one of the matrix, and meets the upper bounds
pub bounded_back : (n : ℕ) (is : List Interval) (m : Entries) (s : List ℤ) → IsStore n (bounded is m) s →
    IsStore n m s × ((j : ℕ) → j < 2 * n → Some (signed_value s j) ⊑ upper is j)
bounded_back n is m s h = (
  record { width = h.width; below = λ i j k l. le_trans (h.below i j k l) (bounded_falls is m i j) },
  λ j l. halved (upper is j) (signed_value s j) (signed_value s (opposite j)) (signed_opposite s j)
      (le_trans (h.below (opposite j) j (opposite_below n j l) l) (bounded_here is m j)),
)

same_stores : (n : ℕ) (m w : Entries) (s : List ℤ) → ((i j : ℕ) → i < 2 * n → j < 2 * n → m i j ≡ w i j) →
    IsStore n m s → IsStore n w s
same_stores n m w s e h = record {
  width = h.width;
  below = λ i j k l. le_trans (h.below i j k l) (le_same (e i j k l));
}

-- the closure goes by the entries
pub same_entries_closure : (n : ℕ) (m w : Entries) (o : Option Cells) →
    ((i j : ℕ) → i < 2 * n → j < 2 * n → m i j ≡ w i j) → IsClosure n m o → IsClosure n w o
same_entries_closure n m w None e c = λ s h. c s (same_stores n w m s (λ i j k l. sym (e i j k l)) h)
same_entries_closure n m w (Some cells) e c = record {
  is = c.is;
  tight = c.tight;
  kept = λ s h. c.kept s (same_stores n w m s (λ i j k l. sym (e i j k l)) h);
  same = λ s h. same_stores n m w s e (c.same s h);
}

-- ---- the intervals of a matrix whose entries lie in the range

neg_fits : (o : Option ℤ) → EntryInRange o → EntryInRange (option_map neg_ℤ o)
neg_fits None h = tt
neg_fits (Some a) h = omega (arith, ints)

interval_ends : (n : ℕ) (cells : Cells) (k : ℕ) → IsMatrix n cells → EndsInRange (interval (entries n cells) k)
interval_ends n cells k is = (
  neg_fits (half_of (entries n cells (opposite (2 * k + 1)) (2 * k + 1)))
      (half_fits (entries n cells (opposite (2 * k + 1)) (2 * k + 1)) (is.range (opposite (2 * k + 1)) (2 * k + 1))),
  half_fits (entries n cells (opposite (2 * k)) (2 * k)) (is.range (opposite (2 * k)) (2 * k)),
)

none_crossed : (s t : Bool) → cond s true t ≡ false → (s ≡ false) × (t ≡ false)
none_crossed true t h = absurd (cc)
none_crossed false t h = (refl, h)

sound_from : (n : ℕ) (cells : Cells) (k j : ℕ) → IsMatrix n cells →
    some_crossed (intervals_from (entries n cells) k j) ≡ false → AllValidIntervals (intervals_from (entries n cells) k j)
sound_from n cells k zero is h = tt
sound_from n cells k (suc j) is h =
    let p = none_crossed (crossed (interval (entries n cells) k))
    (some_crossed (intervals_from (entries n cells) (suc k) j)) h in
    ((interval_ends n cells k is, p.0), sound_from n cells (suc k) j is p.1)

pub intervals_sound : (n : ℕ) (cells : Cells) (is : List Interval) → IsMatrix n cells →
    is ≡ intervals n (entries n cells) → some_crossed is ≡ false → AllValidIntervals is
intervals_sound n cells is fit e h = subst (λ z. AllValidIntervals z) (sym e)
    (sound_from n cells 0 n fit (ap some_crossed (sym e) ∙ h))
