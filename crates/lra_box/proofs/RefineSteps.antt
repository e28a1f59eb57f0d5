-- A turn of the refinement.
use Rattle.std.proofs.Common.{◌≡◌, ◌≢◌, ℕ, zero, suc, ◌+◌, ◌-◌, ◌<◌, ℤ, pos, Bool, true, false, cond, List, [], ◌∷◌, Option, None, Some, ◌⊎◌, inl, inr, length, refl, sym, ap, ◌∙◌, subst, arith}
use Rattle.std.proofs.lemmas.Bool.{false≢true}
use Rattle.std.specs.Prelude.{◌+ℤ◌, ◌≤ℤ◌, slice_set, slice_index_or}
use Rattle.lra_box.specs.Crates.lra_linear_spec.Vectors.{product}
use Rattle.lra_domain.specs.{declared.Exactness.Exactness, declared.Exactness.TheVariants.Exact, declared.Exactness.TheVariants.Flagged}
use Rattle.lra_box.specs.Bounds.{full_interval, crossed, InInterval, InBounds, EndsInRange, AllValidIntervals, SumPasses, IsBound}
use Rattle.lra_box.specs.Covering.{intervals_within_refl, low_within_refl, high_within_refl, within_refl, within_trans}
use Rattle.lra_box.specs.Refine.{tightened, others_most, place_refined, refined, RefinePasses, TightAt}
use Rattle.lra_box.specs.{Answers.TestedTo, Tables.BoundsWithin, Tables.IntervalWithin, declared.ends.Bound.Bound, declared.interval.Interval.Interval, declared.interval.Side.TheVariants.High}
use Rattle.lra_box.proofs.MonotoneLemmas.{tightened_in, put_within, refine_place_within}
use Rattle.lra_box.proofs.{BoxLemmas.in_set, RefineLemmas.place_holds, RefineLemmas.none_stays, RefineLemmas.passes_stay, SoundLemmas.not_crossed, SoundLemmas.set_sound}

-- a place tightened by a computed bound of the others
pub tight_of : (a : ℤ) (cs : List ℤ) (k : ℕ) (is : List Interval) (m : Bound) (i : Interval) → IsBound (others_most a cs k is) (SumPasses High a (slice_set cs k (pos 0)) is) m
    → slice_index_or cs k (pos 0) ≢ pos 0 → i ≡ tightened (slice_index_or cs k (pos 0)) m.value (slice_index_or is k full_interval) → EndsInRange i → TightAt a cs k is i m.exactness
tight_of a cs k is m i bound occurs same range = record {
  exact = λ e. rw (← bound.exact e) same;
  flagged = λ e. (occurs, (bound.flagged e).0);
  either = (m.value, by_exactness m.exactness refl, same);
  range = range;
}
  where
    by_exactness : (e : Exactness) → m.exactness ≡ e → (m.value ≡ None) ⊎ (m.value ≡ others_most a cs k is)
    by_exactness Exact e = inr (bound.exact e)
    by_exactness Flagged e = inl (bound.flagged e).1

pub record RefineState (a : ℤ) (cs : List ℤ) (k : ℕ) (start is : List Interval) (e : Exactness) : Type 0 where
  pub exact : e ≡ Exact → refined a cs k (Some start) ≡ Some is
  pub flagged : e ≡ Flagged → RefinePasses a cs k (Some start)
  pub covers : BoundsWithin (refined a cs k (Some start)) (Some is)
  pub stores : (s : List ℤ) → InBounds start s → pos 0 ≤ℤ (a +ℤ product cs s) → InBounds is s
  pub sound : AllValidIntervals is

set_read : (s : List ℤ) (k : ℕ) → slice_set s k (slice_index_or s k (pos 0)) ≡ s
set_read [] k = refl
set_read (x ∷ xs) zero = refl
set_read (x ∷ xs) (suc k) = ap (λ ys. x ∷ ys) (set_read xs k)

module _ (a : ℤ) (cs : List ℤ) (k : ℕ) (start is : List Interval) (i : Interval) (e et e' : Exactness)
    (place : k < length cs) (width : length cs ≡ length is) (state : RefineState a cs k start is e) (tight : TightAt a cs k is i et)
    (worse_exact : e' ≡ Exact → (e ≡ Exact) × (et ≡ Exact)) (worse_flagged : e' ≡ Flagged → (e ≡ Flagged) ⊎ ((e ≡ Exact) × (et ≡ Flagged))) where
  passes_on : e' ≡ Flagged → RefinePasses a cs (suc k) (Some start)
  passes_on f = elim (worse_flagged f) [
    | inl h ↦ inl (state.flagged h)
    | inr h ↦ inr (rw (state.exact h.0) (tight.flagged h.1))
  ]

  placed : (b : Bool) → crossed i ≡ b → e' ≡ Exact → refined a cs (suc k) (Some start) ≡ cond b None (Some (slice_set is k i))
  placed b c f =
      let w = worse_exact f in
      rw (state.exact w.0, ← tight.exact w.1, c) refl

  keeps : (s : List ℤ) → InBounds start s → pos 0 ≤ℤ (a +ℤ product cs s) → (crossed i ≡ false) × InBounds (slice_set is k i) s
  keeps s h p =
      let inside = state.stores s h p in
      let held : InInterval i (slice_index_or s k (pos 0)) = rw tight.either.2 (place_holds a cs k is s tight.either.0 place width inside p tight.either.1) in
      (not_crossed i _ held, subst (λ l. InBounds (slice_set is k i) l) (set_read s k) (in_set is s k i (slice_index_or s k (pos 0)) inside held))

  -- the table's step lies within the code's, which may leave the place as it is
  one_within : IntervalWithin (place_refined a cs k is) i
  one_within = rw tight.either.2 (by_either tight.either.0 tight.either.1)
    where
      same : (j : Interval) → IntervalWithin j j
      same j = (low_within_refl j.low, high_within_refl j.high)

      by_either : (o : Option ℤ) → (o ≡ None) ⊎ (o ≡ others_most a cs k is) → IntervalWithin (place_refined a cs k is) (tightened (slice_index_or cs k (pos 0)) o (slice_index_or is k full_interval))
      by_either o (inl e) = rw e (tightened_in (slice_index_or cs k (pos 0)) (others_most a cs k is) (slice_index_or is k full_interval) (slice_index_or is k full_interval)
          (same (slice_index_or is k full_interval)))
      by_either o (inr e) = rw e (same (place_refined a cs k is))

  covered : BoundsWithin (refined a cs (suc k) (Some start)) (cond (crossed i) None (Some (slice_set is k i)))
  covered =
      within_trans _ _ _ (refine_place_within a cs k (refined a cs k (Some start)) (Some is) state.covers) (put_within is is k (place_refined a cs k is) i (intervals_within_refl is) one_within)

  pub refine_on : crossed i ≡ false → RefineState a cs (suc k) start (slice_set is k i) e'
  refine_on c = record {
    exact = placed false c;
    flagged = passes_on;
    covers = rw c at covered;
    stores = λ s h p. (keeps s h p).1;
    sound = set_sound is k i state.sound (tight.range, c);
  }

  -- a crossed place ends it, at whatever number of places in the end
  pub refine_stops : crossed i ≡ true → (n : ℕ) → k < n → TestedTo (refined a cs n (Some start)) (RefinePasses a cs n (Some start)) (λ s. pos 0 ≤ℤ (a +ℤ product cs s)) (Some start) None e'
  refine_stops c n h =
      let same : (n - suc k) + suc k ≡ n = omega arith in
      let none : refined a cs (suc k) (Some start) ≡ None = is_none (refined a cs (suc k) (Some start)) (rw c at covered) in
      let later : refined a cs n (Some start) ≡ None = subst (λ m. refined a cs m (Some start) ≡ None) same (none_stays a cs (suc k) (n - suc k) (Some start) none) in
      record {
        exact = λ f. sym later;
        flagged = λ f. subst (λ m. RefinePasses a cs m (Some start)) same (passes_stay a cs (suc k) (n - suc k) (Some start) (passes_on f));
        covers = rw later tt;
        stores = λ s i p. absurd (false≢true (sym (keeps s i p).0 ∙ c));
        sound = tt;
        fit = λ m f. tt;
      }
    where
      is_none : (o : Option (List Interval)) → BoundsWithin o None → o ≡ None
      is_none None w = refl
      is_none (Some is) w = absurd w

-- all places done
pub refine_ends : (a : ℤ) (cs : List ℤ) (start is : List Interval) (e : Exactness) → length is ≡ length start → RefineState a cs (length cs) start is e
    → TestedTo (refined a cs (length cs) (Some start)) (RefinePasses a cs (length cs) (Some start)) (λ s. pos 0 ≤ℤ (a +ℤ product cs s)) (Some start) (Some is) e
refine_ends a cs start is e long state = record {
  exact = λ f. sym (state.exact f);
  flagged = state.flagged;
  covers = state.covers;
  stores = state.stores;
  sound = state.sound;
  fit = λ n f. long ∙ f;
}

-- no place done yet
pub refine_starts : (a : ℤ) (cs : List ℤ) (start : List Interval) → AllValidIntervals start → RefineState a cs 0 start start Exact
refine_starts a cs start sound = record {
  exact = λ e. refl;
  flagged = λ e. cc;
  covers = within_refl (Some start);
  stores = λ s h p. h;
  sound = sound;
}
