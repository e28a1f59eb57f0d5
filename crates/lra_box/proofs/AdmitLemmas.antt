-- The bounds of one place, and an interval that comes in there.
use Rattle.std.proofs.Common.{◌≡◌, ◌↔◌, ◌∙◌, ℕ, zero, suc, ℤ, List, [], ◌∷◌, Option, None, Some, refl, subst, sym}
use Rattle.std.proofs.{Math.ListN.length-set, lemmas.Option.same_Some}
use Rattle.std.specs.Prelude.{slice_get, slice_set, slice_index_or}
use Rattle.lra_box.specs.Bounds.{InInterval, InBounds, full_interval, EndsInRange, IsValidInterval}
use Rattle.lra_box.specs.Tables.{has_bounds, on_bounds, joined_interval, bound_at, admitting, admitted}
use Rattle.lra_box.specs.{Abstraction.BoxGamma, Content.BoxContent, Content.WellFormedBox, Content.BoundsFit, Content.BoundsAreValid, declared.interval.Interval.Interval}
use Rattle.lra_box.proofs.BoxLemmas.{low_left, low_right, high_left, high_right, in_set}
use Rattle.lra_box.proofs.{SoundLemmas.at_sound, SoundLemmas.set_sound, SoundLemmas.some_store, SoundLemmas.interval_sound, StepLemmas.has_length}

pub joined_first : (i j : Interval) (z : ℤ) → InInterval i z → InInterval (joined_interval i j) z
joined_first i j z h = (low_left i.low j.low z h.0, high_left i.high j.high z h.1)

pub joined_second : (i j : Interval) (z : ℤ) → InInterval j z → InInterval (joined_interval i j) z
joined_second i j z h = (low_right i.low j.low z h.0, high_right i.high j.high z h.1)

-- an interval comes in ---------------------------------------------------------------------------

admitting_fit : (n x : ℕ) (i : Interval) (b : Option (List Interval)) → BoundsFit n b →
    BoundsFit n (on_bounds (admitting x i) b)
admitting_fit n x i None f = tt
admitting_fit n x i (Some is) f = length-set {A = Interval} is x _ ∙ f

admitting_sound : (x : ℕ) (i : Interval) (b : Option (List Interval)) → EndsInRange i → BoundsAreValid b →
    BoundsAreValid (on_bounds (admitting x i) b)
admitting_sound x i None e h = tt
admitting_sound x i (Some is) e h =
    set_sound is x _ h (interval_sound (slice_index_or is x full_interval) i (at_sound is x h) e)

pub admitted_formed : (x : ℕ) (i : Interval) (b : BoxContent) → EndsInRange i → WellFormedBox b → WellFormedBox (admitted x i b)
admitted_formed x i b e h = (admitting_fit b.dims x i b.bounds h.0, admitting_sound x i b.bounds e h.1)

in_admitting : (is : List Interval) (s : List ℤ) (x : ℕ) (i : Interval) → InBounds is s → InBounds (admitting x i is) s
in_admitting [] [] x i h = tt
in_admitting [] (v ∷ s) x i h = absurd h
in_admitting (j ∷ js) [] x i h = absurd h
in_admitting (j ∷ js) (v ∷ s) zero i h = (joined_first j i v h.0, h.1)
in_admitting (j ∷ js) (v ∷ s) (suc x) i h = (h.0, in_admitting js s x i h.1)

stays_in : (x : ℕ) (i : Interval) (b : Option (List Interval)) (s : List ℤ) → has_bounds b s →
    has_bounds (on_bounds (admitting x i) b) s
stays_in x i None s h = h
stays_in x i (Some is) s h = in_admitting is s x i h

comes_in : (x : ℕ) (i : Interval) (b : Option (List Interval)) (s : List ℤ) (z : ℤ) → has_bounds b s →
    InInterval i z → has_bounds (on_bounds (admitting x i) b) (slice_set s x z)
comes_in x i None s z h k = h
comes_in x i (Some is) s z h k = in_set is s x _ z h (joined_second (slice_index_or is x full_interval) i z k)

-- the box keeps its stores
pub admitted_stays : (x : ℕ) (i : Interval) (b : BoxContent) (s : List ℤ) → BoxGamma b s → BoxGamma (admitted x i b) s
admitted_stays x i b s h = (h.0, stays_in x i b.bounds s h.1)

-- and has each of them with a number of the interval at the place
pub admitted_comes : (x : ℕ) (i : Interval) (b : BoxContent) (s : List ℤ) (z : ℤ) → BoxGamma b s → InInterval i z →
    BoxGamma (admitted x i b) (slice_set s x z)
admitted_comes x i b s z h k = (length-set {A = ℤ} s x z ∙ h.0, comes_in x i b.bounds s z h.1 k)

-- the bounds of a place ---------------------------------------------------------------------------

-- there are none exactly if there is no store
pub bound_empty : (x : ℕ) (b : BoxContent) → WellFormedBox b → (bound_at x b.bounds ≡ None) ↔ ((s : List ℤ) → ¬ BoxGamma b s)
bound_empty x b h = by_bounds b.bounds h.0 h.1
  where
    by_bounds : (o : Option (List Interval)) → BoundsFit b.dims o → BoundsAreValid o
        → (bound_at x o ≡ None) ↔ ((s : List ℤ) → ¬ BoxGamma (record b { bounds = o }) s)
    by_bounds None f g = (λ e s k. k.1, λ none. refl)
    by_bounds (Some is) f g = (
      λ e. absurd (cc),
      λ none. let s = some_store is g in absurd (none s.0 (has_length b.dims (Some is) s.0 f s.1, s.1)),
    )

in_place : (is : List Interval) (s : List ℤ) (x : ℕ) (z : ℤ) → InBounds is s → slice_get s x ≡ Some z →
    InInterval (slice_index_or is x full_interval) z
in_place [] [] x z h e = (tt, tt)
in_place [] (v ∷ s) x z h e = absurd h
in_place (j ∷ js) [] x z h e = absurd h
in_place (j ∷ js) (v ∷ s) zero z h e = subst (λ (y : ℤ). InInterval j y) (same_Some v z e) h.0
in_place (j ∷ js) (v ∷ s) (suc x) z h e = in_place js s x z h.1 e

-- and a store's number there lies within them
pub bound_has : (x : ℕ) (b : Option (List Interval)) (i : Interval) (s : List ℤ) (z : ℤ) → bound_at x b ≡ Some i →
    has_bounds b s → slice_get s x ≡ Some z → InInterval i z
bound_has x None i s z e h g = absurd h
bound_has x (Some is) i s z e h g =
    subst (λ (j : Interval). InInterval j z) (same_Some _ i e) (in_place is s x z h g)
