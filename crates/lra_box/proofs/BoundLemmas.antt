-- The same of bounds that may be none.
use Rattle.std.proofs.Common.{◌≡◌, ◌≢◌, ℕ, ◌*◌, ◌<◌, ◌≤◌, ◌^◌, ◌⊎◌, inl, inr, Bool, true, false, cond, ℤ, List, [], ◌∷◌, length, Option, None, Some, refl, sym, ap, ◌∙◌, arith}
use Rattle.std.proofs.{lemmas.Int.ints, lemmas.Int.clamps, lemmas.Option.same_Some}
use Rattle.std.specs.{Int.int_min, Int.int_max, Prelude.◌≤ℤ◌, Prelude.slice_set, Prelude.int_lt}
use Rattle.lra_domain.specs.Bounds.{AtMost, finite, greater, stable, lesser_low}
use Rattle.lra_domain.specs.{Rank.RankFits, declared.Mode.Mode, declared.Mode.TheVariants.Join, declared.Mode.TheVariants.Widen, declared.Mode.TheVariants.Limited, declared.Mode.TheVariants.Tightest}
use Rattle.lra_box.specs.Tables.{has_bounds, on_bounds, joined_intervals, joined_bounds, widened_low, widened_intervals, widened_bounds, grown_bounds, LowWithin, IntervalsWithin, BoundsWithin}
use Rattle.lra_box.specs.{Bounds.BoundHolds, Bounds.InBounds, Bounds.full_interval, Content.BoxContent, Content.BoundsFit, Tables.finite_bounds, Tables.rank_number, Tables.rank_of}
use Rattle.lra_box.specs.{declared.interval.Interval.Interval, declared.interval.Side.Side, declared.interval.Side.TheVariants.Low, declared.interval.Side.TheVariants.High}
use Rattle.lra_box.proofs.BoxLemmas.{in_joined_left, in_joined_right, in_set}

pub widen_low_old : (a b : Option ℤ) (x : ℤ) → BoundHolds Low a x → BoundHolds Low (widened_low a b) x
widen_low_old None b x h = tt
widen_low_old (Some a) None x h = tt
widen_low_old (Some a) (Some b) x h = elim (int_lt b a) as (λ v. BoundHolds Low (cond v None (Some a)) x) [ true ↦ tt | false ↦ h ]

pub widen_high_old : (a b : Option ℤ) (x : ℤ) → BoundHolds High a x → BoundHolds High (stable a b) x
widen_high_old None b x h = tt
widen_high_old (Some a) None x h = tt
widen_high_old (Some a) (Some b) x h = elim (int_lt a b) as (λ v. BoundHolds High (cond v None (Some a)) x) [ true ↦ tt | false ↦ h ]

by_test : (t : Bool) (a x : ℤ) (side : Side) → (t ≡ false → BoundHolds side (Some a) x) → BoundHolds side (cond t None (Some a)) x
by_test true a x side h = tt
by_test false a x side h = h refl

widen_low_new : (a b : Option ℤ) (x : ℤ) → BoundHolds Low b x → BoundHolds Low (widened_low a b) x
widen_low_new None b x h = tt
widen_low_new (Some a) None x h = tt
widen_low_new (Some a) (Some b) x h = by_test (int_lt b a) a x Low (λ e. grind (arith, ints))

widen_high_new : (a b : Option ℤ) (x : ℤ) → BoundHolds High b x → BoundHolds High (stable a b) x
widen_high_new None b x h = tt
widen_high_new (Some a) None x h = tt
widen_high_new (Some a) (Some b) x h = by_test (int_lt a b) a x High (λ e. grind (arith, ints))

in_widened_old : (is js : List Interval) (s : List ℤ) → length is ≡ length js → InBounds is s → InBounds (widened_intervals is js) s
in_widened_old [] js s e h = h
in_widened_old (i ∷ is) [] s e h = absurd (omega arith)
in_widened_old (i ∷ is) (j ∷ js) [] e h = absurd h
in_widened_old (i ∷ is) (j ∷ js) (x ∷ xs) e h = ((widen_low_old i.low j.low x h.0.0, widen_high_old i.high j.high x h.0.1), in_widened_old is js xs (omega arith) h.1)

in_widened_new : (is js : List Interval) (s : List ℤ) → length is ≡ length js → InBounds js s → InBounds (widened_intervals is js) s
in_widened_new [] [] s e h = h
in_widened_new [] (j ∷ js) s e h = absurd (omega arith)
in_widened_new (i ∷ is) [] s e h = absurd (omega arith)
in_widened_new (i ∷ is) (j ∷ js) [] e h = absurd h
in_widened_new (i ∷ is) (j ∷ js) (x ∷ xs) e h = ((widen_low_new i.low j.low x h.0.0, widen_high_new i.high j.high x h.0.1), in_widened_new is js xs (omega arith) h.1)

length_joined : (is js : List Interval) → length is ≡ length js → length (joined_intervals is js) ≡ length is
length_joined [] js e = refl
length_joined (i ∷ is) [] e = absurd (omega arith)
length_joined (i ∷ is) (j ∷ js) e = omega (arith, length_joined is js (omega arith))

length_widened : (is js : List Interval) → length is ≡ length js → length (widened_intervals is js) ≡ length is
length_widened [] js e = refl
length_widened (i ∷ is) [] e = absurd (omega arith)
length_widened (i ∷ is) (j ∷ js) e = omega (arith, length_widened is js (omega arith))

pub joined_fit : (n : ℕ) (a b : Option (List Interval)) → BoundsFit n a → BoundsFit n b → BoundsFit n (joined_bounds a b)
joined_fit n None b f g = g
joined_fit n (Some is) None f g = f
joined_fit n (Some is) (Some js) f g = omega (arith, length_joined is js (omega arith))

pub widened_fit : (n : ℕ) (a b : Option (List Interval)) → BoundsFit n a → BoundsFit n b → BoundsFit n (widened_bounds a b)
widened_fit n None b f g = g
widened_fit n (Some is) None f g = f
widened_fit n (Some is) (Some js) f g = omega (arith, length_widened is js (omega arith))

pub grown_fit : (mode : Mode) (n : ℕ) (a b : Option (List Interval)) → BoundsFit n a → BoundsFit n b → BoundsFit n (grown_bounds mode a b)
grown_fit Join n a b f g = joined_fit n a b f g
grown_fit Widen n a b f g = widened_fit n a _ f (joined_fit n a b f g)
grown_fit Limited n a b f g = widened_fit n a _ f (joined_fit n a b f g)
grown_fit Tightest n a b f g = widened_fit n a _ f (joined_fit n a b f g)

pub has_joined_left : (n : ℕ) (a b : Option (List Interval)) (s : List ℤ) → BoundsFit n a → BoundsFit n b → has_bounds a s → has_bounds (joined_bounds a b) s
has_joined_left n None b s f g h = absurd h
has_joined_left n (Some is) None s f g h = h
has_joined_left n (Some is) (Some js) s f g h = in_joined_left is js s (omega arith) h

pub has_joined_right : (n : ℕ) (a b : Option (List Interval)) (s : List ℤ) → BoundsFit n a → BoundsFit n b → has_bounds b s → has_bounds (joined_bounds a b) s
has_joined_right n None b s f g h = h
has_joined_right n (Some is) None s f g h = absurd h
has_joined_right n (Some is) (Some js) s f g h = in_joined_right is js s (omega arith) h

has_widened_old : (n : ℕ) (a b : Option (List Interval)) (s : List ℤ) → BoundsFit n a → BoundsFit n b → has_bounds a s → has_bounds (widened_bounds a b) s
has_widened_old n None b s f g h = absurd h
has_widened_old n (Some is) None s f g h = h
has_widened_old n (Some is) (Some js) s f g h = in_widened_old is js s (omega arith) h

has_widened_new : (n : ℕ) (a b : Option (List Interval)) (s : List ℤ) → BoundsFit n a → BoundsFit n b → has_bounds b s → has_bounds (widened_bounds a b) s
has_widened_new n None b s f g h = h
has_widened_new n (Some is) None s f g h = absurd h
has_widened_new n (Some is) (Some js) s f g h = in_widened_new is js s (omega arith) h

pub has_grown_old : (mode : Mode) (n : ℕ) (a b : Option (List Interval)) (s : List ℤ) → BoundsFit n a → BoundsFit n b → has_bounds a s → has_bounds (grown_bounds mode a b) s
has_grown_old Join n a b s f g h = has_joined_left n a b s f g h
has_grown_old Widen n a b s f g h = has_widened_old n a _ s f (joined_fit n a b f g) h
has_grown_old Limited n a b s f g h = has_widened_old n a _ s f (joined_fit n a b f g) h
has_grown_old Tightest n a b s f g h = has_widened_old n a _ s f (joined_fit n a b f g) h

pub has_grown_new : (mode : Mode) (n : ℕ) (a b : Option (List Interval)) (s : List ℤ) → BoundsFit n a → BoundsFit n b → has_bounds b s → has_bounds (grown_bounds mode a b) s
has_grown_new Join n a b s f g h = has_joined_right n a b s f g h
has_grown_new Widen n a b s f g h = has_widened_new n a _ s f (joined_fit n a b f g) (has_joined_right n a b s f g h)
has_grown_new Limited n a b s f g h = has_widened_new n a _ s f (joined_fit n a b f g) (has_joined_right n a b s f g h)
has_grown_new Tightest n a b s f g h = has_widened_new n a _ s f (joined_fit n a b f g) (has_joined_right n a b s f g h)

finite_few : (o : Option ℤ) → finite o ≤ 1
finite_few None = omega arith
finite_few (Some x) = omega arith

pub finite_bound : (is : List Interval) → finite_bounds is ≤ 2 * length is
finite_bound [] = omega arith
finite_bound (i ∷ is) = omega (arith, finite_few i.low, finite_few i.high, finite_bound is)

pub rank_fits : (b : BoxContent) → b.dims ≤ 2 ^ 30 → BoundsFit b.dims b.bounds → RankFits (rank_of b)
rank_fits b few fit = record {
  fits_first = omega arith;
  fits_second = omega arith;
  fits_third = omega arith;
  fits_fourth = fourth b.dims b.bounds few fit;
}
  where
    fourth : (n : ℕ) (o : Option (List Interval)) → n ≤ 2 ^ 30 → BoundsFit n o → rank_number n o < 2 ^ 62
    fourth n None few fit = omega arith
    fourth n (Some is) few fit = omega (arith, finite_bound is)

-- a bound goes, or the new one is no wider
low_falls : (a b : Option ℤ) → (finite (widened_low a (lesser_low a b)) ≤ finite a) × ((finite (widened_low a (lesser_low a b)) < finite a) ⊎ LowWithin b a)
low_falls None b = (omega arith, inr tt)
low_falls (Some a) None = (omega arith, inl (omega arith))
low_falls (Some a) (Some b) =
    elim (int_lt (int_min a b) a) as (λ v. int_lt (int_min a b) a ≡ v → (finite (cond v None (Some a)) ≤ 1) × ((finite (cond v None (Some a)) < 1) ⊎ (a ≤ℤ b)))
    [ true ↦ λ e. (omega arith, inl (omega arith)) | false ↦ λ e. (omega arith, inr (grind (arith, ints, clamps))) ] refl

high_falls : (a b : Option ℤ) → (finite (stable a (greater a b)) ≤ finite a) × ((finite (stable a (greater a b)) < finite a) ⊎ AtMost b a)
high_falls None b = (omega arith, inr tt)
high_falls (Some a) None = (omega arith, inl (omega arith))
high_falls (Some a) (Some b) =
    elim (int_lt a (int_max a b)) as (λ v. int_lt a (int_max a b) ≡ v → (finite (cond v None (Some a)) ≤ 1) × ((finite (cond v None (Some a)) < 1) ⊎ (b ≤ℤ a)))
    [ true ↦ λ e. (omega arith, inl (omega arith)) | false ↦ λ e. (omega arith, inr (grind (arith, ints, clamps))) ] refl

falls : (is js : List Interval) → length is ≡ length js → (finite_bounds (widened_intervals is (joined_intervals is js)) ≤ finite_bounds is) ×
    ((finite_bounds (widened_intervals is (joined_intervals is js)) < finite_bounds is) ⊎ IntervalsWithin js is)
falls [] [] e = (omega arith, inr tt)
falls [] (j ∷ js) e = absurd (omega arith)
falls (i ∷ is) [] e = absurd (omega arith)
falls (i ∷ is) (j ∷ js) e =
    let low = low_falls i.low j.low in
    let high = high_falls i.high j.high in
    let rest = falls is js (omega arith) in (
      omega arith,
      elim low.1 [
        | inl l ↦ inl (omega arith)
        | inr l ↦ elim high.1 [
          | inl h ↦ inl (omega arith)
          | inr h ↦ elim rest.1 [
            | inl r ↦ inl (omega arith)
            | inr r ↦ inr ((l, h), r)
          ]
        ]
      ],
    )

wide_falls : (n : ℕ) (a b : Option (List Interval)) → BoundsFit n a → BoundsFit n b → ¬ BoundsWithin b a → rank_number n (widened_bounds a (joined_bounds a b)) < rank_number n a
wide_falls n None None f g w = absurd (w tt)
wide_falls n None (Some js) f g w = omega (arith, finite_bound js)
wide_falls n (Some is) None f g w = absurd (w tt)
wide_falls n (Some is) (Some js) f g w = elim (falls is js (omega arith)).1 [ inl l ↦ l | inr r ↦ absurd (w r) ]

pub grown_falls : (mode : Mode) (n : ℕ) (a b : Option (List Interval)) → mode ≢ Join → BoundsFit n a → BoundsFit n b → ¬ BoundsWithin b a → rank_number n (grown_bounds mode a b) < rank_number n a
grown_falls Join n a b m f g w = absurd (m refl)
grown_falls Widen n a b m f g w = wide_falls n a b f g w
grown_falls Limited n a b m f g w = wide_falls n a b f g w
grown_falls Tightest n a b m f g w = wide_falls n a b f g w

-- if both have intervals, they have as many
abbrev pub SameLength : Option (List Interval) → Option (List Interval) → Type 0
SameLength a b = (is js : List Interval) → a ≡ Some is → b ≡ Some js → length is ≡ length js

pub joined_same : (a b : Option (List Interval)) → SameLength a b → SameLength a (joined_bounds a b)
joined_same None b same is js e f = cc
joined_same (Some ks) None same is js e f = ap length (same_Some is ks (sym e) ∙ same_Some ks js f)
joined_same (Some ks) (Some ls) same is js e f =
    sym (ap length (sym (same_Some _ js f)) ∙ length_joined ks ls (same ks ls refl refl) ∙ ap length (same_Some ks is e))

pub has_forgotten : (x : ℕ) (b : Option (List Interval)) (s : List ℤ) (v : ℤ) → has_bounds b s → has_bounds (on_bounds (λ is. slice_set is x full_interval) b) (slice_set s x v)
has_forgotten x None s v h = h
has_forgotten x (Some is) s v h = in_set is s x full_interval v h (tt, tt)
