-- The stores of a matrix lie in the numbers that it allows to each variable.
use Rattle.std.proofs.Common.{◌≡◌, ℕ, zero, suc, ◌+◌, ◌*◌, ◌<◌, ℤ, List, [], ◌∷◌, length, Option, None, Some, ap, refl}
use Rattle.std.proofs.{Common.sym, Common.◌∙◌, Common.subst, Common.arith, lemmas.Int.ints}
use Rattle.std.specs.{Option.option_map, Prelude.◌-ℤ◌, Prelude.neg_ℤ}
use Rattle.lra_linear_spec.specs.Vectors.{entry}
use Rattle.lra_dbm.specs.{Entry.◌⊑◌, Entry.half_of, Tight.Entries, Tight.opposite, Tight.signed_value, Tight.IsStore}
use Rattle.lra_dbm.proofs.EntryLemmas.{le_same, le_trans}
use Rattle.lra_dbm.proofs.{CellLemmas.opposite_below, Closed.signed_opposite, Strong.half_bounds}
use Rattle.lra_box.specs.Bounds.{BoundHolds, InInterval, InBounds}
use Rattle.lra_box.specs.declared.interval.Side.TheVariants.{Low, High}
use Rattle.lra_octagon.specs.FormValues.{plus_value, minus_value}
use Rattle.lra_octagon.specs.Tables.{interval, intervals_from, intervals}

-- ---- the stores of a matrix lie in its intervals

pub half_high : (o : Option ℤ) (x : ℤ) → Some (x -ℤ neg_ℤ x) ⊑ o → BoundHolds High (half_of o) x
half_high None x h = tt
half_high (Some a) x h = let p = h.at_most in let b = half_bounds a in omega (arith, ints)

half_low : (o : Option ℤ) (x : ℤ) → Some (neg_ℤ x -ℤ neg_ℤ (neg_ℤ x)) ⊑ o →
    BoundHolds Low (option_map neg_ℤ (half_of o)) x
half_low None x h = tt
half_low (Some a) x h = let p = h.at_most in let b = half_bounds a in omega (arith, ints)

pub unary_at : (n : ℕ) (m : Entries) (s : List ℤ) (i : ℕ) (x : ℤ) → IsStore n m s → i < 2 * n → signed_value s i ≡ x →
    Some (x -ℤ neg_ℤ x) ⊑ m (opposite i) i
unary_at n m s i x h l e = le_trans (le_same (ap (λ z. Some (z -ℤ neg_ℤ z)) (sym e) ∙
    ap (λ z. Some (signed_value s i -ℤ z)) (sym (signed_opposite s i))))
    (h.below (opposite i) i (opposite_below n i l) l)

in_interval : (n : ℕ) (m : Entries) (s : List ℤ) (k : ℕ) → IsStore n m s → k < n →
    InInterval (interval m k) (entry s k)
in_interval n m s k h l = (
  half_low (m (opposite (2 * k + 1)) (2 * k + 1)) (entry s k)
      (unary_at n m s (2 * k + 1) (neg_ℤ (entry s k)) h (omega arith) (minus_value s k)),
  half_high (m (opposite (2 * k)) (2 * k)) (entry s k)
      (unary_at n m s (2 * k) (entry s k) h (omega arith) (plus_value s k)),
)

in_from : (m : Entries) (t : List ℤ) (k n : ℕ) → length t ≡ n →
    ((j : ℕ) → j < n → InInterval (interval m (k + j)) (entry t j)) → InBounds (intervals_from m k n) t
in_from m [] k zero e h = tt
in_from m [] k (suc n) e h = absurd (omega arith)
in_from m (x ∷ t) k zero e h = absurd (omega arith)
in_from m (x ∷ t) k (suc n) e h =
    let here : k + 0 ≡ k = omega arith in (
      subst (λ z. InInterval (interval m z) x) here (h 0 (omega arith)),
      in_from m t (suc k) n (omega arith) (λ j l. let later : k + suc j ≡ suc k + j = omega arith in subst
          (λ z. InInterval (interval m z) (entry t j)) later (h (suc j) (omega arith))),
    )

pub in_intervals : (n : ℕ) (m : Entries) (s : List ℤ) → IsStore n m s → InBounds (intervals n m) s
in_intervals n m s h = in_from m s 0 n h.width (λ j l. let same : j ≡ 0 + j = omega arith in subst
    (λ z. InInterval (interval m z) (entry s j)) same (in_interval n m s j h l))

-- there is an interval for each variable
length_from : (m : Entries) (k n : ℕ) → length (intervals_from m k n) ≡ n
length_from m k zero = refl
length_from m k (suc n) = ap suc (length_from m (suc k) n)

pub length_intervals : (n : ℕ) (m : Entries) → length (intervals n m) ≡ n
length_intervals n m = length_from m 0 n
