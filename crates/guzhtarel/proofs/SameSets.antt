-- What an operation makes of sets that are the same, or one within the other, is so too.
use Rattle.std.proofs.Common.{ℕ, suc, ◌+◌, ◌<◌, ℤ, pos, ◌<ℤ◌, List, take, inl, inr, subst, sym, ◌∙◌, arith}
use Rattle.std.proofs.lemmas.List.{length-set, length-take-le}
use Rattle.guzhtarel.specs.Crates.lra_linear_spec.SetOperations.{Meet, Union, Hull, Image, Preimage, Forget, Embed, RemoveLast, OnTheWay, TimeElapse, assigned}
use Rattle.guzhtarel.specs.Crates.{lra_linear_spec.Points.IsPoint, lra_linear_spec.Points.PointSet, lra_linear_spec.Points.IsWithin, lra_linear_spec.Points.SameSet, lra_linear_spec.Vectors.product}
use Rattle.guzhtarel.proofs.Crates.{lra_linear_spec.Products.entry_set_other, lra_mapped_systems.ListLemmas.short_divisor}

-- ---- by themselves
pub within_refl : (n : ℕ) (P : PointSet) → IsWithin n P P
within_refl n P x i p = p

pub within_trans : (n : ℕ) (P Q R : PointSet) → IsWithin n P Q → IsWithin n Q R → IsWithin n P R
within_trans n P Q R a b x i p = b x i (a x i p)

pub same_refl : (n : ℕ) (P : PointSet) → SameSet n P P
same_refl n P = (within_refl n P, within_refl n P)

pub same_flipped : (n : ℕ) (P Q : PointSet) → SameSet n P Q → SameSet n Q P
same_flipped n P Q e = (e.1, e.0)

pub same_trans : (n : ℕ) (P Q R : PointSet) → SameSet n P Q → SameSet n Q R → SameSet n P R
same_trans n P Q R a b = (within_trans n P Q R a.0 b.0, within_trans n R Q P b.1 a.1)

-- ---- sets within others
pub meet_within : (n : ℕ) (P Q R S : PointSet) → IsWithin n P R → IsWithin n Q S → IsWithin n (Meet P Q) (Meet R S)
meet_within n P Q R S a b x i h = (a x i h.0, b x i h.1)

pub union_within : (n : ℕ) (P Q R S : PointSet) → IsWithin n P R → IsWithin n Q S → IsWithin n (Union P Q) (Union R S)
union_within n P Q R S a b x i h = elim h [ inl p ↦ inl (a x i p) | inr q ↦ inr (b x i q) ]

pub hull_within : (n : ℕ) (P Q : PointSet) → IsWithin n P Q → IsWithin n (Hull n P) (Hull n Q)
hull_within n P Q a x i h c width valid = h c width (λ y j p. valid y j (a y j p))

-- a set lies in its hull
pub in_hull : (n : ℕ) (P : PointSet) → IsWithin n P (Hull n P)
in_hull n P x i p c width valid = valid x i p

pub image_within : (n k : ℕ) (form : List ℤ) (P Q : PointSet) → IsWithin n P Q → IsWithin n (Image n k form P) (Image n k form Q)
image_within n k form P Q a x i h = record { from = h.from; is_point = h.is_point; inside = a h.from h.is_point h.inside; same = h.same }

pub forget_within : (n k : ℕ) (P Q : PointSet) → IsWithin n P Q → IsWithin n (Forget n k P) (Forget n k Q)
forget_within n k P Q a x i h = record { from = h.from; is_point = h.is_point; inside = a h.from h.is_point h.inside; same = h.same }

pub remove_last_within : (n k : ℕ) (P Q : PointSet) → IsWithin (n + k) P Q → IsWithin n (RemoveLast n k P) (RemoveLast n k Q)
remove_last_within n k P Q a x i h = record { from = h.from; is_point = h.is_point; inside = a h.from h.is_point h.inside; same = h.same }

-- the image of a point is one, and so is its front
assigned_point : (n k : ℕ) (form x : List ℤ) → 0 < k → IsPoint n x → IsPoint n (assigned k form x)
assigned_point n k form x behind i = record {
  width = length-set x k (product form x) ∙ i.width;
  divisor = subst (λ z. pos 0 <ℤ z) (sym (entry_set_other x k 0 (product form x) (λ e. absurd (omega (arith, behind, e))))) i.divisor;
}

pub preimage_within : (n k : ℕ) (form : List ℤ) (P Q : PointSet) → 0 < k → IsWithin n P Q → IsWithin n (Preimage k form P) (Preimage k form Q)
preimage_within n k form P Q behind a x i h = a (assigned k form x) (assigned_point n k form x behind i) h

front_point : (n k : ℕ) (x : List ℤ) → IsPoint (n + k) x → IsPoint n (take (suc n) x)
front_point n k x i = record {
  width = length-take-le (suc n) x (let w = i.width in omega (arith, w));
  divisor = subst (λ z. pos 0 <ℤ z) (sym (short_divisor n x)) i.divisor;
}

pub embed_within : (n k : ℕ) (P Q : PointSet) → IsWithin n P Q → IsWithin (n + k) (Embed n P) (Embed n Q)
embed_within n k P Q a x i h = a (take (suc n) x) (front_point n k x i) h

pub time_elapse_within : (n : ℕ) (P Q R S : PointSet) → IsWithin n P R → IsWithin n Q S → IsWithin n (TimeElapse n P Q) (TimeElapse n R S)
time_elapse_within n P Q R S a b = hull_within n (OnTheWay n P Q) (OnTheWay n R S) (λ x i h. record {
  start = h.start;
  starts = h.starts;
  in_first = a h.start h.starts h.in_first;
  step = h.step;
  steps = h.steps;
  in_second = b h.step h.steps h.in_second;
  times = h.times;
  same = h.same;
})

-- ---- sets that are the same
pub meet_same : (n : ℕ) (P Q R S : PointSet) → SameSet n P R → SameSet n Q S → SameSet n (Meet P Q) (Meet R S)
meet_same n P Q R S a b = (meet_within n P Q R S a.0 b.0, meet_within n R S P Q a.1 b.1)

pub union_same : (n : ℕ) (P Q R S : PointSet) → SameSet n P R → SameSet n Q S → SameSet n (Union P Q) (Union R S)
union_same n P Q R S a b = (union_within n P Q R S a.0 b.0, union_within n R S P Q a.1 b.1)

pub hull_same : (n : ℕ) (P Q : PointSet) → SameSet n P Q → SameSet n (Hull n P) (Hull n Q)
hull_same n P Q e = (hull_within n P Q e.0, hull_within n Q P e.1)

pub image_same : (n k : ℕ) (form : List ℤ) (P Q : PointSet) → SameSet n P Q → SameSet n (Image n k form P) (Image n k form Q)
image_same n k form P Q e = (image_within n k form P Q e.0, image_within n k form Q P e.1)

pub preimage_same : (n k : ℕ) (form : List ℤ) (P Q : PointSet) → 0 < k → SameSet n P Q → SameSet n (Preimage k form P) (Preimage k form Q)
preimage_same n k form P Q behind e = (preimage_within n k form P Q behind e.0, preimage_within n k form Q P behind e.1)

pub forget_same : (n k : ℕ) (P Q : PointSet) → SameSet n P Q → SameSet n (Forget n k P) (Forget n k Q)
forget_same n k P Q e = (forget_within n k P Q e.0, forget_within n k Q P e.1)

pub embed_same : (n k : ℕ) (P Q : PointSet) → SameSet n P Q → SameSet (n + k) (Embed n P) (Embed n Q)
embed_same n k P Q e = (embed_within n k P Q e.0, embed_within n k Q P e.1)

pub remove_last_same : (n k : ℕ) (P Q : PointSet) → SameSet (n + k) P Q → SameSet n (RemoveLast n k P) (RemoveLast n k Q)
remove_last_same n k P Q e = (remove_last_within n k P Q e.0, remove_last_within n k Q P e.1)

pub time_elapse_same : (n : ℕ) (P Q R S : PointSet) → SameSet n P R → SameSet n Q S → SameSet n (TimeElapse n P Q) (TimeElapse n R S)
time_elapse_same n P Q R S a b = (time_elapse_within n P Q R S a.0 b.0, time_elapse_within n R S P Q a.1 b.1)
