-- One column of a row that is given a form's value.
use Rattle.std.proofs.Common.{◌≡◌, ℕ, zero, suc, ◌<◌, List, [], ◌∷◌, length, ap, refl, ◌∙◌, ℤ, pos, neg_ℤ, ◌+ℤ◌, ◌*ℤ◌, arith}
use Rattle.std.specs.Prelude.{slice_set}
use Rattle.lra_mapped_systems.specs.Crates.lra_linear_spec.SetOperations.{assigned}
use Rattle.lra_mapped_systems.specs.Crates.lra_linear_spec.Vectors.{dot, entry, negated, product}
use Rattle.lra_mapped_systems.proofs.Crates.lra_linear_spec.Products.{dot_negated, dot_plus, dot_same, dot_zero, entry_set_other}
use Rattle.lra_mapped_systems.proofs.{MappedSets.IsMapOf, Sums.IsLinear}

-- one column put in
abbrev pub put : ℕ → ℤ → (ℕ → ℤ) → ℕ → ℤ
put zero z u zero = z
put zero z u (suc j) = u (suc j)
put (suc k) z u zero = u 0
put (suc k) z u (suc j) = put k z (λ i. u (suc i)) j

pub put_nothing : (k j : ℕ) → put k (pos 0) (λ i. pos 0) j ≡ pos 0
put_nothing zero zero = refl
put_nothing zero (suc j) = refl
put_nothing (suc k) zero = refl
put_nothing (suc k) (suc j) = put_nothing k j

pub put_plus : (k : ℕ) (a y z : ℤ) (x s : ℕ → ℤ) (j : ℕ) →
    put k ((a *ℤ y) +ℤ z) (λ i. (a *ℤ x i) +ℤ s i) j ≡ (a *ℤ put k y x j) +ℤ put k z s j
put_plus zero a y z x s zero = refl
put_plus zero a y z x s (suc j) = refl
put_plus (suc k) a y z x s zero = refl
put_plus (suc k) a y z x s (suc j) = put_plus k a y z (λ i. x (suc i)) (λ i. s (suc i)) j

pub put_same : (k : ℕ) (y z : ℤ) (x s : ℕ → ℤ) → y ≡ z → ((i : ℕ) → x i ≡ s i) → (j : ℕ) → put k y x j ≡ put k z s j
put_same zero y z x s e h zero = e
put_same zero y z x s e h (suc j) = h (suc j)
put_same (suc k) y z x s e h zero = h 0
put_same (suc k) y z x s e h (suc j) = put_same k y z (λ i. x (suc i)) (λ i. s (suc i)) e (λ i. h (suc i)) j

pub set_entry : (k : ℕ) (z : ℤ) (r : List ℤ) → k < length r → (j : ℕ) → entry (slice_set r k z) j ≡ put k z (entry r) j
set_entry k z [] h j = absurd (omega (arith, h))
set_entry zero z (x ∷ r) h zero = refl
set_entry zero z (x ∷ r) h (suc j) = refl
set_entry (suc k) z (x ∷ r) h zero = refl
set_entry (suc k) z (x ∷ r) h (suc j) = set_entry k z r (omega (arith, h)) j

pub set_negated : (k : ℕ) (z : ℤ) (r : List ℤ) → slice_set (negated r) k (neg_ℤ z) ≡ negated (slice_set r k z)
set_negated k z [] = refl
set_negated zero z (x ∷ r) = refl
set_negated (suc k) z (x ∷ r) = ap (λ (l : List ℤ). neg_ℤ x ∷ l) (set_negated k z r)

-- the form's value put in
abbrev pub assigning : ℕ → List ℤ → (ℕ → ℤ) → ℕ → ℤ
assigning k form u = put k (dot form u) u

pub assigning_linear : (k : ℕ) (form : List ℤ) → IsLinear (assigning k form)
assigning_linear k form = record {
  nothing = λ j. put_same k (dot form (λ i. pos 0)) (pos 0) (λ i. pos 0) (λ i. pos 0) (dot_zero form) (λ i. refl) j ∙
      put_nothing k j;
  plus = λ a x s j. put_same k (dot form (λ i. (a *ℤ x i) +ℤ s i)) ((a *ℤ dot form x) +ℤ dot form s)
      (λ i. (a *ℤ x i) +ℤ s i) (λ i. (a *ℤ x i) +ℤ s i) (dot_plus form a x s) (λ i. refl) j ∙
      put_plus k a (dot form x) (dot form s) x s j;
  same = λ x y e j. put_same k (dot form x) (dot form y) x y (dot_same form x y e) e j;
}

first_column : (k : ℕ) (z : ℤ) (u : ℕ → ℤ) → 0 < k → put k z u 0 ≡ u 0
first_column zero z u h = absurd (omega (arith, h))
first_column (suc k) z u h = refl

pub assigned_map : (k w : ℕ) (form : List ℤ) → 0 < k → k < w → IsMapOf (assigning k form) (assigned k form) w
assigned_map k w form above low = record {
  linear = assigning_linear k form;
  divisor = λ u. first_column k (dot form u) u above;
  opposite = λ r. ap (slice_set (negated r) k) (dot_negated form r) ∙ set_negated k (product form r) r;
  entries = λ r l j. set_entry k (product form r) r (omega (arith, l, low)) j;
}

pub assigned_level : (x : ℕ) (form r : List ℤ) → entry (assigned (suc x) form r) 0 ≡ entry r 0
assigned_level x form r = entry_set_other r (suc x) 0 (product form r) (λ e. omega (arith, e))
