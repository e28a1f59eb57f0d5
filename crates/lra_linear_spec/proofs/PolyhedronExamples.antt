-- Worked examples of sets of points in two dimensions, x1 and x2: a hull, a widening, a time-elapse with what follows it, an
-- inclusion that fails, and two lists of constraints with one set of points.
use Rattle.std.proofs.Common.{List, [], ap, arith, inl, inr, length, neg_ℤ, negsuc, pos, refl, subst, suc, sym, zero, ℕ, ℤ, ◌*ℤ◌, ◌+ℤ◌, ◌∙◌, ◌∷◌, ◌≡◌, ◌≢◌, ◌≤ℤ◌}
use Rattle.std.proofs.lemmas.Int.{ints}
use Rattle.lra_linear_spec.specs.Descriptions.{Con, Gen, LinearRow, equality, generator, inequality, line}
use Rattle.lra_linear_spec.specs.Points.{IsWithin, SameSet}
use Rattle.lra_linear_spec.specs.{OperationStrain.tight_on, Polyhedra.Polyhedron, SetOperations.Hull, SetOperations.Union, Vectors.entry, Vectors.product, Widening.StandardWidening}
use Rattle.lra_linear_spec.proofs.Descriptions.{con_cons, con_head, con_none, con_tail}
use Rattle.lra_linear_spec.proofs.{OneSpelling.far, Ring.mul_nonnegative, Ring.ring, Ring.v, Ring.⊖, Ring.◌⊕◌, Ring.◌⊗◌, Signs.add_nonnegative, Widening.holds_on_generators, Widening.standard_con}

-- ---- products of three columns
pub product_three : (c x : List ℤ) → length c ≡ 3 → product c x ≡ (entry c 0 *ℤ entry x 0) +ℤ ((entry c 1 *ℤ entry x 1) +ℤ (entry c 2 *ℤ entry x 2))
product_three [] x e = absurd (omega (arith, e))
product_three (a ∷ []) x e = absurd (omega (arith, e))
product_three (a ∷ b ∷ []) x e = absurd (omega (arith, e))
product_three (a ∷ b ∷ d ∷ []) x e = ring (v a ⊗ v (entry x 0) ⊕ (v b ⊗ v (entry x 1) ⊕ (v d ⊗ v (entry x 2) ⊕ v (pos 0)))) (v a ⊗ v (entry x 0) ⊕ (v b ⊗ v (entry x 1) ⊕ v d ⊗ v (entry x 2)))
    (omega arith)
product_three (a ∷ b ∷ d ∷ f ∷ more) x e = absurd (omega (arith, e))

-- ---- the hull of the point (0, 1) and the line x2 = 0 is the strip of all points with x2 from 0 to 1
abbrev point_above : List LinearRow
point_above = generator (pos 1 ∷ pos 0 ∷ pos 1 ∷ []) ∷ []

abbrev line_below : List LinearRow
line_below = generator (pos 1 ∷ pos 0 ∷ pos 0 ∷ []) ∷ line (pos 0 ∷ pos 1 ∷ pos 0 ∷ []) ∷ []

abbrev strip : List LinearRow
strip = inequality (pos 0 ∷ pos 0 ∷ pos 1 ∷ []) ∷ inequality (pos 1 ∷ pos 0 ∷ negsuc 0 ∷ []) ∷ []

-- the points (0, 1) and (t, 0)
above_is : Gen point_above (pos 1 ∷ pos 0 ∷ pos 1 ∷ [])
above_is = record { multiple = 1; positive = omega arith; free = []; factors = 1 ∷ []; is_sum = columns }
  where
    columns : (j : ℕ) → pos 1 *ℤ entry (pos 1 ∷ pos 0 ∷ pos 1 ∷ []) j ≡ pos 0 +ℤ ((pos 1 *ℤ entry (pos 1 ∷ pos 0 ∷ pos 1 ∷ []) j) +ℤ pos 0)
    columns j = ring (v (pos 1) ⊗ v (entry (pos 1 ∷ pos 0 ∷ pos 1 ∷ []) j)) (v (pos 0) ⊕ (v (pos 1) ⊗ v (entry (pos 1 ∷ pos 0 ∷ pos 1 ∷ []) j) ⊕ v (pos 0))) (omega arith)

below_is : (t : ℤ) → Gen line_below (pos 1 ∷ t ∷ pos 0 ∷ [])
below_is t = record { multiple = 1; positive = omega arith; free = t ∷ []; factors = 1 ∷ []; is_sum = columns }
  where
    columns : (j : ℕ) → pos 1 *ℤ entry (pos 1 ∷ t ∷ pos 0 ∷ []) j ≡ ((t *ℤ entry (pos 0 ∷ pos 1 ∷ pos 0 ∷ []) j) +ℤ pos 0) +ℤ ((pos 1 *ℤ entry (pos 1 ∷ pos 0 ∷ pos 0 ∷ []) j) +ℤ pos 0)
    columns zero = ring (v (pos 1) ⊗ v (pos 1)) ((v t ⊗ v (pos 0) ⊕ v (pos 0)) ⊕ (v (pos 1) ⊗ v (pos 1) ⊕ v (pos 0))) (omega arith)
    columns (suc zero) = ring (v (pos 1) ⊗ v t) ((v t ⊗ v (pos 1) ⊕ v (pos 0)) ⊕ (v (pos 1) ⊗ v (pos 0) ⊕ v (pos 0))) (omega arith)
    columns (suc (suc zero)) = ring (v (pos 1) ⊗ v (pos 0)) ((v t ⊗ v (pos 0) ⊕ v (pos 0)) ⊕ (v (pos 1) ⊗ v (pos 0) ⊕ v (pos 0))) (omega arith)
    columns (suc (suc (suc j))) = ring (v (pos 1) ⊗ v (pos 0)) ((v t ⊗ v (pos 0) ⊕ v (pos 0)) ⊕ (v (pos 1) ⊗ v (pos 0) ⊕ v (pos 0))) (omega arith)

-- an inequality that holds at all (t, 0) does not look at x1
level : (a b : ℤ) → ((t : ℤ) → pos 0 ≤ℤ (a +ℤ (t *ℤ b))) → b ≡ pos 0
level a b h = between b (far a b (λ k. h (pos k))) (far a (neg_ℤ b) (λ k. subst (λ y. pos 0 ≤ℤ (a +ℤ y)) (ring (⊖ (v (pos k)) ⊗ v b) (v (pos k) ⊗ ⊖ (v b)) (omega arith)) (h (neg_ℤ (pos k)))))
  where
    between : (z : ℤ) → pos 0 ≤ℤ z → pos 0 ≤ℤ neg_ℤ z → z ≡ pos 0
    between z h k = omega (arith, ints, h, k)

pub hull_is_strip : SameSet 2 (Hull 2 (Union (Gen point_above) (Gen line_below))) (Con strip)
hull_is_strip = (
  λ x p h. con_cons (inequality (pos 0 ∷ pos 0 ∷ pos 1 ∷ [])) (inequality (pos 1 ∷ pos 0 ∷ negsuc 0 ∷ []) ∷ []) x
      (h (pos 0 ∷ pos 0 ∷ pos 1 ∷ []) refl (λ y q m. elim m [
        | inl a ↦ holds_on_generators (inequality (pos 0 ∷ pos 0 ∷ pos 1 ∷ [])) point_above refl y a
        | inr b ↦ holds_on_generators (inequality (pos 0 ∷ pos 0 ∷ pos 1 ∷ [])) line_below refl y b
      ]))
      (con_cons (inequality (pos 1 ∷ pos 0 ∷ negsuc 0 ∷ [])) [] x
      (h (pos 1 ∷ pos 0 ∷ negsuc 0 ∷ []) refl (λ y q m. elim m [
        | inl a ↦ holds_on_generators (inequality (pos 1 ∷ pos 0 ∷ negsuc 0 ∷ [])) point_above refl y a
        | inr b ↦ holds_on_generators (inequality (pos 1 ∷ pos 0 ∷ negsuc 0 ∷ [])) line_below refl y b
      ]))
      (con_none x)),
  λ x p c d l valid.
      let at : (t : ℤ) → pos 0 ≤ℤ (entry d 0 +ℤ (t *ℤ entry d 1)) = λ t.
      subst (λ z. pos 0 ≤ℤ z) (product_three d (pos 1 ∷ t ∷ pos 0 ∷ []) l ∙ ring (v (entry d 0) ⊗ v (pos 1) ⊕ (v (entry d 1) ⊗ v t ⊕ v (entry d 2) ⊗ v (pos 0))) (v (entry d 0) ⊕ v t ⊗ v (entry d 1))
      (omega arith))
      (valid (pos 1 ∷ t ∷ pos 0 ∷ []) (record { width = refl; divisor = omega (arith, ints) }) (inr (below_is t))) in
      let flat : entry d 1 ≡ pos 0 = level (entry d 0) (entry d 1) at in
      let low : pos 0 ≤ℤ entry d 0 = let z = at (pos 0) in omega (arith, ints, z) in
      let high : pos 0 ≤ℤ (entry d 0 +ℤ entry d 2) =
      subst (λ z. pos 0 ≤ℤ z) (product_three d (pos 1 ∷ pos 0 ∷ pos 1 ∷ []) l ∙ ring (v (entry d 0) ⊗ v (pos 1) ⊕ (v (entry d 1) ⊗ v (pos 0) ⊕ v (entry d 2) ⊗ v (pos 1)))
      (v (entry d 0) ⊕ v (entry d 2)) (omega arith))
      (valid (pos 1 ∷ pos 0 ∷ pos 1 ∷ []) (record { width = refl; divisor = omega (arith, ints) }) (inl above_is)) in
      let up : pos 0 ≤ℤ entry x 2 = let z = con_head (inequality (pos 0 ∷ pos 0 ∷ pos 1 ∷ [])) (inequality (pos 1 ∷ pos 0 ∷ negsuc 0 ∷ []) ∷ []) x c in omega (arith, ints, z) in
      let under : pos 0 ≤ℤ (entry x 0 +ℤ neg_ℤ (entry x 2)) =
      let z = con_head (inequality (pos 1 ∷ pos 0 ∷ negsuc 0 ∷ [])) [] x (con_tail (inequality (pos 0 ∷ pos 0 ∷ pos 1 ∷ [])) (inequality (pos 1 ∷ pos 0 ∷ negsuc 0 ∷ []) ∷ []) x c) in omega
      (arith, ints, z) in
      subst (λ z. pos 0 ≤ℤ z)
      (ring (v (entry d 0) ⊗ (v (entry x 0) ⊕ ⊖ (v (entry x 2))) ⊕ (v (entry d 0) ⊕ v (entry d 2)) ⊗ v (entry x 2))
      (v (entry d 0) ⊗ v (entry x 0) ⊕ (v (pos 0) ⊗ v (entry x 1) ⊕ v (entry d 2) ⊗ v (entry x 2))) (omega arith) ∙
      ap (λ y. (entry d 0 *ℤ entry x 0) +ℤ ((y *ℤ entry x 1) +ℤ (entry d 2 *ℤ entry x 2))) (sym flat) ∙ sym (product_three d x l))
      (add_nonnegative (entry d 0 *ℤ (entry x 0 +ℤ neg_ℤ (entry x 2))) ((entry d 0 +ℤ entry d 2) *ℤ entry x 2)
      (mul_nonnegative (entry d 0) (entry x 0 +ℤ neg_ℤ (entry x 2)) low under) (mul_nonnegative (entry d 0 +ℤ entry d 2) (entry x 2) high up)),
)

-- the line lies in the strip, and the point (0, 1) of the strip isn't on the line x2 = 0
pub line_in_strip : IsWithin 2 (Gen line_below) (Con strip)
line_in_strip x p g =
    con_cons (inequality (pos 0 ∷ pos 0 ∷ pos 1 ∷ [])) (inequality (pos 1 ∷ pos 0 ∷ negsuc 0 ∷ []) ∷ []) x (holds_on_generators (inequality (pos 0 ∷ pos 0 ∷ pos 1 ∷ [])) line_below refl x g)
    (con_cons (inequality (pos 1 ∷ pos 0 ∷ negsuc 0 ∷ [])) [] x (holds_on_generators (inequality (pos 1 ∷ pos 0 ∷ negsuc 0 ∷ [])) line_below refl x g) (con_none x))

pub strip_not_in_line : ¬ (IsWithin 2 (Con strip) (Con (equality (pos 0 ∷ pos 0 ∷ pos 1 ∷ []) ∷ [])))
strip_not_in_line within =
    let x : List ℤ = pos 1 ∷ pos 0 ∷ pos 1 ∷ [] in
    let here : Con strip x = con_cons (inequality (pos 0 ∷ pos 0 ∷ pos 1 ∷ [])) (inequality (pos 1 ∷ pos 0 ∷ negsuc 0 ∷ []) ∷ []) x (omega (arith, ints))
    (con_cons (inequality (pos 1 ∷ pos 0 ∷ negsuc 0 ∷ [])) [] x (omega (arith, ints)) (con_none x)) in
    let z = con_head (equality (pos 0 ∷ pos 0 ∷ pos 1 ∷ [])) [] x (within x (record { width = refl; divisor = omega (arith, ints) }) here) in
    omega (arith, ints, z)

-- ---- the half line x2 = 0, x1 at least 0, widened by the half strip with x2 up to 1: the quadrant
abbrev half_line : Polyhedron
half_line = record {
  dims = 2;
  rows = equality (pos 0 ∷ pos 0 ∷ pos 1 ∷ []) ∷ inequality (pos 0 ∷ pos 1 ∷ pos 0 ∷ []) ∷ [];
  generators = generator (pos 1 ∷ pos 0 ∷ pos 0 ∷ []) ∷ generator (pos 0 ∷ pos 1 ∷ pos 0 ∷ []) ∷ [];
}

abbrev half_strip : Polyhedron
half_strip = record {
  dims = 2;
  rows = inequality (pos 0 ∷ pos 1 ∷ pos 0 ∷ []) ∷ inequality (pos 0 ∷ pos 0 ∷ pos 1 ∷ []) ∷ inequality (pos 1 ∷ pos 0 ∷ negsuc 0 ∷ []) ∷ [];
  generators = generator (pos 1 ∷ pos 0 ∷ pos 0 ∷ []) ∷ generator (pos 1 ∷ pos 0 ∷ pos 1 ∷ []) ∷ generator (pos 0 ∷ pos 1 ∷ pos 0 ∷ []) ∷ [];
}

-- the row x1 >= 0 saturates what a row of the half line does, the row x2 >= 0 saturates all of it, and x2 <= 1 is dropped
pub tight_are : tight_on half_line half_strip ≡ inequality (pos 0 ∷ pos 1 ∷ pos 0 ∷ []) ∷ inequality (pos 0 ∷ pos 0 ∷ pos 1 ∷ []) ∷ []
tight_are = refl

pub widened_is_quadrant : SameSet 2 (StandardWidening half_line half_strip) (Con (inequality (pos 0 ∷ pos 1 ∷ pos 0 ∷ []) ∷ inequality (pos 0 ∷ pos 0 ∷ pos 1 ∷ []) ∷ []))
widened_is_quadrant = standard_con 2 half_line half_strip some
  where
    some : half_line.generators ≢ []
    some e = let h : length half_line.generators ≡ 0 = ap length e in omega (arith, h)
