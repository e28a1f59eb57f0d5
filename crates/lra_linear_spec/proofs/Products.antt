-- The product of a row with a vector is linear in the vector, and the product of two rows is symmetric.
use Rattle.std.proofs.Common.{List, [], ap, arith, length, neg_ℤ, negsuc, pos, refl, suc, sym, zero, ℕ, ℤ, ◌*ℤ◌, ◌+ℤ◌, ◌<◌, ◌∙◌, ◌∷◌, ◌≡◌, ◌≢◌, ◌≤◌}
use Rattle.std.specs.Prelude.{slice_set}
use Rattle.lra_linear_spec.specs.Vectors.{blend, dot, entry, negated, product}
use Rattle.lra_linear_spec.proofs.Ring.{ring, v, ⊖, ◌⊕◌, ◌⊗◌}

-- ---- rows as vectors
-- the entries and the length of a row times -1
pub entry_negated : (r : List ℤ) (j : ℕ) → entry (negated r) j ≡ neg_ℤ (entry r j)
entry_negated [] j = refl
entry_negated (x ∷ xs) zero = refl
entry_negated (x ∷ xs) (suc j) = entry_negated xs j

pub negated_twice : (l : List ℤ) → negated (negated l) ≡ l
negated_twice [] = refl
negated_twice (x ∷ l) = ap (λ y. y ∷ negated (negated l)) (ring (⊖ (⊖ (v x))) (v x) (omega arith)) ∙ ap (λ y. x ∷ y) (negated_twice l)

pub negated_length : (r : List ℤ) → length (negated r) ≡ length r
negated_length [] = refl
negated_length (x ∷ xs) = ap suc (negated_length xs)

-- past the end of a row the entries are 0
pub entry_past : (r : List ℤ) (j : ℕ) → length r ≤ j → entry r j ≡ pos 0
entry_past [] j h = refl
entry_past (x ∷ r) zero h = absurd (omega (arith, h))
entry_past (x ∷ r) (suc j) h = entry_past r j (omega (arith, h))

-- rows of one length with the same entries are the same list
pub row_same : (r t : List ℤ) → length r ≡ length t → ((j : ℕ) → entry r j ≡ entry t j) → r ≡ t
row_same [] [] l e = refl
row_same [] (y ∷ ys) l e = absurd (omega (arith, l))
row_same (x ∷ xs) [] l e = absurd (omega (arith, l))
row_same (x ∷ xs) (y ∷ ys) l e =
    let h : x ≡ y = e 0 in
    let t : xs ≡ ys = row_same xs ys (omega (arith, l)) (λ j. e (suc j)) in cc

-- one entry put in
pub entry_set_same : (r : List ℤ) (k : ℕ) (z : ℤ) → k < length r → entry (slice_set r k z) k ≡ z
entry_set_same [] k z h = absurd (omega (arith, h))
entry_set_same (x ∷ xs) zero z h = refl
entry_set_same (x ∷ xs) (suc k) z h = entry_set_same xs k z (omega (arith, h))

pub entry_set_other : (r : List ℤ) (k j : ℕ) (z : ℤ) → j ≢ k → entry (slice_set r k z) j ≡ entry r j
entry_set_other [] k j z n = refl
entry_set_other (x ∷ xs) zero zero z n = absurd (n refl)
entry_set_other (x ∷ xs) zero (suc j) z n = refl
entry_set_other (x ∷ xs) (suc k) zero z n = refl
entry_set_other (x ∷ xs) (suc k) (suc j) z n = entry_set_other xs k j z (λ e. n (ap suc e))

-- the sum of multiples of two rows, column by column
pub entry_blend : (a b : ℤ) (us vs : List ℤ) → length us ≡ length vs → (j : ℕ) → entry (blend a b us vs) j ≡ (a *ℤ entry us j) +ℤ (b *ℤ entry vs j)
entry_blend a b [] [] e j = ring (v (pos 0)) (v a ⊗ v (pos 0) ⊕ v b ⊗ v (pos 0)) (omega arith)
entry_blend a b [] (y ∷ vs) e j = absurd (omega (arith, e))
entry_blend a b (x ∷ us) [] e j = absurd (omega (arith, e))
entry_blend a b (x ∷ us) (y ∷ vs) e zero = refl
entry_blend a b (x ∷ us) (y ∷ vs) e (suc j) = entry_blend a b us vs (omega (arith, e)) j

pub blend_length : (a b : ℤ) (us vs : List ℤ) → length us ≡ length vs → length (blend a b us vs) ≡ length us
blend_length a b [] vs e = refl
blend_length a b (x ∷ us) [] e = absurd (omega (arith, e))
blend_length a b (x ∷ us) (y ∷ vs) e = ap suc (blend_length a b us vs (omega (arith, e)))

-- ---- linear in the vector
-- vectors with the same entries have the same product
pub dot_same : (c : List ℤ) (u w : ℕ → ℤ) → ((j : ℕ) → u j ≡ w j) → dot c u ≡ dot c w
dot_same [] u w e = refl
dot_same (x ∷ xs) u w e =
    ap (λ a. (x *ℤ a) +ℤ dot xs (λ j. u (suc j))) (e 0) ∙ ap (λ a. (x *ℤ w 0) +ℤ a) (dot_same xs (λ j. u (suc j)) (λ j. w (suc j)) (λ j. e (suc j)))

-- a u + b w
pub dot_linear : (c : List ℤ) (a b : ℤ) (u w : ℕ → ℤ) → dot c (λ j. (a *ℤ u j) +ℤ (b *ℤ w j)) ≡ (a *ℤ dot c u) +ℤ (b *ℤ dot c w)
dot_linear [] a b u w = ring (v (pos 0)) (v a ⊗ v (pos 0) ⊕ v b ⊗ v (pos 0)) (omega arith)
dot_linear (x ∷ xs) a b u w =
    let p = dot xs (λ j. u (suc j)) in
    let q = dot xs (λ j. w (suc j)) in
    ap (λ r. (x *ℤ ((a *ℤ u 0) +ℤ (b *ℤ w 0))) +ℤ r) (dot_linear xs a b (λ j. u (suc j)) (λ j. w (suc j))) ∙
    ring (v x ⊗ (v a ⊗ v (u 0) ⊕ v b ⊗ v (w 0)) ⊕ (v a ⊗ v p ⊕ v b ⊗ v q)) (v a ⊗ (v x ⊗ v (u 0) ⊕ v p) ⊕ v b ⊗ (v x ⊗ v (w 0) ⊕ v q)) (omega arith)

-- the product with the zero vector
pub dot_zero : (c : List ℤ) → dot c (λ j. pos 0) ≡ pos 0
dot_zero [] = refl
dot_zero (x ∷ xs) = ap (λ r. (x *ℤ pos 0) +ℤ r) (dot_zero xs) ∙ ring (v x ⊗ v (pos 0) ⊕ v (pos 0)) (v (pos 0)) (omega arith)

-- with a multiple
pub dot_scale : (c : List ℤ) (a : ℤ) (u : ℕ → ℤ) → dot c (λ j. a *ℤ u j) ≡ a *ℤ dot c u
dot_scale c a u =
    dot_same c (λ j. a *ℤ u j) (λ j. (a *ℤ u j) +ℤ (pos 0 *ℤ u j)) (λ j. ring (v a ⊗ v (u j)) (v a ⊗ v (u j) ⊕ v (pos 0) ⊗ v (u j)) (omega arith)) ∙
    dot_linear c a (pos 0) u u ∙
    ring (v a ⊗ v (dot c u) ⊕ v (pos 0) ⊗ v (dot c u)) (v a ⊗ v (dot c u)) (omega arith)

-- f x + s
pub dot_plus : (c : List ℤ) (f : ℤ) (x s : ℕ → ℤ) → dot c (λ j. (f *ℤ x j) +ℤ s j) ≡ (f *ℤ dot c x) +ℤ dot c s
dot_plus c f x s =
    dot_same c (λ j. (f *ℤ x j) +ℤ s j) (λ j. (f *ℤ x j) +ℤ (pos 1 *ℤ s j)) (λ j. ring (v f ⊗ v (x j) ⊕ v (s j)) (v f ⊗ v (x j) ⊕ v (pos 1) ⊗ v (s j)) (omega arith)) ∙
    dot_linear c f (pos 1) x s ∙
    ring (v f ⊗ v (dot c x) ⊕ v (pos 1) ⊗ v (dot c s)) (v f ⊗ v (dot c x) ⊕ v (dot c s)) (omega arith)

-- with a sum
pub dot_add : (c : List ℤ) (x s : ℕ → ℤ) → dot c (λ j. x j +ℤ s j) ≡ dot c x +ℤ dot c s
dot_add c x s =
    dot_same c (λ j. x j +ℤ s j) (λ j. (pos 1 *ℤ x j) +ℤ s j) (λ j. ring (v (x j) ⊕ v (s j)) (v (pos 1) ⊗ v (x j) ⊕ v (s j)) (omega arith)) ∙ dot_plus c (pos 1) x s ∙
    ring (v (pos 1) ⊗ v (dot c x) ⊕ v (dot c s)) (v (dot c x) ⊕ v (dot c s)) (omega arith)

-- with the opposite
pub dot_minus : (c : List ℤ) (u : ℕ → ℤ) → dot c (λ j. neg_ℤ (u j)) ≡ neg_ℤ (dot c u)
dot_minus c u =
    dot_same c (λ j. neg_ℤ (u j)) (λ j. negsuc 0 *ℤ u j) (λ j. ring (⊖ (v (u j))) (v (negsuc 0) ⊗ v (u j)) (omega arith)) ∙ dot_scale c (negsuc 0) u ∙
    ring (v (negsuc 0) ⊗ v (dot c u)) (⊖ (v (dot c u))) (omega arith)

pub dot_negated : (c r : List ℤ) → product c (negated r) ≡ neg_ℤ (product c r)
dot_negated c r = dot_same c (entry (negated r)) (λ j. neg_ℤ (entry r j)) (entry_negated r) ∙ dot_minus c (entry r)

-- ---- symmetric
pub product_none : (r : List ℤ) → product r [] ≡ pos 0
product_none [] = refl
product_none (x ∷ xs) = ap (λ z. (x *ℤ pos 0) +ℤ z) (dot_zero xs) ∙ ring (v x ⊗ v (pos 0) ⊕ v (pos 0)) (v (pos 0)) (omega arith)

-- the product of two rows is symmetric
pub product_comm : (c r : List ℤ) → product c r ≡ product r c
product_comm [] r = sym (product_none r)
product_comm (x ∷ xs) [] = product_none (x ∷ xs)
product_comm (x ∷ xs) (y ∷ ys) = ap (λ z. (x *ℤ y) +ℤ z) (product_comm xs ys) ∙ ring (v x ⊗ v y ⊕ v (product ys xs)) (v y ⊗ v x ⊕ v (product ys xs)) (omega arith)

-- the product of a row times -1
pub negated_dot : (c : List ℤ) (u : ℕ → ℤ) → dot (negated c) u ≡ neg_ℤ (dot c u)
negated_dot [] u = refl
negated_dot (x ∷ xs) u = ap (λ z. (neg_ℤ x *ℤ u 0) +ℤ z) (negated_dot xs (λ j. u (suc j))) ∙
    ring (⊖ (v x) ⊗ v (u 0) ⊕ ⊖ (v (dot xs (λ j. u (suc j))))) (⊖ (v x ⊗ v (u 0) ⊕ v (dot xs (λ j. u (suc j))))) (omega arith)

-- the product of a row of zeros, and of one that has nothing but its first entry
pub dot_zero_row : (r : List ℤ) (u : ℕ → ℤ) → ((j : ℕ) → entry r j ≡ pos 0) → dot r u ≡ pos 0
dot_zero_row [] u z = refl
dot_zero_row (x ∷ r) u z =
    ap (λ y. (y *ℤ u 0) +ℤ dot r (λ j. u (suc j))) (z 0) ∙ ap (λ y. (pos 0 *ℤ u 0) +ℤ y) (dot_zero_row r (λ j. u (suc j)) (λ j. z (suc j))) ∙
    ring (v (pos 0) ⊗ v (u 0) ⊕ v (pos 0)) (v (pos 0)) (omega arith)

pub dot_first : (cs : List ℤ) (u : ℕ → ℤ) → ((j : ℕ) → 0 < j → entry cs j ≡ pos 0) → dot cs u ≡ entry cs 0 *ℤ u 0
dot_first [] u h = ring (v (pos 0)) (v (pos 0) ⊗ v (u 0)) (omega arith)
dot_first (c ∷ cs) u h = ap (λ y. (c *ℤ u 0) +ℤ y) (dot_zero_row cs (λ j. u (suc j)) (λ j. h (suc j) (omega arith))) ∙ ring (v c ⊗ v (u 0) ⊕ v (pos 0)) (v c ⊗ v (u 0)) (omega arith)
