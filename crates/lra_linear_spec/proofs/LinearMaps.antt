-- A linear map that takes each row into a cone takes all that the rows generate into it. So what rows in a cone generate lies in
-- the cone, more rows generate more, and what rows with products that are not negative generate has such a product too.
use Rattle.std.proofs.Common.{List, [], ap, arith, inl, inr, pos, subst, sym, ℕ, ℤ, ◌*ℤ◌, ◌++◌, ◌+ℤ◌, ◌<ℤ◌, ◌∙◌, ◌∷◌, ◌≡◌, ◌≤ℤ◌}
use Rattle.std.proofs.lemmas.Int.{ints}
use Rattle.std.specs.List.{Contains}
use Rattle.lra_linear_spec.specs.{Cones.Generated, Vectors.dot, Vectors.entry, Vectors.sum_of}
use Rattle.lra_linear_spec.proofs.Combinations.{generated_divided, generated_more, generated_plus, generated_row, generated_same, generated_times, generated_zero}
use Rattle.lra_linear_spec.proofs.{Membership.contains_cases, Membership.contains_head, Membership.contains_tail, Products.dot_linear, Products.dot_plus, Products.dot_same, Products.dot_scale}
use Rattle.lra_linear_spec.proofs.{Products.dot_zero, Ring.mul_nonnegative, Ring.ring, Ring.v, Ring.◌⊕◌, Ring.◌⊗◌, Signs.add_nonnegative, Signs.divide_nonnegative}

-- ---- a linear map that takes each row into a cone takes all that they generate into it
-- the map u ↦ a u + (c . u) w
abbrev pub bent : List ℤ → ℤ → (ℕ → ℤ) → (ℕ → ℤ) → ℕ → ℤ
bent c a w u j = (a *ℤ u j) +ℤ (dot c u *ℤ w j)

-- for a sum of rows
bent_sum : (c : List ℤ) (a : ℤ) (w : ℕ → ℤ) (rows target : List (List ℤ)) → ((r : List ℤ) → Contains rows r → Generated target (bent c a w (entry r))) → (fs : List ℕ) →
    Generated target (bent c a w (sum_of fs rows))
bent_sum c a w rows target h [] = generated_same target (λ j. pos 0) (bent c a w (λ j. pos 0))
    (λ j. ring (v (pos 0)) (v a ⊗ v (pos 0) ⊕ v (pos 0) ⊗ v (w j)) (omega arith) ∙ ap (λ d. (a *ℤ pos 0) +ℤ (d *ℤ w j)) (sym (dot_zero c))) (generated_zero target)
bent_sum c a w [] target h (f ∷ fs) = generated_same target (λ j. pos 0) (bent c a w (λ j. pos 0))
    (λ j. ring (v (pos 0)) (v a ⊗ v (pos 0) ⊕ v (pos 0) ⊗ v (w j)) (omega arith) ∙ ap (λ d. (a *ℤ pos 0) +ℤ (d *ℤ w j)) (sym (dot_zero c))) (generated_zero target)
bent_sum c a w (r ∷ rows) target h (f ∷ fs) =
    let x : ℕ → ℤ = entry r in
    let s : ℕ → ℤ = sum_of fs rows in
    let one = generated_times target f (bent c a w x) (h r (contains_head r rows)) in
    let rest = bent_sum c a w rows target (λ y k. h y (contains_tail r y rows k)) fs in
    let d : dot c (λ j. (pos f *ℤ x j) +ℤ s j) ≡ (pos f *ℤ dot c x) +ℤ dot c s =
    dot_same c (λ j. (pos f *ℤ x j) +ℤ s j) (λ j. (pos f *ℤ x j) +ℤ (pos 1 *ℤ s j)) (λ j. ring (v (pos f) ⊗ v (x j) ⊕ v (s j)) (v (pos f) ⊗ v (x j) ⊕ v (pos 1) ⊗ v (s j)) (omega arith)) ∙
    dot_linear c (pos f) (pos 1) x s ∙
    ring (v (pos f) ⊗ v (dot c x) ⊕ v (pos 1) ⊗ v (dot c s)) (v (pos f) ⊗ v (dot c x) ⊕ v (dot c s)) (omega arith) in
    generated_same target (λ j. (pos f *ℤ bent c a w x j) +ℤ bent c a w s j) (bent c a w (λ j. (pos f *ℤ x j) +ℤ s j))
    (λ j. ring (v (pos f) ⊗ (v a ⊗ v (x j) ⊕ v (dot c x) ⊗ v (w j)) ⊕ (v a ⊗ v (s j) ⊕ v (dot c s) ⊗ v (w j)))
    (v a ⊗ (v (pos f) ⊗ v (x j) ⊕ v (s j)) ⊕ (v (pos f) ⊗ v (dot c x) ⊕ v (dot c s)) ⊗ v (w j)) (omega arith) ∙
    ap (λ e. (a *ℤ ((pos f *ℤ x j) +ℤ s j)) +ℤ (e *ℤ w j)) (sym d))
    (generated_plus target (λ j. pos f *ℤ bent c a w x j) (bent c a w s) one rest)

-- for each vector that the rows generate
pub generated_bent : (c : List ℤ) (a : ℤ) (w : ℕ → ℤ) (rows target : List (List ℤ)) (u : ℕ → ℤ) → ((r : List ℤ) → Contains rows r → Generated target (bent c a w (entry r))) → Generated rows u →
    Generated target (bent c a w u)
generated_bent c a w rows target u h g =
    generated_divided target g.multiple (bent c a w u) g.positive
    (generated_same target (bent c a w (sum_of g.factors rows)) (λ j. pos g.multiple *ℤ bent c a w u j)
    (λ j.
    let k = pos g.multiple in
    let s : ℕ → ℤ = sum_of g.factors rows in
    let e : dot c s ≡ k *ℤ dot c u = dot_same c s (λ i. k *ℤ u i) (λ i. sym (g.is_sum i)) ∙ dot_scale c k u in
    ap (λ y. (a *ℤ y) +ℤ (dot c s *ℤ w j)) (sym (g.is_sum j)) ∙ ap (λ y. (a *ℤ (k *ℤ u j)) +ℤ (y *ℤ w j)) e ∙
    ring (v a ⊗ (v k ⊗ v (u j)) ⊕ (v k ⊗ v (dot c u)) ⊗ v (w j)) (v k ⊗ (v a ⊗ v (u j) ⊕ v (dot c u) ⊗ v (w j))) (omega arith))
    (bent_sum c a w rows target h g.factors))

-- what rows in a cone generate lies in the cone
pub generated_through : (rows target : List (List ℤ)) (u : ℕ → ℤ) → ((t : List ℤ) → Contains target t → Generated rows (entry t)) → Generated target u → Generated rows u
generated_through rows target u h g =
    generated_same rows (bent [] (pos 1) (λ j. pos 0) u) u (λ j. ring (v (pos 1) ⊗ v (u j) ⊕ v (pos 0) ⊗ v (pos 0)) (v (u j)) (omega arith))
    (generated_bent [] (pos 1) (λ j. pos 0) target rows u
    (λ t k. generated_same rows (entry t) (bent [] (pos 1) (λ j. pos 0) (entry t)) (λ j. ring (v (entry t j)) (v (pos 1) ⊗ v (entry t j) ⊕ v (pos 0) ⊗ v (pos 0)) (omega arith)) (h t k))
    g)

-- ---- sums of rows, and longer lists
pub sum_generated : (rows : List (List ℤ)) (fs : List ℕ) → Generated rows (sum_of fs rows)
sum_generated rows fs = record { multiple = 1; positive = omega arith; factors = fs; is_sum = λ j. ring (v (pos 1) ⊗ v (sum_of fs rows j)) (v (sum_of fs rows j)) (omega arith) }

-- what some rows generate, more rows generate
pub generated_left : (rows more : List (List ℤ)) (u : ℕ → ℤ) → Generated rows u → Generated (rows ++ more) u
generated_left rows more u g = generated_through (rows ++ more) rows u (λ t k. generated_row (rows ++ more) t (contains_left rows more t k)) g
  where
    contains_left : (xs ys : List (List ℤ)) (t : List ℤ) → Contains xs t → Contains (xs ++ ys) t
    contains_left [] ys t k = absurd (omega (arith, k.1))
    contains_left (x ∷ xs) ys t k = elim (contains_cases x t xs k) [
      | inl e ↦ subst (Contains (x ∷ xs ++ ys)) e (contains_head x (xs ++ ys))
      | inr d ↦ contains_tail x t (xs ++ ys)
          (contains_left xs ys t d)
    ]

-- and so do longer lists
pub generated_right : (rows more : List (List ℤ)) (u : ℕ → ℤ) → Generated more u → Generated (rows ++ more) u
generated_right [] more u g = g
generated_right (x ∷ xs) more u g = generated_more x (xs ++ more) u (generated_right xs more u g)

-- ---- soundness
-- rows with products that are not negative have sums with such products
pub sum_nonneg : (c : List ℤ) (rows : List (List ℤ)) → ((r : List ℤ) → Contains rows r → pos 0 ≤ℤ dot c (entry r)) → (fs : List ℕ) → pos 0 ≤ℤ dot c (sum_of fs rows)
sum_nonneg c rows h [] = subst (λ z. pos 0 ≤ℤ z) (sym (dot_zero c)) (omega (arith, ints))
sum_nonneg c [] h (f ∷ fs) = subst (λ z. pos 0 ≤ℤ z) (sym (dot_zero c)) (omega (arith, ints))
sum_nonneg c (r ∷ rows) h (f ∷ fs) =
    let x : ℕ → ℤ = entry r in
    let s : ℕ → ℤ = sum_of fs rows in
    let one : pos 0 ≤ℤ (pos f *ℤ dot c x) = mul_nonnegative (pos f) (dot c x) (omega (arith, ints)) (h r (contains_head r rows)) in
    let rest : pos 0 ≤ℤ dot c s = sum_nonneg c rows (λ y k. h y (contains_tail r y rows k)) fs in
    subst (λ z. pos 0 ≤ℤ z) (sym (dot_plus c (pos f) x s)) (add_nonnegative (pos f *ℤ dot c x) (dot c s) one rest)

-- and each vector that they generate has one
pub generated_nonneg : (c : List ℤ) (rows : List (List ℤ)) (u : ℕ → ℤ) → ((r : List ℤ) → Contains rows r → pos 0 ≤ℤ dot c (entry r)) → Generated rows u → pos 0 ≤ℤ dot c u
generated_nonneg c rows u h g =
    let s : ℕ → ℤ = sum_of g.factors rows in
    let e : dot c s ≡ pos g.multiple *ℤ dot c u = dot_same c s (λ i. pos g.multiple *ℤ u i) (λ i. sym (g.is_sum i)) ∙ dot_scale c (pos g.multiple) u in
    divide_nonnegative g.multiple (dot c u) g.positive (subst (λ z. pos 0 ≤ℤ z) e (sum_nonneg c rows h g.factors))

-- a row with products that are not negative with all rows, and a negative one with u, keeps u apart from what they generate
pub separated : (c : List ℤ) (rows : List (List ℤ)) (u : ℕ → ℤ) → ((t : List ℤ) → Contains rows t → pos 0 ≤ℤ dot c (entry t)) → dot c u <ℤ pos 0 → ¬ (Generated rows u)
separated c rows u h p g = below (dot c u) p (generated_nonneg c rows u h g)
  where
    below : (z : ℤ) → z <ℤ pos 0 → pos 0 ≤ℤ z → ⊥
    below z h k = omega (arith, ints, h, k)
