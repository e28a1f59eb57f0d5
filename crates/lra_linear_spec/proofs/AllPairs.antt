-- The rows of all pairs are a step.
use Rattle.std.proofs.Common.{Bool, List, [], ap, arith, cond, false, inl, inr, length, neg_ℤ, pos, refl, subst, sym, true, ℕ, ℤ, ◌*ℤ◌, ◌+ℤ◌, ◌<ℤ◌, ◌∙◌, ◌∷◌, ◌≡◌, ◌≤ℤ◌}
use Rattle.std.proofs.{lemmas.Int.ints, lemmas.List.Elements.Contains-append_cases, lemmas.List.Elements.Contains-append_left, lemmas.List.Elements.Contains-append_right}
use Rattle.std.specs.{List.Contains, Prelude.int_le, Prelude.int_lt}
use Rattle.lra_linear_spec.specs.{Cones.Generated, Vectors.blend, Vectors.dot, Vectors.entry}
use Rattle.lra_linear_spec.proofs.DoubleDescription.{StepOf, kept, pair, pairs, pairs_of, step_rows}
use Rattle.lra_linear_spec.proofs.{Combinations.generated_plus, Combinations.generated_row, Combinations.generated_same, Combinations.generated_times, Signs.le_yes, Signs.le_said}
use Rattle.lra_linear_spec.proofs.{Membership.contains_cases, Membership.contains_head, Membership.contains_tail, Products.dot_linear, Products.dot_same, Products.entry_blend, Ring.ring, Ring.v}
use Rattle.lra_linear_spec.proofs.{Ring.⊖, Ring.◌⊕◌, Ring.◌⊗◌, Signs.as_nat, Signs.neg_nat, Signs.positive_is_nonnegative}

-- ---- tests

lt_yes : (a b : ℤ) → a <ℤ b → true ≡ int_lt a b
lt_yes a b h = omega (arith, ints)

-- ---- kept
-- each row with a product that is not negative is there
kept_has : (c : List ℤ) (rays : List (List ℤ)) (r : List ℤ) → Contains rays r → pos 0 ≤ℤ dot c (entry r) → Contains (kept c rays) r
kept_has c [] r k h = absurd (omega (arith, k.1))
kept_has c (x ∷ rays) r k h = elim (contains_cases x r rays k) [
  | inl e ↦ subst (λ y. Contains (cond (int_le (pos 0) (dot c (entry x))) (x ∷ kept c rays) (kept c rays)) y) e
      (subst (λ t. Contains (cond t (x ∷ kept c rays) (kept c rays)) x) (le_yes (dot c (entry x)) (subst (λ y. pos 0 ≤ℤ dot c (entry y)) (sym e) h)) (contains_head x (kept c rays)))
  | inr d ↦ under (int_le (pos 0) (dot c (entry x))) (kept_has c rays r d h)
]
  where
    under : (t : Bool) → Contains (kept c rays) r → Contains (cond t (x ∷ kept c rays) (kept c rays)) r
    under true i = contains_tail x r (kept c rays) i
    under false i = i

-- and nothing else
pub kept_only : (c : List ℤ) (rays : List (List ℤ)) (t : List ℤ) → Contains (kept c rays) t → Contains rays t × (pos 0 ≤ℤ dot c (entry t))
kept_only c [] t k = absurd (omega (arith, k.1))
kept_only c (x ∷ rays) t k = by_test c x rays t (int_le (pos 0) (dot c (entry x))) refl (λ i. kept_only c rays t i) k
  where
    by_test : (c x : List ℤ) (rays : List (List ℤ)) (t : List ℤ) (b : Bool) → b ≡ int_le (pos 0) (dot c (entry x)) → (Contains (kept c rays) t → Contains rays t × (pos 0 ≤ℤ dot c (entry t))) →
        Contains (cond b (x ∷ kept c rays) (kept c rays)) t → Contains (x ∷ rays) t × (pos 0 ≤ℤ dot c (entry t))
    by_test c x rays t true e ih k = elim (contains_cases x t (kept c rays) k) [
      | inl s ↦ (subst (Contains (x ∷ rays)) s (contains_head x rays), subst (λ y. pos 0 ≤ℤ dot c (entry y)) s (le_said (dot c (entry x)) e))
      | inr d ↦ let i = ih d in (contains_tail x t rays i.0, i.1)
    ]
    by_test c x rays t false e ih k = let i = ih k in (contains_tail x t rays i.0, i.1)

-- ---- pairs
-- each pair is there
pairs_of_has : (c u : List ℤ) (rays : List (List ℤ)) (n : List ℤ) → Contains rays n → dot c (entry n) <ℤ pos 0 → Contains (pairs_of c u rays) (blend (neg_ℤ (dot c (entry n))) (dot c (entry u)) u n)
pairs_of_has c u [] n k h = absurd (omega (arith, k.1))
pairs_of_has c u (x ∷ rays) n k h = elim (contains_cases x n rays k) [
  | inl e ↦ subst (λ y. Contains (pairs_of c u (x ∷ rays)) (blend (neg_ℤ (dot c (entry y))) (dot c (entry u)) u y)) e
      (subst (λ t. Contains (cond t (blend (neg_ℤ (dot c (entry x))) (dot c (entry u)) u x ∷ pairs_of c u rays) (pairs_of c u rays)) (blend (neg_ℤ (dot c (entry x))) (dot c (entry u)) u x))
      (lt_yes (dot c (entry x)) (pos 0) (subst (λ y. dot c (entry y) <ℤ pos 0) (sym e) h)) (contains_head (blend (neg_ℤ (dot c (entry x))) (dot c (entry u)) u x) (pairs_of c u rays)))
  | inr d ↦ under (int_lt (dot c (entry x)) (pos 0)) (pairs_of_has c u rays n d h)
]
  where
    under : (t : Bool) → Contains (pairs_of c u rays) (blend (neg_ℤ (dot c (entry n))) (dot c (entry u)) u n) →
        Contains (cond t (blend (neg_ℤ (dot c (entry x))) (dot c (entry u)) u x ∷ pairs_of c u rays) (pairs_of c u rays)) (blend (neg_ℤ (dot c (entry n))) (dot c (entry u)) u n)
    under true i = contains_tail (blend (neg_ℤ (dot c (entry x))) (dot c (entry u)) u x) (blend (neg_ℤ (dot c (entry n))) (dot c (entry u)) u n) (pairs_of c u rays) i
    under false i = i

pairs_has : (c : List ℤ) (rays all : List (List ℤ)) (p n : List ℤ) → Contains rays p → Contains all n → pos 0 <ℤ dot c (entry p) → dot c (entry n) <ℤ pos 0 →
    Contains (pairs c rays all) (blend (neg_ℤ (dot c (entry n))) (dot c (entry p)) p n)
pairs_has c [] all p n k m h l = absurd (omega (arith, k.1))
pairs_has c (x ∷ rays) all p n k m h l = elim (contains_cases x p rays k) [
  | inl e ↦ Contains-append_left (cond (int_lt (pos 0) (dot c (entry x))) (pairs_of c x all) []) (pairs c rays all) (blend (neg_ℤ (dot c (entry n))) (dot c (entry p)) p n)
      (subst (λ y. Contains (cond (int_lt (pos 0) (dot c (entry x))) (pairs_of c x all) []) (blend (neg_ℤ (dot c (entry n))) (dot c (entry y)) y n)) e
      (subst (λ t. Contains (cond t (pairs_of c x all) []) (blend (neg_ℤ (dot c (entry n))) (dot c (entry x)) x n)) (lt_yes (pos 0) (dot c (entry x)) (subst (λ y. pos 0 <ℤ dot c (entry y)) (sym e) h))
      (pairs_of_has c x all n m l)))
  | inr d ↦ Contains-append_right (cond (int_lt (pos 0) (dot c (entry x))) (pairs_of c x all) []) (pairs c rays all) (blend (neg_ℤ (dot c (entry n))) (dot c (entry p)) p n)
      (pairs_has c rays all p n d m h l)
]

-- which pair a row is
pub record PairOf (c : List ℤ) (rays all : List (List ℤ)) (t : List ℤ) : Type 0 where
  pub up : List ℤ
  pub down : List ℤ
  pub has_up : Contains rays up
  pub has_down : Contains all down
  pub above : pos 0 <ℤ dot c (entry up)
  pub below : dot c (entry down) <ℤ pos 0
  pub is_pair : blend (neg_ℤ (dot c (entry down))) (dot c (entry up)) up down ≡ t

record Down (c u : List ℤ) (all : List (List ℤ)) (t : List ℤ) : Type 0 where
  down : List ℤ
  has_down : Contains all down
  below : dot c (entry down) <ℤ pos 0
  is_pair : blend (neg_ℤ (dot c (entry down))) (dot c (entry u)) u down ≡ t

pairs_of_only : (c u : List ℤ) (all : List (List ℤ)) (t : List ℤ) → Contains (pairs_of c u all) t → Down c u all t
pairs_of_only c u [] t k = absurd (omega (arith, k.1))
pairs_of_only c u (x ∷ all) t k = by_test c u x all t (int_lt (dot c (entry x)) (pos 0)) refl (λ i. pairs_of_only c u all t i) k
  where
    said : (z : ℤ) → true ≡ int_lt z (pos 0) → z <ℤ pos 0
    said z h = omega (arith, ints)

    later : (c u x : List ℤ) (all : List (List ℤ)) (t : List ℤ) → Down c u all t → Down c u (x ∷ all) t
    later c u x all t d = record { down = d.down; has_down = contains_tail x d.down all d.has_down; below = d.below; is_pair = d.is_pair }

    by_test : (c u x : List ℤ) (all : List (List ℤ)) (t : List ℤ) (b : Bool) → b ≡ int_lt (dot c (entry x)) (pos 0) → (Contains (pairs_of c u all) t → Down c u all t) →
        Contains (cond b (blend (neg_ℤ (dot c (entry x))) (dot c (entry u)) u x ∷ pairs_of c u all) (pairs_of c u all)) t → Down c u (x ∷ all) t
    by_test c u x all t true e ih k = elim (contains_cases (blend (neg_ℤ (dot c (entry x))) (dot c (entry u)) u x) t (pairs_of c u all) k) [
      | inl s ↦ record { down = x; has_down = contains_head x all; below = said (dot c (entry x)) e; is_pair = s }
      | inr d ↦ later c u x all t (ih d)
    ]
    by_test c u x all t false e ih k = later c u x all t (ih k)

-- nothing but pairs is there
pub pairs_only : (c : List ℤ) (rays all : List (List ℤ)) (t : List ℤ) → Contains (pairs c rays all) t → PairOf c rays all t
pairs_only c [] all t k = absurd (omega (arith, k.1))
pairs_only c (x ∷ rays) all t k = elim (Contains-append_cases (cond (int_lt (pos 0) (dot c (entry x))) (pairs_of c x all) []) (pairs c rays all) t k) [
  | inl i ↦ by_test c x rays all t (int_lt (pos 0) (dot c (entry x))) refl i
  | inr i ↦ let d = pairs_only c rays all t i in record {
    up = d.up;
    down = d.down;
    has_up = contains_tail x d.up rays d.has_up;
    has_down = d.has_down;
    above = d.above;
    below = d.below;
    is_pair = d.is_pair;
  }
]
  where
    said : (z : ℤ) → true ≡ int_lt (pos 0) z → pos 0 <ℤ z
    said z h = omega (arith, ints)

    by_test : (c x : List ℤ) (rays all : List (List ℤ)) (t : List ℤ) (b : Bool) → b ≡ int_lt (pos 0) (dot c (entry x)) → Contains (cond b (pairs_of c x all) []) t → PairOf c (x ∷ rays) all t
    by_test c x rays all t true e k = let d = pairs_of_only c x all t k in record {
      up = x;
      down = d.down;
      has_up = contains_head x rays;
      has_down = d.has_down;
      above = said (dot c (entry x)) e;
      below = d.below;
      is_pair = d.is_pair;
    }
    by_test c x rays all t false e k = absurd (omega (arith, k.1))

-- a pair has product 0
pair_flat : (c p n t : List ℤ) → ((j : ℕ) → entry (blend (neg_ℤ (dot c (entry n))) (dot c (entry p)) p n) j ≡ (neg_ℤ (dot c (entry n)) *ℤ entry p j) +ℤ (dot c (entry p) *ℤ entry n j)) →
    blend (neg_ℤ (dot c (entry n))) (dot c (entry p)) p n ≡ t → dot c (entry t) ≡ pos 0
pair_flat c p n t e i =
    let a = dot c (entry n) in
    let b = dot c (entry p) in
    ap (λ y. dot c (entry y)) (sym i) ∙ dot_same c (entry (blend (neg_ℤ (dot c (entry n))) (dot c (entry p)) p n)) (λ j. (neg_ℤ a *ℤ entry p j) +ℤ (b *ℤ entry n j)) e ∙
    dot_linear c (neg_ℤ a) b (entry p) (entry n) ∙ ring (⊖ (v a) ⊗ v b ⊕ v b ⊗ v a) (v (pos 0)) (omega arith)

-- and lies in the cone
pair_inside : (c : List ℤ) (rays : List (List ℤ)) (p n : List ℤ) → Contains rays p → Contains rays n → pos 0 <ℤ dot c (entry p) → dot c (entry n) <ℤ pos 0 →
    ((j : ℕ) → entry (blend (neg_ℤ (dot c (entry n))) (dot c (entry p)) p n) j ≡ (neg_ℤ (dot c (entry n)) *ℤ entry p j) +ℤ (dot c (entry p) *ℤ entry n j)) →
    Generated rays (entry (blend (neg_ℤ (dot c (entry n))) (dot c (entry p)) p n))
pair_inside c rays p n k m h l e =
    let a = neg_nat (dot c (entry n)) l in
    let b = as_nat (dot c (entry p)) (positive_is_nonnegative (dot c (entry p)) h) in
    generated_same rays (λ j. (pos a.0 *ℤ entry p j) +ℤ (pos b.0 *ℤ entry n j)) (entry (blend (neg_ℤ (dot c (entry n))) (dot c (entry p)) p n))
    (λ j. ap (λ z. (z *ℤ entry p j) +ℤ (pos b.0 *ℤ entry n j)) (sym a.1) ∙ ap (λ z. (neg_ℤ (dot c (entry n)) *ℤ entry p j) +ℤ (z *ℤ entry n j)) (sym b.1) ∙ sym (e j))
    (generated_plus rays (λ j. pos a.0 *ℤ entry p j) (λ j. pos b.0 *ℤ entry n j) (generated_times rays a.0 (entry p) (generated_row rays p k))
    (generated_times rays b.0 (entry n) (generated_row rays n m)))

-- ---- the step
-- the rows of all pairs are a step
pub step_rows_are : (c : List ℤ) (w : ℕ) (rays : List (List ℤ)) → ((r : List ℤ) → Contains rays r → length r ≡ w) → StepOf c rays (step_rows c rays)
step_rows_are c w rays widths =
    let target = step_rows c rays in
    let in_kept : (t : List ℤ) → Contains (kept c rays) t → Contains target t = λ t k. Contains-append_left (kept c rays) (pairs c rays rays) t k in
    let in_pairs : (t : List ℤ) → Contains (pairs c rays rays) t → Contains target t = λ t k. Contains-append_right (kept c rays) (pairs c rays rays) t k in
    let entry_of : (p n : List ℤ) → Contains rays p → Contains rays n → (j : ℕ) → entry (pair c p n) j ≡ (neg_ℤ (dot c (entry n)) *ℤ entry p j) +ℤ (dot c (entry p) *ℤ entry n j) =
    λ p n k m j. entry_blend (neg_ℤ (dot c (entry n))) (dot c (entry p)) p n (widths p k ∙ sym (widths n m)) j in
    record {
      keeps = λ r k h. generated_row target r (in_kept r (kept_has c rays r k h));
      pairs = λ p n k m h l.
          generated_same target (entry (pair c p n)) (λ j. (neg_ℤ (dot c (entry n)) *ℤ entry p j) +ℤ (dot c (entry p) *ℤ entry n j)) (entry_of p n k m)
          (generated_row target (pair c p n) (in_pairs (pair c p n) (pairs_has c rays rays p n k m h l)));
      from = λ t k. elim (Contains-append_cases (kept c rays) (pairs c rays rays) t k) [
        | inl i ↦ inl (kept_only c rays t i)
        | inr i ↦ let d = pairs_only c rays rays t i in inr (pair_flat c d.up d.down t (entry_of d.up d.down d.has_up d.has_down) d.is_pair)
      ];
      inside = λ t k. elim (Contains-append_cases (kept c rays) (pairs c rays rays) t k) [
        | inl i ↦ generated_row rays t (kept_only c rays t i).0
        | inr i ↦ let d = pairs_only c rays rays t i in
            subst (λ y. Generated rays (entry y)) d.is_pair (pair_inside c rays d.up d.down d.has_up d.has_down d.above d.below (entry_of d.up d.down d.has_up d.has_down))
      ];
    }
