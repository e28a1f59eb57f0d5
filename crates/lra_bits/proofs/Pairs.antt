-- Two lists of truth values, word by word.
use Rattle.std.proofs.Common.{◌≡◌, ℕ, zero, suc, ◌+◌, ◌/◌, ◌%◌, ◌^◌, ◌*◌, ◌<◌, ◌≤◌, Bool, true, false, List, [], ◌∷◌, ◌++◌, length, get_or, refl, ap, sym, ◌∙◌, arith, bit_and, inl, inr}
use Rattle.std.proofs.{lemmas.Bool.cases_lt, lemmas.Bool.eqb-true, lemmas.Bool.Decides.nat_tests, lemmas.List.ext_get_or, lemmas.List.get_or_past, lemmas.List.get_or_default, lemmas.List.append_assoc}
use Rattle.std.proofs.{lemmas.List.append-nil, lemmas.Nat.and_le_l, lemmas.Nat.Bits.bit_at-lt, lemmas.Nat.Bits.bit_at_and, lemmas.Nat.Bits.same_from_bits_below}
use Rattle.std.specs.{Int.bit_at, List.All, Prelude.◌&&◌, Prelude.◌==◌, Prelude.◌⊎◌, Prelude.min}
use Rattle.lra_bits.specs.{TruthValues.value_at, TruthValues.IsSubset, TruthValues.both, Words.bit_of, Words.unpacked, Words.words_needed, Words.common_words, Words.AreWithin, Words.AreCommonWithin}
use Rattle.lra_bits.proofs.Packing.{length_unpacked, value_unpacked, place_inside}

-- ---- where both are true
pub common_length : (xs ys : List ℕ) → length xs ≡ length ys → length (common_words xs ys) ≡ length xs
common_length [] ys e = refl
common_length (x ∷ xs) [] e = absurd (omega (arith, e))
common_length (x ∷ xs) (y ∷ ys) e = ap suc (common_length xs ys (omega (arith, e)))

pub common_word : (xs ys : List ℕ) (i : ℕ) → length xs ≡ length ys → get_or (common_words xs ys) i 0 ≡ bit_and (get_or xs i 0) (get_or ys i 0)
common_word [] ys i e = refl
common_word (x ∷ xs) [] i e = absurd (omega (arith, e))
common_word (x ∷ xs) (y ∷ ys) zero e = refl
common_word (x ∷ xs) (y ∷ ys) (suc i) e = common_word xs ys i (omega (arith, e))

both_bits : (a b : ℕ) → a < 2 → b < 2 → (min a b == 1) ≡ ((a == 1) && (b == 1))
both_bits a b h k = grind (arith, nat_tests)

common_bit : (xs ys : List ℕ) (k : ℕ) → length xs ≡ length ys → bit_of (common_words xs ys) k ≡ (bit_of xs k && bit_of ys k)
common_bit xs ys k e =
    let x = get_or xs (k / 64) 0 in
    let y = get_or ys (k / 64) 0 in
    ap (λ w. bit_at w (k % 64) == 1) (common_word xs ys (k / 64) e) ∙ ap (λ d. d == 1) (bit_at_and x y (k % 64)) ∙
    both_bits (bit_at x (k % 64)) (bit_at y (k % 64)) (bit_at-lt x (k % 64)) (bit_at-lt y (k % 64))

pub both_length : (xs ys : List Bool) → length xs ≡ length ys → length (both xs ys) ≡ length xs
both_length [] ys e = refl
both_length (x ∷ xs) [] e = absurd (omega (arith, e))
both_length (x ∷ xs) (y ∷ ys) e = ap suc (both_length xs ys (omega (arith, e)))

pub both_value : (xs ys : List Bool) (i : ℕ) → length xs ≡ length ys → value_at (both xs ys) i ≡ (value_at xs i && value_at ys i)
both_value [] ys i e = refl
both_value (x ∷ xs) [] i e = absurd (omega (arith, e))
both_value (x ∷ xs) (y ∷ ys) zero e = refl
both_value (x ∷ xs) (y ∷ ys) (suc i) e = both_value xs ys i (omega (arith, e))

module _ (width : ℕ) (us vs : List ℕ) (xs ys : List Bool) (e : unpacked width us ≡ xs) (f : unpacked width vs ≡ ys) (m : length us ≡ words_needed width) (n : length vs ≡ words_needed width) where
  same : length us ≡ length vs
  same = m ∙ sym n

  long_x : length xs ≡ width
  long_x = sym (ap length e) ∙ length_unpacked width us

  long_y : length ys ≡ width
  long_y = sym (ap length f) ∙ length_unpacked width vs

  value_x : (k : ℕ) → k < width → value_at xs k ≡ bit_of us k
  value_x k h = sym (ap (λ t. value_at t k) e) ∙ value_unpacked width us k h

  value_y : (k : ℕ) → k < width → value_at ys k ≡ bit_of vs k
  value_y k h = sym (ap (λ t. value_at t k) f) ∙ value_unpacked width vs k h

  pub common_is : (ws : List ℕ) → ws ≡ common_words us vs → unpacked width ws ≡ both xs ys
  common_is ws w = ext_get_or false (unpacked width ws) (both xs ys) (length_unpacked width ws ∙ sym (both_length xs ys (long_x ∙ sym long_y) ∙ long_x))
      (λ k h.
      let l : k < width = omega (arith, h, length_unpacked width ws) in
      value_unpacked width ws k l ∙ ap (λ (t : List ℕ). bit_of t k) w ∙ common_bit us vs k same ∙ ap (λ b. b && bit_of vs k) (sym (value_x k l)) ∙ ap (λ b. value_at xs k && b) (sym (value_y k l)) ∙
      sym (both_value xs ys k (long_x ∙ sym long_y)))

  pub common_unused : ((k : ℕ) → width ≤ k → bit_of us k ≡ false) → (ws : List ℕ) → ws ≡ common_words us vs → (length ws ≡ words_needed width) × ((k : ℕ) → width ≤ k → bit_of ws k ≡ false)
  common_unused u ws w = (
    ap length w ∙ common_length us vs same ∙ m,
    λ k h. ap (λ (t : List ℕ). bit_of t k) w ∙ common_bit us vs k same ∙ ap (λ b. b && bit_of vs k) (u k h),
  )

  -- ---- subsets
  bit_within : (a b : ℕ) → a < 2 → b < 2 → min a b ≡ a → (a == 1) ≡ true → (b == 1) ≡ true
  bit_within a b h k e t = grind (arith, nat_tests)

  pub words_subset : AreWithin us vs → IsSubset xs ys
  words_subset h k t = elim (cases_lt k width) [
    | inl l ↦
        let x = get_or us (k / 64) 0 in
        let y = get_or vs (k / 64) 0 in
        value_y k l ∙ bit_within (bit_at x (k % 64)) (bit_at y (k % 64)) (bit_at-lt x (k % 64)) (bit_at-lt y (k % 64))
        (sym (bit_at_and x y (k % 64)) ∙ ap (λ w. bit_at w (k % 64)) (h (k / 64) (place_inside width k (length us) l m))) (sym (value_x k l) ∙ t)
    | inr l ↦ absurd (never (sym (get_or_past xs k false (omega (arith, l, long_x))) ∙ t))
  ]
    where
      never : false ≡ true → ⊥
      never q = cc

  bit_kept : (a b : ℕ) → a < 2 → b < 2 → ((a == 1) ≡ true → (b == 1) ≡ true) → min a b ≡ a
  bit_kept zero b h k f = omega arith
  bit_kept (suc zero) b h k f = let e = eqb-true b 1 (f refl) in omega (arith, e)
  bit_kept (suc (suc a)) b h k f = absurd (omega (arith, h))

  -- bit j of word i is true at place 64 i + j
  at_place : (words : List ℕ) (i j : ℕ) → j < 64 → bit_of words (i * 64 + j) ≡ (bit_at (get_or words i 0) j == 1)
  at_place words i j h =
      let p : (i * 64 + j) / 64 ≡ i = omega arith in
      let q : (i * 64 + j) % 64 ≡ j = omega arith in
      ap (λ n. bit_at (get_or words n 0) ((i * 64 + j) % 64) == 1) p ∙ ap (λ n. bit_at (get_or words i 0) n == 1) q

  pub subset_words : ((k : ℕ) → width ≤ k → bit_of us k ≡ false) → All (λ x. x < 2 ^ 64) us → IsSubset xs ys → AreWithin us vs
  subset_words u r s i h =
      let x = get_or us i 0 in
      let y = get_or vs i 0 in
      let small : x < 2 ^ 64 = r i 0 h in
      same_from_bits_below 64 (bit_and x y) x (omega (arith, and_le_l x y, small)) small
      (λ j l. bit_at_and x y j ∙ bit_kept (bit_at x j) (bit_at y j) (bit_at-lt x j) (bit_at-lt y j) (λ t. sym (at_place vs i j l) ∙ in_vs (i * 64 + j) (at_place us i j l ∙ t)))
    where
      in_vs : (k : ℕ) → bit_of us k ≡ true → bit_of vs k ≡ true
      in_vs k t = elim (cases_lt k width) [
        | inl l ↦ sym (value_y k l) ∙ s k (value_x k l ∙ t)
        | inr l ↦ absurd (never (sym (u k (omega (arith, l))) ∙ t))
      ]
        where
          never : false ≡ true → ⊥
          never q = cc

-- ---- where both are true, and the third is
within_common : (us vs ts : List ℕ) → length us ≡ length vs → AreCommonWithin us vs ts → AreWithin (common_words us vs) ts
within_common us vs ts e a i h =
    let w = common_word us vs i e in
    ap (λ n. bit_and n (get_or ts i 0)) w ∙ a i (omega (arith, h, common_length us vs e)) ∙ sym w

common_within : (us vs ts : List ℕ) → length us ≡ length vs → AreWithin (common_words us vs) ts → AreCommonWithin us vs ts
common_within us vs ts e a i h =
    let w = common_word us vs i e in
    ap (λ n. bit_and n (get_or ts i 0)) (sym w) ∙ a i (omega (arith, h, common_length us vs e)) ∙ w

small_common : (us vs : List ℕ) → length us ≡ length vs → All (λ x. x < 2 ^ 64) us → All (λ x. x < 2 ^ 64) (common_words us vs)
small_common us vs e r i d h =
    let l : i < length us = omega (arith, h, common_length us vs e) in
    let x = get_or us i 0 in
    let small : x < 2 ^ 64 = r i 0 l in
    let is : get_or (common_words us vs) i d ≡ bit_and x (get_or vs i 0) = get_or_default (common_words us vs) i d 0 h ∙ common_word us vs i e in
    omega (arith, is, small, and_le_l x (get_or vs i 0))

pub common_subset : (width : ℕ) (us vs ts : List ℕ) (xs ys zs : List Bool) → unpacked width us ≡ xs → unpacked width vs ≡ ys → unpacked width ts ≡ zs → length us ≡ words_needed width →
    length vs ≡ words_needed width → length ts ≡ words_needed width → ((k : ℕ) → width ≤ k → bit_of us k ≡ false) → All (λ x. x < 2 ^ 64) us →
    (AreCommonWithin us vs ts → IsSubset (both xs ys) zs) × (IsSubset (both xs ys) zs → AreCommonWithin us vs ts)
common_subset width us vs ts xs ys zs e f g m n k u r =
    let both_words = common_words us vs in
    let same : length us ≡ length vs = m ∙ sym n in
    let c = common_is width us vs xs ys e f m n both_words refl in
    let d = common_unused width us vs xs ys e f m n u both_words refl in (
      (λ a. words_subset width both_words ts (both xs ys) zs c g d.0 k (within_common us vs ts same a)),
      (λ s. common_within us vs ts same (subset_words width both_words ts (both xs ys) zs c g d.0 k d.1 (small_common us vs same r) s)),
    )

-- ---- the loop
pub common_more : (out xs ys all next xs' ys' : List ℕ) (x y : ℕ) → xs ≡ x ∷ xs' → ys ≡ y ∷ ys' → next ≡ out ++ bit_and x y ∷ [] → out ++ common_words xs ys ≡ all → next ++ common_words xs' ys' ≡ all
common_more out xs ys all next xs' ys' x y e f n i =
    ap (λ o. o ++ common_words xs' ys') n ∙ append_assoc out (bit_and x y ∷ []) (common_words xs' ys') ∙ ap (λ t. out ++ t) (sym (ap (λ t. common_words t ys) e ∙ ap (common_words (x ∷ xs')) f)) ∙ i

pub common_end : (out xs ys all : List ℕ) → (xs ≡ []) ⊎ (ys ≡ []) → out ++ common_words xs ys ≡ all → out ≡ all
common_end out xs ys all n i = sym (append-nil out) ∙ ap (λ t. out ++ t) (sym (none xs ys n)) ∙ i
  where
    none : (xs ys : List ℕ) → (xs ≡ []) ⊎ (ys ≡ []) → common_words xs ys ≡ []
    none [] ys n = refl
    none (x ∷ xs) [] n = refl
    none (x ∷ xs) (y ∷ ys) (inl e) = absurd (omega (arith, ap length e))
    none (x ∷ xs) (y ∷ ys) (inr e) = absurd (omega (arith, ap length e))
