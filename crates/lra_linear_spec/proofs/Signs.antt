-- Signs of whole numbers, their sums and products; a whole number of known sign as a natural one.
use Rattle.std.specs.Prelude.{true, int_le}
use Rattle.std.proofs.Common.{ap, arith, inl, inr, neg_ℤ, negsuc, pos, refl, suc, sym, zero, ℕ, ℤ, ◌*ℤ◌, ◌+ℤ◌, ◌+◌, ◌-◌, ◌<ℤ◌, ◌<◌, ◌∙◌, ◌≡◌, ◌≤ℤ◌, ◌⊎◌}
use Rattle.std.proofs.{lemmas.Bool.cases_lt, lemmas.Int.ints}
use Rattle.lra_linear_spec.proofs.Ring.{ring, v, ⊖, ◌⊕◌, ◌⊗◌}

-- ---- cases
pub cases_sign : (z : ℤ) → (pos 0 ≤ℤ z) ⊎ (z <ℤ pos 0)
cases_sign (pos n) = inl (omega (arith, ints))
cases_sign (negsuc n) = inr (omega (arith, ints))

-- a number that is not negative is 0 or positive
pub above_zero : (z : ℤ) → pos 0 ≤ℤ z → (z ≡ pos 0) ⊎ (pos 0 <ℤ z)
above_zero (pos zero) h = inl refl
above_zero (pos (suc n)) h = inr (omega (arith, ints))
above_zero (negsuc n) h = absurd (omega (arith, ints, h))

-- no number is positive and 0
pub not_both : (z : ℤ) → pos 0 <ℤ z → z ≡ pos 0 → ⊥
not_both z h e = omega (arith, ints, h, e)

pub positive_is_nonnegative : (z : ℤ) → pos 0 <ℤ z → pos 0 ≤ℤ z
positive_is_nonnegative z h = omega (arith, ints)

-- a number and its opposite that are both not negative; a number that is 0, and its opposite
pub between_opposites : (z y : ℤ) → y ≡ neg_ℤ z → pos 0 ≤ℤ z → pos 0 ≤ℤ y → z ≡ pos 0
between_opposites z y e f k = omega (arith, ints, e, f, k)

pub zero_at_least : (z : ℤ) → z ≡ pos 0 → pos 0 ≤ℤ z
zero_at_least z e = omega (arith, ints, e)

pub opposite_of_zero : (z y : ℤ) → y ≡ neg_ℤ z → z ≡ pos 0 → pos 0 ≤ℤ y
opposite_of_zero z y e f = omega (arith, ints, e, f)

-- ---- a test of a sign
pub le_yes : (z : ℤ) → pos 0 ≤ℤ z → true ≡ int_le (pos 0) z
le_yes z h = omega (arith, ints)

pub le_said : (z : ℤ) → true ≡ int_le (pos 0) z → pos 0 ≤ℤ z
le_said z h = omega (arith, ints)

-- ---- as natural numbers
pub as_nat : (z : ℤ) → pos 0 ≤ℤ z → (n : ℕ) × (z ≡ pos n)
as_nat (pos n) h = (n, refl)
as_nat (negsuc n) h = absurd (omega (arith, ints, h))

-- the natural number of a positive one is positive
pub positive_nat : (z : ℤ) (n : ℕ) → pos 0 <ℤ z → z ≡ pos n → 0 < n
positive_nat z n h e = omega (arith, ints, h, e)

-- the opposite of a negative number as a natural one
pub neg_nat : (z : ℤ) → z <ℤ pos 0 → (n : ℕ) × (neg_ℤ z ≡ pos n)
neg_nat (pos n) h = absurd (omega (arith, ints, h))
neg_nat (negsuc n) h = (suc n, refl)

pub neg_positive : (z : ℤ) (n : ℕ) → z <ℤ pos 0 → neg_ℤ z ≡ pos n → 0 < n
neg_positive z n h e = omega (arith, ints, h, e)

-- the one of two natural numbers is the other and a rest
pub compare_two : (a b : ℕ) → ((d : ℕ) × (a ≡ b + d) × (0 < d)) ⊎ ((d : ℕ) × (b ≡ a + d))
compare_two a b = elim (cases_lt b a) [ inl h ↦ inl (a - b, omega arith, omega arith) | inr h ↦ inr (b - a, omega arith) ]

-- ---- sums
pub add_nonnegative : (a b : ℤ) → pos 0 ≤ℤ a → pos 0 ≤ℤ b → pos 0 ≤ℤ (a +ℤ b)
add_nonnegative a b h k = omega (arith, ints)

pub add_nonpositive : (a b : ℤ) → a ≤ℤ pos 0 → b ≤ℤ pos 0 → (a +ℤ b) ≤ℤ pos 0
add_nonpositive a b h k = omega (arith, ints)

-- ---- differences
pub difference : (a b : ℤ) → a ≤ℤ b → pos 0 ≤ℤ (b +ℤ neg_ℤ a)
difference a b h = omega (arith, ints, h)

pub in_order : (a b : ℤ) → pos 0 ≤ℤ (b +ℤ neg_ℤ a) → a ≤ℤ b
in_order a b h = omega (arith, ints, h)

-- ---- products
pub divide_nonnegative : (k : ℕ) (z : ℤ) → 0 < k → pos 0 ≤ℤ (pos k *ℤ z) → pos 0 ≤ℤ z
divide_nonnegative k (pos n) p h = omega (arith, ints)
divide_nonnegative (suc k) (negsuc n) p h = absurd (omega (arith, ints, h))
divide_nonnegative zero (negsuc n) p h = absurd (omega arith)

pub times_nonpositive : (f : ℕ) (a : ℤ) → a <ℤ pos 0 → (pos f *ℤ a) ≤ℤ pos 0
times_nonpositive f a h = grind (arith, ints)

-- the product of positive numbers is positive
pub times_positive : (a b : ℤ) → pos 0 <ℤ a → pos 0 <ℤ b → pos 0 <ℤ (a *ℤ b)
times_positive (pos zero) b h k = absurd (omega (arith, ints, h))
times_positive (pos (suc a)) (pos zero) h k = absurd (omega (arith, ints, k))
times_positive (pos (suc a)) (pos (suc b)) h k = omega (arith, ints)
times_positive (pos (suc a)) (negsuc b) h k = absurd (omega (arith, ints, k))
times_positive (negsuc a) b h k = absurd (omega (arith, ints, h))

-- a number with a positive multiple is positive
pub positive_part : (n : ℕ) (z y : ℤ) → 0 < n → pos n *ℤ z ≡ y → pos 0 <ℤ y → pos 0 <ℤ z
positive_part zero z y p e h = absurd (omega arith)
positive_part (suc n) (pos zero) y p e h = absurd (omega (arith, ints, e, h))
positive_part (suc n) (pos (suc z)) y p e h = omega (arith, ints)
positive_part (suc n) (negsuc z) y p e h = absurd (let k : y ≡ negsuc n *ℤ pos (suc z) = sym e ∙ ring (v (pos (suc n)) ⊗ v (negsuc z)) (v (negsuc n) ⊗ v (pos (suc z))) (omega arith) in below n z y k
    h)
  where
    below : (n z : ℕ) (y : ℤ) → y ≡ negsuc n *ℤ pos (suc z) → pos 0 <ℤ y → ⊥
    below n z y k h = omega (arith, ints, k, h)

-- a product that is 0 has a factor that is 0
pub no_product : (k : ℕ) (z : ℤ) → 0 < k → pos k *ℤ z ≡ pos 0 → z ≡ pos 0
no_product k (pos zero) p e = refl
no_product zero (pos (suc n)) p e = absurd (omega arith)
no_product (suc k) (pos (suc n)) p e = absurd (omega (arith, ints, e))
no_product zero (negsuc n) p e = absurd (omega arith)
no_product (suc k) (negsuc n) p e = absurd (omega (arith, ints, e))

-- the same, with the positive factor on the right
pub no_factor : (z a : ℤ) → pos 0 <ℤ a → z *ℤ a ≡ pos 0 → z ≡ pos 0
no_factor z a h e =
    let n = as_nat a (omega (arith, ints, h)) in
    no_product n.0 z (positive_nat a n.0 h n.1) (ap (λ y. y *ℤ z) (sym n.1) ∙ ring (v a ⊗ v z) (v z ⊗ v a) (omega arith) ∙ e)

-- a positive factor on both sides goes
pub cancel_same : (n : ℕ) (a b : ℤ) → 0 < n → pos n *ℤ a ≡ pos n *ℤ b → a ≡ b
cancel_same n a b h e =
    apart a b (no_product n (a +ℤ neg_ℤ b) h (ring (v (pos n) ⊗ (v a ⊕ ⊖ (v b))) (v (pos n) ⊗ v a ⊕ ⊖ (v (pos n) ⊗ v b)) (omega arith) ∙ ap (λ y. y +ℤ neg_ℤ (pos n *ℤ b)) e ∙
    ring (v (pos n) ⊗ v b ⊕ ⊖ (v (pos n) ⊗ v b)) (v (pos 0)) (omega arith)))
  where
    apart : (a b : ℤ) → a +ℤ neg_ℤ b ≡ pos 0 → a ≡ b
    apart a b e = omega (arith, ints, e)
