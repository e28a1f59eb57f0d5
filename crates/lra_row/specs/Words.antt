-- Numbers of 64 bits, whose products need no test of the range.
use Rattle.std.specs.Prelude.{ℕ, ℤ, pos, neg_ℤ, ◌*◌, ◌^◌, ◌≤ℤ◌, ◌<ℤ◌}

-- from -2^63 to 2^63 - 1
abbrev pub IsWord : ℤ → Type 0
IsWord x = (neg_ℤ (pos (2 ^ 63)) ≤ℤ x) × (x <ℤ pos (2 ^ 63))

-- a sum that stays in the range with the product of two words
abbrev pub HasRoom : ℤ → Type 0
HasRoom s = (neg_ℤ (pos (2 ^ 126)) ≤ℤ s) × (s <ℤ pos (2 ^ 126))

-- what the product of two words stays between
abbrev pub IsWordProduct : ℤ → Type 0
IsWordProduct p = (neg_ℤ (pos (2 ^ 126)) <ℤ p) × (p ≤ℤ pos (2 ^ 126))

-- below 2^31 in size
abbrev pub IsNarrow : ℤ → Type 0
IsNarrow x = (neg_ℤ (pos (2 ^ 31)) <ℤ x) × (x <ℤ pos (2 ^ 31))

-- what the sum of n products of narrow numbers stays between
abbrev pub IsNarrowSum : ℕ → ℤ → Type 0
IsNarrowSum n s = (neg_ℤ (pos (n * 2 ^ 62)) ≤ℤ s) × (s ≤ℤ pos (n * 2 ^ 62))
