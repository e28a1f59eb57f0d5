-- The products below 0, by their places.
use Rattle.std.specs.Prelude.{ℕ, ◌+◌, ◌<◌, ◌≤◌, ℤ, pos, ◌<ℤ◌, ◌≤ℤ◌, List, [], ◌∷◌, slice_index_or}

-- from this place on, before place n, no product is below 0
abbrev pub NoneBelow : List ℤ → ℕ → ℕ → Type 0
NoneBelow products from n = (k : ℕ) → from ≤ k → k < n → pos 0 ≤ℤ slice_index_or products k (pos 0)

-- the places from this one on, before place n, with a product below 0, in their order
abbrev pub AreBelow : List ℤ → ℕ → ℕ → List ℕ → Type 0
AreBelow products from n [] = (from ≤ n) × NoneBelow products from n
AreBelow products from n (c ∷ places) =
    (from ≤ c) × NoneBelow products from c × (slice_index_or products c (pos 0) <ℤ pos 0)
    × AreBelow products (c + 1) n places
