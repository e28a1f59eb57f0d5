-- Lists of truth values.
use Rattle.std.specs.List.{All}
use Rattle.std.specs.Prelude.{◌≡◌, ℕ, suc, ◌<◌, Bool, true, false, cond, ◌&&◌, List, [], ◌∷◌, length, slice_index_or}

-- the truth value at a place, false past the end
abbrev pub value_at : List Bool → ℕ → Bool
value_at values k = slice_index_or values k false

abbrev pub are_true : List Bool → Bool
are_true [] = true
are_true (x ∷ xs) = x && are_true xs

-- how many are true
abbrev pub true_count : List Bool → ℕ
true_count [] = 0
true_count (x ∷ xs) = cond x (suc (true_count xs)) (true_count xs)

-- if a value of the first list is true, that of the second is
abbrev pub IsSubset : List Bool → List Bool → Type 0
IsSubset xs ys = (k : ℕ) → value_at xs k ≡ true → value_at ys k ≡ true

-- true where both are
abbrev pub both : List Bool → List Bool → List Bool
both [] ys = []
both (x ∷ xs) [] = []
both (x ∷ xs) (y ∷ ys) = (x && y) ∷ both xs ys

-- of the first n places those with a value that is true
pub record ArePlaces (values : List Bool) (n : ℕ) (places : List ℕ) : Type 0 where
  pub inside : All (λ c. c < n) places
  pub each : (i : ℕ) → i < length places → value_at values (slice_index_or places i 0) ≡ true
  pub whole : (c : ℕ) → c < n → value_at values c ≡ true →
      (i : ℕ) × (i < length places) × (slice_index_or places i 0 ≡ c)
