-- The numbered steps of closing (Bagnara, Hill and Zaffanella, 2008), as a fold over indices.
use Rattle.std.specs.Prelude.{ℕ, zero, suc, ◌*◌, ◌||◌, Bool, false, cond, ℤ, pos, int_lt, Option, None, Some}
use Rattle.lra_dbm.specs.Entry.{◌⊞◌, half_of, within_range, passes_range}
use Rattle.lra_dbm.specs.{Cells.Cells, Cells.cell, Cells.entered, Tight.opposite}

-- the cells so far, and whether a number passed the range
pub record Progress : Type 0 where
  pub cells : Cells
  pub flagged : Bool

abbrev pub progress : Cells → Bool → Progress
progress cells flagged = record { cells = cells; flagged = flagged }

-- the steps f 0, f 1, .., f (k - 1), one after another
abbrev pub in_turn : (ℕ → Progress → Progress) → ℕ → Progress → Progress
in_turn f zero p = p
in_turn f (suc k) p = f k (in_turn f k p)

-- whether f holds of some number below k
abbrev pub any_below : (ℕ → Bool) → ℕ → Bool
any_below f zero = false
any_below f (suc k) = any_below f k || f k

-- the entry becomes the lesser of itself and a number, unless that passes
abbrev pub lowered : ℕ → ℕ → Option ℤ → Progress → Progress
lowered i j v p = record { cells = entered i j (within_range v) p.cells; flagged = p.flagged || passes_range v }

abbrev pub is_negative : Option ℤ → Bool
is_negative None = false
is_negative (Some v) = int_lt v (pos 0)

abbrev pub negative_diagonal : Cells → ℕ → Bool
negative_diagonal cells = any_below (λ i. is_negative (cell cells i i))

-- 1. Shortest paths: for every k, then i, then j, the entry becomes the lesser of itself and of the sum by way of k.
-- Once an entry of the diagonal is below 0 there is no store, and no further k is taken.

abbrev pub relaxed : ℕ → ℕ → ℕ → Progress → Progress
relaxed k i j p = lowered i j (cell p.cells i k ⊞ cell p.cells k j) p

abbrev pub row_relaxed : ℕ → ℕ → ℕ → Progress → Progress
row_relaxed n k i = in_turn (relaxed k i) (2 * n)

abbrev pub pivot_relaxed : ℕ → ℕ → Progress → Progress
pivot_relaxed n k = in_turn (row_relaxed n k) (2 * n)

abbrev pub relaxed_unless_negative : ℕ → ℕ → Progress → Progress
relaxed_unless_negative n k p = cond (negative_diagonal p.cells (2 * n)) p (pivot_relaxed n k p)

unfoldable pub shortest : ℕ → ℕ → Progress → Progress
shortest n k = in_turn (relaxed_unless_negative n) k

-- 2. Empty if an entry of the diagonal is below 0.

-- 3. Each unary entry, a bound of twice a variable, is rounded down to even.

abbrev pub rounded : ℕ → Progress → Progress
rounded i p = lowered i (opposite i) (half_of (cell p.cells i (opposite i)) ⊞ half_of (cell p.cells i (opposite i))) p

unfoldable pub all_rounded : ℕ → Progress → Progress
all_rounded k = in_turn rounded k

-- 4. Empty if the two bounds of a variable cross: their sum is below 0.

abbrev pub bounds_sum : Cells → ℕ → Option ℤ
bounds_sum cells i = cell cells i (opposite i) ⊞ cell cells (opposite i) i

abbrev pub crossed : Cells → ℕ → Bool
crossed cells = any_below (λ i. is_negative (within_range (bounds_sum cells i)))

abbrev pub crossing_passes : Cells → ℕ → Bool
crossing_passes cells = any_below (λ i. passes_range (bounds_sum cells i))

-- 5. Strengthening: each entry becomes the lesser of itself and of half the sum of the two unary entries.

abbrev pub strengthened_at : ℕ → ℕ → Progress → Progress
strengthened_at i j p =
    let sum = cell p.cells i (opposite i) ⊞ cell p.cells (opposite j) j in
    record { cells = entered i j (half_of (within_range sum)) p.cells; flagged = p.flagged || passes_range sum }

abbrev pub row_strengthened : ℕ → ℕ → Progress → Progress
row_strengthened i k = in_turn (strengthened_at i) k

unfoldable pub all_strengthened : ℕ → ℕ → Progress → Progress
all_strengthened n k = in_turn (λ i. row_strengthened i (2 * n)) k
