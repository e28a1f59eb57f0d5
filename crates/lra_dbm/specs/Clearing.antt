-- What forgetting, embedding and removal keep of the entries, on the way and at the end.
use Rattle.std.specs.Prelude.{◌≡◌, ◌≢◌, ℕ, ◌*◌, ◌/◌, ◌<◌, ◌≤◌, None, Some, pos, length, ◌⊎◌}
use Rattle.lra_dbm.specs.{Cells.Cells, Cells.size, Cells.entries, Tight.Entries, Tight.opposite}

-- the columns below j of row i are infinite, and their twins; the diagonal and all other entries are as before
pub record RowCleared (n i j : ℕ) (old : Entries) (cells : Cells) : Type 0 where
  pub full : length cells ≡ size n
  pub gone : (a b : ℕ) → a < 2 * n → b < 2 * n → a ≢ b
      → ((a ≡ i) × (b < j)) ⊎ ((b ≡ opposite i) × (opposite a < j)) → entries n cells a b ≡ None
  pub apart : (a b : ℕ) → (a ≡ b) ⊎ ((a ≢ i) × (b ≢ opposite i)) → entries n cells a b ≡ old a b
  pub either : (a b : ℕ) → (entries n cells a b ≡ None) ⊎ (entries n cells a b ≡ old a b)

-- the diagonal of the variables from `from` on, up to t, is 0; all other entries are as before
pub record Settled (n from t : ℕ) (old cells : Cells) : Type 0 where
  pub full : length cells ≡ size n
  pub apart : (a b : ℕ) → a ≢ b → entries n cells a b ≡ entries n old a b
  pub before : (a : ℕ) → a / 2 < from → entries n cells a a ≡ entries n old a a
  pub zero : (a : ℕ) → from ≤ a / 2 → a / 2 < t → entries n cells a a ≡ Some (pos 0)
