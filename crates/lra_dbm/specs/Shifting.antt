-- What becomes of the entries when a number is added to a variable or to its opposite.
use Rattle.std.specs.Prelude.{◌≡◌, ℕ, ◌+◌, ◌*◌, ◌/◌, ◌<◌, ◌==◌, ◌&&◌, Bool, true, false, cond, ℤ, pos, neg_ℤ, ◌-ℤ◌}
use Rattle.std.specs.Prelude.{Some, length, ◌⊎◌}
use Rattle.lra_dbm.specs.Entry.{◌⊞◌, within_range, passes_range}
use Rattle.lra_dbm.specs.{Cells.Cells, Cells.size, Cells.entries, Cells.IsMatrix, Tight.Entries, Tight.opposite}

-- what is added to a signed variable when c is added to x
abbrev pub added_to : ℕ → ℤ → ℕ → ℤ
added_to x c i = cond (i == 2 * x) c (cond (i == 2 * x + 1) (neg_ℤ c) (pos 0))

-- the signed variable whose place i takes; if x flips, its two change places
abbrev pub origin : Bool → ℕ → ℕ → ℕ
origin flips x i = cond (flips && i / 2 == x) (opposite i) i

-- the entries when x becomes x + c, or if it flips -x + c
abbrev pub shifted : Bool → ℕ → ℤ → Entries → Entries
shifted flips x c m i j = m (origin flips x i) (origin flips x j) ⊞ Some (added_to x c j -ℤ added_to x c i)

-- the shifted entries, if a number that passes the range counts as infinite
abbrev pub shifted_within : Bool → ℕ → ℤ → Entries → Entries
shifted_within flips x c m i j = within_range (shifted flips x c m i j)

abbrev pub passes_at : Bool → ℕ → ℤ → Entries → ℕ → ℕ → Bool
passes_at flips x c m i j = passes_range (shifted flips x c m i j)

-- one of these numbers passes the range
abbrev pub ShiftPasses : ℕ → Bool → ℕ → ℤ → Entries → Type 0
ShiftPasses n flips x c m =
    (i : ℕ) × (j : ℕ) × (i < 2 * n) × (j < 2 * n) × (passes_at flips x c m i j ≡ true)

-- the entries are those of the shift; a number passed the range or none did
pub record ShiftedTo (n : ℕ) (flips : Bool) (x : ℕ) (c : ℤ) (old new : Cells) (passes : Bool) : Type 0 where
  pub is : IsMatrix n new
  pub exact : passes ≡ false
      → (i j : ℕ) → i < 2 * n → j < 2 * n → entries n new i j ≡ shifted flips x c (entries n old) i j
  pub flagged : passes ≡ true → ShiftPasses n flips x c (entries n old)
  pub entries : (i j : ℕ) → i < 2 * n → j < 2 * n → entries n new i j ≡ shifted_within flips x c (entries n old) i j

-- the columns below j of row i and their twins are as given; each other entry is as given or as before
pub record RowGiven (n : ℕ) (given : Entries) (i j : ℕ) (old cells : Cells) : Type 0 where
  pub full : length cells ≡ size n
  pub here : (a b : ℕ) → a < 2 * n → b < 2 * n
      → ((a ≡ i) × (b < j)) ⊎ ((b ≡ opposite i) × (opposite a < j)) → entries n cells a b ≡ given a b
  pub either : (a b : ℕ) → a < 2 * n → b < 2 * n
      → (entries n cells a b ≡ given a b) ⊎ (entries n cells a b ≡ entries n old a b)
