-- The columns of a matrix, and the places that are set in them.
use Rattle.std.specs.Int.{bit_at}
use Rattle.std.specs.Prelude.{◌≡◌, ◌≢◌, ℕ, ◌<◌, ◌/◌, ◌%◌, ◌==◌, ◌&&◌, ◌||◌, Bool, List, [], length, slice_index_or}
use Rattle.lra_bits.specs.{Matrix.Matrix, TruthValues.value_at}

-- the first n columns of a matrix are the rows of another
pub record AreColumns (m : Matrix) (n : ℕ) (columns : Matrix) : Type 0 where
  pub width : columns.width ≡ length m.rows
  pub height : length columns.rows ≡ n
  pub each : (c k : ℕ) → c < n →
      value_at (slice_index_or columns.rows c []) k ≡ value_at (slice_index_or m.rows k []) c

-- the place stands in the word at `at`, whose bit for it is set
abbrev pub is_in_word : ℕ → ℕ → ℕ → Bool
is_in_word word at c = (c / 64 == at) && (bit_at word (c % 64) == 1)

-- in the rows that are marked place k has become true, and nothing else has changed
pub record IsMarked (old new : List (List Bool)) (k : ℕ) (marks : ℕ → Bool) : Type 0 where
  pub height : length new ≡ length old
  pub widths : (c : ℕ) → length (slice_index_or new c []) ≡ length (slice_index_or old c [])
  pub here : (c : ℕ) → c < length old →
      value_at (slice_index_or new c []) k ≡ (marks c || value_at (slice_index_or old c []) k)
  pub others : (c i : ℕ) → i ≢ k →
      value_at (slice_index_or new c []) i ≡ value_at (slice_index_or old c []) i

-- each of the rows is wider than k
abbrev pub AreWider : ℕ → List (List Bool) → Type 0
AreWider k rows = (c : ℕ) → c < length rows → k < length (slice_index_or rows c [])
