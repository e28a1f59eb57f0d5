-- The closure of a matrix, and what is least among the matrices that have some stores.
use Rattle.std.specs.Prelude.{ℕ, ◌*◌, ◌<◌, ℤ, Option, None, Some, List}
use Rattle.lra_dbm.specs.Tight.{Entries, IsStore, IsTight}
use Rattle.lra_dbm.specs.{Cells.Cells, Cells.entries, Cells.IsMatrix, Entry.◌⊑◌}

-- the tight matrix with the same stores, or none if there is no store
pub record IsTightWith (n : ℕ) (m : Entries) (cells : Cells) : Type 0 where
  pub is : IsMatrix n cells
  pub tight : IsTight n (entries n cells)
  pub kept : (s : List ℤ) → IsStore n m s → IsStore n (entries n cells) s
  pub same : (s : List ℤ) → IsStore n (entries n cells) s → IsStore n m s

abbrev pub IsClosure : ℕ → Entries → Option Cells → Type 0
IsClosure n m None = (s : List ℤ) → IsStore n m s → ⊥
IsClosure n m (Some cells) = IsTightWith n m cells

-- if a and b are tight, j is the least matrix that has the stores of both: each other one has entries that are at
-- least those of j
pub record LeastJoin (n : ℕ) (a b j : Entries) : Type 0 where
  pub least : IsTight n a → IsTight n b → (m : Entries)
      → ((s : List ℤ) → IsStore n a s → IsStore n m s) → ((s : List ℤ) → IsStore n b s → IsStore n m s)
      → (i k : ℕ) → i < 2 * n → k < 2 * n → j i k ⊑ m i k
