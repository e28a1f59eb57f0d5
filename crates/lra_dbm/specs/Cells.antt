-- Half of a matrix as a list of cells. The entry at i and j equals its coherent twin, the one at the opposites of j and
-- i; so row i holds only the columns up to those of its own variable. Row by row: 2, 2, 4, 4, 6, 6, .. cells.
use Rattle.std.specs.Prelude.{◌≡◌, ℕ, ◌+◌, ◌*◌, ◌/◌, ◌==◌, ◌||◌, cond, nat_lt, ℤ, pos, Option, None, Some, List, length}
use Rattle.std.specs.Prelude.{slice_index_or, slice_set}
use Rattle.lra_dbm.specs.{Entry.◌⊑◌, Entry.lesser, Entry.EntryInRange, Tight.Entries, Tight.opposite}

abbrev pub Cells : Type 0
Cells = List (Option ℤ)

-- how many cells there are
abbrev pub size : ℕ → ℕ
size n = 2 * n * (n + 1)

-- the place of row i and column j in the list, if the row holds it
abbrev pub row_place : ℕ → ℕ → ℕ
row_place i j = (i + 1) * (i + 1) / 2 + j

-- the place of an entry, or of its twin if the row doesn't hold it
unfoldable pub place : ℕ → ℕ → ℕ
place i j = cond (nat_lt j (2 * (i / 2) + 2)) (row_place i j) (row_place (opposite j) (opposite i))

abbrev pub cell : Cells → ℕ → ℕ → Option ℤ
cell cells i j = slice_index_or cells (place i j) None

-- the entries beyond the matrix
abbrev pub outside : ℕ → ℕ → Option ℤ
outside i j = cond (i == j) (Some (pos 0)) None

-- the entries of n variables
unfoldable pub entries : ℕ → Cells → Entries
entries n cells i j = cond (nat_lt i (2 * n)) (cond (nat_lt j (2 * n)) (cell cells i j) (outside i j)) (outside i j)

-- the entry and its twin are v
abbrev pub written : ℕ → ℕ → Option ℤ → Cells → Cells
written i j v cells = slice_set (slice_set cells (place i j) v) (place (opposite j) (opposite i)) v

-- the entry and its twin become the lesser of themselves and v
abbrev pub entered : ℕ → ℕ → Option ℤ → Cells → Cells
entered i j v cells = written i j (lesser (cell cells i j) v) cells

-- the list has all cells, twins are equal, no entry of the diagonal is above 0, and finite entries lie in the range
pub record IsMatrix (n : ℕ) (cells : Cells) : Type 0 where
  pub full : length cells ≡ size n
  pub coherent : (i j : ℕ) → entries n cells i j ≡ entries n cells (opposite j) (opposite i)
  pub diagonal : (i : ℕ) → entries n cells i i ⊑ Some (pos 0)
  pub range : (i j : ℕ) → EntryInRange (entries n cells i j)

-- the entries of all x are infinite, those of the diagonal apart
abbrev pub forgotten : ℕ → Entries → Entries
forgotten x m i j = cond (i == j) (m i j) (cond (i / 2 == x || j / 2 == x) None (m i j))

-- the entries of the first n variables
abbrev pub first_entries : ℕ → Entries → Entries
first_entries n m i j = cond (nat_lt i (2 * n)) (cond (nat_lt j (2 * n)) (m i j) (outside i j)) (outside i j)

-- what a matrix holds
pub record DbmContent : Type 0 where
  pub dims : ℕ
  pub cells : Cells

-- the entry at i and j
abbrev pub entry_at : DbmContent → ℕ → ℕ → Option ℤ
entry_at m i j = entries m.dims m.cells i j
