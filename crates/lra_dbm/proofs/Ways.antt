-- Matrices that are closed, in the words of the proof: paths by way of a signed variable, triangles, strengthening.
use Rattle.std.specs.Prelude.{◌≡◌, ℕ, ℤ, pos, Option, Some}
use Rattle.lra_dbm.specs.{Entry.◌⊑◌, Entry.◌⊞◌, Entry.lesser, Entry.half_of, Tight.Entries, Tight.opposite}

-- each entry as the lesser of itself and of the sum by way of p
abbrev pub by_way_of : ℕ → Entries → Entries
by_way_of p m i j = lesser (m i j) (m i p ⊞ m p j)

-- no entry is above the sum of two that meet at p
pub record HasTriangles (p : ℕ) (m : Entries) : Type 0 where
  pub triangle : (i j : ℕ) → m i j ⊑ m i p ⊞ m p j

-- entry by entry at most
pub record Below (a b : Entries) : Type 0 where
  pub at : (i j : ℕ) → a i j ⊑ b i j

-- closed by shortest paths
pub record IsClosed (m : Entries) : Type 0 where
  pub diagonal : (i : ℕ) → m i i ≡ Some (pos 0)
  pub coherent : (i j : ℕ) → m i j ≡ m (opposite j) (opposite i)
  pub triangle : (i p j : ℕ) → m i j ⊑ m i p ⊞ m p j

-- each entry as the lesser of itself and of the sum of its two bounds
abbrev pub strengthened : Entries → Entries
strengthened m i j = lesser (m i j) (half_of (m i (opposite i)) ⊞ half_of (m (opposite j) j))

-- each entry is at most the sum of two that meet and at most the sum of the two bounds; the entry of a variable and its
-- opposite is twice a bound
pub record IsTightlyClosed (m : Entries) (half : ℕ → Option ℤ) : Type 0 where
  pub diagonal : (i : ℕ) → m i i ≡ Some (pos 0)
  pub coherent : (i j : ℕ) → m i j ≡ m (opposite j) (opposite i)
  pub triangle : (i p j : ℕ) → m i j ⊑ m i p ⊞ m p j
  pub twice : (i : ℕ) → m i (opposite i) ≡ half i ⊞ half i
  pub strong : (i j : ℕ) → m i j ⊑ half i ⊞ half (opposite j)
