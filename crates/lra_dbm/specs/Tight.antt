-- Matrices over signed variables, their stores, and when a matrix is tight (Miné, 2006).
-- A variable x_k stands twice: signed variable 2k is +x_k, and 2k + 1 is -x_k.
use Rattle.std.specs.Prelude.{◌≡◌, ℕ, zero, suc, ◌+◌, ◌*◌, ◌-◌, ◌<◌, ◌%◌, ◌/◌, ℤ, neg_ℤ, ◌-ℤ◌, ◌≤ℤ◌, Option, Some, List}
use Rattle.std.specs.Prelude.{length}
use Rattle.lra_dbm.specs.Crates.lra_linear_spec.Vectors.{entry}
use Rattle.lra_dbm.specs.Entry.{◌⊑◌}

-- the entry at i and j bounds v_j - v_i from above, for the signed variables v
abbrev pub Entries : Type 0
Entries = ℕ → ℕ → Option ℤ

-- the signed variable of the other sign
unfoldable pub opposite : ℕ → ℕ
opposite i = (i + 1) - 2 * (i % 2)

abbrev pub with_sign : ℕ → ℤ → ℤ
with_sign zero x = x
with_sign (suc k) x = neg_ℤ x

-- the value of a signed variable
unfoldable pub signed_value : List ℤ → ℕ → ℤ
signed_value s i = with_sign (i % 2) (entry s (i / 2))

-- the list is a store of the matrix: it has n numbers, and meets every entry
pub record IsStore (n : ℕ) (m : Entries) (s : List ℤ) : Type 0 where
  pub width : length s ≡ n
  pub below : (i j : ℕ) → i < 2 * n → j < 2 * n → Some (signed_value s j -ℤ signed_value s i) ⊑ m i j

-- each finite entry is the greatest value of its difference over the stores, and each infinite one has none: for each c
-- that the entry allows, some store's difference is at least c
pub record IsTight (n : ℕ) (m : Entries) : Type 0 where
  pub attained : (i j : ℕ) → i < 2 * n → j < 2 * n → (c : ℤ) → Some c ⊑ m i j →
      (s : List ℤ) × IsStore n m s × (c ≤ℤ (signed_value s j -ℤ signed_value s i))
