-- Rows in lowest terms.
use Rattle.std.specs.Int.{◌∣◌}
use Rattle.std.specs.Prelude.{◌≡◌, ℕ, ◌<◌, ◌⊎◌, ℤ, pos, ◌*ℤ◌, List, length, unsigned_abs}
use Rattle.lra_linear_spec.specs.Vectors.{entry}

-- only 1 divides each entry
abbrev pub IsPrimitive : List ℤ → Type 0
IsPrimitive r = (d : ℕ) → ((j : ℕ) → d ∣ unsigned_abs (entry r j)) → d ≡ 1

-- t is r divided by the greatest number that divides each entry; a row of zeros stays as it is
pub record IsLowest (r t : List ℤ) : Type 0 where
  pub same_length : length t ≡ length r
  pub times : ℕ
  pub positive : 0 < times
  pub is_multiple : (j : ℕ) → pos times *ℤ entry t j ≡ entry r j
  pub lowest : IsPrimitive t ⊎ ((j : ℕ) → entry t j ≡ pos 0)
