-- Division of whole numbers by a modulus above 0.
use Rattle.std.specs.Prelude.{◌≡◌, ℤ, pos, ◌+ℤ◌, ◌*ℤ◌, ◌≤ℤ◌, ◌<ℤ◌}

abbrev pub IsMultiple : ℤ → ℤ → Type 0
IsMultiple modulus z = (times : ℤ) × (z ≡ modulus *ℤ times)

-- what is left of z, at least 0 and below the modulus
pub record IsResidue (modulus z rest : ℤ) : Type 0 where
  pub low : pos 0 ≤ℤ rest
  pub below : rest <ℤ modulus
  pub times : ℤ
  pub is : z ≡ rest +ℤ (modulus *ℤ times)
