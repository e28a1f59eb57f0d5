-- Constraints rounded to whole points. A store of whole numbers s is the point with the divisor 1.
use Rattle.std.specs.Prelude.{◌≡◌, ◌↔◌, ◌⊎◌, ℕ, ℤ, pos, List, ◌∷◌, [], length, drop}
use Rattle.lra_poly_queries.specs.Crates.lra_linear_spec.Descriptions.{LinearRow, Holds}
use Rattle.lra_poly_queries.specs.Crates.lra_linear_spec.LowestTerms.{IsPrimitive}
use Rattle.lra_poly_queries.specs.Crates.{lra_linear_spec.Points.IsWithin, lra_linear_spec.Vectors.entry}

-- the second row has the stores of the first, and no further points; only 1 divides each of its coefficients, or all
-- are 0
pub record IsTightened (n : ℕ) (g t : LinearRow) : Type 0 where
  pub stores : (s : List ℤ) → length s ≡ n → (Holds g (pos 1 ∷ s) ↔ Holds t (pos 1 ∷ s))
  pub within : IsWithin n (Holds t) (Holds g)
  pub tight : IsPrimitive (drop 1 t.row) ⊎ ((j : ℕ) → entry (drop 1 t.row) j ≡ pos 0)

-- each in its turn
abbrev pub AreTightened : ℕ → List LinearRow → List LinearRow → Type 0
AreTightened n [] [] = Unit {0}
AreTightened n [] (t ∷ ts) = ⊥
AreTightened n (g ∷ gs) [] = ⊥
AreTightened n (g ∷ gs) (t ∷ ts) = IsTightened n g t × AreTightened n gs ts
