-- Losses of rows that are tried after others.
use Rattle.std.specs.List.{Contains}
use Rattle.std.specs.Prelude.{◌≡◌, ◌⊎◌, ℕ, suc, List, [], ◌∷◌, ◌++◌}
use Rattle.lra_poly.specs.Crates.lra_linear_spec.Descriptions.{LinearRow}
use Rattle.lra_poly.specs.Crates.lra_linear_spec.Strain.{Loss, Strains}

-- after the first rows, and some of the others, the next one exceeds a limit, or all of these themselves
pub record StrainsAfter (n : ℕ) (first all : List LinearRow) (loss : Loss) : Type 0 where
  pub before : List LinearRow
  pub chosen : loss.chosen ≡ first ++ before
  pub among : (g : LinearRow) → Contains before g → Contains all g
  pub strains : Strains (suc n) (loss.chosen ++ loss.further ∷ []) loss ⊎ Strains (suc n) loss.chosen loss
