-- Polyhedra whose two lists at hand make a cone, which further rows are added to.
use Rattle.std.specs.Prelude.{◌<◌, ◌≤◌, ◌+◌, ℕ, List, length}
use Rattle.lra_duality.specs.Crates.lra_systems.Dimensions.{too_many_dimensions}
use Rattle.lra_duality.specs.Crates.{lra_linear_spec.ConeStrain.row_limit, lra_linear_spec.Descriptions.LinearRow}

-- these generators make the cone of the constraints: there is one, and they are no more than a cone may have rays,
-- though lines are counted with them
pub record MayGoOn (n : ℕ) (generators : List LinearRow) : Type 0 where
  pub small : n < too_many_dimensions
  pub some : 0 < length generators
  pub few : length generators ≤ row_limit

-- these constraints make the cone of the generators: with a further one, which may be the positivity row, they are no
-- more than a cone may have rays, though equalities are counted with them
pub record MayTurn (n : ℕ) (rows generators : List LinearRow) : Type 0 where
  pub on : MayGoOn n generators
  pub room : length rows + 1 ≤ row_limit
