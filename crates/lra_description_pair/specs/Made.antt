-- What is made of lists, and what was lost.
use Rattle.std.specs.Prelude.{◌≡◌, ℕ, List, []}
use Rattle.lra_description_pair.specs.Crates.lra_linear_spec.Descriptions.{Con, Gen, LinearRow}
use Rattle.lra_description_pair.specs.Crates.lra_linear_spec.OperationStrain.{FromGeneratorsStrains, FromRowsStrains}
use Rattle.lra_description_pair.specs.Crates.lra_linear_spec.Points.{IsWithin, PointSet}
use Rattle.lra_description_pair.specs.Crates.lra_linear_spec.Polyhedra.{IsPolyhedron, IsPolyhedronOf, Polyhedron}
use Rattle.lra_description_pair.specs.Crates.lra_linear_spec.Strain.{Loss}
use Rattle.lra_cone.specs.Losses.{IfLost}

-- P is made for the set of n dimensions. Whatever was lost, it has all points of the set; without a loss it has no
-- other. The first loss is a strain.
pub record IsMadeFor (n : ℕ) (S : PointSet) (strains : Loss → Type 0) (p : Polyhedron) (losses : List Loss)
    : Type 0 where
  pub dims : p.dims ≡ n
  pub canonical : IsPolyhedron p
  pub within : IsWithin n S (Con p.rows)
  pub exact : losses ≡ [] → IsPolyhedronOf n S p
  pub flagged : IfLost strains losses

-- for the points at which these constraints hold; for those that the generators give
abbrev pub IsMadeOfRows : ℕ → List LinearRow → Polyhedron → List Loss → Type 0
IsMadeOfRows n rows = IsMadeFor n (Con rows) (FromRowsStrains n rows)

abbrev pub IsMadeOfGenerators : ℕ → List LinearRow → Polyhedron → List Loss → Type 0
IsMadeOfGenerators n list = IsMadeFor n (Gen list) (FromGeneratorsStrains n list)
