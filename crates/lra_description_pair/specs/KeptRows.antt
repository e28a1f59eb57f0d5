-- What is left of a list of constraints.
use Rattle.std.specs.{List.Contains, Prelude.ℕ, Prelude.List}
use Rattle.lra_description_pair.specs.Crates.lra_linear_spec.Descriptions.{Con, LinearRow}
use Rattle.lra_description_pair.specs.Crates.lra_linear_spec.Polyhedra.{IsPolyhedronOf, Polyhedron}

-- P is the polyhedron of some of the constraints
pub record IsOfSome (n : ℕ) (all : List LinearRow) (p : Polyhedron) : Type 0 where
  pub rows : List LinearRow
  pub among : (g : LinearRow) → Contains rows g → Contains all g
  pub made : IsPolyhedronOf n (Con rows) p
