-- What is left of a preimage whose constraints are converted.
use Rattle.std.specs.{List.Contains, Prelude.ℕ, Prelude.ℤ, Prelude.List, Prelude.[]}
use Rattle.lra_poly_images.specs.Crates.lra_linear_spec.OperationStrain.{substituted_rows, with_positivity}
use Rattle.lra_poly_images.specs.Crates.{lra_linear_spec.Descriptions.LinearRow, lra_linear_spec.Polyhedra.Polyhedron}
use Rattle.lra_mapped_systems.specs.Forming.{AllFormed}
use Rattle.lra_poly.specs.{Restricted.IsTried, declared.outcome.Outcome.Outcome}

-- the constraints of p that can be formed, all but those in which a number passes, were tried from nothing
pub record IsOfFormed (k : ℕ) (form : List ℤ) (p q : Polyhedron) : Type 0 where
  pub rows : List LinearRow
  pub among : (g : LinearRow) → Contains rows g → Contains (substituted_rows k form p.rows) g
  pub formed : AllFormed k form p.rows rows
  pub outcome : Outcome
  pub tried : IsTried p.dims (with_positivity p.dims []) rows q outcome
