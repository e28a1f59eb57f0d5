-- A twin of a dimension: a further coordinate that may be whatever the one along it may be.
use Rattle.std.specs.Prelude.{ℕ, suc, ◌+◌, List, [], ◌∷◌, ◌++◌, take}
use Rattle.lra_poly_queries.specs.Crates.lra_linear_spec.Descriptions.{Con, LinearRow}
use Rattle.lra_poly_queries.specs.Crates.lra_linear_spec.OperationStrain.{ConstraintsStrain}
use Rattle.lra_poly_queries.specs.Crates.lra_linear_spec.Polyhedra.{Polyhedron}
use Rattle.lra_poly_queries.specs.Crates.{lra_linear_spec.Points.PointSet, lra_linear_spec.Strain.Loss}
use Rattle.lra_poly_queries.specs.{Joined.counted, Moved.chosen, Moved.moved, Related.replaced}

-- the points that are in P without their last coordinate, and with it in place of the one along k
abbrev pub Expanded : ℕ → ℕ → PointSet → PointSet
Expanded n k P x = P (take (suc n) x) × P (chosen (replaced n k) x)

-- the constraints, and the same with the new column in place of that of k
abbrev pub expanded : ℕ → Polyhedron → List LinearRow
expanded k p = moved (counted (p.dims + 1) 0) p.rows ++ moved (replaced p.dims k ++ k ∷ []) p.rows

abbrev pub ExpandStrains : ℕ → Polyhedron → Loss → Type 0
ExpandStrains k p = ConstraintsStrain (p.dims + 1) (Expanded p.dims k (Con p.rows)) (expanded k p)
