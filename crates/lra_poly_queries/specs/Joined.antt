-- Polyhedra side by side: constraints moved to other dimensions, and taken together.
use Rattle.std.specs.Prelude.{ℕ, zero, suc, ◌+◌, List, [], ◌∷◌, ◌++◌, take, drop, replicate}
use Rattle.lra_poly_queries.specs.Crates.lra_linear_spec.Descriptions.{Con, LinearRow}
use Rattle.lra_poly_queries.specs.Crates.lra_linear_spec.OperationStrain.{ConstraintsStrain}
use Rattle.lra_poly_queries.specs.Crates.{lra_linear_spec.Points.PointSet, lra_linear_spec.Polyhedra.Polyhedron}
use Rattle.lra_poly_queries.specs.Crates.{lra_linear_spec.Strain.Loss, lra_linear_spec.Vectors.entry}
use Rattle.lra_poly_queries.specs.Moved.{moved}

-- k dimensions in turn, from s on
abbrev pub counted : ℕ → ℕ → List ℕ
counted zero s = []
counted (suc k) s = s ∷ counted k (suc s)

-- the points whose first n coordinates are those of a point of P, and whose others are those of a point of Q
abbrev pub Concatenated : ℕ → PointSet → PointSet → PointSet
Concatenated n P Q x = P (take (suc n) x) × Q (entry x 0 ∷ drop (suc n) x)

-- the constraints of both; a dimension past a row's last one has a 0 there
abbrev pub concatenated : Polyhedron → Polyhedron → List LinearRow
concatenated p q = moved (counted (p.dims + q.dims) 0) p.rows ++
    moved (replicate p.dims q.dims ++ counted q.dims 0) q.rows

abbrev pub ConcatenateStrains : Polyhedron → Polyhedron → Loss → Type 0
ConcatenateStrains p q = ConstraintsStrain (p.dims + q.dims)
    (Concatenated p.dims (Con p.rows) (Con q.rows)) (concatenated p q)
