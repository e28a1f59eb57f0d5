-- Dimensions moved: each new dimension is, in turn, one of the old ones.
use Rattle.std.specs.Prelude.{ℕ, suc, ℤ, List, ◌∷◌, length, map}
use Rattle.lra_poly_queries.specs.Crates.lra_linear_spec.Descriptions.{Con, LinearRow}
use Rattle.lra_poly_queries.specs.Crates.lra_linear_spec.OperationStrain.{GeneratorsStrain}
use Rattle.lra_poly_queries.specs.Crates.lra_linear_spec.Points.{IsPoint, PointSet, SamePoint}
use Rattle.lra_poly_queries.specs.Crates.lra_linear_spec.Polyhedra.{Polyhedron}
use Rattle.lra_poly_queries.specs.Crates.{lra_linear_spec.Strain.Loss, lra_linear_spec.Vectors.entry}

-- the row with its column 0, then the columns of these dimensions
abbrev pub chosen : List ℕ → List ℤ → List ℤ
chosen dims row = entry row 0 ∷ map (λ d. entry row (suc d)) dims

-- the points whose coordinates are, in turn, those of a point of P, of n dimensions, along these dimensions
pub record Moved (n : ℕ) (dims : List ℕ) (P : PointSet) (x : List ℤ) : Type 0 where
  pub from : List ℤ
  pub is_point : IsPoint n from
  pub inside : P from
  pub same : SamePoint x (chosen dims from)

-- the generators moved, which are added
abbrev pub moved : List ℕ → List LinearRow → List LinearRow
moved dims generators = map (λ g. record { row = chosen dims g.row; equal = g.equal }) generators

abbrev pub MapDimsStrains : List ℕ → Polyhedron → Loss → Type 0
MapDimsStrains dims p =
    GeneratorsStrain (length dims) (Moved p.dims dims (Con p.rows)) (moved dims p.generators)
