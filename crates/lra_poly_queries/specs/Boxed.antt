-- The least box around a polyhedron: of each coordinate the least and the greatest value.
use Rattle.std.specs.Prelude.{◌≡◌, ℕ, suc, ℤ, List, length, IfSome, Option, None, Some, slice_get}
use Rattle.lra_poly_queries.specs.Crates.lra_duality.Maxima.{IsGreatestValue, IsUnbounded}
use Rattle.lra_poly_queries.specs.Crates.lra_linear_spec.Polyhedra.{Polyhedron}
use Rattle.lra_poly_queries.specs.Crates.{lra_linear_spec.OperationStrain.unit_row, lra_linear_spec.Range.InRange}
use Rattle.lra_poly_queries.specs.Minima.{IsLeastValue, IsUnboundedBelow}
use Rattle.lra_poly_queries.specs.{declared.boxes.Extent.Extent, declared.boxes.Fraction.Fraction}

-- the form whose value is the coordinate along the dimension
abbrev pub coordinate_form : ℕ → ℕ → List ℤ
coordinate_form n k = unit_row n (suc k)

-- the form's least value, which some point has; or nothing, if no number is at most each of the values
abbrev pub IsLeastEnd : Polyhedron → List ℤ → Option Fraction → Type 0
IsLeastEnd p form None = IsUnboundedBelow p form
IsLeastEnd p form (Some end) = IsLeastValue p form end.num end.den

-- the greatest likewise
abbrev pub IsGreatestEnd : Polyhedron → List ℤ → Option Fraction → Type 0
IsGreatestEnd p form None = IsUnbounded p form
IsGreatestEnd p form (Some end) = IsGreatestValue p form end.num end.den

-- both its numbers are in the range
abbrev pub FractionInRange : Fraction → Type 0
FractionInRange f = InRange f.num × InRange f.den

-- the values of the coordinate along the dimension
pub record IsExtent (p : Polyhedron) (k : ℕ) (e : Extent) : Type 0 where
  pub least : IsLeastEnd p (coordinate_form p.dims k) e.least
  pub greatest : IsGreatestEnd p (coordinate_form p.dims k) e.greatest
  pub range : IfSome e.least FractionInRange × IfSome e.greatest FractionInRange

-- an extent for each dimension, in their order
pub record IsLeastBox (p : Polyhedron) (extents : List Extent) : Type 0 where
  pub count : length extents ≡ p.dims
  pub each : (k : ℕ) (e : Extent) → slice_get extents k ≡ Some e → IsExtent p k e
