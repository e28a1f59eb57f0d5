-- What a polyhedron is as a whole: all points, or bounded; how many dimensions it has.
use Rattle.std.specs.Prelude.{◌≡◌, ◌↔◌, ◌+◌, ℕ, suc, ℤ, pos, List, [], length}
use Rattle.lra_poly_queries.specs.Crates.lra_linear_spec.Descriptions.{Con, equality}
use Rattle.lra_poly_queries.specs.Crates.lra_linear_spec.Echelon.{IsEchelon, Spanned}
use Rattle.lra_poly_queries.specs.Crates.lra_linear_spec.Points.{IsPoint, SameSet}
use Rattle.lra_poly_queries.specs.Crates.{lra_duality.Maxima.IsAtMost, lra_linear_spec.Polyhedra.Polyhedron}
use Rattle.lra_poly_queries.specs.Crates.{lra_linear_spec.SetOperations.ValidOn, lra_linear_spec.Vectors.entry}

-- each point is in it
abbrev pub IsUniverse : Polyhedron → Type 0
IsUniverse p = SameSet p.dims (Con []) (Con p.rows)

-- a number that the form's value is at most, at each point
pub record HasBound (p : Polyhedron) (form : List ℤ) : Type 0 where
  pub most : ℤ
  pub is_most : (x : List ℤ) → IsPoint p.dims x → Con p.rows x → IsAtMost form most (pos 1) x

-- each form has one
abbrev pub IsBounded : Polyhedron → Type 0
IsBounded p = (form : List ℤ) → length form ≡ suc p.dims → HasBound p form

-- as many dimensions as the space has, less the equalities that hold at each point: those, of rows in reduced echelon
-- form, whose span is all of them
pub record AffineDimension (p : Polyhedron) (d : ℕ) : Type 0 where
  pub equalities : List (List ℤ)
  pub pivots : List ℕ
  pub echelon : IsEchelon equalities pivots
  pub spans : (c : List ℤ) → length c ≡ suc p.dims →
      (ValidOn p.dims (Con p.rows) (equality c) ↔ Spanned equalities (entry c))
  pub count : d + length equalities ≡ p.dims
