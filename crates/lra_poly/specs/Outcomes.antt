-- What the calls that make or change a polyhedron report: that the result is the exact one, or a loss.
use Rattle.std.specs.Prelude.{◌≡◌, ℕ, List, [], ◌∷◌}
use Rattle.lra_poly.specs.Crates.lra_linear_spec.Descriptions.{Con, Gen, LinearRow}
use Rattle.lra_poly.specs.Crates.lra_linear_spec.OperationStrain.{FromRowsStrains, FromGeneratorsStrains}
use Rattle.lra_poly.specs.Crates.lra_linear_spec.Points.{IsWithin, PointSet}
use Rattle.lra_poly.specs.Crates.lra_linear_spec.Polyhedra.{IsPolyhedron, IsPolyhedronOf, Polyhedron}
use Rattle.lra_poly.specs.Crates.lra_linear_spec.Strain as strain
use Rattle.lra_poly.specs.declared.outcome.Outcome.{Outcome}
use Rattle.lra_poly.specs.declared.outcome.Outcome.TheVariants.{Exact, Flagged}

-- if the outcome is exact
abbrev pub IfExact : Type 0 → Outcome → Type 0
IfExact P Exact = P
IfExact P (Flagged loss) = Unit {0}

-- if it is flagged, of the loss
abbrev pub IfFlagged : (strain.Loss → Type 0) → Outcome → Type 0
IfFlagged P Exact = Unit {0}
IfFlagged P (Flagged loss) = P loss

-- what is reported about a call and of a later one together: what the first lost, or else what the later one says
abbrev pub first_of : Outcome → Outcome → Outcome
first_of Exact later = later
first_of (Flagged loss) later = Flagged loss

-- what is reported about losses: the first of them
abbrev pub first_loss : List strain.Loss → Outcome
first_loss [] = Exact
first_loss (loss ∷ later) = Flagged loss

-- A value of n dimensions is made for the set P. Flagged or not, it has all points of P; if it is exact it has no
-- other. It is flagged only if that exceeds a limit, and then the loss is reported.
pub record Becomes (n : ℕ) (P : PointSet) (strains : strain.Loss → Type 0) (new : Polyhedron) (o : Outcome)
    : Type 0 where
  pub dims : new.dims ≡ n
  pub canonical : IsPolyhedron new
  pub within : IsWithin n P (Con new.rows)
  pub exact : IfExact (IsPolyhedronOf n P new) o
  pub flagged : IfFlagged strains o

-- for the points at which these constraints hold; for those that the generators give
abbrev pub IsOfRows : ℕ → List LinearRow → Polyhedron → Outcome → Type 0
IsOfRows n rows = Becomes n (Con rows) (FromRowsStrains n rows)

abbrev pub IsOfGenerators : ℕ → List LinearRow → Polyhedron → Outcome → Type 0
IsOfGenerators n list = Becomes n (Gen list) (FromGeneratorsStrains n list)
