-- What hulls, and generators that are added, make of a polyhedron if they are flagged.
use Rattle.std.specs.Prelude.{◌≡◌, ◌⊎◌, ℕ, List, ◌++◌}
use Rattle.lra_poly.specs.Crates.lra_linear_spec.Polyhedra.{Polyhedron}
use Rattle.lra_poly.specs.Crates.{lra_linear_spec.Descriptions.LinearRow, lra_linear_spec.Strain.Loss}
use Rattle.lra_description_pair.specs.{TakenPoints.IsOfPoints, TriedRows.StrainsWhenTried}
use Rattle.lra_duality.specs.Incremental.{MayTurn}
use Rattle.lra_poly.specs.{Outcomes.first_loss, declared.outcome.Outcome.Outcome}

-- the generators were tried from nothing, and the first loss is reported
pub record AreTriedPoints (n : ℕ) (given : List LinearRow) (made : Polyhedron) (o : Outcome) : Type 0 where
  pub losses : List Loss
  pub told : o ≡ first_loss losses
  pub of : IsOfPoints n given made losses

-- the polyhedron can't be extended: its lists make no cone, or after them these generators exceed a limit
abbrev pub CannotExtend : Polyhedron → List LinearRow → Type 0
CannotExtend p more = (¬ (MayTurn p.dims p.rows p.generators)) ⊎ StrainsWhenTried p.dims p.generators more

-- only then its own and these are converted from nothing, which alone is flagged
pub record UnitesAnew (p : Polyhedron) (more : List LinearRow) (made : Polyhedron) (o : Outcome) : Type 0 where
  pub stops : CannotExtend p more
  pub tried : AreTriedPoints p.dims (p.generators ++ more) made o
