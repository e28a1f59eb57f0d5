-- What meets and tests make of a polyhedron, flagged or not.
use Rattle.std.specs.Prelude.{◌≡◌, ◌⊎◌, ℕ, List, [], ◌++◌}
use Rattle.lra_poly.specs.Crates.lra_linear_spec.OperationStrain.{with_positivity}
use Rattle.lra_poly.specs.Crates.lra_linear_spec.Polyhedra.{Polyhedron}
use Rattle.lra_poly.specs.Crates.{lra_linear_spec.Descriptions.LinearRow, lra_linear_spec.Strain.Loss}
use Rattle.lra_description_pair.specs.TriedRows.{IsOfTried}
use Rattle.lra_duality.specs.{Inclusions.IsInclusion, Incremental.MayGoOn, declared.inclusion.Inclusion.TheVariants.Yes}
use Rattle.lra_poly.specs.declared.outcome.Outcome.TheVariants.{Exact, Flagged}
use Rattle.lra_poly.specs.{Outcomes.first_loss, declared.outcome.Outcome.Outcome}

-- the rows were tried after the first ones, and the first loss is reported
pub record IsTried (n : ℕ) (first all : List LinearRow) (made : Polyhedron) (o : Outcome) : Type 0 where
  pub losses : List Loss
  pub told : o ≡ first_loss losses
  pub of : IsOfTried n first all made losses

-- The polyhedron of a polyhedron's rows and of further ones. If both lists at hand make a cone, the further ones are
-- tried after that; else all of them from nothing.
abbrev pub IsMetWith : Polyhedron → List LinearRow → Polyhedron → Outcome → Type 0
IsMetWith p more made o =
    (MayGoOn p.dims p.generators × IsTried p.dims (with_positivity p.dims p.rows) more made o)
    ⊎ ((¬ (MayGoOn p.dims p.generators)) × IsTried p.dims (with_positivity p.dims []) (p.rows ++ more) made o)

-- each generator is seen to meet each of the rows
abbrev pub IsSeenWithin : Polyhedron → List LinearRow → Type 0
IsSeenWithin p rows = IsInclusion rows p.generators Yes

-- what was made is the new value; if it is flagged, only if it is seen to lie in the old one, which else stays
abbrev pub IsSettled : Polyhedron → Polyhedron → Outcome → Polyhedron → Type 0
IsSettled old made Exact new = new ≡ made
IsSettled old made (Flagged loss) new =
    (IsSeenWithin made old.rows × (new ≡ made)) ⊎ ((¬ (IsSeenWithin made old.rows)) × (new ≡ old))

pub record Restricts (old : Polyhedron) (more : List LinearRow) (new : Polyhedron) (o : Outcome) : Type 0 where
  pub unmet : ¬ (IsSeenWithin old more)
  pub made : Polyhedron
  pub is_met : IsMetWith old more made o
  pub settled : IsSettled old made o new

-- rows that all points meet change nothing, and the answer is exact
abbrev pub IsRestricted : Polyhedron → List LinearRow → Polyhedron → Outcome → Type 0
IsRestricted old more new o = (IsSeenWithin old more × (new ≡ old) × (o ≡ Exact)) ⊎ Restricts old more new o
