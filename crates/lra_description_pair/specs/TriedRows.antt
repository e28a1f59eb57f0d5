-- What becomes of rows that are tried after others: those that exceed a limit are left out, and the polyhedron is that
-- of all others; but if the canonical list of these exceeds a limit is that of all points.
use Rattle.std.specs.Prelude.{◌≡◌, ◌≢◌, ◌⊎◌, ℕ, List, [], drop}
use Rattle.lra_description_pair.specs.Crates.lra_linear_spec.Descriptions.{Con, LinearRow}
use Rattle.lra_description_pair.specs.Crates.lra_linear_spec.Polyhedra.{IsPolyhedronOf, Polyhedron}
use Rattle.lra_description_pair.specs.Crates.{lra_linear_spec.Strain.Loss, lra_linear_spec.declared.Cause.Cause}
use Rattle.lra_cone.specs.{Cones.ConeContent, Cones.IsCone, Conversions.IsConversion}
use Rattle.lra_description_pair.specs.OwnLists.{IsOwnCause, TellsOwnLoss}

-- the polyhedron of the rows that were added to the cone, and nothing more is lost
pub record IsOfTaken (n : ℕ) (cone : ConeContent) (before : List Loss) (p : Polyhedron) (after : List Loss) : Type 0
  where
    pub made : IsPolyhedronOf n (Con (drop 1 cone.taken)) p
    pub told : after ≡ before

-- their canonical list exceeds a limit, as a further loss reports, and it is the polyhedron of all points
pub record OwnListStrains (cone : ConeContent) (before after : List Loss) : Type 0 where
  pub is_cone : IsCone cone
  pub cause : Cause
  pub is_cause : IsOwnCause cone cause
  pub told : TellsOwnLoss cone cause before after

abbrev pub IsMadeOf : ℕ → ConeContent → List Loss → Polyhedron → List Loss → Type 0
IsMadeOf n cone before p after = IsOfTaken n cone before p after ⊎
    (OwnListStrains cone before after × IsPolyhedronOf n (Con []) p)

-- after the first rows, positivity foremost, all of these were tried in their order
pub record IsOfTried (n : ℕ) (first all : List LinearRow) (p : Polyhedron) (losses : List Loss) : Type 0 where
  pub cone : ConeContent
  pub dims : cone.dims ≡ n
  pub kept : List LinearRow
  pub left : List Loss
  pub conversion : IsConversion first all kept cone left
  pub made : IsMadeOf n cone left p losses

-- ---- generators after those of a cone
-- one of them exceeds a limit when it is tried, or the canonical list of all does
pub record StrainsWhenTried (n : ℕ) (first all : List LinearRow) : Type 0 where
  pub cone : ConeContent
  pub dims : cone.dims ≡ n
  pub kept : List LinearRow
  pub left : List Loss
  pub conversion : IsConversion first all kept cone left
  pub strains : (left ≢ []) ⊎ ((left ≡ []) × ((cause : Cause) × IsOwnCause cone cause))
