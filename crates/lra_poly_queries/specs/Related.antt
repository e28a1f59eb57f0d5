-- A coordinate whose new values stand to the old point as a constraint reports.
use Rattle.std.specs.Prelude.{◌⊎◌, ℕ, ◌+◌, List, [], ◌∷◌, ◌++◌, slice_set}
use Rattle.lra_poly_queries.specs.Crates.lra_linear_spec.Descriptions.{Con, LinearRow, Holds}
use Rattle.lra_poly_queries.specs.Crates.lra_linear_spec.OperationStrain.{ConstraintsStrain}
use Rattle.lra_poly_queries.specs.Crates.lra_linear_spec.Polyhedra.{IsPolyhedronOf, Polyhedron}
use Rattle.lra_poly_queries.specs.Crates.lra_linear_spec.SetOperations.{Embed, Meet}
use Rattle.lra_poly_queries.specs.Crates.{lra_linear_spec.Points.PointSet, lra_linear_spec.Strain.Loss}
use Rattle.lra_poly_queries.specs.{Joined.counted, Moved.MapDimsStrains, Moved.Moved, Moved.moved}

-- the points of P with one further coordinate that meet the constraint
abbrev pub Extended : ℕ → LinearRow → PointSet → PointSet
Extended n g P = Meet (Embed n P) (Holds g)

-- the places of the coordinates with the further one in place of the one along k: the constraint's last column is the
-- new value's
abbrev pub replaced : ℕ → ℕ → List ℕ
replaced n k = slice_set (counted n 0) k n

abbrev pub Related : ℕ → ℕ → LinearRow → PointSet → PointSet
Related n k g P = Moved (n + 1) (replaced n k) (Extended n g P)

-- ---- the constraints added
abbrev pub extended : LinearRow → Polyhedron → List LinearRow
extended g p = moved (counted (p.dims + 1) 0) p.rows ++ g ∷ []

abbrev pub ExtendStrains : LinearRow → Polyhedron → Loss → Type 0
ExtendStrains g p = ConstraintsStrain (p.dims + 1) (Extended p.dims g (Con p.rows)) (extended g p)

-- the exact one exceeds a limit as its dimensions are moved
pub record ExtendedMoveStrains (k : ℕ) (g : LinearRow) (p : Polyhedron) (loss : Loss) : Type 0 where
  pub longer : Polyhedron
  pub is_longer : IsPolyhedronOf (p.dims + 1) (Extended p.dims g (Con p.rows)) longer
  pub strains : MapDimsStrains (replaced p.dims k) longer loss

abbrev pub ImageRelationStrains : ℕ → LinearRow → Polyhedron → Loss → Type 0
ImageRelationStrains k g p loss = ExtendStrains g p loss ⊎ ExtendedMoveStrains k g p loss
