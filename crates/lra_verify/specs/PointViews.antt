-- Rows and points of a certificate as the code reads them.
use Rattle.std.specs.Prelude.{◌≡◌, ℕ, List, map, Option, Some, None, slice_get}
use Rattle.lra_verify.specs.Crates.lra_certificate_spec.Judged.{Left, RowsAtPoint}
use Rattle.lra_verify.specs.Crates.lra_systems.LinearSystems.{LinearSystem, constraints}
use Rattle.lra_verify.specs.Crates.{lra_certificate_spec.Lines.left_at, lra_linear_spec.Descriptions.LinearRow}
use Rattle.lra_verify.specs.Crates.{lra_linear_spec.declared.ConKind.ConKind, lra_program.Sites.Site}
use Rattle.lra_paths.specs.Paths.{live_of}
use Rattle.lra_verify.specs.declared.points.PointRows.{PointRows}
use Rattle.lra_verify.specs.{declared.points.Point.Point, declared.points.Points.Points}

-- the rows, and what is left after them
abbrev pub rows_view : List ℕ → PointRows → List LinearRow × Left
rows_view bytes r = (constraints r.rows, left_at bytes r.behind)

abbrev pub state_view : Option (LinearSystem ConKind) → RowsAtPoint
state_view None = None
state_view (Some rows) = Some (constraints rows)

abbrev pub point_view : List ℕ → Point → RowsAtPoint × Left
point_view bytes p = (state_view p.state, left_at bytes p.behind)

abbrev pub points_view : List ℕ → Points → List RowsAtPoint × Left
points_view bytes p = (map state_view p.states.items, left_at bytes p.behind)

-- rows of a point have its variables
abbrev pub HaveDims : List Site → List (Option (LinearSystem ConKind)) → Type 0
HaveDims sites states = (q : ℕ) (rows : LinearSystem ConKind) → slice_get states q ≡ Some (Some rows) →
    rows.dims ≡ live_of (slice_get sites q)
