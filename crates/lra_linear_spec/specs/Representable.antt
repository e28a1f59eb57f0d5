-- A polyhedron as a value holds it: its lists are the canonical ones, keep the limit of a description, and have numbers
-- of the range alone.
use Rattle.std.specs.{List.All, List.Contains, Prelude.◌≤◌, Prelude.◌⊎◌, Prelude.List, Prelude.◌++◌, Prelude.length}
use Rattle.lra_linear_spec.specs.Polyhedra.{HasPoint, IsPolyhedron, IsWithoutPoint, Polyhedron}
use Rattle.lra_linear_spec.specs.{ConeStrain.row_limit, Descriptions.LinearRow, Range.InRange}

-- each number of each row lies in the range
abbrev pub AreInRange : List LinearRow → Type 0
AreInRange rows = (g : LinearRow) → Contains rows g → All InRange g.row

-- at most 4,096 inequalities, the positivity row counted if it isn't redundant, and at most 4,096 points and rays
-- together; equalities and lines aren't counted
abbrev pub KeepsLimit : Polyhedron → Type 0
KeepsLimit p = IsWithoutPoint p ⊎ ((h : HasPoint p) × (length h.facets ≤ row_limit) ×
    (length (h.points ++ h.rays) ≤ row_limit))

pub record IsRepresentable (p : Polyhedron) : Type 0 where
  pub canonical : IsPolyhedron p
  pub limit : KeepsLimit p
  pub rows_in : AreInRange p.rows
  pub generators_in : AreInRange p.generators
