-- A closed polyhedron of n dimensions by its two canonical lists. Both are canonical descriptions of cones of n + 1
-- columns: that of all valid constraints, and that of all generators. The positivity row, which says that column 0 is
-- at least 0, is always valid, and is left out of the list. A polyhedron without a point has the one row -1 >= 0 and no
-- generator.
use Rattle.std.specs.List.{Contains}
use Rattle.std.specs.Prelude.{◌≡◌, ◌≢◌, ℕ, suc, ◌⊎◌, ℤ, pos, negsuc, ◌<ℤ◌, true, false, List, [], ◌∷◌, ◌++◌}
use Rattle.lra_linear_spec.specs.Descriptions.{LinearRow, inequality, rows_as, Con}
use Rattle.lra_linear_spec.specs.Points.{PointSet, SameSet}
use Rattle.lra_linear_spec.specs.RowOrder.{row_cmp, inequality_cmp, Ascends}
use Rattle.lra_linear_spec.specs.{Canonical.IsCanonical, Cones.all_rows, Cones.AreDual, Vectors.entry, Vectors.zeros}

-- what a value shows: its dimensions, constraints and generators
pub record Polyhedron : Type 0 where
  pub dims : ℕ
  pub rows : List LinearRow
  pub generators : List LinearRow

-- column 0 is at least 0
abbrev pub positivity : ℕ → List ℤ
positivity n = pos 1 ∷ zeros n

-- -1 is at least 0
abbrev pub falsity : ℕ → List ℤ
falsity n = negsuc 0 ∷ zeros n

-- ---- with a point
-- Equalities, then inequalities; points, then rays, then lines. Equalities and lines are in the order of their pivots,
-- as their echelon forms are. The facets are the inequalities, with the positivity row if that isn't redundant.
pub record HasPoint (p : Polyhedron) : Type 0 where
  pub equalities : List (List ℤ)
  pub inequalities : List (List ℤ)
  pub rows_are : p.rows ≡ rows_as true equalities ++ rows_as false inequalities
  pub points : List (List ℤ)
  pub rays : List (List ℤ)
  pub lines : List (List ℤ)
  pub generators_are : p.generators ≡ rows_as false points ++ rows_as false rays ++ rows_as true lines
  pub facets : List (List ℤ)
  pub shown : (r : List ℤ) → Contains inequalities r → Contains facets r × (r ≢ positivity p.dims)
  pub all_shown : (r : List ℤ) → Contains facets r → (r ≡ positivity p.dims) ⊎ Contains inequalities r
  pub dual : AreDual (suc p.dims) (all_rows equalities facets) (all_rows lines (points ++ rays))
  pub constraints_canonical : IsCanonical equalities facets
  pub generators_canonical : IsCanonical lines (points ++ rays)
  pub inequalities_ascend : Ascends inequality_cmp inequalities
  pub points_ascend : Ascends row_cmp points
  pub rays_ascend : Ascends row_cmp rays
  pub divisors : (r : List ℤ) → Contains points r → pos 0 <ℤ entry r 0
  pub directions : (r : List ℤ) → Contains rays r ⊎ Contains lines r → entry r 0 ≡ pos 0
  pub some_point : points ≢ []

-- ---- without one
abbrev pub IsWithoutPoint : Polyhedron → Type 0
IsWithoutPoint p = (p.rows ≡ inequality (falsity p.dims) ∷ []) × (p.generators ≡ [])

-- the lists are the canonical ones of a polyhedron
abbrev pub IsPolyhedron : Polyhedron → Type 0
IsPolyhedron p = IsWithoutPoint p ⊎ HasPoint p

-- the canonical lists of the set
pub record IsPolyhedronOf (n : ℕ) (P : PointSet) (p : Polyhedron) : Type 0 where
  pub dimensions : p.dims ≡ n
  pub canonical : IsPolyhedron p
  pub points : SameSet n P (Con p.rows)
