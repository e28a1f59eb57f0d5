-- The two descriptions of a set of points (Minkowski 1896, Weyl 1935): by constraints, and by points, rays and lines.
use Rattle.std.specs.List.{Contains}
use Rattle.std.specs.Prelude.{◌≡◌, ◌⊎◌, ℤ, pos, ◌≤ℤ◌, ◌<ℤ◌, Bool, true, false, cond, List, [], ◌∷◌}
use Rattle.lra_linear_spec.specs.{Cones.Described, Cones.with_row, Points.PointSet, Vectors.entry, Vectors.product}

-- A row of a description. A constraint c0, .., cn is an inequality or, with `equal`, an equality. A generator is a
-- point or a ray, or with `equal` a line; `IsGenerator` says what column 0 then holds.
pub record LinearRow : Type 0 where
  pub row : List ℤ
  pub equal : Bool

abbrev pub inequality : List ℤ → LinearRow
inequality c = record { row = c; equal = false }

abbrev pub equality : List ℤ → LinearRow
equality c = record { row = c; equal = true }

-- a point or a ray
abbrev pub generator : List ℤ → LinearRow
generator r = record { row = r; equal = false }

abbrev pub line : List ℤ → LinearRow
line r = record { row = r; equal = true }

-- column 0 of a generator: a point's divisor is above 0; rays and lines have 0 there
abbrev pub IsGenerator : LinearRow → Type 0
IsGenerator g = ((g.equal ≡ false) × (pos 0 <ℤ entry g.row 0)) ⊎ (entry g.row 0 ≡ pos 0)

abbrev pub AreGenerators : List LinearRow → Type 0
AreGenerators list = (g : LinearRow) → Contains list g → IsGenerator g

-- the rows of one kind, in their order
abbrev pub rows_as : Bool → List (List ℤ) → List LinearRow
rows_as equal [] = []
rows_as equal (r ∷ rows) = record { row = r; equal = equal } ∷ rows_as equal rows

abbrev pub rows_of : List LinearRow → List (List ℤ)
rows_of [] = []
rows_of (g ∷ gs) = g.row ∷ rows_of gs

-- the equalities, or the lines
abbrev pub lines_of : List LinearRow → List (List ℤ)
lines_of [] = []
lines_of (g ∷ gs) = cond g.equal (g.row ∷ lines_of gs) (lines_of gs)

-- the inequalities, or the points and rays
abbrev pub rays_of : List LinearRow → List (List ℤ)
rays_of [] = []
rays_of (g ∷ gs) = cond g.equal (rays_of gs) (g.row ∷ rays_of gs)

-- all as inequalities, or as rays: each equality or line in both directions
abbrev pub system_of : List LinearRow → List (List ℤ)
system_of [] = []
system_of (g ∷ gs) = with_row g.equal g.row (system_of gs)

-- what a constraint asks of its product with a point
abbrev pub HoldsWith : Bool → ℤ → Type 0
HoldsWith true z = z ≡ pos 0
HoldsWith false z = pos 0 ≤ℤ z

-- c0 den + c1 num1 + .. + cn numn is at least 0, or is 0 for an equality
abbrev pub Holds : LinearRow → PointSet
Holds g x = HoldsWith g.equal (product g.row x)

-- the points at which each constraint holds
abbrev pub Con : List LinearRow → PointSet
Con rows x = (g : LinearRow) → Contains rows g → Holds g x

-- the points some positive multiple of which is a sum of generators with whole factors, not negative for points and
-- rays; the list is meant to be `AreGenerators`, since any row is added as its columns are
abbrev pub Gen : List LinearRow → PointSet
Gen generators x = Described (lines_of generators) (rays_of generators) (entry x)
