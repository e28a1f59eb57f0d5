-- The lists that are shown of a cone: its canonical generators, or its canonical constraints.
use Rattle.std.specs.Prelude.{◌≡◌, ◌≢◌, ◌↔◌, ◌⊎◌, ℕ, suc, ℤ, pos, ◌<ℤ◌, int_lt, Bool, true, false, cond, List, [], ◌∷◌}
use Rattle.std.specs.Prelude.{◌++◌, length, replicate, IsOk}
use Rattle.std.specs.{List.Contains, List.Sorted.IsPermutation, List.Sorted.IsSorted, Ordering.is_eq}
use Rattle.lra_systems.specs.LinearSystems.{LinearSystem}
use Rattle.lra_descriptions.specs.Crates.lra_linear_spec.Canonical.{IsCanonical}
use Rattle.lra_descriptions.specs.Crates.lra_linear_spec.CheckedArithmetic.{checked_product}
use Rattle.lra_descriptions.specs.Crates.lra_linear_spec.Cones.{all_rows, AreDual}
use Rattle.lra_descriptions.specs.Crates.lra_linear_spec.Descriptions.{LinearRow, inequality, rows_as, system_of}
use Rattle.lra_descriptions.specs.Crates.lra_linear_spec.Descriptions.{HoldsWith, Con, Gen}
use Rattle.lra_descriptions.specs.Crates.lra_linear_spec.Points.{IsEmptySet}
use Rattle.lra_descriptions.specs.Crates.lra_linear_spec.Polyhedra.{positivity, falsity}
use Rattle.lra_descriptions.specs.Crates.lra_linear_spec.RowOrder.{row_cmp, inequality_cmp, Ascends}
use Rattle.lra_descriptions.specs.Crates.lra_linear_spec.Vectors.{entry, product}
use Rattle.lra_descriptions.specs.Crates.lra_linear_spec.declared.ConKind.{ConKind}
use Rattle.lra_descriptions.specs.Crates.lra_linear_spec.declared.ConKind.TheVariants.{Ge, Eq}
use Rattle.lra_descriptions.specs.Crates.lra_linear_spec.declared.GenKind.{GenKind}
use Rattle.lra_descriptions.specs.Crates.lra_linear_spec.declared.GenKind.TheVariants.{Point, Ray, Line}

-- ---- generators, as they are shown
-- Points, rays and lines, each in order, that are the canonical description of the solutions of the system; column 0 of
-- none of these is below 0, and of some is above 0.
pub record HasGenerators (n : ℕ) (system : List (List ℤ)) (generators : List LinearRow) : Type 0 where
  pub points : List (List ℤ)
  pub rays : List (List ℤ)
  pub lines : List (List ℤ)
  pub are : generators ≡ rows_as false points ++ rows_as false rays ++ rows_as true lines
  pub dual : AreDual (suc n) system (all_rows lines (points ++ rays))
  pub canonical : IsCanonical lines (points ++ rays)
  pub points_ascend : Ascends row_cmp points
  pub rays_ascend : Ascends row_cmp rays
  pub divisors : (r : List ℤ) → Contains points r → pos 0 <ℤ entry r 0
  pub directions : (r : List ℤ) → Contains rays r ⊎ Contains lines r → entry r 0 ≡ pos 0
  pub some_point : points ≢ []

-- the canonical generators of the constraints; none if these have no point
abbrev pub AreGeneratorsOf : ℕ → List LinearRow → List LinearRow → Type 0
AreGeneratorsOf n rows generators =
    ((generators ≡ []) × IsEmptySet n (Con rows))
    ⊎ HasGenerators n (system_of (inequality (positivity n) ∷ rows)) generators

-- ---- constraints, as they are shown
-- Equalities and inequalities, each in order. The facets are the inequalities, with the positivity row if that isn't
-- redundant; with the equalities they are the canonical description of what is valid on the generators.
pub record HasConstraints (n : ℕ) (generators : List (List ℤ)) (rows : List LinearRow) : Type 0 where
  pub equalities : List (List ℤ)
  pub inequalities : List (List ℤ)
  pub facets : List (List ℤ)
  pub are : rows ≡ rows_as true equalities ++ rows_as false inequalities
  pub shown : (r : List ℤ) → Contains inequalities r → Contains facets r × (r ≢ positivity n)
  pub all_shown : (r : List ℤ) → Contains facets r → (r ≡ positivity n) ⊎ Contains inequalities r
  pub dual : AreDual (suc n) generators (all_rows equalities facets)
  pub canonical : IsCanonical equalities facets
  pub inequalities_ascend : Ascends inequality_cmp inequalities

-- the canonical constraints of the generators; -1 >= 0 if these have no point
abbrev pub AreConstraintsOf : ℕ → List LinearRow → List LinearRow → Type 0
AreConstraintsOf n generators rows =
    ((rows ≡ inequality (falsity n) ∷ []) × IsEmptySet n (Gen generators))
    ⊎ ((¬ (IsEmptySet n (Gen generators))) × HasConstraints n (system_of generators) rows)

-- ---- the rays of a cone, parted
-- above 0 in column 0
abbrev pub points_of : List (List ℤ) → List (List ℤ)
points_of [] = []
points_of (r ∷ rays) = cond (int_lt (pos 0) (entry r 0)) (r ∷ points_of rays) (points_of rays)

-- the others
abbrev pub directions_of : List (List ℤ) → List (List ℤ)
directions_of [] = []
directions_of (r ∷ rays) = cond (int_lt (pos 0) (entry r 0)) (directions_of rays) (r ∷ directions_of rays)

-- the rows other than this one
abbrev pub without : List ℤ → List (List ℤ) → List (List ℤ)
without row [] = []
without row (r ∷ rows) = cond (is_eq (row_cmp r row)) (without row rows) (r ∷ without row rows)

-- The list of generators: the rays above 0 in column 0 (points), then the other rays, each in order, then the lines.
pub record ListsGenerators (lines rays : List (List ℤ)) (list : LinearSystem GenKind) : Type 0 where
  pub points : List (List ℤ)
  pub directions : List (List ℤ)
  pub rows_are : list.rows ≡ (points ++ directions) ++ lines
  pub kinds_are : list.kinds ≡
      (replicate (length points) Point ++ replicate (length directions) Ray) ++ replicate (length lines) Line
  pub points_are : IsPermutation (points_of rays) points
  pub directions_are : IsPermutation (directions_of rays) directions
  pub points_sorted : IsSorted row_cmp points
  pub directions_sorted : IsSorted row_cmp directions
  pub some_point : points ≢ []

-- nothing if no ray is above 0 in column 0
abbrev pub ShowsGenerators : List (List ℤ) → List (List ℤ) → LinearSystem GenKind → Type 0
ShowsGenerators lines rays list =
    ((list.rows ≡ []) × (list.kinds ≡ []) × (points_of rays ≡ [])) ⊎ ListsGenerators lines rays list

-- the lines as equalities, then the rays but the positivity row, in order, as inequalities
pub record ShowsConstraints (n : ℕ) (lines rays : List (List ℤ)) (list : LinearSystem ConKind) : Type 0 where
  pub inequalities : List (List ℤ)
  pub rows_are : list.rows ≡ lines ++ inequalities
  pub kinds_are : list.kinds ≡ replicate (length lines) Eq ++ replicate (length inequalities) Ge
  pub inequalities_are : IsPermutation (without (positivity n) rays) inequalities
  pub sorted : IsSorted inequality_cmp inequalities

-- ---- generators as rows of the cone of what is valid on them
-- a line as an equality
abbrev pub dual_kind : GenKind → ConKind
dual_kind Point = Ge
dual_kind Ray = Ge
dual_kind Line = Eq

-- the product with each is as both kinds ask
abbrev pub IsValid : Bool → List ℤ → List LinearRow → Type 0
IsValid equal r list =
    (g : LinearRow) → Contains list g → HoldsWith equal (product r g.row) × HoldsWith g.equal (product r g.row)

-- the row is valid on each of the list, with each product in the range
abbrev pub IsSeenValid : Bool → List ℤ → List LinearRow → Type 0
IsSeenValid equal r list = (g : LinearRow) → Contains list g
    → IsOk (checked_product r g.row) × HoldsWith equal (product r g.row) × HoldsWith g.equal (product r g.row)

-- of these lines and rays those that are seen to be valid on each of the rows
pub record ShowsValid (n : ℕ) (all_lines all_rays : List (List ℤ)) (given : List LinearRow)
    (list : LinearSystem ConKind)
    : Type 0 where
  pub lines : List (List ℤ)
  pub rays : List (List ℤ)
  pub shown : ShowsConstraints n lines rays list
  pub lines_valid : (r : List ℤ) → (Contains lines r ↔ (Contains all_lines r × IsSeenValid true r given))
  pub rays_valid : (r : List ℤ) → (Contains rays r ↔ (Contains all_rays r × IsSeenValid false r given))
