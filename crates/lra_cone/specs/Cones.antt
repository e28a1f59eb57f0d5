-- A cone as contracts see it, and what its lists say.
use Rattle.std.specs.Ordering.{int_eq}
use Rattle.std.specs.Prelude.{◌≡◌, ℕ, zero, suc, ◌≤◌, ℤ, pos, Bool, List, [], ◌∷◌, ◌++◌, length, map}
use Rattle.lra_cone.specs.Crates.lra_linear_spec.ConeStrain.{IsIntersection, row_limit}
use Rattle.lra_cone.specs.Crates.lra_linear_spec.Cones.{all_rows, AreDual}
use Rattle.lra_cone.specs.Crates.lra_linear_spec.Descriptions.{LinearRow, system_of}
use Rattle.lra_cone.specs.Crates.{lra_bits.Matrix.Matrix, lra_linear_spec.Canonical.IsCanonical}
use Rattle.lra_cone.specs.Crates.{lra_linear_spec.OperationStrain.unit_row, lra_linear_spec.Vectors.product}

-- The rows added so far, each an inequality or an equality, and the lines and rays. Each row has one column more
-- than there are dimensions.
pub record ConeContent : Type 0 where
  pub dims : ℕ
  pub taken : List LinearRow
  pub lines : List (List ℤ)
  pub rays : List (List ℤ)

-- The lines and rays are the canonical description of the solutions of the rows added, with no more rays than one
-- may have.
pub record IsCone (s : ConeContent) : Type 0 where
  pub dual : AreDual (suc s.dims) (system_of s.taken) (all_rows s.lines s.rays)
  pub canonical : IsCanonical s.lines s.rays
  pub few : length s.rays ≤ row_limit

-- for each row added, whether it is tight at r (has product 0 with it)
abbrev pub tight_values : List LinearRow → List ℤ → List Bool
tight_values [] r = []
tight_values (g ∷ taken) r = int_eq (product g.row r) (pos 0) ∷ tight_values taken r

abbrev pub saturation_rows : List LinearRow → List (List ℤ) → List (List Bool)
saturation_rows taken [] = []
saturation_rows taken (r ∷ rays) = tight_values taken r ∷ saturation_rows taken rays

-- a row for each ray, with a column for each row added: true if that is tight at the ray
abbrev pub cone_saturation : List LinearRow → List (List ℤ) → Matrix
cone_saturation taken rays = record { width = length taken; rows = saturation_rows taken rays }

-- so many columns from the start up, and column 0 last
abbrev pub columns_from : ℕ → ℕ → List ℕ
columns_from start zero = 0 ∷ []
columns_from start (suc n) = start ∷ columns_from (suc start) n

-- the unit rows of n + 1 columns in the order of pivots: 1 to n, then 0
abbrev pub unit_lines : ℕ → List (List ℤ)
unit_lines n = map (unit_row n) (columns_from 1 n)

-- no row added: all vectors
abbrev pub whole_space : ℕ → ConeContent
whole_space n = record { dims = n; taken = []; lines = unit_lines n; rays = [] }

-- the row is added last, and what the old rows describe with it the new ones describe
pub record IsTakenIn (old : ConeContent) (g : LinearRow) (new : ConeContent) : Type 0 where
  pub dims : new.dims ≡ old.dims
  pub taken : new.taken ≡ old.taken ++ g ∷ []
  pub met : IsIntersection (suc old.dims) g.equal g.row (all_rows old.lines old.rays) (all_rows new.lines new.rays)
