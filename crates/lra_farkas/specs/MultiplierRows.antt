-- The polyhedron of all multipliers that show a claim by premises. Its points have the multiple of the claim in column
-- 0, that of 1 >= 0 in column 1, and then those of the premises, in their order.
use Rattle.std.specs.List.{Contains, range_with_len}
use Rattle.std.specs.Prelude.{◌≡◌, ◌↔◌, ◌<◌, ℕ, suc, ℤ, pos, ◌≤ℤ◌, neg_ℤ, List, [], ◌∷◌, ◌++◌, map, length, cond}
use Rattle.lra_farkas.specs.Crates.lra_linear_spec.Descriptions.{LinearRow, equality, inequality, rows_of, Con}
use Rattle.lra_farkas.specs.Crates.lra_linear_spec.Points.{IsPoint, IsEmptySet, IsWithin}
use Rattle.lra_farkas.specs.Crates.lra_linear_spec.Vectors.{entry, product}
use Rattle.lra_farkas.specs.Crates.{lra_linear_spec.OperationStrain.unit_row, lra_linear_spec.Polyhedra.falsity}
use Rattle.lra_multipliers.specs.{Columns.first_of, Multipliers.Multipliers, Multipliers.IsFarkasCertificate}

-- In this column, the multiple of the claim is the sum of 1 >= 0, which has a column 0 alone, and the premises.
abbrev pub balance_row : List (List ℤ) → List ℤ → ℕ → List ℤ
balance_row rows claim j = neg_ℤ (entry claim j) ∷ first_of j (pos 1) ∷ map (λ r. entry r j) rows

-- the columns of the inequalities among the premises, which stand from this one on
abbrev pub inequality_columns : ℕ → List LinearRow → List ℕ
inequality_columns column [] = []
inequality_columns column (g ∷ gs) =
    cond g.equal (inequality_columns (suc column) gs) (column ∷ inequality_columns (suc column) gs)

abbrev pub multiplier_dims : List LinearRow → ℕ
multiplier_dims premises = suc (length premises)

-- the multiplier in this column is not below 0
abbrev pub sign_row : ℕ → ℕ → LinearRow
sign_row dims column = inequality (unit_row dims column)

-- an equality for each column of the claim; then the signs of 1 >= 0, and of each premise that is an inequality
abbrev pub multiplier_rows : List LinearRow → List ℤ → List LinearRow
multiplier_rows premises claim =
    map (λ j. equality (balance_row (rows_of premises) claim j)) (range_with_len 0 (length claim))
    ++ map (sign_row (multiplier_dims premises)) (1 ∷ inequality_columns 2 premises)

-- multipliers as a point
abbrev pub point_of : Multipliers → List ℤ
point_of m = m.divisor ∷ m.constant ∷ m.factors

-- all rows are as wide as the claim, which has a column 0
pub record AreAsWide (premises : List LinearRow) (claim : List ℤ) : Type 0 where
  pub some : 0 < length claim
  pub each : (g : LinearRow) → Contains premises g → length g.row ≡ length claim

-- ---- the laws
-- The points are the multipliers that show the claim.
pub record IsMultipliersPoint (premises : List LinearRow) (claim : List ℤ) (m : Multipliers) : Type 0 where
  pub is_point : IsPoint (multiplier_dims premises) (point_of m)
  pub meets : Con (multiplier_rows premises claim) (point_of m)

abbrev pub PointsShow : Type 0
PointsShow = (premises : List LinearRow) (claim : List ℤ) (m : Multipliers) → AreAsWide premises claim →
    (IsMultipliersPoint premises claim m ↔ IsFarkasCertificate premises claim m)

-- Some multipliers show what holds wherever the premises do and column 0 isn't below 0 (Farkas 1902).
abbrev pub WhatHoldsIsShown : Type 0
WhatHoldsIsShown = (premises : List LinearRow) (claim : List ℤ) → AreAsWide premises claim →
    ((x : List ℤ) → length x ≡ length claim → pos 0 ≤ℤ entry x 0 → Con premises x → pos 0 ≤ℤ product claim x) →
    (m : Multipliers) × IsFarkasCertificate premises claim m

-- For premises with a point it suffices that the claim holds at their points; for those without one, some multipliers
-- show that -1 >= 0.
abbrev pub WhatHoldsAtPointsIsShown : Type 0
WhatHoldsAtPointsIsShown = (n : ℕ) (premises : List LinearRow) (claim p : List ℤ) → AreAsWide premises claim →
    length claim ≡ suc n → IsPoint n p → Con premises p →
    IsWithin n (Con premises) (λ x. pos 0 ≤ℤ product claim x) → (m : Multipliers) × IsFarkasCertificate premises claim m

abbrev pub NoPointIsShown : Type 0
NoPointIsShown = (n : ℕ) (premises : List LinearRow) → AreAsWide premises (falsity n) → IsEmptySet n (Con premises) →
    (m : Multipliers) × IsFarkasCertificate premises (falsity n) m
