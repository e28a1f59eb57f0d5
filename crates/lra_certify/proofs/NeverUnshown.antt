-- A claim that holds wherever its premises do has multipliers, unless some show that the premises have no point.
use Rattle.std.proofs.Common.{◌≡◌, ℕ, suc, ℤ, pos, ◌≤ℤ◌, List, length}
use Rattle.lra_certify.specs.Crates.{lra_linear_spec.Descriptions.LinearRow, lra_linear_spec.Descriptions.Con, lra_linear_spec.Points.IsEmptySet, lra_linear_spec.Points.IsWithin}
use Rattle.lra_certify.specs.Crates.{lra_linear_spec.Polyhedra.falsity, lra_linear_spec.Vectors.product, lra_multipliers.Multipliers.Multipliers, lra_multipliers.Multipliers.IsFarkasCertificate}
use Rattle.lra_farkas.specs.MultiplierRows.{multiplier_dims, multiplier_rows, point_of, AreAsWide, PointsShow, WhatHoldsAtPointsIsShown, NoPointIsShown}

abbrev AreNone : List LinearRow → List ℤ → Type 0
AreNone premises claim = IsEmptySet (multiplier_dims premises) (Con (multiplier_rows premises claim))

-- the laws of the polyhedron of all multipliers
pub record AreLaws : Type 0 where
  pub points : PointsShow
  pub at_points : WhatHoldsAtPointsIsShown
  pub nowhere : NoPointIsShown

module _ (laws : AreLaws) where
  pub none_show : (premises : List LinearRow) (claim : List ℤ) (m : Multipliers) → AreAsWide premises claim → AreNone premises claim →
      IsFarkasCertificate premises claim m → ⊥
  none_show premises claim m wide none shows =
      let p = (laws.points premises claim m wide).1 shows in none (point_of m) p.is_point p.meets

  pub never_unshown : (n : ℕ) (premises : List LinearRow) (claim : List ℤ) → AreAsWide premises claim → AreAsWide premises (falsity n) →
      length claim ≡ suc n → IsWithin n (Con premises) (λ x. pos 0 ≤ℤ product claim x) → AreNone premises claim → AreNone premises (falsity n) → ⊥
  never_unshown n premises claim wide dead_wide width holds unshown alive =
      let dead = laws.nowhere n premises dead_wide (λ p is_point meets.
      let m = laws.at_points n premises claim p wide width is_point meets holds in
      none_show premises claim m.0 wide unshown m.1) in
      none_show premises (falsity n) dead.0 dead_wide alive dead.1

  -- if no point meets the premises at all
  pub never_alive : (n : ℕ) (premises : List LinearRow) → AreAsWide premises (falsity n) → IsEmptySet n (Con premises) → AreNone premises (falsity n) → ⊥
  never_alive n premises wide empty alive =
      let dead = laws.nowhere n premises wide empty in none_show premises (falsity n) dead.0 wide alive dead.1
