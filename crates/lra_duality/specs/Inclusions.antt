-- Inclusion of polyhedra, tried pair by pair: the generators of the one in their order, with each the rows of the other
-- in their order. The first pair whose product passes the range, or which violates the row, decides.
use Rattle.std.specs.List.{All}
use Rattle.std.specs.Prelude.{◌≡◌, ℕ, false, List, IsTrue, IsOk, IsErr}
use Rattle.lra_duality.specs.Crates.lra_linear_spec.declared.Excess as E
use Rattle.lra_duality.specs.Crates.lra_linear_spec.CheckedArithmetic.{checked_product}
use Rattle.lra_duality.specs.Crates.lra_linear_spec.Descriptions.{LinearRow, Con}
use Rattle.lra_duality.specs.Crates.lra_linear_spec.OperationStrain.{InclusionStrains}
use Rattle.lra_duality.specs.Crates.{lra_linear_spec.Points.IsWithin, lra_linear_spec.Polyhedra.Polyhedron}
use Rattle.lra_duality.specs.Crates.{lra_linear_spec.Widening.holds_with, lra_systems.FirstPlaces.FirstAt}
use Rattle.lra_duality.specs.Crates.lra_systems.declared.membership.MembershipAnswer as H
use Rattle.lra_duality.specs.Crates.lra_systems.declared.membership.MembershipAnswer.TheVariants as holds
use Rattle.lra_duality.specs.declared.inclusion.Inclusion.{Inclusion}
use Rattle.lra_duality.specs.declared.inclusion.Inclusion.TheVariants.{Yes, No, Wide}

-- ---- a generator and a row
-- the product stays in the range, and the row holds with the generator
abbrev pub Satisfies : LinearRow → LinearRow → Type 0
Satisfies g r = IsOk (checked_product r.row g.row) × IsTrue (holds_with r g)

-- it stays in the range, and the row doesn't hold
abbrev pub Violates : LinearRow → LinearRow → Type 0
Violates g r = IsOk (checked_product r.row g.row) × (holds_with r g ≡ false)

-- it passes the range
abbrev pub Passes : LinearRow → LinearRow → Type 0
Passes g r = IsErr (checked_product r.row g.row)

-- ---- a generator and a list of rows
abbrev pub SatisfiesAll : List LinearRow → LinearRow → Type 0
SatisfiesAll rows g = All (Satisfies g) rows

abbrev pub IsReply : List LinearRow → LinearRow → H.MembershipAnswer → Type 0
IsReply rows g holds.Yes = SatisfiesAll rows g
IsReply rows g (holds.No place) = FirstAt (Satisfies g) (Violates g) rows place
IsReply rows g (holds.Wide place) = FirstAt (Satisfies g) (Passes g) rows place

-- some row is violated, and those before it are met
pub record ViolatesFirst (rows : List LinearRow) (g : LinearRow) : Type 0 where
  pub place : ℕ
  pub first : FirstAt (Satisfies g) (Violates g) rows place

-- ---- two lists
-- the answer of the first pair that decides
abbrev pub IsInclusion : List LinearRow → List LinearRow → Inclusion → Type 0
IsInclusion rows generators Yes = All (SatisfiesAll rows) generators
IsInclusion rows generators (No place) = FirstAt (SatisfiesAll rows) (ViolatesFirst rows) generators place
IsInclusion rows generators (Wide place row) =
    FirstAt (SatisfiesAll rows) (λ g. FirstAt (Satisfies g) (Passes g) rows row) generators place

-- what the answer says of the sets of points
abbrev pub TellsInclusion : Polyhedron → Polyhedron → Inclusion → Type 0
TellsInclusion p q Yes = IsWithin p.dims (Con p.rows) (Con q.rows)
TellsInclusion p q (No place) = ¬ (IsWithin p.dims (Con p.rows) (Con q.rows))
TellsInclusion p q (Wide place row) = (e : E.Excess) × InclusionStrains p q e
