-- Membership of a point, tried constraint by constraint: the first that fails or whose product with the point passes
-- the range decides.
use Rattle.std.specs.Prelude.{ℤ, List, IsOk, IsErr, All}
use Rattle.lra_linear_spec.specs.CheckedArithmetic.{checked_product}
use Rattle.lra_linear_spec.specs.Descriptions.{LinearRow, Holds, Con}
use Rattle.lra_systems.specs.FirstPlaces.{FirstAt}
use Rattle.lra_systems.specs.declared.membership.MembershipAnswer.TheVariants.{Yes, No, Wide}
use Rattle.lra_systems.specs.declared.membership.MembershipAnswer as H

-- the product stays in the range, and the constraint holds
abbrev pub HoldsInRange : List ℤ → LinearRow → Type 0
HoldsInRange x g = IsOk (checked_product g.row x) × Holds g x

abbrev pub FailsInRange : List ℤ → LinearRow → Type 0
FailsInRange x g = IsOk (checked_product g.row x) × (¬ (Holds g x))

-- a product or partial sum passes the range
abbrev pub IsWide : List ℤ → LinearRow → Type 0
IsWide x g = IsErr (checked_product g.row x)

-- the constraint at the place is the first that does not hold in the range, and it is as stated
abbrev pub DecidesMembership : List LinearRow → List ℤ → H.MembershipAnswer → Type 0
DecidesMembership list x Yes = All (HoldsInRange x) list
DecidesMembership list x (No place) = FirstAt (HoldsInRange x) (FailsInRange x) list place
DecidesMembership list x (Wide place) = FirstAt (HoldsInRange x) (IsWide x) list place

-- what the answer says of the set of points
abbrev pub TellsMembership : List LinearRow → List ℤ → H.MembershipAnswer → Type 0
TellsMembership list x Yes = Con list x
TellsMembership list x (No place) = ¬ (Con list x)
TellsMembership list x (Wide place) = Unit {0}
