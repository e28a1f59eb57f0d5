-- What is reported if a cone doesn't take a row in: the rows of the cone with which a number passes the range, or
-- how many rays there would be.
use Rattle.std.specs.Prelude.{◌≡◌, ℕ, suc, ◌⊎◌, neg_ℤ, ℤ, Bool, List, Err}
use Rattle.lra_cone.specs.Crates.lra_linear_spec.declared.Excess as E
use Rattle.lra_cone.specs.Crates.lra_linear_spec.CheckedArithmetic.{checked_product, checked_blend}
use Rattle.lra_cone.specs.Crates.lra_linear_spec.ConeStrain.{PairAcross, HasTooMany}
use Rattle.lra_cone.specs.Crates.lra_linear_spec.Cones.{all_rows}
use Rattle.lra_cone.specs.Crates.lra_linear_spec.Vectors.{product, negated}
use Rattle.lra_double_description.specs.declared.strained.Family.TheVariants.{Lines, Rays}
use Rattle.lra_double_description.specs.declared.strained.Strained.TheVariants.{Product, Pair, TooMany}
use Rattle.lra_double_description.specs.{Strains.StandsAt, declared.strained.Family.Family}
use Rattle.lra_double_description.specs.{declared.strained.Member.Member, declared.strained.Strained.Strained}
use Rattle.lra_double_description.specs.declared.strained.ConeError as C
use Rattle.lra_double_description.specs.declared.strained.ConeError.TheVariants as of_cone
use Rattle.lra_cone.specs.Cones.{ConeContent}

-- ---- places
-- the row of the cone
abbrev pub IsMember : ConeContent → Family → ℕ → List ℤ → Type 0
IsMember s Lines place r = StandsAt s.lines place r
IsMember s Rays place r = StandsAt s.rays place r

-- the ray, or the line in either direction
abbrev pub IsSignedMember : ConeContent → Family → ℕ → List ℤ → Type 0
IsSignedMember s Lines place r = (line : List ℤ) × StandsAt s.lines place line × ((r ≡ line) ⊎ (r ≡ negated line))
IsSignedMember s Rays place r = StandsAt s.rays place r

-- ---- what passes
-- the product of c with the row
pub record ProductPassesAt (s : ConeContent) (c : List ℤ) (member : Member) (e : E.Excess) : Type 0 where
  pub row : List ℤ
  pub is : IsMember s member.family member.place row
  pub passes : checked_product c row ≡ Err e

-- what c and the two rows combine to, the one above 0 and the other below
pub record PairPassesAt (s : ConeContent) (c : List ℤ) (above below : Member) (e : E.Excess) : Type 0 where
  pub up : List ℤ
  pub is_up : IsSignedMember s above.family above.place up
  pub down : List ℤ
  pub is_down : IsSignedMember s below.family below.place down
  pub across : PairAcross c (all_rows s.lines s.rays) up down
  pub passes : checked_blend (neg_ℤ (product c down)) (product c up) up down ≡ Err e

-- the cone with c has so many rays, and that is too many
abbrev pub TooManyRays : ConeContent → Bool → List ℤ → ℕ → Type 0
TooManyRays s equal c count = HasTooMany (suc s.dims) equal c s.lines s.rays count

abbrev pub IsStrain : ConeContent → Bool → List ℤ → Strained → Type 0
IsStrain s equal c (Product member e) = ProductPassesAt s c member e
IsStrain s equal c (Pair up down e) = PairPassesAt s c up down e
IsStrain s equal c (TooMany count) = TooManyRays s equal c count

-- as it is stated; running out of memory says nothing
abbrev pub IsConeError : ConeContent → Bool → List ℤ → C.ConeError → Type 0
IsConeError s equal c (of_cone.Strained strained) = IsStrain s equal c strained
IsConeError s equal c of_cone.Memory = Unit {0}
