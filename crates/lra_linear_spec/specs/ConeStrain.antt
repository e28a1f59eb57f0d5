-- When a cone of lines and rays exceeds a limit as a further row c is added: a product of c with one of its rows passes
-- the range, or the combination of two of them; or the cone with c has more rays than a description may have. A
-- coefficient past the range is no strain by itself, only in such a product or combination.
use Rattle.std.specs.List.{Contains}
use Rattle.std.specs.Prelude.{◌≡◌, ◌≢◌, ℕ, ◌<◌, ℤ, pos, neg_ℤ, ◌<ℤ◌, Bool, List, length, Ok, Err}
use Rattle.lra_linear_spec.specs.declared.Excess as E
use Rattle.lra_linear_spec.specs.CheckedArithmetic.{checked_product, checked_blend}
use Rattle.lra_linear_spec.specs.Cones.{all_rows, AreDual, with_row}
use Rattle.lra_linear_spec.specs.{Canonical.IsCanonical, LowestTerms.IsLowest, Vectors.product, Vectors.negated}

-- the most inequalities, and the most points and rays together, of a description; equalities and lines are not counted,
-- the positivity row is where it isn't redundant
abbrev pub row_limit : ℕ
row_limit = 4096

-- the product of c with one of the rows passes
pub record ProductPasses (c : List ℤ) (rows : List (List ℤ)) (e : E.Excess) : Type 0 where
  pub row : List ℤ
  pub has : Contains rows row
  pub passes : checked_product c row ≡ Err e

-- two of the rows, the one above 0 and the other below; a line, which stands there in both directions, isn't taken with
-- itself
pub record PairAcross (c : List ℤ) (rows : List (List ℤ)) (up down : List ℤ) : Type 0 where
  pub has_up : Contains rows up
  pub has_down : Contains rows down
  pub above : pos 0 <ℤ product c up
  pub below : product c down <ℤ pos 0
  pub apart : up ≢ negated down

-- what c and two of the rows combine to passes
pub record PairPasses (c : List ℤ) (rows : List (List ℤ)) (e : E.Excess) : Type 0 where
  pub up : List ℤ
  pub down : List ℤ
  pub across : PairAcross c rows up down
  pub passes : checked_blend (neg_ℤ (product c down)) (product c up) up down ≡ Err e

-- t is what c and two of the rows combine to, in lowest terms
pub record IsPairOf (c : List ℤ) (rows : List (List ℤ)) (t : List ℤ) : Type 0 where
  pub up : List ℤ
  pub down : List ℤ
  pub across : PairAcross c rows up down
  pub sum : List ℤ
  pub made : checked_blend (neg_ℤ (product c down)) (product c up) up down ≡ Ok sum
  pub lowest : IsLowest sum t

-- whatever system the old rows describe, the new rows describe it with c
abbrev pub IsIntersection : ℕ → Bool → List ℤ → List (List ℤ) → List (List ℤ) → Type 0
IsIntersection w equal c old new = (system : List (List ℤ)) → AreDual w system old →
    AreDual w (with_row equal c system) new

-- the cone with c has a canonical description with so many rays, and that is too many; each other canonical description
-- of it is as long
pub record HasTooMany (w : ℕ) (equal : Bool) (c : List ℤ) (lines rays : List (List ℤ)) (count : ℕ) : Type 0 where
  pub new_lines : List (List ℤ)
  pub new_rays : List (List ℤ)
  pub met : IsIntersection w equal c (all_rows lines rays) (all_rows new_lines new_rays)
  pub canonical : IsCanonical new_lines new_rays
  pub are : length new_rays ≡ count
  pub long : row_limit < count
