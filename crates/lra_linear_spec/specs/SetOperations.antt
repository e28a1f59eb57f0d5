-- Operations on sets of rational points, said of the points alone. A form e0, e1, .., en is the affine map e0 + e1 x1 +
-- .. + en xn;
-- at the point den, num1, .., numn it is (its product with that row) / den. In an image, a preimage and when a
-- coordinate may be anything, k is a column, from 1 to n: the dimension that is k - 1 when counted from 0. Column 0 is
-- the divisor.
use Rattle.std.specs.Prelude.{◌≡◌, ◌≢◌, ℕ, suc, ◌+◌, ◌<◌, ◌⊎◌, ℤ, pos, ◌+ℤ◌, ◌*ℤ◌, ◌≤ℤ◌, List, length, take, slice_set}
use Rattle.lra_linear_spec.specs.Points.{IsPoint, SamePoint, PointSet}
use Rattle.lra_linear_spec.specs.{Descriptions.LinearRow, Descriptions.Holds, Vectors.entry, Vectors.product}

abbrev pub Meet : PointSet → PointSet → PointSet
Meet P Q x = P x × Q x

abbrev pub Union : PointSet → PointSet → PointSet
Union P Q x = P x ⊎ Q x

-- the constraint holds at each point of P
abbrev pub ValidOn : ℕ → PointSet → LinearRow → Type 0
ValidOn n P g = (x : List ℤ) → IsPoint n x → P x → Holds g x

-- ---- hull: x is in it exactly if each inequality with whole coefficients that is valid on P holds at x
-- (the hull of several sets is that of their union)
abbrev pub Hull : ℕ → PointSet → PointSet
Hull n P x = (c : List ℤ) → length c ≡ suc n → ((y : List ℤ) → IsPoint n y → P y → pos 0 ≤ℤ product c y) →
    pos 0 ≤ℤ product c x

-- ---- images: the point with the form's value as coordinate k
abbrev pub assigned : ℕ → List ℤ → List ℤ → List ℤ
assigned k form x = slice_set x k (product form x)

pub record Image (n k : ℕ) (form : List ℤ) (P : PointSet) (x : List ℤ) : Type 0 where
  pub from : List ℤ
  pub is_point : IsPoint n from
  pub inside : P from
  pub same : SamePoint x (assigned k form from)

-- the points whose image is in P
abbrev pub Preimage : ℕ → List ℤ → PointSet → PointSet
Preimage k form P x = P (assigned k form x)

-- ---- the points that some value of coordinate k brings into P
-- the coordinates are the same but for k
abbrev pub SameBut : ℕ → List ℤ → List ℤ → Type 0
SameBut k x y = (j : ℕ) → j ≢ k → entry x j *ℤ entry y 0 ≡ entry y j *ℤ entry x 0

pub record Forget (n k : ℕ) (P : PointSet) (x : List ℤ) : Type 0 where
  pub from : List ℤ
  pub is_point : IsPoint n from
  pub inside : P from
  pub same : SameBut k x from

-- ---- further dimensions, and fewer
-- any coordinates after those of a point of P, which has n dimensions
abbrev pub Embed : ℕ → PointSet → PointSet
Embed n P x = P (take (suc n) x)

-- the points of P, of n + k dimensions, without their last k coordinates
pub record RemoveLast (n k : ℕ) (P : PointSet) (x : List ℤ) : Type 0 where
  pub from : List ℤ
  pub is_point : IsPoint (n + k) from
  pub inside : P from
  pub same : SamePoint x (take (suc n) from)

-- ---- time-elapse: the hull of all p + t q, for p in P, q in Q and whole numbers t from 0 on
pub record OnTheWay (n : ℕ) (P Q : PointSet) (x : List ℤ) : Type 0 where
  pub start : List ℤ
  pub starts : IsPoint n start
  pub in_first : P start
  pub step : List ℤ
  pub steps : IsPoint n step
  pub in_second : Q step
  pub times : ℕ
  pub same : (j : ℕ) → 0 < j → (entry x j *ℤ entry start 0) *ℤ entry step 0 ≡
      entry x 0 *ℤ ((entry start j *ℤ entry step 0) +ℤ ((pos times *ℤ entry step j) *ℤ entry start 0))

abbrev pub TimeElapse : ℕ → PointSet → PointSet → PointSet
TimeElapse n P Q = Hull n (OnTheWay n P Q)
