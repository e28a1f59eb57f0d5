-- Rational points and sets of them. A point of n dimensions is a row of n + 1 whole numbers: a divisor above 0 in
-- column 0, then the numerators of its coordinates. Rows that are multiples of one another are the same point. A set of
-- points is given by a fact about such rows. A store of whole numbers is a point with the divisor 1.
use Rattle.std.specs.Prelude.{◌≡◌, ℕ, suc, ℤ, pos, ◌*ℤ◌, ◌<ℤ◌, List, length}
use Rattle.lra_linear_spec.specs.Vectors.{entry}

pub record IsPoint (n : ℕ) (x : List ℤ) : Type 0 where
  pub width : length x ≡ suc n
  pub divisor : pos 0 <ℤ entry x 0

-- the rows give the same coordinates
abbrev pub SamePoint : List ℤ → List ℤ → Type 0
SamePoint x y = (j : ℕ) → entry x j *ℤ entry y 0 ≡ entry y j *ℤ entry x 0

abbrev pub PointSet : Type 1
PointSet = List ℤ → Type 0

-- each point of P is in Q
abbrev pub IsWithin : ℕ → PointSet → PointSet → Type 0
IsWithin n P Q = (x : List ℤ) → IsPoint n x → P x → Q x

-- each point is in both or in neither
abbrev pub SameSet : ℕ → PointSet → PointSet → Type 0
SameSet n P Q = IsWithin n P Q × IsWithin n Q P

abbrev pub IsEmptySet : ℕ → PointSet → Type 0
IsEmptySet n P = (x : List ℤ) → IsPoint n x → P x → ⊥
