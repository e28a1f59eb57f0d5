-- Convex cones of vectors of whole numbers, by inequalities and by generators (Minkowski 1896, Weyl 1935, Farkas 1902).
-- A vector counts as generated if some positive whole multiple of it is a sum of the rows with whole factors, so no
-- fraction is needed. A line is a row that may be taken with a factor of either sign.
use Rattle.std.specs.List.{Contains}
use Rattle.std.specs.Prelude.{◌≡◌, ℕ, ◌<◌, ℤ, pos, ◌+ℤ◌, ◌*ℤ◌, ◌≤ℤ◌, Bool, cond, List, [], ◌∷◌, ◌++◌, length}
use Rattle.lra_linear_spec.specs.Vectors.{entry, dot, negated, sum_of, signed_sum}

-- some positive multiple of u is a sum of the rows, with factors that are not negative
pub record Generated (rows : List (List ℤ)) (u : ℕ → ℤ) : Type 0 where
  pub multiple : ℕ
  pub positive : 0 < multiple
  pub factors : List ℕ
  pub is_sum : (j : ℕ) → pos multiple *ℤ u j ≡ sum_of factors rows j

-- each row of the system has a product with u that is not negative
abbrev pub Solves : List (List ℤ) → (ℕ → ℤ) → Type 0
Solves system u = (c : List ℤ) → Contains system c → pos 0 ≤ℤ dot c u

-- the system with a further row; an equality is its two inequalities
abbrev pub with_row : Bool → List ℤ → List (List ℤ) → List (List ℤ)
with_row equal c system = cond equal (c ∷ negated c ∷ system) (c ∷ system)

-- some positive multiple of u is a sum of lines, with factors of either sign, and of rays, with factors that are not
-- negative
pub record Described (lines rays : List (List ℤ)) (u : ℕ → ℤ) : Type 0 where
  pub multiple : ℕ
  pub positive : 0 < multiple
  pub free : List ℤ
  pub factors : List ℕ
  pub is_sum : (j : ℕ) → pos multiple *ℤ u j ≡ signed_sum free lines j +ℤ sum_of factors rays j

-- each line in both directions
abbrev pub both_ways : List (List ℤ) → List (List ℤ)
both_ways [] = []
both_ways (l ∷ lines) = l ∷ negated l ∷ both_ways lines

-- lines and rays as rows alone: what they describe is what these generate
abbrev pub all_rows : List (List ℤ) → List (List ℤ) → List (List ℤ)
all_rows lines rays = rays ++ both_ways lines

-- The system and the rows, all of one width, are the two descriptions of one cone: the solutions of the system are what
-- the rows generate, and the inequalities that the rows meet are what the system generates. By `meets` each also lies
-- in the other.
pub record AreDual (width : ℕ) (system rows : List (List ℤ)) : Type 0 where
  pub system_widths : (c : List ℤ) → Contains system c → length c ≡ width
  pub row_widths : (r : List ℤ) → Contains rows r → length r ≡ width
  pub solutions : (u : List ℤ) → length u ≡ width → Solves system (entry u) → Generated rows (entry u)
  pub consequences : (c : List ℤ) → length c ≡ width → Solves rows (entry c) → Generated system (entry c)
  pub meets : (r : List ℤ) → Contains rows r → Solves system (entry r)
