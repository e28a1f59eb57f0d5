-- Spans of rows and their reduced echelon form. The columns are taken in the order 1, 2, 3 and on, and column 0 last,
-- since column 0 holds a constraint's constant or a point's divisor.
use Rattle.std.specs.Prelude.{◌≡◌, ℕ, suc, ◌<◌, ◌⊎◌, ℤ, pos, ◌*ℤ◌, ◌<ℤ◌, List, [], ◌∷◌, cond}
use Rattle.std.specs.{List.Contains, Ordering.int_eq}
use Rattle.lra_linear_spec.specs.{LowestTerms.IsPrimitive, Vectors.entry, Vectors.signed_sum}

-- some positive multiple of u is a sum of the rows, with factors of either sign
pub record Spanned (rows : List (List ℤ)) (u : ℕ → ℤ) : Type 0 where
  pub multiple : ℕ
  pub positive : 0 < multiple
  pub factors : List ℤ
  pub is_sum : (j : ℕ) → pos multiple *ℤ u j ≡ signed_sum factors rows j

-- column i comes before column j
abbrev pub Before : ℕ → ℕ → Type 0
Before i j = (0 < i) × ((i < j) ⊎ (j ≡ 0))

-- the row's first entry other than 0 stands in column p, its pivot, and is positive
pub record HasPivot (r : List ℤ) (p : ℕ) : Type 0 where
  pub before : (j : ℕ) → Before j p → entry r j ≡ pos 0
  pub here : pos 0 <ℤ entry r p

-- Rows with their pivots: each row is in lowest terms, positive at its pivot and 0 before it; the later rows are 0 up
-- to this pivot, and the row is 0 at the later pivots.
abbrev pub IsEchelon : List (List ℤ) → List ℕ → Type 0
IsEchelon [] [] = Unit {0}
IsEchelon [] (p ∷ ps) = ⊥
IsEchelon (r ∷ rows) [] = ⊥
IsEchelon (r ∷ rows) (p ∷ ps) =
    HasPivot r p × IsPrimitive r
    × ((t : List ℤ) → Contains rows t → (j : ℕ) → Before j p ⊎ (j ≡ p) → entry t j ≡ pos 0) ×
    ((q : ℕ) → Contains ps q → entry r q ≡ pos 0) × IsEchelon rows ps

-- the form is a reduced echelon form with the span of the rows
pub record IsEchelonOf (form rows : List (List ℤ)) : Type 0 where
  pub pivots : List ℕ
  pub echelon : IsEchelon form pivots
  pub same : (u : ℕ → ℤ) → (Spanned form u → Spanned rows u) × (Spanned rows u → Spanned form u)

-- the first column other than 0 in the order above; 0 if there is none
abbrev pub lead_from : ℕ → List ℤ → ℕ
lead_from j [] = 0
lead_from j (x ∷ xs) = cond (int_eq x (pos 0)) (lead_from (suc j) xs) j

abbrev pub pivot : List ℤ → ℕ
pivot [] = 0
pivot (x ∷ xs) = lead_from 1 xs
