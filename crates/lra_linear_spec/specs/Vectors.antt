-- Rows are lists of whole numbers. A vector is a function that gives the number in each column, so that sums of vectors
-- compute column by column; two vectors are the same if they have the same number in each column.
use Rattle.std.specs.Prelude.{ℕ, zero, suc, ℤ, pos, ◌+ℤ◌, ◌*ℤ◌, neg_ℤ, List, [], ◌∷◌, slice_set}

-- the row's entry in a column, 0 past its end: the row as a vector
abbrev pub entry : List ℤ → ℕ → ℤ
entry [] j = pos 0
entry (x ∷ xs) zero = x
entry (x ∷ xs) (suc j) = entry xs j

-- the product of a row with a vector
abbrev pub dot : List ℤ → (ℕ → ℤ) → ℤ
dot [] u = pos 0
dot (c ∷ cs) u = (c *ℤ u 0) +ℤ dot cs (λ j. u (suc j))

-- the product of two rows
abbrev pub product : List ℤ → List ℤ → ℤ
product c r = dot c (entry r)

-- the row times -1
abbrev pub negated : List ℤ → List ℤ
negated [] = []
negated (x ∷ xs) = neg_ℤ x ∷ negated xs

-- a u + b v, for rows of one length
abbrev pub blend : ℤ → ℤ → List ℤ → List ℤ → List ℤ
blend a b [] vs = []
blend a b (u ∷ us) [] = []
blend a b (u ∷ us) (v ∷ vs) = ((a *ℤ u) +ℤ (b *ℤ v)) ∷ blend a b us vs

-- (-c.v) u + (c.u) v: its product with c is 0
abbrev pub combined : List ℤ → List ℤ → List ℤ → List ℤ
combined u v c = blend (neg_ℤ (product c v)) (product c u) u v

-- the row with 0 in column k
abbrev pub cleared : ℕ → List ℤ → List ℤ
cleared k row = slice_set row k (pos 0)

-- the row's entry in column k times the form takes the place of that column
abbrev pub substituted : ℕ → List ℤ → List ℤ → List ℤ
substituted k form row = blend (pos 1) (entry row k) (cleared k row) form

-- the sum of rows with factors that are not negative, column by column
abbrev pub sum_of : List ℕ → List (List ℤ) → ℕ → ℤ
sum_of [] rows j = pos 0
sum_of (f ∷ fs) [] j = pos 0
sum_of (f ∷ fs) (r ∷ rows) j = (pos f *ℤ entry r j) +ℤ sum_of fs rows j

-- the sum of rows with factors of either sign
abbrev pub signed_sum : List ℤ → List (List ℤ) → ℕ → ℤ
signed_sum [] rows j = pos 0
signed_sum (z ∷ zs) [] j = pos 0
signed_sum (z ∷ zs) (r ∷ rows) j = (z *ℤ entry r j) +ℤ signed_sum zs rows j

-- a row of n zeros
abbrev pub zeros : ℕ → List ℤ
zeros zero = []
zeros (suc n) = pos 0 ∷ zeros n

abbrev pub behind_zero : List (List ℤ) → List (List ℤ)
behind_zero [] = []
behind_zero (r ∷ rows) = (pos 0 ∷ r) ∷ behind_zero rows

-- the unit rows of n columns
abbrev pub units : ℕ → List (List ℤ)
units zero = []
units (suc n) = (pos 1 ∷ zeros n) ∷ behind_zero (units n)
