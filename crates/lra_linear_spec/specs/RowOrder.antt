-- The orders of the lists that are shown. Rows are compared by the entries of columns 1, 2, 3 and on, and by that of
-- column 0 last.
use Rattle.std.specs.Ordering.{int_cmp, nat_cmp, ordering_then}
use Rattle.std.specs.{Cmp.Lexicographic.slice_cmp, List.Contains, Prelude.◌≡◌, Prelude.ℤ, Prelude.List, Prelude.[]}
use Rattle.std.specs.{Prelude.◌∷◌, Prelude.◌++◌, declared.cmp.Ordering.Ordering, declared.cmp.Ordering.TheVariants.Less}
use Rattle.lra_linear_spec.specs.Echelon.{pivot}

-- the entries with that of column 0 last
abbrev pub constant_last : List ℤ → List ℤ
constant_last [] = []
constant_last (x ∷ xs) = xs ++ x ∷ []

abbrev pub row_cmp : List ℤ → List ℤ → Ordering
row_cmp xs ys = slice_cmp int_cmp (constant_last xs) (constant_last ys)

-- inequalities: by the first column from 1 up that isn't 0, then the greater row first
abbrev pub inequality_cmp : List ℤ → List ℤ → Ordering
inequality_cmp xs ys = ordering_then (nat_cmp (pivot xs) (pivot ys)) (row_cmp ys xs)

-- each element comes before all later ones
abbrev pub Ascends : {A : Type 0} → (A → A → Ordering) → List A → Type 0
Ascends cmp [] = Unit {0}
Ascends {A = A} cmp (x ∷ xs) = ((y : A) → Contains xs y → cmp x y ≡ Less) × Ascends cmp xs
