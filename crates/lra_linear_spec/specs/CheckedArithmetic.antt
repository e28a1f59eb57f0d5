-- Arithmetic on rows that answers with the first number that passes the range, if there is one. Columns are taken
-- from 0 up;
-- in each column the products come before the sum. That an Ok is the product, or the sum of the two multiples, is
-- proved in proofs/CheckedArithmetic.
use Rattle.std.specs.Prelude.{ℕ, ℤ, pos, ◌+ℤ◌, ◌*ℤ◌, neg_ℤ, List, [], ◌∷◌, Result, Ok, Err, cond}
use Rattle.lra_linear_spec.specs.declared.Operation.TheVariants.{Product, Sum}
use Rattle.lra_linear_spec.specs.{Range.in_range, Vectors.entry, Vectors.cleared, declared.Excess.Excess}

-- the sum and the product of two rows, or the first product or partial sum that passes
abbrev pub checked_product_from : ℤ → List ℤ → List ℤ → Result ℤ Excess
checked_product_from sum [] ys = Ok sum
checked_product_from sum (x ∷ xs) [] = Ok sum
checked_product_from sum (x ∷ xs) (y ∷ ys) =
    cond (in_range (x *ℤ y))
    (cond (in_range (sum +ℤ (x *ℤ y))) (checked_product_from (sum +ℤ (x *ℤ y)) xs ys)
    (Err (record { op = Sum; left = sum; right = x *ℤ y })))
    (Err (record { op = Product; left = x; right = y }))

-- the product of two rows, the row named first on the left of each product
abbrev pub checked_product : List ℤ → List ℤ → Result ℤ Excess
checked_product c r = checked_product_from (pos 0) c r

-- a u + b v of two numbers
abbrev pub checked_entry : ℤ → ℤ → ℤ → ℤ → Result ℤ Excess
checked_entry a b u v =
    cond (in_range (a *ℤ u))
    (cond (in_range (b *ℤ v))
    (cond (in_range ((a *ℤ u) +ℤ (b *ℤ v))) (Ok ((a *ℤ u) +ℤ (b *ℤ v)))
    (Err (record { op = Sum; left = a *ℤ u; right = b *ℤ v })))
    (Err (record { op = Product; left = b; right = v })))
    (Err (record { op = Product; left = a; right = u }))

-- an entry before the entries of later columns, or the first that passes
abbrev pub then_rest : Result ℤ Excess → Result (List ℤ) Excess → Result (List ℤ) Excess
then_rest (Err e) rest = Err e
then_rest (Ok x) (Ok xs) = Ok (x ∷ xs)
then_rest (Ok x) (Err e) = Err e

-- a u + b v of two rows
abbrev pub checked_blend : ℤ → ℤ → List ℤ → List ℤ → Result (List ℤ) Excess
checked_blend a b [] vs = Ok []
checked_blend a b (u ∷ us) [] = Ok []
checked_blend a b (u ∷ us) (v ∷ vs) = then_rest (checked_entry a b u v) (checked_blend a b us vs)

abbrev pub and_then : {A B : Type 0} → Result A Excess → (A → Result B Excess) → Result B Excess
and_then (Ok x) next = next x
and_then (Err e) next = Err e

-- the combination (-c.v) u + (c.u) v, whose product with c is 0
abbrev pub checked_combination : List ℤ → List ℤ → List ℤ → Result (List ℤ) Excess
checked_combination u v c =
    and_then (checked_product c u) (λ above. and_then (checked_product c v)
    (λ below. checked_blend (neg_ℤ below) above u v))

-- u + b v of two numbers, and of two rows
abbrev pub checked_added_entry : ℤ → ℤ → ℤ → Result ℤ Excess
checked_added_entry b u v =
    cond (in_range (b *ℤ v))
    (cond (in_range (u +ℤ (b *ℤ v))) (Ok (u +ℤ (b *ℤ v))) (Err (record { op = Sum; left = u; right = b *ℤ v })))
    (Err (record { op = Product; left = b; right = v }))

abbrev pub checked_added : ℤ → List ℤ → List ℤ → Result (List ℤ) Excess
checked_added b [] vs = Ok []
checked_added b (u ∷ us) [] = Ok []
checked_added b (u ∷ us) (v ∷ vs) = then_rest (checked_added_entry b u v) (checked_added b us vs)

-- substitution: the entry of column k times the form takes the place of column k
abbrev pub checked_substitution : ℕ → List ℤ → List ℤ → Result (List ℤ) Excess
checked_substitution k form row = checked_added (entry row k) (cleared k row) form
