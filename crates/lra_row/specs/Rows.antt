-- What the calls on rows answer.
use Rattle.std.specs.Int.{◌∣◌}
use Rattle.std.specs.Prelude.{◌≡◌, ℕ, ◌<◌, ℤ, pos, neg_ℤ, ◌+ℤ◌, ◌*ℤ◌, List, ◌++◌, Result, Err, unsigned_abs}
use Rattle.lra_linear_spec.specs.{Vectors.entry, Vectors.product, Vectors.cleared, declared.Excess.Excess}
use Rattle.lra_row.specs.Operations.{product_operations, blend_operations, added_operations}
use Rattle.lra_row.specs.declared.error.RowError as E
use Rattle.lra_row.specs.declared.error.RowError.TheVariants as of_row

-- the excess of an error is the one that the calculation meets; running out of memory says nothing
abbrev pub IsExcessOf : {A : Type 0} → Result A Excess → E.RowError → Type 0
IsExcessOf r (of_row.Excess e) = r ≡ Err e
IsExcessOf r of_row.Memory = Unit {0}

-- g is the greatest number that divides each entry: it divides each, and each that does divides it
pub record IsRowGcd (row : List ℤ) (g : ℕ) : Type 0 where
  pub divides : (j : ℕ) → g ∣ unsigned_abs (entry row j)
  pub greatest : (d : ℕ) → ((j : ℕ) → d ∣ unsigned_abs (entry row j)) → d ∣ g

-- some positive multiple of the row is a sum of positive multiples of u and v
pub record IsPositiveSum (u v row : List ℤ) : Type 0 where
  pub times : ℕ
  pub left : ℕ
  pub right : ℕ
  pub positive : (0 < times) × (0 < left) × (0 < right)
  pub is_sum : (j : ℕ) → pos times *ℤ entry row j ≡ (pos left *ℤ entry u j) +ℤ (pos right *ℤ entry v j)

-- the combination (-c.v) u + (c.u) v: the two products, then the sum
abbrev pub combination_operations : List ℤ → List ℤ → List ℤ → List Excess
combination_operations u v c =
    product_operations c u ++ (product_operations c v ++ blend_operations (neg_ℤ (product c v)) (product c u) u v)

-- the substitution of the form for column x
abbrev pub substitution_operations : ℕ → List ℤ → List ℤ → List Excess
substitution_operations x form row = added_operations (entry row x) (cleared x row) form
