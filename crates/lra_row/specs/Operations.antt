-- The products and sums of a calculation, in their order. An operation is written as the excess that names it if its
-- value passes the range.
use Rattle.std.specs.Prelude.{◌≡◌, ℤ, pos, ◌+ℤ◌, ◌*ℤ◌, List, [], ◌∷◌, ◌++◌, Result, Ok, Err, All}
use Rattle.lra_linear_spec.specs.declared.Operation.TheVariants.{Product, Sum}
use Rattle.lra_linear_spec.specs.{Range.InRange, declared.Excess.Excess, declared.Operation.Operation}
use Rattle.lra_row.specs.declared.error.RowError.{RowError}
use Rattle.lra_row.specs.declared.error.RowError.TheVariants as of_row

abbrev pub result_of : Operation → ℤ → ℤ → ℤ
result_of Product a b = a *ℤ b
result_of Sum a b = a +ℤ b

-- the operation's value is in the range
abbrev pub Fits : Excess → Type 0
Fits o = InRange (result_of o.op o.left o.right)

-- e is the first of the operations whose value passes the range
pub record IsFirstPassing (operations : List Excess) (e : Excess) : Type 0 where
  pub earlier : List Excess
  pub later : List Excess
  pub is : operations ≡ earlier ++ e ∷ later
  pub fit : All Fits earlier
  pub passes : ¬ (Fits e)

-- the answer is an excess exactly if an operation passes: the first that does
abbrev pub NamesFirst : {A : Type 0} → List Excess → Result A Excess → Type 0
NamesFirst operations (Ok x) = All Fits operations
NamesFirst operations (Err e) = IsFirstPassing operations e

-- a call's excess is the first among its operations; running out of memory says nothing of the operations
abbrev pub IsFirstNamed : List Excess → RowError → Type 0
IsFirstNamed operations (of_row.Excess e) = IsFirstPassing operations e
IsFirstNamed operations of_row.Memory = Unit {0}

abbrev pub NamesFirstOrMemory : {A : Type 0} → List Excess → Result A RowError → Type 0
NamesFirstOrMemory operations (Ok x) = All Fits operations
NamesFirstOrMemory operations (Err e) = IsFirstNamed operations e

-- the product of two rows: in each column the product of its entries, then the sum with that of the columns before
abbrev pub product_operations_from : ℤ → List ℤ → List ℤ → List Excess
product_operations_from sum [] ys = []
product_operations_from sum (x ∷ xs) [] = []
product_operations_from sum (x ∷ xs) (y ∷ ys) =
    record { op = Product; left = x; right = y }
    ∷ record { op = Sum; left = sum; right = x *ℤ y }
    ∷ product_operations_from (sum +ℤ (x *ℤ y)) xs ys

abbrev pub product_operations : List ℤ → List ℤ → List Excess
product_operations xs ys = product_operations_from (pos 0) xs ys

-- a u + b v of two rows: in each column the two products, then their sum
abbrev pub blend_operations : ℤ → ℤ → List ℤ → List ℤ → List Excess
blend_operations a b [] vs = []
blend_operations a b (u ∷ us) [] = []
blend_operations a b (u ∷ us) (v ∷ vs) =
    record { op = Product; left = a; right = u }
    ∷ record { op = Product; left = b; right = v }
    ∷ record { op = Sum; left = a *ℤ u; right = b *ℤ v }
    ∷ blend_operations a b us vs

-- u + b v of two rows: in each column the product, then the sum
abbrev pub added_operations : ℤ → List ℤ → List ℤ → List Excess
added_operations b [] vs = []
added_operations b (u ∷ us) [] = []
added_operations b (u ∷ us) (v ∷ vs) =
    record { op = Product; left = b; right = v }
    ∷ record { op = Sum; left = u; right = b *ℤ v }
    ∷ added_operations b us vs
