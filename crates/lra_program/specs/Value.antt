-- The value of an expression, a number of its type, and of a condition, with the draws that are left; none if the
-- run stops: at a number that doesn't fit the type in which it is computed, at a divisor 0, at that type's least number
-- divided by -1 (also for `%`), at an argument that doesn't fit its parameter, at an index outside its array, and where
-- a draw is needed and none is left (ISO/IEC 9899:2011, 6.5; overflow and an index outside, undefined there, end the
-- run here).
use Rattle.std.specs.Prelude.{◌≡◌, ℕ, zero, suc, ℤ, pos, negsuc, ◌+ℤ◌, ◌-ℤ◌, ◌*ℤ◌, ◌+◌, List, [], ◌∷◌, Option, Some}
use Rattle.std.specs.Prelude.{None, Bool, true, false, not, if◌then◌else◌, slice_get, int_div, int_rem, int_lt, int_le}
use Rattle.std.specs.Prelude.{IsTrue}
use Rattle.lra_base.specs.Operators.{Operator, plus, minus, times, over, modulo, Comparison, below, at_most, above}
use Rattle.lra_base.specs.Operators.{at_least, equal, differs}
use Rattle.lra_base.specs.{NumberTypes.fits, NumberTypes.wider, declared.number_types.NumberType.NumberType}
use Rattle.lra_base.specs.{declared.number_types.NumberType.TheVariants.Long}
use Rattle.lra_program.specs.Arrays.{Contents, elements_of, place_among}
use Rattle.lra_program.specs.Program.{Slot, global, local, Expr, literal, read, input, negate, binary, element, type_of}
use Rattle.lra_program.specs.Program.{Cond, compare, nonzero, opposite, both_of, either_of}

-- go on with what is there
infixl 10 ◌>>=◌
abbrev pub ◌>>=◌ : {A B : Type 0} → Option A → (A → Option B) → Option B
(Some x) >>= f = f x
None >>= f = None

-- -2^63 to 2^63 - 1
abbrev pub is_word : ℤ → Bool
is_word z = fits Long z

-- the number, if it is one of the type
abbrev pub number : NumberType → ℤ → Option ℤ
number t z = if fits t z then Some z else None

abbrev pub is_zero : ℤ → Bool
is_zero (pos zero) = true
is_zero (pos (suc n)) = false
is_zero (negsuc n) = false

-- `/` truncates towards 0, and `%` gives what is left: (x / y) * y + x % y is x
abbrev pub quotient : NumberType → (ℤ → ℤ → ℤ) → ℤ → ℤ → Option ℤ
quotient t f x y = if is_zero y then None else number t (int_div x y) >>= λ _. number t (f x y)

-- in this type
abbrev pub apply : NumberType → Operator → ℤ → ℤ → Option ℤ
apply t plus x y = number t (x +ℤ y)
apply t minus x y = number t (x -ℤ y)
apply t times x y = number t (x *ℤ y)
apply t over x y = quotient t int_div x y
apply t modulo x y = quotient t int_rem x y

abbrev pub compares : Comparison → ℤ → ℤ → Bool
compares below x y = int_lt x y
compares at_most x y = int_le x y
compares above x y = int_lt y x
compares at_least x y = int_le y x
compares equal x y = if int_le x y then int_le y x else false
compares differs x y = not (if int_le x y then int_le y x else false)

-- where a variable stands in the store: the call's own come after the first `base`
abbrev pub index_of : ℕ → Slot → ℕ
index_of base (global k) = k
index_of base (local k) = base + k

-- what an expression is read in: where the call's own variables begin, the store, and what the arrays hold
pub record Environment : Type 0 where
  pub base : ℕ
  pub store : List ℤ
  pub arrays : Contents

-- a result and the draws after it
abbrev pub Drawn : Type 0 → Type 0
Drawn A = Option (A × List ℤ)

-- the first draw, a number of 64 bits
abbrev pub first_draw : List ℤ → Drawn ℤ
first_draw [] = None
first_draw (d ∷ ds) = number Long d >>= λ z. Some (z, ds)

-- so many draws, each a number of the type
abbrev pub draws_of : NumberType → ℕ → List ℤ → Drawn (List ℤ)
draws_of t zero draws = Some ([], draws)
draws_of t (suc n) draws = first_draw draws >>= λ r. number t r.0 >>= λ z. draws_of t n r.1 >>= λ q. Some (z ∷ q.0, q.1)

-- Operands from left to right. What a variable or an element holds is asked, too: if it is no number of the
-- variable's or the array's type, there is no value.
abbrev pub value_of : Expr → Environment → List ℤ → Drawn ℤ
value_of (literal t n) s draws = number t (pos n) >>= λ z. Some (z, draws)
value_of (read v) s draws =
    slice_get s.store (index_of s.base v.slot) >>= λ y. number v.number_type y >>= λ z. Some (z, draws)
value_of input s draws = first_draw draws
value_of (negate e) s draws = value_of e s draws >>= λ r. number (type_of e) (pos 0 -ℤ r.0) >>= λ z. Some (z, r.1)
value_of (binary op a b) s draws = value_of a s draws >>= λ r. value_of b s r.1 >>= λ q.
    apply (wider (type_of a) (type_of b)) op r.0 q.0 >>= λ z. Some (z, q.1)
value_of (element a at e) s draws = value_of e s draws >>= λ r. place_among a.length r.0 >>= λ k.
    slice_get (elements_of a.declared s.arrays) k >>= λ y. number a.number_type y >>= λ z. Some (z, r.1)

-- a value, if there is one, is a number of its expression's type
abbrev pub ValuesHaveTypes : Type 0
ValuesHaveTypes = (e : Expr) (s : Environment) (draws left : List ℤ) (z : ℤ) → value_of e s draws ≡ Some (z, left) →
    IsTrue (fits (type_of e) z)

-- what a call gives to a parameter of this type
pub record Argument : Type 0 where
  pub number_type : NumberType
  pub value : Expr

-- from left to right; each is one of its parameter's type before the next is computed
abbrev pub values_of : List Argument → Environment → List ℤ → Drawn (List ℤ)
values_of [] s draws = Some ([], draws)
values_of (a ∷ rest) s draws = value_of a.value s draws >>= λ r. number a.number_type r.0 >>= λ z.
    values_of rest s r.1 >>= λ q. Some (z ∷ q.0, q.1)

-- `&&` and `||` stop early
abbrev pub truth_of : Cond → Environment → List ℤ → Drawn Bool
truth_of (compare op a b) s draws =
    value_of a s draws >>= λ r. value_of b s r.1 >>= λ q. Some (compares op r.0 q.0, q.1)
truth_of (nonzero e) s draws = value_of e s draws >>= λ r. Some (not (is_zero r.0), r.1)
truth_of (opposite c) s draws = truth_of c s draws >>= λ r. Some (not r.0, r.1)
truth_of (both_of c d) s draws = truth_of c s draws >>= λ r. if r.0 then truth_of d s r.1 else Some (false, r.1)
truth_of (either_of c d) s draws = truth_of c s draws >>= λ r. if r.0 then Some (true, r.1) else truth_of d s r.1
