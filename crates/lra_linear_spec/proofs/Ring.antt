-- The laws of whole numbers as a commutative ordered ring. An identity is proved by writing both sides as an `Expr` and calling
-- `ring`, which leaves an identity of natural numbers for `omega`: each whole number is a difference of two natural ones, and
-- `omega` multiplies products of natural numbers out. `ring_le` proves an inequality in the same way.
use Rattle.std.proofs.Common.{◌≡◌, ℕ, ◌+◌, ◌*◌, ◌≤◌, ap, pos, ℤ, ◌+ℤ◌, ◌*ℤ◌, neg_ℤ, ◌≤ℤ◌, arith, Bool, true, false}
use Rattle.std.proofs.lemmas.Int.{ints}
use borrow.Author.Differences.{up, down, same_in, sum_is_lem, product_is, neg_is, at_most_in}

-- expressions over whole numbers
infixl 6 ◌⊕◌
infixl 7 ◌⊗◌
pub data Expr : Type 0 where
  v : ℤ → Expr
  ◌⊕◌ : Expr → Expr → Expr
  ◌⊗◌ : Expr → Expr → Expr
  ⊖ : Expr → Expr

-- the value of an expression
abbrev pub eval : Expr → ℤ
eval (v a) = a
eval (a ⊕ b) = eval a +ℤ eval b
eval (a ⊗ b) = eval a *ℤ eval b
eval (⊖ a) = neg_ℤ (eval a)

-- the expression is `part true - part false`
abbrev pub part : Bool → Expr → ℕ
part true (v a) = up a
part false (v a) = down a
part true (a ⊕ b) = part true a + part true b
part false (a ⊕ b) = part false a + part false b
part true (a ⊗ b) = part true a * part true b + part false a * part false b
part false (a ⊗ b) = part true a * part false b + part false a * part true b
part true (⊖ a) = part false a
part false (⊖ a) = part true a

-- (ua - da) * (ub - db) is (pa - qa) * (pb - qb) if the differences are the same
mix : (ua da pa qa ub db pb qb : ℕ) → ua + qa ≡ pa + da → ub + qb ≡ pb + db →
    (ua * ub + da * db) + (pa * qb + qa * pb) ≡ (pa * pb + qa * qb) + (ua * db + da * ub)
mix ua da pa qa ub db pb qb e f =
    omega (arith, ap (λ n. n * ub) e, ap (λ n. n * db) e, ap (λ n. pa * n) f, ap (λ n. qa * n) f)

-- the parts of an expression are those of its value
parts_are : (e : Expr) → up (eval e) + part false e ≡ part true e + down (eval e)
parts_are (v a) = omega arith
parts_are (a ⊕ b) = omega (arith, sum_is_lem (eval a) (eval b), parts_are a, parts_are b)
parts_are (a ⊗ b) =
    let m = mix (up (eval a)) (down (eval a)) (part true a) (part false a) (up (eval b)) (down (eval b)) (part true b) (part false b) (parts_are a) (parts_are b) in
    omega (arith, product_is (eval a) (eval b), m)
parts_are (⊖ a) = omega (arith, neg_is (eval a), parts_are a)

-- two expressions with the same parts have the same value
pub ring : (e f : Expr) → part true e + part false f ≡ part true f + part false e → eval e ≡ eval f
ring e f h = same_in (eval e) (eval f) (omega (arith, parts_are e, parts_are f, h))

-- the same for an inequality
pub ring_le : (e f : Expr) → part true e + part false f ≤ part true f + part false e → eval e ≤ℤ eval f
ring_le e f h = at_most_in (eval e) (eval f) (omega (arith, parts_are e, parts_are f, h))

-- laws that are used by name
pub mul_assoc : (a b c : ℤ) → (a *ℤ b) *ℤ c ≡ a *ℤ (b *ℤ c)
mul_assoc a b c = ring (v a ⊗ v b ⊗ v c) (v a ⊗ (v b ⊗ v c)) (omega arith)

pub mul_add : (a b c : ℤ) → a *ℤ (b +ℤ c) ≡ (a *ℤ b) +ℤ (a *ℤ c)
mul_add a b c = ring (v a ⊗ (v b ⊕ v c)) (v a ⊗ v b ⊕ v a ⊗ v c) (omega arith)

pub mul_comm : (a b : ℤ) → a *ℤ b ≡ b *ℤ a
mul_comm a b = omega (arith, ints)

-- the product of numbers that are not negative
pub mul_nonnegative : (a b : ℤ) → pos 0 ≤ℤ a → pos 0 ≤ℤ b → pos 0 ≤ℤ (a *ℤ b)
mul_nonnegative a b h k = grind (arith, ints)
