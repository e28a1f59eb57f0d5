-- Products of whole numbers grow or fall with a factor.
use Rattle.std.proofs.Common.{ℕ, suc, ◌≤◌, ℤ, pos, negsuc, arith}
use Rattle.std.proofs.{Math.Nat.mul-le-mul_left, lemmas.Int.ints}
use Rattle.std.specs.Prelude.{◌*ℤ◌, ◌≤ℤ◌}

-- a product grows with its second factor, if the first is not negative
pub mul_grows : (c : ℕ) (l x : ℤ) → l ≤ℤ x → (pos c *ℤ l) ≤ℤ (pos c *ℤ x)
mul_grows c (pos a) (pos b) h =
    let k : a ≤ b = omega (arith, ints) in
    let q = mul-le-mul_left c k in
    grind (arith, ints)
mul_grows c (pos a) (negsuc b) h = absurd (omega (arith, ints))
mul_grows c (negsuc a) (pos b) h = grind (arith, ints)
mul_grows c (negsuc a) (negsuc b) h =
    let k : suc b ≤ suc a = omega (arith, ints) in
    let q = mul-le-mul_left c k in
    grind (arith, ints)

pub mul_falls : (c : ℕ) (l x : ℤ) → l ≤ℤ x → (negsuc c *ℤ x) ≤ℤ (negsuc c *ℤ l)
mul_falls c (pos a) (pos b) h =
    let k : a ≤ b = omega (arith, ints) in
    let q = mul-le-mul_left (suc c) k in
    grind (arith, ints)
mul_falls c (pos a) (negsuc b) h = absurd (omega (arith, ints))
mul_falls c (negsuc a) (pos b) h = grind (arith, ints)
mul_falls c (negsuc a) (negsuc b) h =
    let k : suc b ≤ suc a = omega (arith, ints) in
    let q = mul-le-mul_left (suc c) k in
    grind (arith, ints)
