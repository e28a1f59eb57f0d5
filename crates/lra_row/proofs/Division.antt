-- Division that rounds down, from division whose remainder is not negative.
use Rattle.std.proofs.Common.{ℕ, zero, suc, ◌≡◌, ◌<◌, ◌^◌, arith, ap, subst, sym, ◌∙◌, refl, pos, negsuc, ℤ, ◌+◌, ◌-◌, ◌*◌, ◌/◌, ◌%◌, ◌-ℤ◌, neg_ℤ, ◌<ℤ◌, to_z, FitsSigned, ◌≤◌}
use Rattle.std.proofs.{lemmas.Int.ints, lemmas.Nat.div-mul-add}
use lib.Signed.{mag}
use Rattle.std.specs.Int.{int_div_euclid, int_rem_euclid, w128}
use Rattle.lra_linear_spec.proofs.Ring.{v, ◌⊕◌, ◌⊗◌, ⊖, ring}
use Rattle.lra_linear_spec.specs.Range.{InRange}
use Rattle.lra_row.specs.Division.{floor_quotient, IsFloor}

-- the bits of all numbers but -2^127 are in the range
pub in_range_bits : (n : ℕ) → ¬ (n ≡ 2 ^ 127) → InRange (to_z w128 n)
in_range_bits n h = grind (arith, ints)

pub floor_above : (a b : ℤ) → ¬ (b ≡ pos 0) → ¬ (b <ℤ pos 0) → int_div_euclid a b ≡ floor_quotient a b
floor_above a (pos b) z h = refl
floor_above a (negsuc b) z h = absurd (h (omega (arith, ints)))

-- one less than a multiple of d has the quotient before; one less than another number has the same
step_down : (a b q : ℕ) → suc a ≡ q * suc b → suc (a / suc b) ≡ q
step_down a b zero e = absurd (omega (arith, e))
step_down a b (suc q) e = let k : a ≡ q * suc b + b = omega (arith, e) in ap (λ n. suc (n / suc b)) k ∙ ap suc (div-mul-add q (suc b) b (omega arith))

quotient_exact : (a b : ℕ) → suc a % suc b ≡ 0 → suc a / suc b ≡ suc (a / suc b)
quotient_exact a b r = sym (step_down a b (suc a / suc b) (omega (arith, r)))

one_less : (a b q r : ℕ) → suc a ≡ q * suc b + suc r → r < b → a / suc b ≡ q
one_less a b q r e h = let k : a ≡ q * suc b + r = omega (arith, e) in ap (λ n. n / suc b) k ∙ div-mul-add q (suc b) r (omega arith)

quotient_between : (a b : ℕ) → ¬ (suc a % suc b ≡ 0) → suc a / suc b ≡ a / suc b
quotient_between a b r = sym (one_less a b (suc a / suc b) (suc a % suc b - 1) (omega arith) (omega arith))

quotient_full : (a b : ℕ) → a % suc b ≡ b → suc a / suc b ≡ suc (a / suc b)
quotient_full a b r = one_more a b (a / suc b) (omega (arith, r))
  where
    one_more : (a b q : ℕ) → a ≡ q * suc b + b → suc a / suc b ≡ suc q
    one_more a b q e = let k : suc a ≡ suc q * suc b + 0 = omega (arith, e) in ap (λ n. n / suc b) k ∙ div-mul-add (suc q) (suc b) 0 (omega arith)

quotient_within : (a b : ℕ) → ¬ (a % suc b ≡ b) → suc a / suc b ≡ a / suc b
quotient_within a b r = one_more a b (a / suc b) (a % suc b) (omega arith) (omega arith)
  where
    one_more : (a b q r : ℕ) → a ≡ q * suc b + r → r < b → suc a / suc b ≡ q
    one_more a b q r e h = let k : suc a ≡ q * suc b + suc r = omega (arith, e) in ap (λ n. n / suc b) k ∙ div-mul-add q (suc b) (suc r) (omega arith)

-- by a negative divisor: as it is if nothing is left, else one less
pub floor_exact : (a b : ℤ) → b <ℤ pos 0 → int_rem_euclid a b ≡ pos 0 → int_div_euclid a b ≡ floor_quotient a b
floor_exact a (pos b) n r = absurd (omega (arith, ints, n))
floor_exact (pos zero) (negsuc b) n r = omega (arith, ints)
floor_exact (pos (suc a)) (negsuc b) n r = ap (λ q. neg_ℤ (pos q)) (quotient_exact a b (omega (arith, ints, r)))
floor_exact (negsuc a) (negsuc b) n r = ap pos (sym (quotient_full a b (omega (arith, ints, r))))

pub floor_below : (a b : ℤ) → b <ℤ pos 0 → ¬ (int_rem_euclid a b ≡ pos 0) → int_div_euclid a b -ℤ pos 1 ≡ floor_quotient a b
floor_below a (pos b) n r = absurd (omega (arith, ints, n))
floor_below (pos zero) (negsuc b) n r = absurd (r (omega (arith, ints)))
floor_below (pos (suc a)) (negsuc b) n r =
    let e : suc a / suc b ≡ a / suc b = quotient_between a b (λ z. r (ap pos z)) in
    omega (arith, ints, e)
floor_below (negsuc a) (negsuc b) n r =
    let e : suc a / suc b ≡ a / suc b = quotient_within a b (λ z. r (omega (arith, ints, z))) in
    omega (arith, ints, e)

pub floor_law : (a b : ℤ) → ¬ (b ≡ pos 0) → IsFloor a b (floor_quotient a b)
floor_law a (pos zero) z = absurd (z refl)
floor_law (pos a) (pos (suc b)) z = (omega (arith, ints), omega (arith, ints))
floor_law (negsuc a) (pos (suc b)) z = (
  omega (arith, ints),
  let q = a / suc b in subst (λ (x : ℤ). negsuc a <ℤ x)
      (ring (⊖ (v (pos (q * suc b)))) ((v (negsuc q) ⊕ v (pos 1)) ⊗ v (pos (suc b))) (omega arith)) (omega (arith, ints)),
)
floor_law (pos zero) (negsuc b) z = (omega (arith, ints), omega (arith, ints))
floor_law (pos (suc a)) (negsuc b) z = (
  omega (arith, ints),
  let q = a / suc b in subst (λ (x : ℤ). x <ℤ pos (suc a))
      (ring (v (pos (q * suc b))) ((v (negsuc q) ⊕ v (pos 1)) ⊗ v (negsuc b)) (omega arith)) (omega (arith, ints)),
)
floor_law (negsuc a) (negsuc b) z = (omega (arith, ints), omega (arith, ints))

-- the smaller quotient fits 128 bits
pub lower_fits : (a b : ℤ) → FitsSigned w128 a → b <ℤ pos 0 → FitsSigned w128 (int_div_euclid a b -ℤ pos 1)
lower_fits a (pos b) f n = absurd (omega (arith, ints, n))
lower_fits (pos a) (negsuc b) f n = record { sfits = let h = f.sfits in small a (a / suc b) h (omega arith) }
  where
    small : (a q : ℕ) → a < 2 ^ 127 → q ≤ a → mag (neg_ℤ (pos q) -ℤ pos 1) < 2 ^ 127
    small a zero h k = omega (arith, h)
    small a (suc q) h k = omega (arith, h, k)
lower_fits (negsuc a) (negsuc b) f n = record { sfits = let h = f.sfits in small a (a / suc b) h (omega arith) }
  where
    small : (a q : ℕ) → a < 2 ^ 127 → q ≤ a → mag (pos (suc q) -ℤ pos 1) < 2 ^ 127
    small a q h k = let e : pos (suc q) -ℤ pos 1 ≡ pos q = omega (arith, ints) in subst (λ (z : ℤ). mag z < 2 ^ 127) (sym e) (omega (arith, h, k))
