-- The greatest number that divides each entry of a row (Euclid), rows in lowest terms, and that two rows in lowest terms that are
-- positive multiples of one another are equal.
use Rattle.std.proofs.Common.{List, [], ap, arith, inl, inr, length, neg_ℤ, negsuc, pos, refl, subst, suc, sym, unsigned_abs, zero, ℕ, ℤ, ◌%◌, ◌*ℤ◌, ◌*◌, ◌+◌, ◌/◌, ◌<◌, ◌∙◌, ◌∷◌, ◌≡◌, ◌≤◌}
use Rattle.std.proofs.Math.Nat.{dvd-add_iff_right, dvd-mod_iff, dvd-mul_right, dvd-mul_right_of_dvd, dvd_of_mul-dvd-mul_right, mul-div_cancel', mul-dvd-mul_right, one-dvd}
use Rattle.std.proofs.{lemmas.Int.ints, lemmas.Int.unsigned_abs-mul, lemmas.Nat.Gcd.dvd-zero, lemmas.Nat.Gcd.dvd_antisymm, lemmas.Nat.Gcd.dvd_refl, lemmas.Nat.Gcd.dvd_trans}
use Rattle.std.specs.Int.{◌∣◌}
use Rattle.lra_linear_spec.specs.{LowestTerms.IsLowest, LowestTerms.IsPrimitive, Vectors.entry}
use Rattle.lra_linear_spec.proofs.Ring.{ring, v, ⊖, ◌⊗◌}

-- ---- the greatest common divisor, with what it is a multiple of
record CommonDivisor (a b : ℕ) : Type 0 where
  g : ℕ
  left : g ∣ a
  right : g ∣ b
  scaled : (m d : ℕ) → d ∣ (m * a) → d ∣ (m * b) → d ∣ (m * g)

-- by division with remainder
euclid : (fuel a b : ℕ) → b ≤ fuel → CommonDivisor a b
euclid zero a b h = record { g = a; left = dvd_refl a; right = let e : 0 ≡ b = omega arith in subst (λ (n : ℕ). a ∣ n) e (dvd-zero a); scaled = λ m d p q. p }
euclid (suc fuel) a zero h = record { g = a; left = dvd_refl a; right = dvd-zero a; scaled = λ m d p q. p }
euclid (suc fuel) a (suc n) h =
    let b = suc n in
    let low : a % b < b = omega arith in
    let i = euclid fuel b (a % b) (omega arith) in
    record {
      g = i.g;
      left = (dvd-mod_iff i.g {m = a} {n = b} i.left).0 i.right;
      right = i.left;
      scaled = λ m d p q.
          let e : m * a ≡ (m * b) * (a / b) + m * (a % b) = whole m a n in
          i.scaled m d q ((dvd-add_iff_right d {m = (m * b) * (a / b)} {n = m * (a % b)} (dvd-mul_right_of_dvd d q (a / b))).1 (subst (λ (z : ℕ). d ∣ z) e p));
    }
  where
    spread : (m n q r : ℕ) → m * (suc n * q + r) ≡ (m * suc n) * q + m * r
    spread m n q r = omega arith

    whole : (m a n : ℕ) → m * a ≡ (m * suc n) * (a / suc n) + m * (a % suc n)
    whole m a n = let e : a ≡ suc n * (a / suc n) + a % suc n = omega arith in ap (λ z. m * z) e ∙ spread m n (a / suc n) (a % suc n)

-- g divides each entry of the row, and is a multiple of all that do
pub record RowDivisor (r : List ℤ) : Type 0 where
  pub g : ℕ
  pub divides : (j : ℕ) → g ∣ unsigned_abs (entry r j)
  pub scaled : (m d : ℕ) → ((j : ℕ) → d ∣ (m * unsigned_abs (entry r j))) → d ∣ (m * g)

-- by recursion on the row
pub row_divisor : (r : List ℤ) → RowDivisor r
row_divisor [] = record { g = 0; divides = λ j. dvd-zero 0; scaled = λ m d h. h 0 }
row_divisor (x ∷ xs) =
    let i = row_divisor xs in
    let e = euclid i.g (unsigned_abs x) i.g (omega arith) in
    record {
      g = e.g;
      divides = all x xs e.g e.left (λ j. dvd_trans e.g e.right (i.divides j));
      scaled = λ m d h. e.scaled m d (h 0) (i.scaled m d (λ j. h (suc j)));
    }
  where
    all : (x : ℤ) (xs : List ℤ) (g : ℕ) → g ∣ unsigned_abs x → ((j : ℕ) → g ∣ unsigned_abs (entry xs j)) → (j : ℕ) → g ∣ unsigned_abs (entry (x ∷ xs) j)
    all x xs g h k zero = h
    all x xs g h k (suc j) = k j

-- ---- one row for one direction
-- a row with an entry 1 is in lowest terms
pub primitive_at : (r : List ℤ) (j : ℕ) → unsigned_abs (entry r j) ≡ 1 → IsPrimitive r
primitive_at r j e d h = dvd_antisymm (subst (λ (n : ℕ). d ∣ n) e (h j)) (one-dvd d)

-- what divides each entry of a multiple of a row in lowest terms divides the factor
divides_factor : (m n : ℕ) (r : List ℤ) → IsPrimitive r → ((j : ℕ) → n ∣ (m * unsigned_abs (entry r j))) → n ∣ m
divides_factor m n r p h =
    let g = row_divisor r in
    let e : g.g ≡ 1 = p g.g g.divides in
    let k : m * g.g ≡ m = ap (λ z. m * z) e ∙ omega arith in
    subst (λ (z : ℕ). n ∣ z) k (g.scaled m n h)

-- multiples of two rows in lowest terms that are the same have the same factor
pub same_multiple : (m n : ℕ) (t r : List ℤ) → IsPrimitive t → IsPrimitive r → ((j : ℕ) → pos m *ℤ entry t j ≡ pos n *ℤ entry r j) → m ≡ n
same_multiple m n t r pt pr e =
    let abs : (j : ℕ) → m * unsigned_abs (entry t j) ≡ n * unsigned_abs (entry r j) = λ j. sym (unsigned_abs-mul (pos m) (entry t j)) ∙ ap unsigned_abs (e j) ∙ unsigned_abs-mul (pos n) (entry r j) in
    dvd_antisymm
    (divides_factor n m r pr (λ j. subst (λ (z : ℕ). m ∣ z) (abs j) (dvd-mul_right m (unsigned_abs (entry t j)))))
    (divides_factor m n t pt (λ j. subst (λ (z : ℕ). n ∣ z) (sym (abs j)) (dvd-mul_right n (unsigned_abs (entry r j)))))

-- ---- lowest terms exist
abbrev pub signed_quotient : ℕ → ℤ → ℤ
signed_quotient g (pos n) = pos (n / g)
signed_quotient g (negsuc n) = neg_ℤ (pos (suc n / g))

-- the quotient of a multiple
pub signed_quotient_is : (g : ℕ) (z : ℤ) → g ∣ unsigned_abs z → pos g *ℤ signed_quotient g z ≡ z
signed_quotient_is g (pos n) d = ring (v (pos g) ⊗ v (pos (n / g))) (v (pos (g * (n / g)))) (omega arith) ∙ ap pos (mul-div_cancel' g d)
signed_quotient_is g (negsuc n) d = ring (v (pos g) ⊗ ⊖ (v (pos (suc n / g)))) (⊖ (v (pos (g * (suc n / g))))) (omega arith) ∙ ap (λ k. neg_ℤ (pos k)) (mul-div_cancel' g d)

abbrev quotients : ℕ → List ℤ → List ℤ
quotients g [] = []
quotients g (x ∷ xs) = signed_quotient g x ∷ quotients g xs

quotients_are : (g : ℕ) (xs : List ℤ) → ((j : ℕ) → g ∣ unsigned_abs (entry xs j)) → (j : ℕ) → pos g *ℤ entry (quotients g xs) j ≡ entry xs j
quotients_are g [] d j = ring (v (pos g) ⊗ v (pos 0)) (v (pos 0)) (omega arith)
quotients_are g (x ∷ xs) d zero = signed_quotient_is g x (d 0)
quotients_are g (x ∷ xs) d (suc j) = quotients_are g xs (λ i. d (suc i)) j

quotients_length : (g : ℕ) (xs : List ℤ) → length (quotients g xs) ≡ length xs
quotients_length g [] = refl
quotients_length g (x ∷ xs) = ap suc (quotients_length g xs)

-- divided by the greatest divisor, a row is in lowest terms
by_divisor : (r : List ℤ) (g : ℕ) → ((j : ℕ) → g ∣ unsigned_abs (entry r j)) → ((m d : ℕ) → ((j : ℕ) → d ∣ (m * unsigned_abs (entry r j))) → d ∣ (m * g)) → (t : List ℤ) × IsLowest r t
by_divisor r zero divides scaled = (
  r,
  record {
    same_length = refl;
    times = 1;
    positive = omega arith;
    is_multiple = λ j. ring (v (pos 1) ⊗ v (entry r j)) (v (entry r j)) (omega arith);
    lowest = inr (λ j. nothing (entry r j) (divides j));
  },
)
  where
    nothing : (z : ℤ) → 0 ∣ unsigned_abs z → z ≡ pos 0
    nothing z d = let e = mul-div_cancel' 0 d in omega (arith, ints, e)
by_divisor r (suc g) divides scaled = (
  quotients (suc g) r,
  record {
    same_length = quotients_length (suc g) r;
    times = suc g;
    positive = omega arith;
    is_multiple = quotients_are (suc g) r divides;
    lowest = inl (λ d h. dvd_antisymm (dvd_of_mul-dvd-mul_right {k = suc g} d (omega arith)
        (scaled 1 (d * suc g) (λ j. subst (λ (n : ℕ). (d * suc g) ∣ n) (size r g divides j) (mul-dvd-mul_right d (h j) (suc g))))) (one-dvd d));
  },
)
  where
    size : (r : List ℤ) (g : ℕ) → ((j : ℕ) → suc g ∣ unsigned_abs (entry r j)) → (j : ℕ) → unsigned_abs (entry (quotients (suc g) r) j) * suc g ≡ 1 * unsigned_abs (entry r j)
    size r g d j = let e = sym (unsigned_abs-mul (pos (suc g)) (entry (quotients (suc g) r) j)) ∙ ap unsigned_abs (quotients_are (suc g) r d j) in omega (arith, e)

-- each row has lowest terms
pub lowest_exists : (r : List ℤ) → (t : List ℤ) × IsLowest r t
lowest_exists r = let g = row_divisor r in by_divisor r g.g g.divides g.scaled
