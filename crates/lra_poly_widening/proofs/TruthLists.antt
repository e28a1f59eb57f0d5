-- Lists of truth values that are the same.
use Rattle.std.proofs.Common.{Bool, List, [], arith, false, length, refl, suc, sym, true, zero, ℕ, ◌<◌, ◌≤◌, ◌∷◌, ◌≡◌}
use Rattle.std.specs.{Bool.beq, List.list_any, Prelude.◌&&◌, Prelude.◌↔◌, Prelude.IsTrue, Prelude.slice_index_or}
use Rattle.lra_poly_widening.specs.Crates.lra_bits.TruthValues.{IsSubset, value_at}
use Rattle.lra_poly_widening.specs.Saturated.{same_values}

-- ---- the same
pub same_from : (xs ys : List Bool) → length xs ≡ length ys → IsSubset xs ys → IsSubset ys xs → true ≡ same_values xs ys
same_from [] ys n a b = refl
same_from (x ∷ xs) [] n a b = refl
same_from (x ∷ xs) (y ∷ ys) n a b = by_values x y (a 0) (b 0) (same_from xs ys (omega (arith, n)) (λ k. a (suc k)) (λ k. b (suc k)))
  where
    by_values : (x y : Bool) → (x ≡ true → y ≡ true) → (y ≡ true → x ≡ true) → true ≡ same_values xs ys → true ≡ (beq x y && same_values xs ys)
    by_values true true f g i = i
    by_values false false f g i = i
    by_values true false f g i = let e = f refl in cc
    by_values false true f g i = let e = g refl in cc

same_there : (xs ys : List Bool) → length xs ≡ length ys → true ≡ same_values xs ys → IsSubset xs ys
same_there [] ys n e k h = cc
same_there (x ∷ xs) [] n e k h = absurd (omega (arith, n))
same_there (x ∷ xs) (y ∷ ys) n e k h = by_values x y k h e (λ i j. same_there xs ys (omega (arith, n)) i j)
  where
    by_values : (x y : Bool) (k : ℕ) → value_at (x ∷ xs) k ≡ true → true ≡ (beq x y && same_values xs ys) → (true ≡ same_values xs ys → (j : ℕ) → value_at xs j ≡ true → value_at ys j ≡ true) →
        value_at (y ∷ ys) k ≡ true
    by_values true true zero h e rest = refl
    by_values true true (suc k) h e rest = rest e k h
    by_values false false zero h e rest = h
    by_values false false (suc k) h e rest = rest e k h
    by_values true false k h e rest = cc
    by_values false true k h e rest = cc

same_back : (xs ys : List Bool) → length xs ≡ length ys → true ≡ same_values xs ys → IsSubset ys xs
same_back [] [] n e k h = h
same_back [] (y ∷ ys) n e k h = absurd (omega (arith, n))
same_back (x ∷ xs) [] n e k h = absurd (omega (arith, n))
same_back (x ∷ xs) (y ∷ ys) n e k h = by_values x y k h e (λ i j. same_back xs ys (omega (arith, n)) i j)
  where
    by_values : (x y : Bool) (k : ℕ) → value_at (y ∷ ys) k ≡ true → true ≡ (beq x y && same_values xs ys) → (true ≡ same_values xs ys → (j : ℕ) → value_at ys j ≡ true → value_at xs j ≡ true) →
        value_at (x ∷ xs) k ≡ true
    by_values true true zero h e rest = refl
    by_values true true (suc k) h e rest = rest e k h
    by_values false false zero h e rest = h
    by_values false false (suc k) h e rest = rest e k h
    by_values true false k h e rest = cc
    by_values false true k h e rest = cc

-- as the code states it: the first is within the second, and the other way round
pub second_decides : (xs ys : List Bool) (b : Bool) → length xs ≡ length ys → IsSubset xs ys → IsTrue b ↔ IsSubset ys xs → b ≡ same_values xs ys
second_decides xs ys b n a h = by_value b (same_values xs ys) refl refl
  where
    by_value : (c d : Bool) → b ≡ c → same_values xs ys ≡ d → b ≡ d
    by_value true true e f = e
    by_value false false e f = e
    by_value true false e f = let g = same_from xs ys n a (h.0 e) in cc
    by_value false true e f = let g = h.1 (same_back xs ys n (sym f)) in cc

pub first_decides : (xs ys : List Bool) (b : Bool) → length xs ≡ length ys → b ≡ false → IsTrue b ↔ IsSubset xs ys → b ≡ same_values xs ys
first_decides xs ys b n q h = by_value (same_values xs ys) refl
  where
    by_value : (d : Bool) → same_values xs ys ≡ d → b ≡ d
    by_value false f = q
    by_value true f = let g = h.1 (same_there xs ys n (sym f)) in cc

-- ---- none of the first ones is the same
pub none_among : {A : Type 0} (t : A → Bool) (xs : List A) (k : ℕ) → length xs ≤ k → ((j : ℕ) (d : A) → j < k → j < length xs → t (slice_index_or xs j d) ≡ false) → false ≡ list_any t xs
none_among t [] k h all = refl
none_among t (x ∷ xs) zero h all = absurd (omega (arith, h))
none_among t (x ∷ xs) (suc k) h all = rw (all 0 x (omega arith) (omega arith)) (none_among t xs k (omega (arith, h)) (λ j d l m. all (suc j) d (omega (arith, l)) (omega (arith, m))))
