-- The greatest number that divides each entry of a row, one entry at a time.
use Rattle.std.proofs.Common.{ℕ, zero, suc, ◌<◌, ◌≤◌, ◌+◌, List, [], ◌∷◌, length, drop, get_or, add-one, subst, sym, pos, ℤ, unsigned_abs}
use Rattle.std.proofs.{Math.Nat.one-dvd, Math.Seq.drop-cons, lemmas.List.drop_all, lemmas.Nat.Gcd.dvd_refl, lemmas.Nat.Gcd.dvd-zero, lemmas.Nat.Gcd.dvd_trans}
use Rattle.std.specs.Int.{◌∣◌, IsGcd}
use Rattle.lra_linear_spec.specs.Vectors.{entry}
use Rattle.lra_row.specs.Rows.{IsRowGcd}

-- the greatest number that divides m and each entry
pub record IsGcdWith (m : ℕ) (row : List ℤ) (g : ℕ) : Type 0 where
  pub first : g ∣ m
  pub divides : (j : ℕ) → g ∣ unsigned_abs (entry row j)
  pub greatest : (d : ℕ) → d ∣ m → ((j : ℕ) → d ∣ unsigned_abs (entry row j)) → d ∣ g

pub divisor_start : (row : List ℤ) (g : ℕ) → IsGcdWith 0 row g → IsRowGcd row g
divisor_start row g h = record { divides = h.divides; greatest = λ d k. h.greatest d (dvd-zero d) k }

pub divisor_end : (m : ℕ) → IsGcdWith m [] m
divisor_end m = record { first = dvd_refl m; divides = λ j. dvd-zero m; greatest = λ d h k. h }

pub divisor_taken : (m n : ℕ) (x : ℤ) (row : List ℤ) (g : ℕ) → IsGcd m (unsigned_abs x) n → IsGcdWith n row g → IsGcdWith m (x ∷ row) g
divisor_taken m n x row g h k = record {
  first = dvd_trans g k.first h.0;
  divides = all;
  greatest = λ d p q. k.greatest d (h.2 d p (q 0)) (λ j. q (suc j));
}
  where
    all : (j : ℕ) → g ∣ unsigned_abs (entry (x ∷ row) j)
    all zero = dvd_trans g k.first h.1
    all (suc j) = k.divides j

pub divisor_further : (m n i : ℕ) (row : List ℤ) → i < length row → IsGcd m (unsigned_abs (get_or row i (pos 0))) n → ((g : ℕ) → IsGcdWith m (drop i row) g → IsGcdWith 0 row g) → (g : ℕ) →
    IsGcdWith n (drop (i + 1) row) g → IsGcdWith 0 row g
divisor_further m n i row h k all g d =
    all g (subst (λ (r : List ℤ). IsGcdWith m r g) (sym (drop-cons row i (pos 0) h)) (divisor_taken m n (get_or row i (pos 0)) (drop (suc i) row) g k
    (subst (λ (j : ℕ). IsGcdWith n (drop j row) g) (add-one i) d)))

pub divisor_whole : (m i : ℕ) (row : List ℤ) → length row ≤ i → ((g : ℕ) → IsGcdWith m (drop i row) g → IsGcdWith 0 row g) → IsRowGcd row m
divisor_whole m i row h all = divisor_start row m (all m (subst (λ (r : List ℤ). IsGcdWith m r m) (sym (drop_all i row h)) (divisor_end m)))

-- once the divisor is 1, it is that of the whole row
one_with : (row : List ℤ) → IsGcdWith 1 row 1
one_with row = record { first = dvd_refl 1; divides = λ j. one-dvd (unsigned_abs (entry row j)); greatest = λ d h k. h }

pub divisor_one : (i : ℕ) (row : List ℤ) → ((g : ℕ) → IsGcdWith 1 (drop i row) g → IsGcdWith 0 row g) → IsRowGcd row 1
divisor_one i row all = divisor_start row 1 (all 1 (one_with (drop i row)))
