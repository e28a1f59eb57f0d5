-- Rows with one entry other than 0: how long they are, what stands in them, and their products.
use Rattle.std.proofs.Common.{◌≡◌, ◌≢◌, ℕ, zero, suc, ◌+◌, ◌<◌, List, [], ◌∷◌, length, replicate, refl, ap, ◌∙◌, arith, pos, negsuc, ℤ, ◌*ℤ◌}
use Rattle.std.proofs.{lemmas.Int.ints, lemmas.List.length-set, lemmas.List.Elements.All-cons, lemmas.List.Elements.All-nil}
use Rattle.std.specs.{List.All, Prelude.slice_set}
use Rattle.lra_linear_spec.specs.{OperationStrain.unit_row, Range.InRange, Vectors.dot, Vectors.entry, Vectors.product, Vectors.zeros}
use Rattle.lra_linear_spec.proofs.{Lines.zeros_length, Lines.entry_zeros, OneSpelling.dot_zeros, Products.entry_set_same, Products.entry_set_other}

-- ---- rows of zeros, as std makes them and as they are defined
pub zeros_are : (n : ℕ) → replicate n (pos 0) ≡ zeros n
zeros_are zero = refl
zeros_are (suc n) = ap (λ (x : List ℤ). pos 0 ∷ x) (zeros_are n)

pub zeros_more : (n : ℕ) → replicate (n + 1) (pos 0) ≡ zeros (suc n)
zeros_more n = zeros_are (n + 1) ∙ ap zeros (plus_one n)
  where
    plus_one : (n : ℕ) → n + 1 ≡ suc n
    plus_one n = omega arith

-- ---- numbers of the range
pub set_in_range : (xs : List ℤ) (k : ℕ) (v : ℤ) → All InRange xs → InRange v → All InRange (slice_set xs k v)
set_in_range [] k v h p = h
set_in_range (x ∷ xs) zero v h p = All-cons InRange v xs p (λ k d. λ l. h (suc k) d (omega arith))
set_in_range (x ∷ xs) (suc k) v h p = All-cons InRange x (slice_set xs k v) (h 0 x (omega arith)) (set_in_range xs k v (λ k d. λ l. h (suc k) d (omega arith)) p)

pub zeros_in_range : (n : ℕ) → All InRange (replicate n (pos 0))
zeros_in_range zero = All-nil InRange
zeros_in_range (suc n) = All-cons InRange (pos 0) (replicate n (pos 0)) (omega (arith, ints)) (zeros_in_range n)

-- ---- unit rows
pub unit_length : (n j : ℕ) → length (unit_row n j) ≡ suc n
unit_length n j = length-set (zeros (suc n)) j (pos 1) ∙ zeros_length (suc n)

pub unit_here : (n j : ℕ) → j < suc n → entry (unit_row n j) j ≡ pos 1
unit_here n j h = entry_set_same (zeros (suc n)) j (pos 1) (omega (arith, h, zeros_length (suc n)))

pub unit_other : (n j i : ℕ) → i ≢ j → entry (unit_row n j) i ≡ pos 0
unit_other n j i h = entry_set_other (zeros (suc n)) j i (pos 1) h ∙ entry_zeros (suc n) i

-- ---- products: the factor times the entry
zero_times : (x : ℤ) → pos 0 *ℤ x ≡ pos 0
zero_times x = grind (arith, ints)

pub entry_dot : (n k : ℕ) (f : ℤ) (u : ℕ → ℤ) → k < n → dot (slice_set (zeros n) k f) u ≡ f *ℤ u k
entry_dot zero k f u h = absurd (omega arith)
entry_dot (suc n) zero f u h = let p = dot_zeros n (λ j. u (suc j)) in omega (arith, ints)
entry_dot (suc n) (suc k) f u h = let p = entry_dot n k f (λ j. u (suc j)) (omega arith) in let z = zero_times (u 0) in omega (arith, ints)

pub entry_product : (n k : ℕ) (f : ℤ) (x : List ℤ) → k < n → product (slice_set (zeros n) k f) x ≡ f *ℤ entry x k
entry_product n k f x h = entry_dot n k f (entry x) h

one_times : (c : ℤ) → pos 1 *ℤ c ≡ c
one_times (pos c) = grind (arith, ints)
one_times (negsuc c) = grind (arith, ints)

-- the product with a unit row is the entry
pub unit_product : (n k : ℕ) (x : List ℤ) → k < suc n → product (unit_row n k) x ≡ entry x k
unit_product n k x h = entry_dot (suc n) k (pos 1) (entry x) h ∙ one_times (entry x k)
