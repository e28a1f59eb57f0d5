-- Entries, opposite rows, and rows divided by the greatest number that divides each entry.
use Rattle.std.proofs.Common.{arith, ◌≡◌, ℕ, zero, suc, ◌<◌, ◌≤◌, ◌*◌, ◌/◌, List, [], ◌∷◌, length, map, get_or, take, drop, ◌++◌, append-nil, ap, sym, ◌∙◌, refl, subst, pos, negsuc, ℤ, ◌*ℤ◌, neg_ℤ}
use Rattle.std.proofs.Common.{◌≤ℤ◌, ◌<ℤ◌, unsigned_abs, int_div, inl, inr}
use Rattle.std.proofs.{Math.Nat.mul-div_cancel', Math.Nat.dvd_of_mul-dvd-mul_right, Math.Nat.mul-dvd-mul_right, Math.Nat.one-dvd, lemmas.Int.ints, lemmas.Int.unsigned_abs-mul, lemmas.List.drop_all}
use Rattle.std.proofs.{lemmas.List.take_all, lemmas.List.Elements.All-nil, lemmas.List.Elements.All-cons, lemmas.List.Elements.All-head, lemmas.List.Elements.All-tail, lemmas.Nat.Gcd.dvd_antisymm}
use Rattle.std.specs.{Int.◌∣◌, List.All, List.refill}
use Rattle.lra_linear_spec.specs.{LowestTerms.IsPrimitive, LowestTerms.IsLowest, Range.InRange, Vectors.entry, Vectors.negated}
use Rattle.lra_linear_spec.proofs.{LowestTerms.signed_quotient, LowestTerms.signed_quotient_is, Ring.v, Ring.◌⊗◌, Ring.ring}
use Rattle.lra_row.specs.Rows.{IsRowGcd}

pub entry_at : (xs : List ℤ) (j : ℕ) → entry xs j ≡ get_or xs j (pos 0)
entry_at [] j = refl
entry_at (x ∷ xs) zero = refl
entry_at (x ∷ xs) (suc j) = entry_at xs j

opposite_in_range : (z : ℤ) → InRange z → InRange (neg_ℤ z)
opposite_in_range (pos zero) h = h
opposite_in_range (pos (suc n)) h = h
opposite_in_range (negsuc n) h = h

pub negated_in_range : (xs : List ℤ) → All InRange xs → All InRange (negated xs)
negated_in_range [] h = All-nil InRange
negated_in_range (x ∷ xs) h = All-cons InRange (neg_ℤ x) (negated xs) (opposite_in_range x (All-head InRange x xs h)) (negated_in_range xs (All-tail InRange x xs h))

-- ---- division by a positive number that divides each entry
pub quotient_signed : (x : ℤ) (g : ℕ) → int_div x (pos g) ≡ signed_quotient g x
quotient_signed (pos n) g = refl
quotient_signed (negsuc n) g = refl

smaller : (n g : ℕ) → 0 < g → n / g ≤ n
smaller n zero h = absurd (omega arith)
smaller n (suc g) h = omega arith

quotient_in_range : (x : ℤ) (g : ℕ) → 0 < g → InRange x → InRange (int_div x (pos g))
quotient_in_range (pos n) g h k = omega (arith, smaller n g h, k)
quotient_in_range (negsuc n) g h k = opposite_in_range (pos (suc n / g)) (omega (arith, smaller (suc n) g h, k))

abbrev pub divided : ℤ → List ℤ → List ℤ
divided d xs = map (λ x. int_div x d) xs

all_divided : (xs : List ℤ) (g : ℕ) → 0 < g → All InRange xs → All InRange (divided (pos g) xs)
all_divided [] g h k = All-nil InRange
all_divided (x ∷ xs) g h k = All-cons InRange (int_div x (pos g)) (divided (pos g) xs) (quotient_in_range x g h (All-head InRange x xs k)) (all_divided xs g h (All-tail InRange x xs k))

pub divided_in_range : (xs : List ℤ) (d : ℤ) → pos 1 <ℤ d → All InRange xs → All InRange (divided d xs)
divided_in_range xs (pos g) h k = all_divided xs g (omega (arith, ints, h)) k
divided_in_range xs (negsuc g) h k = absurd (omega (arith, ints, h))

pub divided_times : (xs : List ℤ) (g : ℕ) → ((j : ℕ) → g ∣ unsigned_abs (entry xs j)) → (j : ℕ) → pos g *ℤ entry (divided (pos g) xs) j ≡ entry xs j
divided_times [] g d j = ring (v (pos g) ⊗ v (pos 0)) (v (pos 0)) (omega arith)
divided_times (x ∷ xs) g d zero = ap (λ q. pos g *ℤ q) (quotient_signed x g) ∙ signed_quotient_is g x (d 0)
divided_times (x ∷ xs) g d (suc j) = divided_times xs g (λ i. d (suc i)) j

divided_length : (xs : List ℤ) (d : ℤ) → length (divided d xs) ≡ length xs
divided_length [] d = refl
divided_length (x ∷ xs) d = ap suc (divided_length xs d)

divided_primitive : (xs : List ℤ) (g : ℕ) → 0 < g → IsRowGcd xs g → IsPrimitive (divided (pos g) xs)
divided_primitive xs zero p h d k = absurd (omega arith)
divided_primitive xs (suc g) p h d k =
    dvd_antisymm (dvd_of_mul-dvd-mul_right {k = suc g} d (omega arith) (subst (λ (n : ℕ). (d * suc g) ∣ n) (sym (one g))
    (h.greatest (d * suc g) (λ j. subst (λ (n : ℕ). (d * suc g) ∣ n) (size j) (mul-dvd-mul_right d (k j) (suc g)))))) (one-dvd d)
  where
    one : (g : ℕ) → 1 * suc g ≡ suc g
    one g = omega arith

    size : (j : ℕ) → unsigned_abs (entry (divided (pos (suc g)) xs) j) * suc g ≡ unsigned_abs (entry xs j)
    size j = let e = sym (unsigned_abs-mul (pos (suc g)) (entry (divided (pos (suc g)) xs) j)) ∙ ap unsigned_abs (divided_times xs (suc g) h.divides j) in omega (arith, e)

pub lowest_divided : (xs : List ℤ) (d : ℤ) → IsRowGcd xs (unsigned_abs d) → pos 1 <ℤ d → IsLowest xs (divided d xs)
lowest_divided xs (pos g) h k = record {
  same_length = divided_length xs (pos g);
  times = g;
  positive = omega (arith, ints, k);
  is_multiple = divided_times xs g h.divides;
  lowest = inl (divided_primitive xs g (omega (arith, ints, k)) h);
}
lowest_divided xs (negsuc g) h k = absurd (omega (arith, ints, k))

-- a row that only 0 or 1 divides stays as it is
pub lowest_same : (xs : List ℤ) (d : ℤ) → IsRowGcd xs (unsigned_abs d) → pos 0 ≤ℤ d → ¬ (pos 1 <ℤ d) → IsLowest xs xs
lowest_same xs (pos zero) h p k = record {
  same_length = refl;
  times = 1;
  positive = omega arith;
  is_multiple = λ j. ring (v (pos 1) ⊗ v (entry xs j)) (v (entry xs j)) (omega arith);
  lowest = inr (λ j. nothing (entry xs j) (h.divides j));
}
  where
    nothing : (z : ℤ) → 0 ∣ unsigned_abs z → z ≡ pos 0
    nothing z d = let e = mul-div_cancel' 0 d in omega (arith, ints, e)
lowest_same xs (pos (suc zero)) h p k = record {
  same_length = refl;
  times = 1;
  positive = omega arith;
  is_multiple = λ j. ring (v (pos 1) ⊗ v (entry xs j)) (v (entry xs j)) (omega arith);
  lowest = inl (λ d e. dvd_antisymm (h.greatest d e) (one-dvd d));
}
lowest_same xs (pos (suc (suc g))) h p k = absurd (k (omega (arith, ints)))
lowest_same xs (negsuc g) h p k = absurd (omega (arith, ints, p))

-- ---- the entries written back through a slice
pub refilled : (xs ws : List ℤ) (d : ℤ) → ws ≡ divided d xs → refill (length xs) xs ws ≡ divided d xs
refilled xs ws d e =
    let n : length ws ≡ length xs = ap length e ∙ divided_length xs d in
    let rest : drop (length ws) xs ≡ [] = drop_all (length ws) xs (omega (arith, n)) in
    ap (λ r. take (length xs) (ws ++ r)) rest ∙ ap (take (length xs)) (append-nil ws) ∙ take_all (length xs) ws (omega (arith, n)) ∙ e

pub ruleset lowest_rules = (lowest_divided, lowest_same, divided_in_range)
