-- Lists of which all values are true.
use Rattle.std.proofs.Common.{Bool, List, [], ap, arith, false, inl, inr, length, refl, replicate, set, suc, sym, true, zero, ℕ, ◌+◌, ◌<◌, ◌≤◌, ◌∙◌, ◌∷◌, ◌≡◌}
use Rattle.std.proofs.lemmas.Bool.{cases_lt}
use Rattle.std.proofs.lemmas.List.{ext_get_or, get_or-replicate, get_or-set_other, get_or-set_same, length-replicate, length-set}
use Rattle.lra_bits.specs.TruthValues.{are_true, value_at}

pub one_false : (xs : List Bool) (k : ℕ) → k < length xs → false ≡ value_at xs k → false ≡ are_true xs
one_false [] k h e = absurd (omega (arith, h))
one_false (false ∷ xs) k h e = refl
one_false (true ∷ xs) zero h e = cc
one_false (true ∷ xs) (suc k) h e = one_false xs k (omega (arith, h)) e

pub none_false : (xs : List Bool) (k : ℕ) → length xs ≤ k → ((j : ℕ) → j < k → value_at xs j ≡ true) → true ≡ are_true xs
none_false [] k h all = refl
none_false (x ∷ xs) zero h all = absurd (omega (arith, h))
none_false (x ∷ xs) (suc k) h all = rw (all 0 (omega arith)) (none_false xs k (omega (arith, h)) (λ j l. all (suc j) (omega (arith, l))))

pub each_true : (xs : List Bool) → true ≡ are_true xs → (k : ℕ) → k < length xs → value_at xs k ≡ true
each_true [] e k h = absurd (omega (arith, h))
each_true (false ∷ xs) e k h = cc
each_true (true ∷ xs) e zero h = refl
each_true (true ∷ xs) e (suc k) h = each_true xs e k (omega (arith, h))

-- ---- values set to true one after the other
-- of n truth values the first k are true
abbrev pub AreTrueTo : ℕ → ℕ → List Bool → Type 0
AreTrueTo n k values = (length values ≡ n) × ((j : ℕ) → j < k → value_at values j ≡ true)

pub true_more : (n k : ℕ) (values new : List Bool) → k < n → new ≡ set values k true → AreTrueTo n k values → AreTrueTo n (k + 1) new
true_more n k values new h s i = (
  ap length s ∙ length-set values k true ∙ i.0,
  λ j m. ap (λ (x : List Bool). value_at x j) s ∙ elim (cases_lt j k) [
    | inl l ↦ get_or-set_other values k j true false (λ q. omega (arith, q, l)) ∙ i.1 j l
    | inr g ↦
        let q : j ≡ k = omega (arith, g, m) in
        ap (λ x. value_at (set values k true) x) q ∙ get_or-set_same values k true false (omega (arith, h, i.0))
  ],
)

pub true_all : (n k : ℕ) (values : List Bool) → n ≤ k → AreTrueTo n k values → values ≡ replicate n true
true_all n k values h i = ext_get_or false values (replicate n true) (i.0 ∙ sym (length-replicate n true))
    (λ j m. i.1 j (omega (arith, m, h, i.0)) ∙ sym (get_or-replicate n j true false (omega (arith, m, i.0))))
