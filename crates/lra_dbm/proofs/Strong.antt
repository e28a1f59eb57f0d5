-- A closed matrix, with its unary entries rounded and each entry strengthened, is tightly closed.
use Rattle.std.proofs.Common.{◌≡◌, ℕ, ℤ, pos, negsuc, Option, None, Some, refl, sym, ap, ◌∙◌, arith}
use Rattle.std.proofs.lemmas.Int.{ints}
use Rattle.std.specs.{Int.int_div_euclid, Prelude.◌+ℤ◌, Prelude.◌≤ℤ◌}
use Rattle.lra_dbm.specs.{Entry.◌⊑◌, Entry.◌⊞◌, Entry.half_of, Tight.Entries, Tight.opposite}
use Rattle.lra_dbm.proofs.EntryLemmas.{le_refl, le_same, le_trans, le_antisym, sum_grows, sum_swap, sum_assoc, lesser_left, lesser_right, le_lesser, le_sums, around}
use Rattle.lra_dbm.proofs.Ways.{IsTightlyClosed, IsClosed, strengthened}

pub opposite_twice : (i : ℕ) → opposite (opposite i) ≡ i
unfolding opposite
opposite_twice i = omega arith

-- the half rounded down: h + h is a or a - 1
pub half_bounds : (a : ℤ) → ((int_div_euclid a (pos 2) +ℤ int_div_euclid a (pos 2)) ≤ℤ a) × (a ≤ℤ ((int_div_euclid a (pos 2) +ℤ int_div_euclid a (pos 2)) +ℤ pos 1))
half_bounds (pos n) = (omega (arith, ints), omega (arith, ints))
half_bounds (negsuc n) = (omega (arith, ints), omega (arith, ints))

pub half_below : (a : Option ℤ) → half_of a ⊞ half_of a ⊑ a
half_below None = record { at_most = tt }
half_below (Some a) = record { at_most = (half_bounds a).0 }

-- a bound of a path a + b + a, halved
half_path : (u a b : Option ℤ) → u ⊑ (a ⊞ b) ⊞ a → half_of u ⊑ a ⊞ half_of b
half_path u None b h = record { at_most = tt }
half_path u (Some a) None h = record { at_most = tt }
half_path None (Some a) (Some b) h = absurd h.at_most
half_path (Some u) (Some a) (Some b) h = let p = h.at_most in let q = half_bounds u in let r = half_bounds b in record { at_most = omega (arith, ints) }

pub halves_grow : (a b : Option ℤ) → a ⊑ b → half_of a ⊑ half_of b
halves_grow a None h = record { at_most = tt }
halves_grow None (Some b) h = absurd h.at_most
halves_grow (Some a) (Some b) h = let p = h.at_most in let q = half_bounds a in let r = half_bounds b in record { at_most = omega (arith, ints) }

swap_middle : (a b c : Option ℤ) → a ⊞ (b ⊞ c) ≡ b ⊞ (a ⊞ c)
swap_middle a b c = sym (sum_assoc a b c) ∙ ap (λ z. z ⊞ c) (sum_swap a b) ∙ sum_assoc b a c

module _ (m : Entries) (closed : IsClosed m) (room : (i : ℕ) → Some (pos 0) ⊑ half_of (m i (opposite i)) ⊞ half_of (m (opposite i) i)) where
  half : ℕ → Option ℤ
  half i = half_of (m i (opposite i))

  -- the bound of i by way of p
  by_way : (i p : ℕ) → half_of (m i (opposite i)) ⊑ m i p ⊞ half_of (m p (opposite p))
  by_way i p =
      half_path (m i (opposite i)) (m i p) (m p (opposite p))
      (le_trans (closed.triangle i (opposite p) (opposite i))
      (sum_grows (closed.triangle i p (opposite p)) (le_same (sym (closed.coherent i p)))))

  by_way_to : (p j : ℕ) → half_of (m (opposite j) j) ⊑ half_of (m (opposite p) p) ⊞ m p j
  by_way_to p j =
      let way = by_way (opposite j) (opposite p) in
      let way' : half_of (m (opposite j) j) ⊑ m (opposite j) (opposite p) ⊞ half_of (m (opposite p) p) = rw (opposite_twice j, opposite_twice p) at way in
      le_trans way' (le_trans (sum_grows (le_same (sym (closed.coherent p j))) (le_refl (half_of (m (opposite p) p)))) (le_same (sum_swap (m p j) (half_of (m (opposite p) p)))))

  pub strengthened_closed : IsTightlyClosed (strengthened m) (λ i. half_of (m i (opposite i)))
  strengthened_closed = record {
    diagonal = λ i. le_antisym (le_trans (lesser_left (m i i) (half_of (m i (opposite i)) ⊞ half_of (m (opposite i) i))) (le_same (closed.diagonal i)))
        (le_lesser (le_same (sym (closed.diagonal i))) (room i));
    coherent = λ i j. rw (opposite_twice i, opposite_twice j, closed.coherent i j, sum_swap (half_of (m i (opposite i))) (half_of (m (opposite j) j))) refl;
    triangle = λ i p j.
        let old = lesser_left (m i j) (half_of (m i (opposite i)) ⊞ half_of (m (opposite j) j)) in
        let new = lesser_right (m i j) (half_of (m i (opposite i)) ⊞ half_of (m (opposite j) j)) in
        let hi = half_of (m i (opposite i)) in
        let hp = half_of (m p (opposite p)) in
        let gp = half_of (m (opposite p) p) in
        let gj = half_of (m (opposite j) j) in
        le_sums (strengthened m i j) (m i p) (hi ⊞ gp) (m p j) (hp ⊞ gj)
        (le_trans old (closed.triangle i p j))
        (le_trans new (le_trans (sum_grows (by_way i p) (le_refl gj)) (le_same (sum_assoc (m i p) hp gj))))
        (le_trans new (le_trans (sum_grows (le_refl hi) (by_way_to p j)) (le_same (sym (sum_assoc hi gp (m p j))))))
        (le_trans new (around hi gp hp gj (le_trans (room p) (le_same (sum_swap hp gp)))));
    twice = λ i. rw (opposite_twice i) (le_antisym (lesser_right (m i (opposite i)) (half_of (m i (opposite i)) ⊞ half_of (m i (opposite i))))
        (le_lesser (half_below (m i (opposite i))) (le_refl (half_of (m i (opposite i)) ⊞ half_of (m i (opposite i))))));
    strong = λ i j. rw (opposite_twice j) (lesser_right (m i j) (half_of (m i (opposite i)) ⊞ half_of (m (opposite j) j)));
  }
