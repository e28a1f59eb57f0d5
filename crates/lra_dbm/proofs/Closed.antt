-- The five steps close.
use Rattle.std.proofs.Common.{◌≡◌, ℕ, ◌+◌, ◌*◌, ◌-◌, ◌/◌, ◌%◌, ◌<◌, ◌≤◌, inl, inr, ℤ, pos, List, length, Option, None, Some, refl, sym, ap, ◌∙◌, arith, false}
use Rattle.std.proofs.lemmas.Bool.{or_parts}
use Rattle.std.proofs.{lemmas.Bool.Decides.eqb_tells, lemmas.Int.ints}
use Rattle.std.specs.Prelude.{◌+ℤ◌, ◌-ℤ◌, neg_ℤ}
use Rattle.lra_dbm.specs.Crates.lra_linear_spec.Vectors.{entry}
use Rattle.lra_dbm.specs.Steps.{Progress, shortest, rounded, all_rounded, strengthened_at, row_strengthened, all_strengthened}
use Rattle.lra_dbm.specs.Tight.{Entries, opposite, signed_value, with_sign, IsStore}
use Rattle.lra_dbm.specs.{Cells.Cells, Cells.cell, Cells.outside, Cells.entries, Cells.IsMatrix, Entry.◌⊑◌, Entry.◌⊞◌, Entry.half_of, Entry.within_range, Entry.passes_range}
use Rattle.lra_dbm.proofs.Lowering.{Comes, comes_here, comes_on, lowered_comes, lowered_at, lowered_kept, in_turn_keeps, in_turn_each, enter_matrix, enter_lowers, enter_at, enter_kept, half_fits}
use Rattle.lra_dbm.proofs.Lowering.{within_range_fits, le_within_range, within_range_same}
use Rattle.lra_dbm.proofs.{CellLemmas.opposite_below, CellLemmas.entries_inside, CellLemmas.inside_or_out, EntryLemmas.le_same, EntryLemmas.le_none, EntryLemmas.le_trans, EntryLemmas.sum_grows}
use Rattle.lra_dbm.proofs.{Paths.shortest_kept, Stores.parity_of, Strong.opposite_twice, Strong.half_bounds, Strong.halves_grow, Ways.IsTightlyClosed, Ways.Below}

-- ---- a store as a tightly closed matrix

pub signed_opposite : (s : List ℤ) (i : ℕ) → signed_value s (opposite i) ≡ neg_ℤ (signed_value s i)
unfolding signed_value opposite
signed_opposite s i = elim (parity_of (i % 2) (omega arith))
    as (λ _. with_sign ((i + 1 - 2 * (i % 2)) % 2) (entry s ((i + 1 - 2 * (i % 2)) / 2)) ≡ neg_ℤ (with_sign (i % 2) (entry s (i / 2)))) [
      | inl e ↦ (let r : (i + 1 - 2 * (i % 2)) % 2 ≡ 1 = omega arith in let q : (i + 1 - 2 * (i % 2)) / 2 ≡ i / 2 = omega arith in rw (r, q, e) refl)
      | inr e ↦ (let r : (i + 1 - 2 * (i % 2)) % 2 ≡ 0 = omega arith in let q : (i + 1 - 2 * (i % 2)) / 2 ≡ i / 2 = omega arith in rw (r, q, e) (twice_negated (entry s (i / 2))))
    ]
  where
    twice_negated : (x : ℤ) → x ≡ neg_ℤ (neg_ℤ x)
    twice_negated x = omega (arith, ints)

abbrev pub difference : List ℤ → Entries
difference s i j = Some (signed_value s j -ℤ signed_value s i)

pub difference_closed : (s : List ℤ) → IsTightlyClosed (difference s) (λ i. Some (neg_ℤ (signed_value s i)))
difference_closed s = record {
  diagonal = λ i. ap Some (omega (arith, ints));
  coherent = λ i j. rw (signed_opposite s i, signed_opposite s j) (ap Some (omega (arith, ints)));
  triangle = λ i p j. record { at_most = omega (arith, ints) };
  twice = λ i. rw (signed_opposite s i) refl;
  strong = λ i j. rw (signed_opposite s j) (record { at_most = omega (arith, ints) });
}

pub store_below : (n : ℕ) (cells : Cells) (s : List ℤ) → IsStore n (entries n cells) s → Below (difference s) (entries n cells)
store_below n cells s meets = record {
  at = λ i j. elim (inside_or_out n i j) as (λ _. difference s i j ⊑ entries n cells i j) [
    | inl h ↦ meets.below i j h.0 h.1
    | inr out ↦ rw (out cells) (elim (eqb_tells i j) as (λ _. difference s i j ⊑ outside i j) [
      | inl e ↦ rw (e.0, e.1) (record { at_most = omega (arith, ints) })
      | inr e ↦ rw e.0 (le_none (difference s i j))
    ])
  ];
}

pub below_store : (n : ℕ) (cells : Cells) (s : List ℤ) → length s ≡ n → Below (difference s) (entries n cells) → IsStore n (entries n cells) s
below_store n cells s e b = record { width = e; below = λ i j h k. b.at i j }

-- ---- rounding and strengthening

even_below : (h x : Option ℤ) → h ⊞ h ⊑ x → h ⊞ h ⊑ half_of x ⊞ half_of x
even_below h None k = le_none (h ⊞ h)
even_below None (Some x) k = absurd k.at_most
even_below (Some h) (Some x) k = let p = k.at_most in let q = half_bounds x in record { at_most = omega (arith, ints) }

sum_below : (c h g x y : Option ℤ) → c ⊑ h ⊞ g → h ⊞ h ⊑ x → g ⊞ g ⊑ y → c ⊑ half_of (x ⊞ y)
sum_below c h g None y d a b = le_none c
sum_below c h g (Some x) None d a b = le_none c
sum_below c None g (Some x) (Some y) d a b = absurd a.at_most
sum_below c (Some h) None (Some x) (Some y) d a b = absurd b.at_most
sum_below None (Some h) (Some g) (Some x) (Some y) d a b = absurd d.at_most
sum_below (Some c) (Some h) (Some g) (Some x) (Some y) d a b =
    let p = d.at_most in let q = a.at_most in let r = b.at_most in let e = half_bounds (x +ℤ y) in record { at_most = omega (arith, ints) }

half_sum : (h g x y : Option ℤ) → x ⊑ h ⊞ h → y ⊑ g ⊞ g → half_of (x ⊞ y) ⊑ h ⊞ g
half_sum None g x y a b = le_none (half_of (x ⊞ y))
half_sum (Some h) None x y a b = le_none (half_of (x ⊞ y))
half_sum (Some h) (Some g) None y a b = absurd a.at_most
half_sum (Some h) (Some g) (Some x) None a b = absurd b.at_most
half_sum (Some h) (Some g) (Some x) (Some y) a b = let q = a.at_most in let r = b.at_most in let e = half_bounds (x +ℤ y) in record { at_most = omega (arith, ints) }

pub half_room : (h g x y : Option ℤ) → x ⊑ h ⊞ h → y ⊑ g ⊞ g → Some (pos 0) ⊑ x ⊞ y → Some (pos 0) ⊑ h ⊞ g
half_room None g x y a b c = le_none (Some (pos 0))
half_room (Some h) None x y a b c = le_none (Some (pos 0))
half_room (Some h) (Some g) None y a b c = absurd a.at_most
half_room (Some h) (Some g) (Some x) None a b c = absurd b.at_most
half_room (Some h) (Some g) (Some x) (Some y) a b c = let q = a.at_most in let r = b.at_most in let s = c.at_most in record { at_most = omega (arith, ints) }

module _ (n : ℕ) where
  pub rounded_comes : (i : ℕ) (p : Progress) → i < 2 * n → IsMatrix n p.cells → Comes n p (rounded i p)
  rounded_comes i p h is = lowered_comes n i (opposite i) (half_of (cell p.cells i (opposite i)) ⊞ half_of (cell p.cells i (opposite i))) p h (opposite_below n i h) is

  pub all_rounded_comes : (k : ℕ) (p : Progress) → k ≤ 2 * n → IsMatrix n p.cells → Comes n p (all_rounded k p)
  unfolding all_rounded
  all_rounded_comes k p most is = in_turn_keeps (λ q. Comes n p q) rounded k (λ i q l h. comes_on h (rounded_comes i q (omega arith) h.is)) p (comes_here n p is)

  pub all_rounded_at : (p : Progress) → IsMatrix n p.cells → (all_rounded (2 * n) p).flagged ≡ false → (i : ℕ) → i < 2 * n
      → entries n (all_rounded (2 * n) p).cells i (opposite i) ⊑ half_of (entries n p.cells i (opposite i)) ⊞ half_of (entries n p.cells i (opposite i))
  unfolding all_rounded
  all_rounded_at p is f i hi =
      in_turn_each (λ q. Comes n p q) (λ i q. q.flagged ≡ false
      → entries n q.cells i (opposite i) ⊑ half_of (entries n p.cells i (opposite i)) ⊞ half_of (entries n p.cells i (opposite i))) rounded (2 * n)
      (λ i q l h. comes_on h (rounded_comes i q l h.is))
      (λ i q l h f. let seen = entries_inside n q.cells i (opposite i) l (opposite_below n i l) in
      let fall = halves_grow (entries n q.cells i (opposite i)) (entries n p.cells i (opposite i)) (h.lowers.at i (opposite i)) in
      le_trans (lowered_at n i (opposite i) (half_of (cell q.cells i (opposite i)) ⊞ half_of (cell q.cells i (opposite i))) q l (opposite_below n i l) h.is f)
      (le_trans (le_same (ap (λ z. half_of z ⊞ half_of z) (sym seen))) (sum_grows fall fall)))
      (λ d q l h i g f. let next = rounded_comes d q l h.is in le_trans (next.lowers.at i (opposite i)) (g (next.flags f)))
      p (comes_here n p is) i hi f

  pub strengthened_comes : (i j : ℕ) (p : Progress) → i < 2 * n → j < 2 * n → IsMatrix n p.cells → Comes n p (strengthened_at i j p)
  strengthened_comes i j p h k is =
      let sum = cell p.cells i (opposite i) ⊞ cell p.cells (opposite j) j in
      record {
        is = enter_matrix n i j (half_of (within_range sum)) p.cells h k is (half_fits (within_range sum) (within_range_fits sum));
        lowers = enter_lowers n i j (half_of (within_range sum)) p.cells h k is;
        flags = λ f. (or_parts p.flagged (passes_range sum) f).0;
      }

  row_strengthened_comes : (i : ℕ) (p : Progress) → i < 2 * n → IsMatrix n p.cells → Comes n p (row_strengthened i (2 * n) p)
  row_strengthened_comes i p hi is = in_turn_keeps (λ q. Comes n p q) (strengthened_at i) (2 * n) (λ j q l h. comes_on h (strengthened_comes i j q hi l h.is)) p (comes_here n p is)

  pub all_strengthened_comes : (k : ℕ) (p : Progress) → k ≤ 2 * n → IsMatrix n p.cells → Comes n p (all_strengthened n k p)
  unfolding all_strengthened
  all_strengthened_comes k p most is = in_turn_keeps (λ q. Comes n p q) (λ i. row_strengthened i (2 * n)) k
      (λ i q l h. comes_on h (row_strengthened_comes i q (omega arith) h.is)) p (comes_here n p is)

  -- with bounds that are twice the numbers h, each entry comes below the sum of two
  module _ (half : ℕ → Option ℤ) (p : Progress) (is : IsMatrix n p.cells) (even : (i : ℕ) → i < 2 * n → entries n p.cells i (opposite i) ⊑ half i ⊞ half i) where
    row_upper : (i : ℕ) (q : Progress) → i < 2 * n → Comes n p q → (j : ℕ) → j < 2 * n → (row_strengthened i (2 * n) q).flagged ≡ false
        → entries n (row_strengthened i (2 * n) q).cells i j ⊑ half i ⊞ half (opposite j)
    row_upper i q hi c j hj f =
        in_turn_each (λ q. Comes n p q) (λ j q. q.flagged ≡ false → entries n q.cells i j ⊑ half i ⊞ half (opposite j)) (strengthened_at i) (2 * n)
        (λ j q l h. comes_on h (strengthened_comes i j q hi l h.is))
        (λ j q l h f. let oj = opposite_below n j l in
        let x = entries_inside n q.cells i (opposite i) hi (opposite_below n i hi) in
        let y = entries_inside n q.cells (opposite j) j oj l in
        let sum = cell q.cells i (opposite i) ⊞ cell q.cells (opposite j) j in
        le_trans (enter_at n i j (half_of (within_range sum)) q.cells hi l h.is)
        (le_trans (le_same (ap half_of (within_range_same sum (or_parts q.flagged (passes_range sum) f).1)))
        (half_sum (half i) (half (opposite j)) (cell q.cells i (opposite i)) (cell q.cells (opposite j) j)
        (le_trans (le_same (sym x)) (le_trans (h.lowers.at i (opposite i)) (even i hi)))
        (le_trans (le_same (sym y ∙ ap (entries n q.cells (opposite j)) (sym (opposite_twice j)))) (le_trans (h.lowers.at (opposite j) (opposite (opposite j))) (even (opposite j) oj))))))
        (λ d q l h j g f. let next = strengthened_comes i d q hi l h.is in le_trans (next.lowers.at i j) (g (next.flags f)))
        q c j hj f

    pub all_upper : (all_strengthened n (2 * n) p).flagged ≡ false → (i j : ℕ) → i < 2 * n → j < 2 * n → entries n (all_strengthened n (2 * n) p).cells i j ⊑ half i ⊞ half (opposite j)
    unfolding all_strengthened
    all_upper f i j hi hj =
        in_turn_each (λ q. Comes n p q) (λ i q. q.flagged ≡ false → (j : ℕ) → j < 2 * n → entries n q.cells i j ⊑ half i ⊞ half (opposite j)) (λ i. row_strengthened i (2 * n)) (2 * n)
        (λ i q l h. comes_on h (row_strengthened_comes i q l h.is))
        (λ i q l h f j m. row_upper i q l h j m f)
        (λ d q l h i g f j m. let next = row_strengthened_comes d q l h.is in le_trans (next.lowers.at i j) (g (next.flags f) j m))
        p (comes_here n p is) i hi f j hj

  -- a tightly closed matrix below stays below
  module _ (c : Entries) (half : ℕ → Option ℤ) (tight : IsTightlyClosed c half) where
    twice_to : (j : ℕ) → c (opposite j) j ≡ half (opposite j) ⊞ half (opposite j)
    twice_to j = ap (c (opposite j)) (sym (opposite_twice j)) ∙ tight.twice (opposite j)

    rounded_kept : (i : ℕ) (p : Progress) → i < 2 * n → IsMatrix n p.cells → Below c (entries n p.cells) → Below c (entries n (rounded i p).cells)
    rounded_kept i p h is b =
        let x = cell p.cells i (opposite i) in
        let negative_absurd : c i (opposite i) ⊑ half_of x ⊞ half_of x =
        le_trans (le_same (tight.twice i)) (even_below (half i) x (le_trans (le_same (sym (tight.twice i))) (le_trans (b.at i (opposite i))
        (le_same (entries_inside n p.cells i (opposite i) h (opposite_below n i h)))))) in
        lowered_kept n i (opposite i) (half_of x ⊞ half_of x) p h (opposite_below n i h) is c b negative_absurd (le_trans (le_same (ap (λ z. c z (opposite i)) (opposite_twice i))) negative_absurd)

    pub all_rounded_kept : (k : ℕ) (p : Progress) → k ≤ 2 * n → IsMatrix n p.cells → Below c (entries n p.cells) → Below c (entries n (all_rounded k p).cells)
    unfolding all_rounded
    all_rounded_kept k p most is b = (in_turn_keeps (λ q. Comes n p q × Below c (entries n q.cells)) rounded k
        (λ i q l h. (comes_on h.0 (rounded_comes i q (omega arith) h.0.is), rounded_kept i q (omega arith) h.0.is h.1)) p (comes_here n p is, b)).1

    strengthened_kept : (i j : ℕ) (p : Progress) → i < 2 * n → j < 2 * n → IsMatrix n p.cells → Below c (entries n p.cells) → Below c (entries n (strengthened_at i j p).cells)
    strengthened_kept i j p hi hj is b =
        let oj = opposite_below n j hj in
        let x = cell p.cells i (opposite i) in
        let y = cell p.cells (opposite j) j in
        let negative_absurd : c i j ⊑ half_of (within_range (x ⊞ y)) =
        le_trans (sum_below (c i j) (half i) (half (opposite j)) x y (tight.strong i j)
        (le_trans (le_same (sym (tight.twice i))) (le_trans (b.at i (opposite i)) (le_same (entries_inside n p.cells i (opposite i) hi (opposite_below n i hi)))))
        (le_trans (le_same (sym (twice_to j))) (le_trans (b.at (opposite j) j) (le_same (entries_inside n p.cells (opposite j) j oj hj)))))
        (halves_grow (x ⊞ y) (within_range (x ⊞ y)) (le_within_range (x ⊞ y))) in
        enter_kept n i j (half_of (within_range (x ⊞ y))) p.cells hi hj is c b negative_absurd (le_trans (le_same (sym (tight.coherent i j))) negative_absurd)

    row_strengthened_kept : (i : ℕ) (p : Progress) → i < 2 * n → IsMatrix n p.cells → Below c (entries n p.cells) → Below c (entries n (row_strengthened i (2 * n) p).cells)
    row_strengthened_kept i p hi is b = (in_turn_keeps (λ q. Comes n p q × Below c (entries n q.cells)) (strengthened_at i) (2 * n)
        (λ j q l h. (comes_on h.0 (strengthened_comes i j q hi l h.0.is), strengthened_kept i j q hi l h.0.is h.1)) p (comes_here n p is, b)).1

    pub all_strengthened_kept : (k : ℕ) (p : Progress) → k ≤ 2 * n → IsMatrix n p.cells → Below c (entries n p.cells) → Below c (entries n (all_strengthened n k p).cells)
    unfolding all_strengthened
    all_strengthened_kept k p most is b = (in_turn_keeps (λ q. Comes n p q × Below c (entries n q.cells)) (λ i. row_strengthened i (2 * n)) k
        (λ i q l h. (comes_on h.0 (row_strengthened_comes i q (omega arith) h.0.is), row_strengthened_kept i q (omega arith) h.0.is h.1)) p (comes_here n p is, b)).1

    pub shortest_below : (p : Progress) → IsMatrix n p.cells → Below c (entries n p.cells) → Below c (entries n (shortest n (2 * n) p).cells)
    shortest_below p is b = shortest_kept n c (λ q. record { triangle = λ i j. tight.triangle i q j }) (2 * n) p (omega arith) is b
