-- Closing gives the tight matrix with the same stores.
use Rattle.std.proofs.Common.{◌≡◌, ℕ, zero, suc, ◌*◌, ◌<◌, ◌≤◌, inl, inr, ℤ, pos, List, Option, None, Some, refl, sym, ap, ◌∙◌, arith, Bool, true, false, cond, subst}
use Rattle.std.proofs.lemmas.Bool.{or_parts}
use Rattle.std.proofs.{Math.Path.fun_ext, lemmas.Bool.Decides.leb_tells, lemmas.Int.ints}
use Rattle.std.specs.Prelude.{neg_ℤ}
use borrow.Author.Count.{below_more}
use Rattle.lra_dbm.specs.Steps.{Progress, shortest, any_below, is_negative, negative_diagonal, all_rounded, bounds_sum, crossed, crossing_passes, all_strengthened}
use Rattle.lra_dbm.specs.{Cells.Cells, Cells.cell, Cells.entries, Cells.IsMatrix, Closing.AfterClosing, Closing.after_crossing, Closing.found_empty, Closing.from_rounded, Closing.closing}
use Rattle.lra_dbm.specs.{Closing.Closes, Entry.◌⊑◌, Entry.◌⊞◌, Entry.half_of, Entry.within_range, Entry.passes_range, Tight.Entries, Tight.opposite, Tight.signed_value, Tight.IsStore, Tight.IsTight}
use Rattle.lra_dbm.proofs.Closed.{difference, difference_closed, store_below, below_store, half_room, all_rounded_comes, all_rounded_at, all_rounded_kept, all_strengthened_comes}
use Rattle.lra_dbm.proofs.Closed.{all_strengthened_kept, all_upper, shortest_below}
use Rattle.lra_dbm.proofs.EntryLemmas.{le_same, le_none, le_trans, le_antisym, sum_grows, sum_swap, lesser_left, le_lesser}
use Rattle.lra_dbm.proofs.{CellLemmas.opposite_below, CellLemmas.entries_inside, Diagonal.all_rounded_diagonal, Diagonal.strengthened_diagonal, Lowering.Comes, Lowering.comes_on}
use Rattle.lra_dbm.proofs.{Lowering.le_within_range, Lowering.within_range_same, Paths.beyond, Paths.beyond_self, Paths.any_true, Paths.negative_absurd, Paths.shortest_comes}
use Rattle.lra_dbm.proofs.{Paths.shortest_closed, Stores.tightly_closed_is_tight, Strong.opposite_twice, Strong.strengthened_closed, Ways.IsTightlyClosed, Ways.Below, Ways.IsClosed, Ways.strengthened}

any_false : (f : ℕ → Bool) (k : ℕ) → any_below f k ≡ false → (i : ℕ) → i < k → f i ≡ false
any_false f zero h i l = absurd (omega arith)
any_false f (suc k) h i l =
    let parts = or_parts (any_below f k) (f k) h in
    below_more (λ i. f i ≡ false) k (λ i m. any_false f k parts.0 i m) parts.1 i (omega arith)

not_negative : (x : Option ℤ) → is_negative x ≡ false → Some (pos 0) ⊑ x
not_negative None h = le_none (Some (pos 0))
not_negative (Some v) h = record { at_most = grind (arith, ints) }

opposite_other : (i : ℕ) → i ≡ opposite i → ⊥
unfolding opposite
opposite_other i e = absurd (omega arith)

module _ (n : ℕ) (p : Progress) (is : IsMatrix n p.cells) where
  -- the entries after shortest paths, of which none on the diagonal is negative_absurd
  module _ (diagonal : negative_diagonal (shortest n (2 * n) p).cells (2 * n) ≡ false) (calm : (shortest n (2 * n) p).flagged ≡ false) where
    room_diagonal : (i : ℕ) → Some (pos 0) ⊑ entries n (shortest n (2 * n) p).cells i i
    room_diagonal i = elim (leb_tells (suc i) (2 * n)) as (λ _. Some (pos 0) ⊑ entries n (shortest n (2 * n) p).cells i i) [
      | inl l ↦ le_trans (not_negative (cell (shortest n (2 * n) p).cells i i) (any_false (λ i. is_negative (cell (shortest n (2 * n) p).cells i i)) (2 * n) diagonal i l.1))
          (le_same (sym (entries_inside n (shortest n (2 * n) p).cells i i l.1 l.1)))
      | inr l ↦ le_same (sym (beyond_self n (shortest n (2 * n) p).cells i (omega (arith, l.1))))
    ]

    pub now_closed : IsClosed (entries n (shortest n (2 * n) p).cells)
    now_closed = shortest_closed n p is calm room_diagonal

-- from a closed matrix
module _ (n : ℕ) (p : Progress) (is : IsMatrix n p.cells) (closed : IsClosed (entries n p.cells)) where
  abbrev bound : ℕ → Option ℤ
  bound i = half_of (entries n p.cells i (opposite i))

  bound_to : (j : ℕ) → bound (opposite j) ≡ half_of (entries n p.cells (opposite j) j)
  bound_to j = ap (λ z. half_of (entries n p.cells (opposite j) z)) (opposite_twice j)

  bound_beyond : (i : ℕ) → 2 * n ≤ i → bound i ≡ None
  bound_beyond i far = ap half_of (beyond n p.cells i (opposite i) (inl far) (opposite_other i))

  to_beyond : (j : ℕ) → 2 * n ≤ j → half_of (entries n p.cells (opposite j) j) ≡ None
  to_beyond j far = ap half_of (beyond n p.cells (opposite j) j (inr far) (λ e. opposite_other j (sym e)))

  module _ (uncrossed : crossed (all_rounded (2 * n) p).cells (2 * n) ≡ false)
      (calm : (all_strengthened n (2 * n) (after_crossing n (all_rounded (2 * n) p))).flagged ≡ false) where
    three : Comes n p (all_rounded (2 * n) p)
    three = all_rounded_comes n (2 * n) p (omega arith) is

    five : Comes n (after_crossing n (all_rounded (2 * n) p)) (all_strengthened n (2 * n) (after_crossing n (all_rounded (2 * n) p)))
    five = all_strengthened_comes n (2 * n) (after_crossing n (all_rounded (2 * n) p)) (omega arith) three.is

    calm_sums : ((all_rounded (2 * n) p).flagged ≡ false) × (crossing_passes (all_rounded (2 * n) p).cells (2 * n) ≡ false)
    calm_sums = or_parts (all_rounded (2 * n) p).flagged (crossing_passes (all_rounded (2 * n) p).cells (2 * n)) (five.flags calm)

    even : (i : ℕ) → i < 2 * n → entries n (all_rounded (2 * n) p).cells i (opposite i) ⊑ bound i ⊞ bound i
    even i h = all_rounded_at n p is calm_sums.0 i h

    sum_room : (i : ℕ) → i < 2 * n → Some (pos 0) ⊑ entries n (all_rounded (2 * n) p).cells i (opposite i) ⊞ entries n (all_rounded (2 * n) p).cells (opposite i) i
    sum_room i h =
        let cells = (all_rounded (2 * n) p).cells in
        let oi = opposite_below n i h in
        let in_range = any_false (λ i. passes_range (bounds_sum cells i)) (2 * n) calm_sums.1 i h in
        let above = not_negative (within_range (bounds_sum cells i)) (any_false (λ i. is_negative (within_range (bounds_sum cells i))) (2 * n) uncrossed i h) in
        rw (entries_inside n cells i (opposite i) h oi, entries_inside n cells (opposite i) i oi h) (le_trans above (le_same (within_range_same (bounds_sum cells i) in_range)))

    room : (i : ℕ) → Some (pos 0) ⊑ half_of (entries n p.cells i (opposite i)) ⊞ half_of (entries n p.cells (opposite i) i)
    room i = elim (leb_tells (suc i) (2 * n)) as (λ _. Some (pos 0) ⊑ half_of (entries n p.cells i (opposite i)) ⊞ half_of (entries n p.cells (opposite i) i)) [
      | inl l ↦ le_trans (half_room (bound i) (bound (opposite i)) (entries n (all_rounded (2 * n) p).cells i (opposite i)) (entries n (all_rounded (2 * n) p).cells (opposite i) i)
          (even i l.1) (le_trans (le_same (ap (entries n (all_rounded (2 * n) p).cells (opposite i)) (sym (opposite_twice i)))) (even (opposite i) (opposite_below n i l.1))) (sum_room i l.1))
          (le_same (ap (λ z. bound i ⊞ z) (bound_to i)))
      | inr l ↦ (let far : 2 * n ≤ i = omega (arith, l.1) in rw (bound_beyond i far) (le_none (Some (pos 0))))
    ]

    final : IsTightlyClosed (strengthened (entries n p.cells)) bound
    final = strengthened_closed (entries n p.cells) closed room

    lower : Below (strengthened (entries n p.cells)) (entries n (all_strengthened n (2 * n) (after_crossing n (all_rounded (2 * n) p))).cells)
    lower = all_strengthened_kept n (strengthened (entries n p.cells)) bound final (2 * n) (after_crossing n (all_rounded (2 * n) p)) (omega arith) three.is
        (all_rounded_kept n (strengthened (entries n p.cells)) bound final (2 * n) p (omega arith) is
        (record { at = λ i j. lesser_left (entries n p.cells i j) (bound i ⊞ half_of (entries n p.cells (opposite j) j)) }))

    under_sum : (i j : ℕ) → entries n (all_strengthened n (2 * n) (after_crossing n (all_rounded (2 * n) p))).cells i j ⊑ bound i ⊞ half_of (entries n p.cells (opposite j) j)
    under_sum i j = elim (leb_tells (suc i) (2 * n))
        as (λ _. entries n (all_strengthened n (2 * n) (after_crossing n (all_rounded (2 * n) p))).cells i j ⊑ bound i ⊞ half_of (entries n p.cells (opposite j) j)) [
          | inr out ↦ (let far : 2 * n ≤ i = omega (arith, out.1) in le_trans (le_none (entries n (all_strengthened n (2 * n) (after_crossing n (all_rounded (2 * n) p))).cells i j))
              (le_same (ap (λ z. z ⊞ half_of (entries n p.cells (opposite j) j)) (sym (bound_beyond i far)))))
          | inl hi ↦ elim (leb_tells (suc j) (2 * n))
              as (λ _. entries n (all_strengthened n (2 * n) (after_crossing n (all_rounded (2 * n) p))).cells i j ⊑ bound i ⊞ half_of (entries n p.cells (opposite j) j)) [
                | inr out ↦ (let far : 2 * n ≤ j = omega (arith, out.1) in le_trans (le_none (entries n (all_strengthened n (2 * n) (after_crossing n (all_rounded (2 * n) p))).cells i j))
                    (le_same (sym (ap (λ z. bound i ⊞ z) (to_beyond j far) ∙ sum_swap (bound i) None))))
                | inl hj ↦ le_trans (all_upper n bound (after_crossing n (all_rounded (2 * n) p)) three.is even calm i j hi.1 hj.1) (le_same (ap (λ z. bound i ⊞ z) (bound_to j)))
              ]
        ]

    upper : Below (entries n (all_strengthened n (2 * n) (after_crossing n (all_rounded (2 * n) p))).cells) (strengthened (entries n p.cells))
    upper = record { at = λ i j. le_lesser (le_trans (five.lowers.at i j) (three.lowers.at i j)) (under_sum i j) }

    pub tight_after : IsTight n (entries n (all_strengthened n (2 * n) (after_crossing n (all_rounded (2 * n) p))).cells)
    tight_after =
        let same : strengthened (entries n p.cells) ≡ entries n (all_strengthened n (2 * n) (after_crossing n (all_rounded (2 * n) p))).cells =
        fun_ext (λ i. fun_ext (λ j. le_antisym (lower.at i j) (upper.at i j))) in
        subst (λ (m : Entries). IsTight n m) same (tightly_closed_is_tight (strengthened (entries n p.cells)) bound final n)

-- ---- the answers

module _ (n : ℕ) (cells : Cells) (is : IsMatrix n cells) where
  abbrev start : Progress
  start = record { cells = cells; flagged = false }

  abbrev paths : Progress
  paths = shortest n (2 * n) start

  abbrev even_bounds : Progress
  even_bounds = all_rounded (2 * n) paths

  abbrev strong : Progress
  strong = all_strengthened n (2 * n) (after_crossing n even_bounds)

  to_paths : Comes n start paths
  to_paths = shortest_comes n (2 * n) start (omega arith) is

  to_even : Comes n paths even_bounds
  to_even = all_rounded_comes n (2 * n) paths (omega arith) to_paths.is

  to_strong : Comes n (after_crossing n even_bounds) strong
  to_strong = all_strengthened_comes n (2 * n) (after_crossing n even_bounds) (omega arith) to_even.is

  module _ (s : List ℤ) (meets : IsStore n (entries n cells) s) where
    on_paths : Below (difference s) (entries n paths.cells)
    on_paths = shortest_below n (difference s) (λ i. Some (neg_ℤ (signed_value s i))) (difference_closed s) start is (store_below n cells s meets)

    on_even : Below (difference s) (entries n even_bounds.cells)
    on_even = all_rounded_kept n (difference s) (λ i. Some (neg_ℤ (signed_value s i))) (difference_closed s) (2 * n) paths (omega arith) to_paths.is on_paths

    on_strong : Below (difference s) (entries n strong.cells)
    on_strong = all_strengthened_kept n (difference s) (λ i. Some (neg_ℤ (signed_value s i))) (difference_closed s) (2 * n) (after_crossing n even_bounds) (omega arith) to_even.is on_even

    no_low : negative_diagonal paths.cells (2 * n) ≡ true → ⊥
    no_low e =
        let r = any_true (λ i. is_negative (cell paths.cells i i)) (2 * n) e in
        negative_absurd (cell paths.cells r.0 r.0) r.2 (le_trans (record { at_most = omega (arith, ints) }) (le_trans (on_paths.at r.0 r.0) (le_same (entries_inside n paths.cells r.0 r.0 r.1 r.1))))

    no_crossing : crossed even_bounds.cells (2 * n) ≡ true → ⊥
    no_crossing e =
        let r = any_true (λ i. is_negative (within_range (bounds_sum even_bounds.cells i))) (2 * n) e in
        let o = opposite_below n r.0 r.1 in
        let sum : Some (pos 0) ⊑ difference s r.0 (opposite r.0) ⊞ difference s (opposite r.0) r.0 = record { at_most = omega (arith, ints) } in
        negative_absurd (within_range (bounds_sum even_bounds.cells r.0)) r.2 (le_trans sum (le_trans (sum_grows
        (le_trans (on_even.at r.0 (opposite r.0)) (le_same (entries_inside n even_bounds.cells r.0 (opposite r.0) r.1 o)))
        (le_trans (on_even.at (opposite r.0) r.0) (le_same (entries_inside n even_bounds.cells (opposite r.0) r.0 o r.1))))
        (le_within_range (bounds_sum even_bounds.cells r.0))))

  as_before : (after : Cells) → Below (entries n after) (entries n cells) → (s : List ℤ) → IsStore n (entries n after) s → IsStore n (entries n cells) s
  as_before after b s m = record { width = m.width; below = λ i j h k. le_trans (m.below i j h k) (b.at i j) }

  by_test : (P : AfterClosing → Type 0) (b : Bool) (x y : AfterClosing) → (b ≡ true → P x) → (b ≡ false → P y) → P (cond b x y)
  by_test P true x y f g = f refl
  by_test P false x y f g = g refl

  -- after all steps the diagonal is 0
  zero_after : negative_diagonal paths.cells (2 * n) ≡ false → crossed even_bounds.cells (2 * n) ≡ false → (i : ℕ) → entries n strong.cells i i ≡ Some (pos 0)
  zero_after e g i = elim (leb_tells (suc i) (2 * n)) [
    | inr out ↦ beyond_self n strong.cells i (let q = out.1 in omega arith)
    | inl l ↦ le_antisym (to_strong.is.diagonal i) (strengthened_diagonal n (after_crossing n even_bounds) (λ j h. not_negative (within_range (bounds_sum even_bounds.cells j))
        (any_false (λ k. is_negative (within_range (bounds_sum even_bounds.cells k))) (2 * n) g j h)) to_even.is
        (λ a h. le_trans (not_negative (cell paths.cells a a) (any_false (λ k. is_negative (cell paths.cells k k)) (2 * n) e a h))
        (le_same (sym (entries_inside n paths.cells a a h h) ∙ sym (all_rounded_diagonal n (2 * n) paths (omega arith) to_paths.is a)))) i l.1)
  ]

  pub closing_closes : IsMatrix n (closing n cells).progress.cells × Closes n cells (closing n cells).progress.cells (closing n cells).empty (closing n cells).progress.flagged
  closing_closes =
      by_test (λ r. IsMatrix n r.progress.cells × Closes n cells r.progress.cells r.empty r.progress.flagged) (negative_diagonal paths.cells (2 * n))
      (found_empty paths) (from_rounded n even_bounds)
      (λ e. (
        to_paths.is,
        record {
          none = λ f s m. no_low s m e;
          exact = λ f. refl;
          kept = λ s m. below_store n paths.cells s m.width (on_paths s m);
          same = as_before paths.cells to_paths.lowers;
          diagonal = λ f. absurd (cc);
          tight = λ f. absurd (cc);
        },
      ))
      (λ e. by_test (λ r. IsMatrix n r.progress.cells × Closes n cells r.progress.cells r.empty r.progress.flagged) (crossed even_bounds.cells (2 * n))
      (found_empty even_bounds) (record { empty = false; progress = strong })
      (λ g. (
        to_even.is,
        record {
          none = λ f s m. no_crossing s m g;
          exact = λ f. refl;
          kept = λ s m. below_store n even_bounds.cells s m.width (on_even s m);
          same = as_before even_bounds.cells (comes_on to_paths to_even).lowers;
          diagonal = λ f. absurd (cc);
          tight = λ f. absurd (cc);
        },
      ))
      (λ g. (
        to_strong.is,
        record {
          none = λ f. absurd (cc);
          exact = λ f. absurd (cc);
          kept = λ s m. below_store n strong.cells s m.width (on_strong s m);
          same = as_before strong.cells (record { at = λ i j. le_trans (to_strong.lowers.at i j) ((comes_on to_paths to_even).lowers.at i j) });
          diagonal = λ f. zero_after e g;
          tight = λ f calm. let calm_even = (or_parts even_bounds.flagged (crossing_passes even_bounds.cells (2 * n)) (to_strong.flags calm)).0 in
              tight_after n paths to_paths.is (now_closed n start is e (to_even.flags calm_even)) g calm;
        },
      )))
