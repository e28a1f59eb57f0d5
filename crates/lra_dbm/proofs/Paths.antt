-- The loops over pivots, rows and columns, with coherent writes, give shortest paths.
use Rattle.std.proofs.Common.{◌≡◌, ◌≢◌, ℕ, zero, suc, ◌*◌, ◌<◌, ◌≤◌, ◌⊎◌, inl, inr, ℤ, pos, Option, None, Some, refl, sym, ap, ◌∙◌, arith, Bool, true, false, cond, subst}
use Rattle.std.proofs.lemmas.Bool.{or_cases}
use Rattle.std.proofs.{lemmas.Bool.cases_Bool, lemmas.Bool.Decides.eqb_tells, lemmas.Bool.Decides.leb_tells, lemmas.Int.ints}
use Rattle.lra_dbm.specs.Steps.{Progress, in_turn, any_below, relaxed, row_relaxed, pivot_relaxed, shortest, is_negative, negative_diagonal, relaxed_unless_negative}
use Rattle.lra_dbm.specs.{Cells.Cells, Cells.cell, Cells.outside, Cells.entries, Cells.IsMatrix, Entry.◌⊑◌, Entry.◌⊞◌, Tight.Entries, Tight.opposite}
use Rattle.lra_dbm.proofs.EntryLemmas.{le_same, le_none, le_trans, le_antisym, sum_grows, sum_swap, lesser_left, lesser_right, le_lesser}
use Rattle.lra_dbm.proofs.Lowering.{Comes, comes_here, comes_on, lowered_comes, lowered_at, lowered_kept, in_turn_keeps, in_turn_each}
use Rattle.lra_dbm.proofs.Ways.{Below, HasTriangles, by_way_of, IsClosed}
use Rattle.lra_dbm.proofs.{CellLemmas.entries_inside, CellLemmas.inside_or_out, Pivots.way_closes, Pivots.way_keeps, Pivots.way_lowers, Strong.opposite_twice}

-- ---- beyond the matrix

pub beyond : (n : ℕ) (cells : Cells) (i j : ℕ) → ((2 * n ≤ i) ⊎ (2 * n ≤ j)) → i ≢ j → entries n cells i j ≡ None
beyond n cells i j far ne = elim (inside_or_out n i j) [
  | inl h ↦ elim far [ inl f ↦ absurd (omega (arith, h.0)) | inr f ↦ absurd (omega (arith, h.1)) ]
  | inr out ↦ out cells ∙ elim (eqb_tells i j) as (λ _. outside i j ≡ None) [ inl e ↦ absurd (ne e.1) | inr e ↦ rw e.0 refl ]
]

pub beyond_self : (n : ℕ) (cells : Cells) (i : ℕ) → 2 * n ≤ i → entries n cells i i ≡ Some (pos 0)
beyond_self n cells i far = elim (inside_or_out n i i) [
  | inl h ↦ absurd (omega (arith, h.0))
  | inr out ↦ out cells ∙ elim (eqb_tells i i) as (λ _. outside i i ≡ Some (pos 0)) [ inl e ↦ rw e.0 refl | inr e ↦ absurd (e.1 refl) ]
]

no_more : (a : Option ℤ) → a ⊑ Some (pos 0) ⊞ a
no_more None = record { at_most = tt }
no_more (Some a) = record { at_most = omega (arith, ints) }

pub triangles_beyond : (n : ℕ) (cells : Cells) (q : ℕ) → 2 * n ≤ q → HasTriangles q (entries n cells)
triangles_beyond n cells q far = record {
  triangle = λ i j. elim (eqb_tells i q) as (λ _. entries n cells i j ⊑ entries n cells i q ⊞ entries n cells q j) [
    | inl e ↦ rw (e.1, beyond_self n cells q far) (no_more (entries n cells q j))
    | inr e ↦ rw (beyond n cells i q (inr far) e.1) (le_none (entries n cells i j))
  ];
}

-- ---- an entry of the diagonal that is below 0

pub any_true : (f : ℕ → Bool) (k : ℕ) → any_below f k ≡ true → (i : ℕ) × (i < k) × (f i ≡ true)
any_true f zero h = absurd (cc)
any_true f (suc k) h = elim (or_cases (any_below f k) (f k) h) [
  | inl e ↦ (let r = any_true f k e in (r.0, omega (arith, r.1), r.2))
  | inr e ↦ (k, omega arith, e)
]

pub negative_absurd : (x : Option ℤ) → is_negative x ≡ true → Some (pos 0) ⊑ x → ⊥
negative_absurd None h k = absurd (cc)
negative_absurd (Some v) h k = let p = k.at_most in grind (arith, ints)

calm_diagonal : (n : ℕ) (cells : Cells) → ((i : ℕ) → Some (pos 0) ⊑ entries n cells i i) → negative_diagonal cells (2 * n) ≡ false
calm_diagonal n cells d = elim (cases_Bool (negative_diagonal cells (2 * n))) [
  | inl e ↦ let r = any_true (λ i. is_negative (cell cells i i)) (2 * n) e in
      absurd (negative_absurd (cell cells r.0 r.0) r.2 (le_trans (d r.0) (le_same (entries_inside n cells r.0 r.0 r.1 r.1))))
  | inr e ↦ e
]

either : (P : Progress → Type 0) (b : Bool) (x y : Progress) → P x → P y → P (cond b x y)
either P true x y h k = h
either P false x y h k = k

-- ---- the loops

module _ (n : ℕ) where
  relaxed_comes : (k i j : ℕ) (p : Progress) → k < 2 * n → i < 2 * n → j < 2 * n → IsMatrix n p.cells → Comes n p (relaxed k i j p)
  relaxed_comes k i j p hk hi hj is = lowered_comes n i j (cell p.cells i k ⊞ cell p.cells k j) p hi hj is

  row_comes : (k i : ℕ) (p : Progress) → k < 2 * n → i < 2 * n → IsMatrix n p.cells → Comes n p (row_relaxed n k i p)
  row_comes k i p hk hi is = in_turn_keeps (λ q. Comes n p q) (relaxed k i) (2 * n) (λ j q l h. comes_on h (relaxed_comes k i j q hk hi l h.is)) p (comes_here n p is)

  pub pivot_comes : (k : ℕ) (p : Progress) → k < 2 * n → IsMatrix n p.cells → Comes n p (pivot_relaxed n k p)
  pivot_comes k p hk is = in_turn_keeps (λ q. Comes n p q) (row_relaxed n k) (2 * n) (λ i q l h. comes_on h (row_comes k i q hk l h.is)) p (comes_here n p is)

  sum_seen : (k i j : ℕ) (cells : Cells) → k < 2 * n → i < 2 * n → j < 2 * n → cell cells i k ⊞ cell cells k j ≡ entries n cells i k ⊞ entries n cells k j
  sum_seen k i j cells hk hi hj = rw (entries_inside n cells i k hi hk, entries_inside n cells k j hk hj) refl

  row_upper : (k i : ℕ) (p : Progress) → k < 2 * n → i < 2 * n → IsMatrix n p.cells → (j : ℕ) → j < 2 * n → (row_relaxed n k i p).flagged ≡ false
      → entries n (row_relaxed n k i p).cells i j ⊑ entries n p.cells i k ⊞ entries n p.cells k j
  row_upper k i p hk hi is j hj f =
      in_turn_each (λ q. Comes n p q) (λ j q. q.flagged ≡ false → entries n q.cells i j ⊑ entries n p.cells i k ⊞ entries n p.cells k j) (relaxed k i) (2 * n)
      (λ j q l h. comes_on h (relaxed_comes k i j q hk hi l h.is))
      (λ j q l h f. le_trans (lowered_at n i j (cell q.cells i k ⊞ cell q.cells k j) q hi l h.is f)
      (le_trans (le_same (sum_seen k i j q.cells hk hi l)) (sum_grows (h.lowers.at i k) (h.lowers.at k j))))
      (λ d q l h j g f. let next = relaxed_comes k i d q hk hi l h.is in le_trans (next.lowers.at i j) (g (next.flags f)))
      p (comes_here n p is) j hj f

  pivot_upper : (k : ℕ) (p : Progress) → k < 2 * n → IsMatrix n p.cells → (pivot_relaxed n k p).flagged ≡ false → (i j : ℕ) → i < 2 * n → j < 2 * n
      → entries n (pivot_relaxed n k p).cells i j ⊑ entries n p.cells i k ⊞ entries n p.cells k j
  pivot_upper k p hk is f i j hi hj =
      in_turn_each (λ q. Comes n p q) (λ i q. q.flagged ≡ false → (j : ℕ) → j < 2 * n → entries n q.cells i j ⊑ entries n p.cells i k ⊞ entries n p.cells k j) (row_relaxed n k) (2 * n)
      (λ i q l h. comes_on h (row_comes k i q hk l h.is))
      (λ i q l h f j m. le_trans (row_upper k i q hk l h.is j m f) (sum_grows (h.lowers.at i k) (h.lowers.at k j)))
      (λ d q l h i g f j m. let next = row_comes k d q hk l h.is in le_trans (next.lowers.at i j) (g (next.flags f) j m))
      p (comes_here n p is) i hi f j hj

  pivot_below : (k : ℕ) (p : Progress) → k < 2 * n → IsMatrix n p.cells → (pivot_relaxed n k p).flagged ≡ false → Below (entries n (pivot_relaxed n k p).cells) (by_way_of k (entries n p.cells))
  pivot_below k p hk is f = record {
    at = λ i j. le_lesser ((pivot_comes k p hk is).lowers.at i j)
        (elim (leb_tells (suc i) (2 * n)) as (λ _. entries n (pivot_relaxed n k p).cells i j ⊑ entries n p.cells i k ⊞ entries n p.cells k j) [
          | inr out ↦ (let far : 2 * n ≤ i = omega (arith, out.1) in rw (beyond n p.cells i k (inl far) (λ e. absurd (omega (arith, e)))) (le_none (entries n (pivot_relaxed n k p).cells i j)))
          | inl hi ↦ elim (leb_tells (suc j) (2 * n)) as (λ _. entries n (pivot_relaxed n k p).cells i j ⊑ entries n p.cells i k ⊞ entries n p.cells k j) [
            | inr out ↦ (let far : 2 * n ≤ j = omega (arith, out.1) in rw (beyond n p.cells k j (inr far) (λ e. absurd (omega (arith, e))), sum_swap (entries n p.cells i k) None)
                (le_none (entries n (pivot_relaxed n k p).cells i j)))
            | inl hj ↦ pivot_upper k p hk is f i j hi.1 hj.1
          ]
        ]);
  }

  -- ---- what lies below stays below

  module _ (c : Entries) (k : ℕ) (hk : k < 2 * n) (pass : HasTriangles k c) (pass' : HasTriangles (opposite k) c) where
    relaxed_kept : (i j : ℕ) (p : Progress) → i < 2 * n → j < 2 * n → IsMatrix n p.cells → Below c (entries n p.cells) → Below c (entries n (relaxed k i j p).cells)
    relaxed_kept i j p hi hj is b =
        lowered_kept n i j (cell p.cells i k ⊞ cell p.cells k j) p hi hj is c b
        (le_trans (pass.triangle i j) (le_trans (sum_grows (b.at i k) (b.at k j)) (le_same (sym (sum_seen k i j p.cells hk hi hj)))))
        (le_trans (pass'.triangle (opposite j) (opposite i)) (le_trans (sum_grows (b.at (opposite j) (opposite k)) (b.at (opposite k) (opposite i)))
        (le_trans (sum_grows (le_same (sym (is.coherent k j))) (le_same (sym (is.coherent i k))))
        (le_same (sum_swap (entries n p.cells k j) (entries n p.cells i k) ∙ sym (sum_seen k i j p.cells hk hi hj))))))

    row_kept : (i : ℕ) (p : Progress) → i < 2 * n → IsMatrix n p.cells → Below c (entries n p.cells) → Below c (entries n (row_relaxed n k i p).cells)
    row_kept i p hi is b = (in_turn_keeps (λ q. Comes n p q × Below c (entries n q.cells)) (relaxed k i) (2 * n)
        (λ j q l h. (comes_on h.0 (relaxed_comes k i j q hk hi l h.0.is), relaxed_kept i j q hi l h.0.is h.1)) p (comes_here n p is, b)).1

    pub pivot_kept : (p : Progress) → IsMatrix n p.cells → Below c (entries n p.cells) → Below c (entries n (pivot_relaxed n k p).cells)
    pivot_kept p is b = (in_turn_keeps (λ q. Comes n p q × Below c (entries n q.cells)) (row_relaxed n k) (2 * n)
        (λ i q l h. (comes_on h.0 (row_comes k i q hk l h.0.is), row_kept i q l h.0.is h.1)) p (comes_here n p is, b)).1

  -- ---- a variable and its opposite

  pivot_grows : (k : ℕ) (a b : Entries) → Below a b → Below (by_way_of k a) (by_way_of k b)
  pivot_grows k a b h = record {
    at = λ i j. le_lesser (le_trans (lesser_left (a i j) (a i k ⊞ a k j)) (h.at i j))
        (le_trans (lesser_right (a i j) (a i k ⊞ a k j)) (sum_grows (h.at i k) (h.at k j)));
  }

  below_on : (a b c : Entries) → Below a b → Below b c → Below a c
  below_on a b c h k = record { at = λ i j. le_trans (h.at i j) (k.at i j) }

  triangles_between : (q : ℕ) (a b : Entries) → Below a b → Below b a → HasTriangles q b → HasTriangles q a
  triangles_between q a b h k t = record { triangle = λ i j. le_trans (h.at i j) (le_trans (t.triangle i j) (sum_grows (k.at i q) (k.at q j))) }

  module _ (k k' : ℕ) (turned : opposite k ≡ k') (hk : k < 2 * n) (hk' : k' < 2 * n) (p : Progress) (is : IsMatrix n p.cells) where
    pub pair_triangles : (pivot_relaxed n k' (pivot_relaxed n k p)).flagged ≡ false → ((i : ℕ) → Some (pos 0) ⊑ entries n (pivot_relaxed n k' (pivot_relaxed n k p)).cells i i)
        → (q : ℕ) → ((q ≡ k') ⊎ ((q ≡ k) ⊎ HasTriangles q (entries n p.cells))) → HasTriangles q (entries n (pivot_relaxed n k' (pivot_relaxed n k p)).cells)
    pair_triangles f d q what =
        let p1 = pivot_relaxed n k p in
        let p2 = pivot_relaxed n k' p1 in
        let m = entries n p.cells in
        let s = by_way_of k' (by_way_of k m) in
        let comes1 = pivot_comes k p hk is in
        let comes2 = pivot_comes k' p1 hk' comes1.is in
        let all = comes_on comes1 comes2 in
        let f1 = comes2.flags f in
        let below1 = pivot_below k p hk is f1 in
        let below2 = pivot_below k' p1 hk' comes1.is f in
        let down : Below (entries n p2.cells) s = below_on (entries n p2.cells) (by_way_of k' (entries n p1.cells)) s below2 (pivot_grows k' (entries n p1.cells) (by_way_of k m) below1) in
        let h : Some (pos 0) ⊑ m k k = le_trans (d k) (all.lowers.at k k) in
        let h' : Some (pos 0) ⊑ by_way_of k m k' k' = le_trans (d k') (le_trans (comes2.lowers.at k' k') (below1.at k' k')) in
        let at_k' : HasTriangles k' s = way_closes k' (by_way_of k m) h' in
        let at_k : HasTriangles k s = way_keeps k' k (by_way_of k m) h' (way_closes k m h) in
        let start : Below s m = below_on s (by_way_of k m) m (way_lowers k' (by_way_of k m)) (way_lowers k m) in
        let back : opposite k' ≡ k = ap opposite (sym turned) ∙ opposite_twice k in
        let up1 : Below s (entries n p1.cells) = pivot_kept s k hk at_k (rw turned at_k') p is start in
        let up : Below s (entries n p2.cells) = pivot_kept s k' hk' at_k' (rw back at_k) p1 comes1.is up1 in
        triangles_between q (entries n p2.cells) s down up (elim what [
          | inl e ↦ rw e at_k'
          | inr w ↦ elim w [ inl e ↦ rw e at_k | inr t ↦ way_keeps k' q (by_way_of k m) h' (way_keeps k q m h t) ]
        ])

  turn_comes : (k : ℕ) (p : Progress) → k < 2 * n → IsMatrix n p.cells → Comes n p (relaxed_unless_negative n k p)
  turn_comes k p hk is =
      either (λ q. Comes n p q) (negative_diagonal p.cells (2 * n)) p (pivot_relaxed n k p) (comes_here n p is) (pivot_comes k p hk is)

  pub shortest_comes : (k : ℕ) (p : Progress) → k ≤ 2 * n → IsMatrix n p.cells → Comes n p (shortest n k p)
  unfolding shortest
  shortest_comes k p h is = in_turn_keeps (λ q. Comes n p q) (relaxed_unless_negative n) k
      (λ i q l c. comes_on c (turn_comes i q (omega arith) c.is)) p (comes_here n p is)

  turn_kept : (c : Entries) → ((q : ℕ) → HasTriangles q c) → (k : ℕ) (p : Progress) → k < 2 * n → IsMatrix n p.cells → Below c (entries n p.cells)
      → Below c (entries n (relaxed_unless_negative n k p).cells)
  turn_kept c pass k p hk is b = either (λ q. Below c (entries n q.cells)) (negative_diagonal p.cells (2 * n)) p (pivot_relaxed n k p) b
      (pivot_kept c k hk (pass k) (pass (opposite k)) p is b)

  pub shortest_kept : (c : Entries) → ((q : ℕ) → HasTriangles q c) → (k : ℕ) (p : Progress) → k ≤ 2 * n → IsMatrix n p.cells → Below c (entries n p.cells) → Below c (entries n (shortest n k p).cells)
  unfolding shortest
  shortest_kept c pass k p most is b = (in_turn_keeps (λ q. Comes n p q × Below c (entries n q.cells)) (relaxed_unless_negative n) k
      (λ i q l h. (comes_on h.0 (turn_comes i q (omega arith) h.0.is), turn_kept c pass i q (omega arith) h.0.is h.1))
      p (comes_here n p is, b)).1

  -- ---- every pivot

  abbrev all_relaxed : ℕ → Progress → Progress
  all_relaxed k = in_turn (pivot_relaxed n) k

  all_comes : (k : ℕ) (p : Progress) → k ≤ 2 * n → IsMatrix n p.cells → Comes n p (all_relaxed k p)
  all_comes k p h is = in_turn_keeps (λ q. Comes n p q) (pivot_relaxed n) k (λ i q l c. comes_on c (pivot_comes i q (omega arith) c.is)) p (comes_here n p is)

  -- if no entry of the diagonal is below 0 in the end, none was before, and every pivot was taken
  all_taken : (k : ℕ) (p : Progress) → k ≤ 2 * n → IsMatrix n p.cells → ((i : ℕ) → Some (pos 0) ⊑ entries n (shortest n k p).cells i i)
      → shortest n k p ≡ all_relaxed k p
  unfolding shortest
  all_taken zero p h is d = refl
  all_taken (suc k) p h is d =
      let q = in_turn (relaxed_unless_negative n) k p in
      let turn = turn_comes k q (omega arith) (shortest_comes k p (omega arith) is).is in
      let before : (i : ℕ) → Some (pos 0) ⊑ entries n q.cells i i = λ i. le_trans (d i) (turn.lowers.at i i) in
      ap (λ b. cond b q (pivot_relaxed n k q)) (calm_diagonal n q.cells before) ∙ ap (pivot_relaxed n k) (all_taken k p (omega arith) is before)

  opposite_even : (t : ℕ) → opposite (2 * t) ≡ suc (2 * t)
  unfolding opposite
  opposite_even t = omega arith

  one_more : (t : ℕ) (p : Progress) → t < n → IsMatrix n p.cells
      → ((all_relaxed (2 * t) p).flagged ≡ false → ((i : ℕ) → Some (pos 0) ⊑ entries n (all_relaxed (2 * t) p).cells i i) → (q : ℕ) → q < 2 * t
      → HasTriangles q (entries n (all_relaxed (2 * t) p).cells))
      → (all_relaxed (suc (suc (2 * t))) p).flagged ≡ false → ((i : ℕ) → Some (pos 0) ⊑ entries n (all_relaxed (suc (suc (2 * t))) p).cells i i)
      → (q : ℕ) → q < suc (suc (2 * t)) → HasTriangles q (entries n (all_relaxed (suc (suc (2 * t))) p).cells)
  one_more t p h is before f d q l =
      let p0 = all_relaxed (2 * t) p in
      let p1 = pivot_relaxed n (2 * t) p0 in
      let hk : 2 * t < 2 * n = omega arith in
      let hk' : suc (2 * t) < 2 * n = omega arith in
      let comes0 = all_comes (2 * t) p (omega arith) is in
      let comes1 = pivot_comes (2 * t) p0 hk comes0.is in
      let comes2 = pivot_comes (suc (2 * t)) p1 hk' comes1.is in
      pair_triangles (2 * t) (suc (2 * t)) (opposite_even t) hk hk' p0 comes0.is f d q (elim (eqb_tells q (suc (2 * t))) [
        | inl e ↦ inl e.1
        | inr e ↦ inr (elim (eqb_tells q (2 * t)) [
          | inl g ↦ inl g.1
          | inr g ↦ inr (before (comes1.flags (comes2.flags f)) (λ i. le_trans (d i) ((comes_on comes1 comes2).lowers.at i i)) q (let a = e.1 in let b = g.1 in omega arith))
        ])
      ])

  -- after the first t variables
  all_triangles : (t : ℕ) (p : Progress) → t ≤ n → IsMatrix n p.cells → (all_relaxed (2 * t) p).flagged ≡ false
      → ((i : ℕ) → Some (pos 0) ⊑ entries n (all_relaxed (2 * t) p).cells i i) → (q : ℕ) → q < 2 * t → HasTriangles q (entries n (all_relaxed (2 * t) p).cells)
  all_triangles zero p h is f d q l = absurd (omega arith)
  all_triangles (suc t) p h is f d q l =
      let e : 2 * suc t ≡ suc (suc (2 * t)) = omega arith in
      rw e (one_more t p (omega arith) is (all_triangles t p (omega arith) is) (rw e at f) (rw e at d) q (omega arith))

  all_closed : (p : Progress) → IsMatrix n p.cells → (all_relaxed (2 * n) p).flagged ≡ false
      → ((i : ℕ) → Some (pos 0) ⊑ entries n (all_relaxed (2 * n) p).cells i i)
      → IsClosed (entries n (all_relaxed (2 * n) p).cells)
  all_closed p is f d =
      let all = all_comes (2 * n) p (omega arith) is in
      record {
        diagonal = λ i. le_antisym (all.is.diagonal i) (d i);
        coherent = all.is.coherent;
        triangle = λ i q j. elim (leb_tells (suc q) (2 * n)) [
          | inl l ↦ (all_triangles n p (omega arith) is f d q l.1).triangle i j
          | inr l ↦ (triangles_beyond n (all_relaxed (2 * n) p).cells q (omega (arith, l.1))).triangle i j
        ];
      }

  pub shortest_closed : (p : Progress) → IsMatrix n p.cells → (shortest n (2 * n) p).flagged ≡ false
      → ((i : ℕ) → Some (pos 0) ⊑ entries n (shortest n (2 * n) p).cells i i)
      → IsClosed (entries n (shortest n (2 * n) p).cells)
  shortest_closed p is f d =
      let e = all_taken (2 * n) p (omega arith) is d in
      let calm = subst (λ (q : Progress). q.flagged ≡ false) e f in
      let room = subst (λ (q : Progress). (i : ℕ) → Some (pos 0) ⊑ entries n q.cells i i) e d in
      subst (λ (q : Progress). IsClosed (entries n q.cells)) (sym e) (all_closed p is calm room)
