-- Joins, widenings and inclusions cell by cell, seen as entries.
use Rattle.std.proofs.Common.{◌≡◌, ℕ, zero, suc, ◌*◌, ◌<◌, ◌≤◌, ◌⊎◌, inl, inr, ℤ, pos, List, [], ◌∷◌, length, Option, None, Some, refl, sym, ap, ◌∙◌, subst, arith, Bool, true, false, cond, get_or}
use Rattle.std.proofs.lemmas.Int.{ints, clamps, by_lt_z}
use Rattle.std.specs.Prelude.{◌≤ℤ◌, ◌<ℤ◌, int_lt, ◌+ℤ◌}
use Rattle.lra_dbm.specs.{Cells.Cells, Cells.size, Cells.place, Cells.outside, Cells.entries, Cells.IsMatrix, Cells.DbmContent, Cells.entry_at, Closure.LeastJoin, Entry.◌⊑◌, Entry.EntryInRange}
use Rattle.lra_dbm.specs.{Pointwise.greater_cells, Pointwise.stable_cells, Pointwise.CellsWithin, Pointwise.finite_cells, Tight.Entries, Tight.opposite, Tight.IsStore, Tight.IsTight}
use Rattle.lra_dbm.proofs.CellLemmas.{place_there, entries_inside, inside_or_out}
use Rattle.lra_dbm.proofs.EntryLemmas.{le_refl, le_same, le_none, le_trans, le_antisym}
use Rattle.lra_domain.specs.Bounds.{finite, greater, stable}

-- ---- single entries

pub greater_left : (a b : Option ℤ) → a ⊑ greater a b
greater_left None b = record { at_most = tt }
greater_left (Some a) None = record { at_most = tt }
greater_left (Some a) (Some b) = record { at_most = omega (arith, ints, clamps) }

pub greater_right : (a b : Option ℤ) → b ⊑ greater a b
greater_right None b = record { at_most = tt }
greater_right (Some a) None = record { at_most = tt }
greater_right (Some a) (Some b) = record { at_most = omega (arith, ints, clamps) }

pub greater_is : (a b : Option ℤ) → (greater a b ≡ a) ⊎ (greater a b ≡ b)
greater_is None b = inl refl
greater_is (Some a) None = inr refl
greater_is (Some a) (Some b) =
    by_lt_z a b (λ (h : a <ℤ b). inr (ap Some (omega (arith, ints, clamps)))) (λ (h : b ≤ℤ a). inl (ap Some (omega (arith, ints, clamps))))

pub greater_least : (a b c : Option ℤ) → a ⊑ c → b ⊑ c → greater a b ⊑ c
greater_least a b c h k = elim (greater_is a b) as (λ _. greater a b ⊑ c) [ inl e ↦ rw e h | inr e ↦ rw e k ]

pub stable_is : (a b : Option ℤ) → (stable a b ≡ None) ⊎ ((stable a b ≡ a) × (b ⊑ a))
stable_is None b = inl refl
stable_is (Some a) None = inl refl
stable_is (Some a) (Some b) = decide (int_lt a b) refl
  where
    decide : (t : Bool) → int_lt a b ≡ t → (cond t None (Some a) ≡ None) ⊎ ((cond t None (Some a) ≡ Some a) × (Some b ⊑ Some a))
    decide true e = inl refl
    decide false e = inr (refl, record { at_most = grind (arith, ints) })

pub stable_same : (a b : Option ℤ) → b ⊑ a → stable a b ≡ a
stable_same None b h = refl
stable_same (Some a) None h = absurd h.at_most
stable_same (Some a) (Some b) h = let p = h.at_most in let e : int_lt a b ≡ false = grind (arith, ints) in rw e refl

-- ---- lists

pub greater_at : (cs ds : Cells) (p : ℕ) → get_or (greater_cells cs ds) p None ≡ greater (get_or cs p None) (get_or ds p None)
greater_at [] ds p = refl
greater_at (c ∷ cs) [] p = none_greater (get_or (c ∷ cs) p None)
  where
    none_greater : (a : Option ℤ) → None ≡ greater a None
    none_greater None = refl
    none_greater (Some a) = refl
greater_at (c ∷ cs) (d ∷ ds) zero = refl
greater_at (c ∷ cs) (d ∷ ds) (suc p) = greater_at cs ds p

pub stable_at : (cs ds : Cells) (p : ℕ) → get_or (stable_cells cs ds) p None ≡ stable (get_or cs p None) (get_or ds p None)
stable_at [] ds p = refl
stable_at (c ∷ cs) [] p = none_stable (get_or (c ∷ cs) p None)
  where
    none_stable : (a : Option ℤ) → None ≡ stable a None
    none_stable None = refl
    none_stable (Some a) = refl
stable_at (c ∷ cs) (d ∷ ds) zero = refl
stable_at (c ∷ cs) (d ∷ ds) (suc p) = stable_at cs ds p

pub length_greater : (cs ds : Cells) → length cs ≡ length ds → length (greater_cells cs ds) ≡ length cs
length_greater [] ds e = refl
length_greater (c ∷ cs) [] e = absurd (omega arith)
length_greater (c ∷ cs) (d ∷ ds) e = omega (arith, length_greater cs ds (omega arith))

pub length_stable : (cs ds : Cells) → length cs ≡ length ds → length (stable_cells cs ds) ≡ length cs
length_stable [] ds e = refl
length_stable (c ∷ cs) [] e = absurd (omega arith)
length_stable (c ∷ cs) (d ∷ ds) e = omega (arith, length_stable cs ds (omega arith))

pub within_at : (cs ds : Cells) → CellsWithin cs ds → (p : ℕ) → get_or cs p None ⊑ get_or ds p None
within_at [] [] h p = le_refl None
within_at [] (d ∷ ds) h p = absurd h
within_at (c ∷ cs) [] h p = absurd h
within_at (c ∷ cs) (d ∷ ds) h zero = h.0
within_at (c ∷ cs) (d ∷ ds) h (suc p) = within_at cs ds h.1 p

pub all_within : (cs ds : Cells) → length cs ≡ length ds → ((p : ℕ) → p < length cs → get_or cs p None ⊑ get_or ds p None) → CellsWithin cs ds
all_within [] [] e h = tt
all_within [] (d ∷ ds) e h = absurd (omega arith)
all_within (c ∷ cs) [] e h = absurd (omega arith)
all_within (c ∷ cs) (d ∷ ds) e h = (h 0 (omega arith), all_within cs ds (omega arith) (λ p l. h (suc p) (omega arith)))

pub within_refl : (cs : Cells) → CellsWithin cs cs
within_refl [] = tt
within_refl (c ∷ cs) = (le_refl c, within_refl cs)

pub within_trans : (cs ds es : Cells) → CellsWithin cs ds → CellsWithin ds es → CellsWithin cs es
within_trans [] [] es h k = k
within_trans [] (d ∷ ds) es h k = absurd h
within_trans (c ∷ cs) [] es h k = absurd h
within_trans (c ∷ cs) (d ∷ ds) [] h k = absurd k
within_trans (c ∷ cs) (d ∷ ds) (e ∷ es) h k = (le_trans h.0 k.0, within_trans cs ds es h.1 k.1)

pub within_both : (cs ds : Cells) → CellsWithin cs ds → CellsWithin ds cs → cs ≡ ds
within_both [] [] h k = refl
within_both [] (d ∷ ds) h k = absurd h
within_both (c ∷ cs) [] h k = absurd h
within_both (c ∷ cs) (d ∷ ds) h k = let e : c ≡ d = le_antisym h.0 k.0 in let t : cs ≡ ds = within_both cs ds h.1 k.1 in rw (e, t) refl

pub greater_within : (cs ds es : Cells) → CellsWithin cs es → CellsWithin ds es → CellsWithin (greater_cells cs ds) es
greater_within [] ds es h k = h
greater_within (c ∷ cs) [] [] h k = k
greater_within (c ∷ cs) [] (e ∷ es) h k = absurd k
greater_within (c ∷ cs) (d ∷ ds) [] h k = absurd h
greater_within (c ∷ cs) (d ∷ ds) (e ∷ es) h k = (greater_least c d e h.0 k.0, greater_within cs ds es h.1 k.1)

pub left_within : (cs ds : Cells) → length cs ≡ length ds → CellsWithin cs (greater_cells cs ds)
left_within [] ds e = tt
left_within (c ∷ cs) [] e = absurd (omega arith)
left_within (c ∷ cs) (d ∷ ds) e = (greater_left c d, left_within cs ds (omega arith))

pub right_within : (cs ds : Cells) → length cs ≡ length ds → CellsWithin ds (greater_cells cs ds)
right_within [] [] e = tt
right_within [] (d ∷ ds) e = absurd (omega arith)
right_within (c ∷ cs) [] e = absurd (omega arith)
right_within (c ∷ cs) (d ∷ ds) e = (greater_right c d, right_within cs ds (omega arith))

stable_left : (a b : Option ℤ) → a ⊑ stable a b
stable_left a b = elim (stable_is a b) as (λ _. a ⊑ stable a b) [ inl e ↦ rw e (le_none a) | inr e ↦ rw e.0 (le_refl a) ]

stable_right : (a b : Option ℤ) → b ⊑ stable a b
stable_right a b = elim (stable_is a b) as (λ _. b ⊑ stable a b) [ inl e ↦ rw e (le_none b) | inr e ↦ rw e.0 e.1 ]

pub old_within_stable : (cs ds : Cells) → length cs ≡ length ds → CellsWithin cs (stable_cells cs ds)
old_within_stable [] ds e = tt
old_within_stable (c ∷ cs) [] e = absurd (omega arith)
old_within_stable (c ∷ cs) (d ∷ ds) e = (stable_left c d, old_within_stable cs ds (omega arith))

pub new_within_stable : (cs ds : Cells) → length cs ≡ length ds → CellsWithin ds (stable_cells cs ds)
new_within_stable [] [] e = tt
new_within_stable [] (d ∷ ds) e = absurd (omega arith)
new_within_stable (c ∷ cs) [] e = absurd (omega arith)
new_within_stable (c ∷ cs) (d ∷ ds) e = (stable_right c d, new_within_stable cs ds (omega arith))

-- ---- counts

finite_few : (c : Option ℤ) → finite c ≤ 1
finite_few None = omega arith
finite_few (Some a) = omega arith

pub finite_at_most : (cs : Cells) → finite_cells cs ≤ length cs
finite_at_most [] = omega arith
finite_at_most (c ∷ cs) = omega (arith, finite_few c, finite_at_most cs)

one_falls : (a b : Option ℤ) → (finite (stable a b) ≤ finite a) × ((finite (stable a b) < finite a) ⊎ (b ⊑ a))
one_falls None b = (omega arith, inr (le_none b))
one_falls (Some a) None = (omega arith, inl (omega arith))
one_falls (Some a) (Some b) = decide (int_lt a b) refl
  where
    decide : (t : Bool) → int_lt a b ≡ t → (finite (cond t None (Some a)) ≤ 1) × ((finite (cond t None (Some a)) < 1) ⊎ (Some b ⊑ Some a))
    decide true e = (omega arith, inl (omega arith))
    decide false e = (omega arith, inr (record { at_most = grind (arith, ints) }))

falls : (cs ds : Cells) → length cs ≡ length ds → (finite_cells (stable_cells cs ds) ≤ finite_cells cs) × ((finite_cells (stable_cells cs ds) < finite_cells cs) ⊎ CellsWithin ds cs)
falls [] [] e = (omega arith, inr tt)
falls [] (d ∷ ds) e = absurd (omega arith)
falls (c ∷ cs) [] e = absurd (omega arith)
falls (c ∷ cs) (d ∷ ds) e =
    let one = one_falls c d in
    let rest = falls cs ds (omega arith) in (
      omega arith,
      elim one.1 [
        | inl l ↦ inl (omega arith)
        | inr w ↦ elim rest.1 [ inl r ↦ inl (omega arith) | inr r ↦ inr (w, r) ]
      ],
    )

-- some entry is dropped, unless the second matrix lies in the first
pub stable_falls : (cs ds : Cells) → length cs ≡ length ds → (CellsWithin ds cs → ⊥) → finite_cells (stable_cells cs ds) < finite_cells cs
stable_falls cs ds e w = elim (falls cs ds e).1 [ inl l ↦ l | inr r ↦ absurd (w r) ]

-- ---- entries

-- the entries of a tight matrix are at most those of each matrix that has its stores
pub tight_least : (n : ℕ) (a m : Entries) → IsTight n a → ((s : List ℤ) → IsStore n a s → IsStore n m s) → (i j : ℕ) → i < 2 * n → j < 2 * n → a i j ⊑ m i j
tight_least n a m tight has i j h k = reach (a i j) (m i j) (λ c le. let r = tight.attained i j h k c le in
    let met = (has r.0 r.1).below i j h k in le_trans (record { at_most = r.2 }) met)
  where
    reach : (e f : Option ℤ) → ((c : ℤ) → Some c ⊑ e → Some c ⊑ f) → e ⊑ f
    reach e None all = le_none e
    reach (Some c) (Some f) all = all c (le_refl (Some c))
    reach None (Some f) all = absurd (let p = (all (f +ℤ pos 1) (le_none (Some (f +ℤ pos 1)))).at_most in omega (arith, ints))

module _ (n : ℕ) (cs ds : Cells) where
  pub within_entries : CellsWithin cs ds → (i j : ℕ) → entries n cs i j ⊑ entries n ds i j
  within_entries h i j = elim (inside_or_out n i j) [
    | inl l ↦ le_trans (le_same (entries_inside n cs i j l.0 l.1)) (le_trans (within_at cs ds h (place i j)) (le_same (sym (entries_inside n ds i j l.0 l.1))))
    | inr out ↦ le_same (out cs ∙ sym (out ds))
  ]

  pub entries_within : length cs ≡ size n → length ds ≡ size n → ((i j : ℕ) → i < 2 * n → j < 2 * n → entries n cs i j ⊑ entries n ds i j) → CellsWithin cs ds
  entries_within e f h = all_within cs ds (e ∙ sym f) (λ p l.
      let w = place_there n p (let q = e in omega arith) in
      subst (λ (z : ℕ). get_or cs z None ⊑ get_or ds z None) w.2.2
      (le_trans (le_same (sym (entries_inside n cs w.0 w.1 w.2.0 w.2.1))) (le_trans (h w.0 w.1 w.2.0 w.2.1) (le_same (entries_inside n ds w.0 w.1 w.2.0 w.2.1)))))

  outside_greater : (a : Option ℤ) → a ≡ greater a a
  outside_greater a = elim (greater_is a a) as (λ _. a ≡ greater a a) [ inl e ↦ sym e | inr e ↦ sym e ]

  pub entries_greater : (i j : ℕ) → entries n (greater_cells cs ds) i j ≡ greater (entries n cs i j) (entries n ds i j)
  entries_greater i j = elim (inside_or_out n i j) [
    | inl l ↦ entries_inside n (greater_cells cs ds) i j l.0 l.1 ∙ greater_at cs ds (place i j)
        ∙ ap (λ z. greater z (get_or ds (place i j) None)) (sym (entries_inside n cs i j l.0 l.1)) ∙ ap (greater (entries n cs i j)) (sym (entries_inside n ds i j l.0 l.1))
    | inr out ↦ out (greater_cells cs ds) ∙ outside_greater (outside i j) ∙ ap (λ z. greater z (outside i j)) (sym (out cs)) ∙ ap (greater (entries n cs i j)) (sym (out ds))
  ]

  outside_stable : (a : Option ℤ) → a ≡ stable a a
  outside_stable a = sym (stable_same a a (le_refl a))

  pub entries_stable : (i j : ℕ) → entries n (stable_cells cs ds) i j ≡ stable (entries n cs i j) (entries n ds i j)
  entries_stable i j = elim (inside_or_out n i j) [
    | inl l ↦ entries_inside n (stable_cells cs ds) i j l.0 l.1 ∙ stable_at cs ds (place i j)
        ∙ ap (λ z. stable z (get_or ds (place i j) None)) (sym (entries_inside n cs i j l.0 l.1)) ∙ ap (stable (entries n cs i j)) (sym (entries_inside n ds i j l.0 l.1))
    | inr out ↦ out (stable_cells cs ds) ∙ outside_stable (outside i j) ∙ ap (λ z. stable z (outside i j)) (sym (out cs)) ∙ ap (stable (entries n cs i j)) (sym (out ds))
  ]

  module _ (is : IsMatrix n cs) (js : IsMatrix n ds) where
    pub greater_matrix : IsMatrix n (greater_cells cs ds)
    greater_matrix = record {
      full = length_greater cs ds (is.full ∙ sym js.full) ∙ is.full;
      coherent = λ i j. entries_greater i j ∙ ap (λ z. greater z (entries n ds i j)) (is.coherent i j) ∙ ap (greater (entries n cs (opposite j) (opposite i))) (js.coherent i j)
          ∙ sym (entries_greater (opposite j) (opposite i));
      diagonal = λ i. le_trans (le_same (entries_greater i i)) (greater_least (entries n cs i i) (entries n ds i i) (Some (pos 0)) (is.diagonal i) (js.diagonal i));
      range = λ i j. subst (λ (z : Option ℤ). EntryInRange z) (sym (entries_greater i j)) (elim (greater_is (entries n cs i j) (entries n ds i j)) [
        | inl e ↦ subst (λ (z : Option ℤ). EntryInRange z) (sym e) (is.range i j)
        | inr e ↦ subst (λ (z : Option ℤ). EntryInRange z) (sym e) (js.range i j)
      ]);
    }

    pub stable_matrix : ((i : ℕ) → entries n cs i i ≡ Some (pos 0)) → IsMatrix n (stable_cells cs ds)
    stable_matrix zero_there = record {
      full = length_stable cs ds (is.full ∙ sym js.full) ∙ is.full;
      coherent = λ i j. entries_stable i j ∙ ap (λ z. stable z (entries n ds i j)) (is.coherent i j) ∙ ap (stable (entries n cs (opposite j) (opposite i))) (js.coherent i j)
          ∙ sym (entries_stable (opposite j) (opposite i));
      diagonal = λ i. le_same (entries_stable i i ∙ stable_same (entries n cs i i) (entries n ds i i) (le_trans (js.diagonal i) (le_same (sym (zero_there i)))) ∙ zero_there i);
      range = λ i j. subst (λ (z : Option ℤ). EntryInRange z) (sym (entries_stable i j)) (elim (stable_is (entries n cs i j) (entries n ds i j)) [
        | inl e ↦ subst (λ (z : Option ℤ). EntryInRange z) (sym e) tt
        | inr e ↦ subst (λ (z : Option ℤ). EntryInRange z) (sym e.0) (is.range i j)
      ]);
    }

    pub stable_diagonal : ((i : ℕ) → entries n cs i i ≡ Some (pos 0)) → (i : ℕ) → entries n (stable_cells cs ds) i i ≡ Some (pos 0)
    stable_diagonal zero_there i =
        entries_stable i i ∙ stable_same (entries n cs i i) (entries n ds i i) (le_trans (js.diagonal i) (le_same (sym (zero_there i)))) ∙ zero_there i

-- the join of two tight matrices is the least matrix that has the stores of both
pub joins_least : (n : ℕ) (cs ds all : Cells) → all ≡ greater_cells cs ds → LeastJoin n (entries n cs) (entries n ds) (entries n all)
joins_least n cs ds all e = record {
  least = λ one two m has has' i k h l.
      le_trans (le_same (ap (λ z. entries n z i k) e ∙ entries_greater n cs ds i k)) (greater_least (entries n cs i k) (entries n ds i k) (m i k)
      (tight_least n (entries n cs) m one has i k h l) (tight_least n (entries n ds) m two has' i k h l));
}

pub contents_joined : (a b m : DbmContent) → a.dims ≡ b.dims → m ≡ record a { cells = greater_cells a.cells b.cells } → LeastJoin a.dims (entry_at a) (entry_at b) (entry_at m)
contents_joined a b m same e =
    subst (λ (k : DbmContent). LeastJoin a.dims (entry_at a) (entry_at b) (entry_at k)) (sym e)
    (subst (λ (n : ℕ). LeastJoin a.dims (entry_at a) (entries n b.cells) (entries a.dims (greater_cells a.cells b.cells))) same
    (joins_least a.dims a.cells b.cells (greater_cells a.cells b.cells) refl))
