-- A store that meets a bound stays one when the bound is entered; and what is entered is one matrix.
use Rattle.std.proofs.Common.{◌≡◌, ℕ, suc, ◌+◌, ◌*◌, ◌<◌, ◌^◌, ◌⊎◌, ℤ, List, Option, None, Some, inl, inr, true, refl, sym, ap, ◌∙◌, subst, arith}
use Rattle.std.proofs.{lemmas.Bool.Decides.eqb_tells, lemmas.Bool.Decides.leb_tells, lemmas.Int.ints}
use Rattle.std.specs.Prelude.{◌-ℤ◌, ◌+ℤ◌, ◌≤ℤ◌, neg_ℤ, unsigned_abs}
use Rattle.lra_linear_spec.specs.Range.{InRange}
use Rattle.lra_dbm.specs.Cells.{Cells, entries, entered, forgotten, IsMatrix, entry_at, DbmContent as Matrix, cell}
use Rattle.lra_dbm.specs.{Entry.◌⊑◌, Entry.◌⊞◌, Entry.lesser, Entry.passes_range, Tight.opposite, Tight.signed_value, Tight.IsStore}
use Rattle.lra_domain.specs.{declared.Exactness.Exactness, declared.Exactness.TheVariants.Exact, declared.Exactness.TheVariants.Flagged}
use Rattle.lra_octagon.specs.{Closed.ClosedTo, Closed.Equates, Closed.EquatedTo, Entering.BoundsOne, Entering.BoundsAll, Tables.Forgets, Tables.upper, Tables.bounded, Tables.SomePasses}
use Rattle.lra_box.specs.declared.interval.Interval.{Interval}
use Rattle.lra_dbm.proofs.{CellLemmas.opposite_below, CellLemmas.entries_inside, CellLemmas.written_same, CellLemmas.written_cases, Closed.signed_opposite, Closed.difference, Closed.difference_closed}
use Rattle.lra_dbm.proofs.{Closed.store_below, Closed.below_store, EntryLemmas.le_same, EntryLemmas.le_trans, Lowering.enter_kept, Strong.opposite_twice}

pub entered_store : (n i j : ℕ) (v : Option ℤ) (cells : Cells) (s : List ℤ) → i < 2 * n → j < 2 * n → IsMatrix n cells
    → IsStore n (entries n cells) s → Some (signed_value s j -ℤ signed_value s i) ⊑ v → IsStore n (entries n (entered i j v cells)) s
entered_store n i j v cells s h k is store meets =
    below_store n (entered i j v cells) s store.width
    (enter_kept n i j v cells h k is (difference s) (store_below n cells s store) meets
    (le_trans (le_same (sym ((difference_closed s).coherent i j))) meets))

pub equated_to : (n x i : ℕ) (c : ℤ) (old entered : Cells) (new : Option Cells) (e : Exactness) → Equates n x i c old entered → ClosedTo n entered new e
    → EquatedTo n x i c old new e
equated_to n x i c old entered new e by closed = (by.cells, by.forgets, subst (λ (z : Cells). ClosedTo n z new e) by.entered closed)

pub forgets_of : (n x : ℕ) (old new : Matrix) → old.dims ≡ n → new.dims ≡ old.dims → IsMatrix new.dims new.cells
    → ((a b : ℕ) → entry_at new a b ≡ forgotten x (entry_at old) a b) → Forgets n x old.cells new.cells
forgets_of n x old new is same fit e = record {
  is = subst (λ (k : ℕ). IsMatrix k new.cells) (same ∙ is) fit;
  entries = λ a b. ap (λ k. entries k new.cells a b) (sym (same ∙ is)) ∙ e a b ∙ ap (λ k. forgotten x (entries k old.cells) a b) is;
}

pub equates_of : (n x i : ℕ) (c : ℤ) (old : Cells) (one two three : Matrix) → Forgets n x old one.cells
    → two ≡ record one { cells = entered i (2 * x) (Some c) one.cells } → three ≡ record two { cells = entered (2 * x) i (Some (neg_ℤ c)) two.cells }
    → Equates n x i c old three.cells
equates_of n x i c old one two three forgets first second = record {
  cells = one.cells;
  forgets = forgets;
  entered = ap (λ (m : Matrix). m.cells) second ∙ ap (λ (m : Matrix). entered (2 * x) i (Some (neg_ℤ c)) m.cells) first;
}

-- ---- upper bounds of signed variables

lesser_none : (a : Option ℤ) → a ≡ lesser a None
lesser_none None = refl
lesser_none (Some a) = refl

pub bound_none : (n i : ℕ) (old : Cells) → IsMatrix n old → BoundsOne n i None old old Exact
bound_none n i old is = record {
  is = is;
  stores = λ s h k. h;
  here = λ e. lesser_none (entries n old (opposite i) i);
  apart = λ a b ne. refl;
  flagged = λ e. absurd (cc);
}

doubled_passes : (k : ℤ) → ¬ InRange (k +ℤ k) → passes_range (Some k ⊞ Some k) ≡ true
doubled_passes k h = elim (leb_tells (suc (unsigned_abs (k +ℤ k))) (2 ^ 127)) as (λ _. passes_range (Some k ⊞ Some k) ≡ true) [
  | inl t ↦ absurd (h t.1)
  | inr t ↦ rw t.0 refl
]

pub bound_left_out : (n i : ℕ) (k : ℤ) (old : Cells) → IsMatrix n old → ¬ InRange (k +ℤ k) → BoundsOne n i (Some k) old old Flagged
bound_left_out n i k old is passes = record {
  is = is;
  stores = λ s h l. h;
  here = λ e. absurd (cc);
  apart = λ a b ne. refl;
  flagged = λ e. doubled_passes k passes;
}

twice_at_most : (v w k d : ℤ) → w ≡ neg_ℤ v → v ≤ℤ k → d ≡ k +ℤ k → Some (v -ℤ w) ⊑ Some d
twice_at_most v w k d e h f = record { at_most = omega (arith, ints) }

pub bound_entered : (n i : ℕ) (k d : ℤ) (old new : Cells) → i < 2 * n → IsMatrix n old → IsMatrix n new → d ≡ k +ℤ k → new ≡ entered (opposite i) i (Some d) old → BoundsOne n i (Some k) old new Exact
bound_entered n i k d old new row is fit twice made =
    subst (λ (z : Cells). BoundsOne n i (Some k) old z Exact) (sym made) (record {
      is = subst (λ (z : Cells). IsMatrix n z) made fit;
      stores = λ s h l. entered_store n (opposite i) i (Some d) old s (opposite_below n i row) row is h
          (twice_at_most (signed_value s i) (signed_value s (opposite i)) k d (signed_opposite s i) l.at_most twice);
      here = λ e. written_same n (opposite i) i (lesser (cell old (opposite i) i) (Some d)) old (opposite_below n i row) row is.full
          ∙ ap (λ z. lesser z (Some d)) (sym (entries_inside n old (opposite i) i (opposite_below n i row) row)) ∙ ap (λ z. lesser (entries n old (opposite i) i) (Some z)) twice;
      apart = λ a b ne. elim (written_cases n (opposite i) i (lesser (cell old (opposite i) i) (Some d)) old (opposite_below n i row) row is.full a b) [
        | inl c ↦ elim c.1 [ inl p ↦ absurd (ne p.0 p.1) | inr p ↦ absurd (ne p.0 (p.1 ∙ opposite_twice i)) ]
        | inr e ↦ e
      ];
      flagged = λ e. absurd (cc);
    })

-- the signed variables below k are bounded
pub record BoundsUpTo (n k : ℕ) (ends : List Interval) (old new : Cells) (e : Exactness) : Type 0 where
  pub is : IsMatrix n new
  pub stores : (s : List ℤ) → IsStore n (entries n old) s → ((j : ℕ) → j < k → Some (signed_value s j) ⊑ upper ends j) → IsStore n (entries n new) s
  pub here : e ≡ Exact → (j : ℕ) → j < k → entries n new (opposite j) j ≡ lesser (entries n old (opposite j) j) (upper ends j ⊞ upper ends j)
  pub apart : (a b : ℕ) → (a ≡ opposite b → b < k → ⊥) → entries n new a b ≡ entries n old a b
  pub flagged : e ≡ Flagged → SomePasses n ends

pub ruleset bound_rules = (bound_none, bound_left_out, bound_entered)

pub bounds_start : (n : ℕ) (is : List Interval) (old : Cells) → IsMatrix n old → BoundsUpTo n 0 is old old Exact
bounds_start n is old fit = record {
  is = fit;
  stores = λ s h up. h;
  here = λ e j l. absurd (omega arith);
  apart = λ a b ne. refl;
  flagged = λ e. absurd (cc);
}

pub bounds_more : (n i : ℕ) (is : List Interval) (old mid new : Cells) (x y z : Exactness) → i < 2 * n → BoundsUpTo n i is old mid x → BoundsOne n i (upper is i) mid new y
    → (z ≡ Exact → (x ≡ Exact) × (y ≡ Exact)) → (z ≡ Flagged → (x ≡ Flagged) ⊎ ((x ≡ Exact) × (y ≡ Flagged))) → BoundsUpTo n (i + 1) is old new z
bounds_more n i is old mid new x y z row before one both either = record {
  is = one.is;
  stores = λ s h up. one.stores s (before.stores s h (λ j l. up j (omega arith))) (up i (omega arith));
  here = λ e j l. let w = both e in elim (eqb_tells j i) [
    | inl t ↦ subst (λ (k : ℕ). entries n new (opposite k) k ≡ lesser (entries n old (opposite k) k) (upper is k ⊞ upper is k)) (sym t.1)
        (one.here w.1 ∙ ap (λ o. lesser o (upper is i ⊞ upper is i)) (before.apart (opposite i) i (λ p q. omega arith)))
    | inr t ↦ one.apart (opposite j) j (λ p q. t.1 q) ∙ before.here w.0 j (let ne = t.1 in omega arith)
  ];
  apart = λ a b ne. one.apart a b (λ p q. ne (p ∙ ap opposite (sym q)) (omega arith)) ∙ before.apart a b (λ p q. ne p (omega arith));
  flagged = λ e. elim (either e) [ inl f ↦ before.flagged f | inr f ↦ (i, row, one.flagged f.1) ];
}

pub bounds_end : (n k : ℕ) (is : List Interval) (old new : Cells) (x : Exactness) → k ≡ 2 * n → BoundsUpTo n k is old new x → BoundsAll n is old new x
bounds_end n k is old new x e all = record {
  is = all.is;
  stores = λ s h up. all.stores s h (λ j l. up j (omega arith));
  exact = λ f. record {
    is = all.is;
    entries = λ i j h l. elim (eqb_tells i (opposite j)) as (λ _. entries n new i j ≡ bounded is (entries n old) i j) [
      | inl t ↦ rw t.0 (subst (λ (a : ℕ). entries n new a j ≡ lesser (entries n old a j) (upper is j ⊞ upper is j)) (sym t.1) (all.here f j (omega arith)))
      | inr t ↦ rw t.0 (all.apart i j (λ p q. t.1 p))
    ];
  };
  flagged = all.flagged;
}
