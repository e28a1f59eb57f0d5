-- Closing leaves the diagonal at 0.
use Rattle.std.proofs.Common.{◌≡◌, ℕ, ◌*◌, ◌<◌, ◌≤◌, inl, inr, ℤ, pos, Option, None, Some, refl, sym, ap, ◌∙◌, arith, Bool, true, false, cond}
use Rattle.std.proofs.lemmas.Int.{ints, clamps}
use Rattle.std.specs.Prelude.{◌+ℤ◌}
use Rattle.lra_dbm.specs.Crates.lra_linear_spec.Range.{in_range}
use Rattle.lra_dbm.specs.Steps.{Progress, rounded, all_rounded, bounds_sum, strengthened_at, row_strengthened, all_strengthened}
use Rattle.lra_dbm.specs.{Cells.cell, Cells.entries, Cells.IsMatrix, Entry.◌⊑◌, Entry.◌⊞◌, Entry.lesser, Entry.half_of, Entry.within_range, Tight.opposite}
use Rattle.lra_dbm.proofs.{CellLemmas.opposite_below, CellLemmas.entries_inside, CellLemmas.written_cases, Closed.rounded_comes, Closed.strengthened_comes, EntryLemmas.le_same, EntryLemmas.le_trans}
use Rattle.lra_dbm.proofs.{EntryLemmas.le_lesser, Lowering.Comes, Lowering.comes_here, Lowering.comes_on, Lowering.in_turn_keeps, Strong.opposite_twice, Strong.half_bounds, Strong.halves_grow}

opposite_apart : (i : ℕ) → i ≡ opposite i → ⊥
unfolding opposite
opposite_apart i e = absurd (omega arith)

-- what a turn of the loops keeps: the diagonal is at least 0, the unary entries are those of p
record Even (n : ℕ) (p q : Progress) : Type 0 where
  comes : Comes n p q
  unary : (a : ℕ) → entries n q.cells a (opposite a) ≡ entries n p.cells a (opposite a)
  diagonal : (a : ℕ) → a < 2 * n → Some (pos 0) ⊑ entries n q.cells a a

-- ---- rounding

module _ (n : ℕ) where
  rounded_diagonal : (i : ℕ) (p : Progress) → i < 2 * n → IsMatrix n p.cells → (a : ℕ) → entries n (rounded i p).cells a a ≡ entries n p.cells a a
  rounded_diagonal i p h is a =
      let sum = within_range (half_of (cell p.cells i (opposite i)) ⊞ half_of (cell p.cells i (opposite i))) in
      elim (written_cases n i (opposite i) (lesser (cell p.cells i (opposite i)) sum) p.cells h (opposite_below n i h) is.full a a) [
        | inl c ↦ absurd (elim c.1 [
          | inl s ↦ opposite_apart i (sym s.0 ∙ s.1)
          | inr s ↦ opposite_apart i (sym (opposite_twice i) ∙ sym s.0 ∙ s.1)
        ])
        | inr e ↦ e
      ]

  pub all_rounded_diagonal : (k : ℕ) (p : Progress) → k ≤ 2 * n → IsMatrix n p.cells → (a : ℕ) → entries n (all_rounded k p).cells a a ≡ entries n p.cells a a
  unfolding all_rounded
  all_rounded_diagonal k p most is =
      (in_turn_keeps (λ q. Comes n p q × ((a : ℕ) → entries n q.cells a a ≡ entries n p.cells a a)) rounded k
      (λ i q l h. (comes_on h.0 (rounded_comes n i q (omega arith) h.0.is), λ a. rounded_diagonal i q (omega arith) h.0.is a ∙ h.1 a))
      p (comes_here n p is, λ a. refl)).1

-- ---- strengthening

doubled_half : (x : ℤ) (t : Bool) → lesser (Some x) (half_of (cond t (Some (x +ℤ x)) None)) ≡ Some x
doubled_half x true = let b = half_bounds (x +ℤ x) in let low = b.0 in let high = b.1 in ap Some (omega (arith, ints, clamps))
doubled_half x false = refl

same_unary : (x : Option ℤ) → lesser x (half_of (within_range (x ⊞ x))) ≡ x
same_unary None = refl
same_unary (Some x) = doubled_half x (in_range (x +ℤ x))

module _ (n : ℕ) (p : Progress) (room : (i : ℕ) → i < 2 * n → Some (pos 0) ⊑ within_range (bounds_sum p.cells i)) where
  module _ (i j : ℕ) (q : Progress) (h : i < 2 * n) (k : j < 2 * n) (before : Even n p q) where
    abbrev sum : Option ℤ
    sum = cell q.cells i (opposite i) ⊞ cell q.cells (opposite j) j

    abbrev least : Option ℤ
    least = lesser (cell q.cells i j) (half_of (within_range sum))

    same_least : j ≡ opposite i → least ≡ cell q.cells i j
    same_least e = rw (e, opposite_twice i) (same_unary (cell q.cells i (opposite i)))

    on_unary : (a : ℕ) → entries n (strengthened_at i j q).cells a (opposite a) ≡ entries n q.cells a (opposite a)
    on_unary a = elim (written_cases n i j least q.cells h k before.comes.is.full a (opposite a)) [
      | inr e ↦ e
      | inl c ↦ (
          let at : (a ≡ i) × (opposite a ≡ j) = elim c.1 [
            | inl s ↦ s
            | inr s ↦ (sym (opposite_twice a) ∙ ap opposite s.1 ∙ opposite_twice i, ap opposite s.0 ∙ opposite_twice j)
          ] in
          c.0 ∙ same_least (sym at.1 ∙ ap opposite at.0) ∙ sym (entries_inside n q.cells i j h k)
          ∙ ap (λ z. entries n q.cells z j) (sym at.0) ∙ ap (entries n q.cells a) (sym at.1))
    ]

    -- the sum of the two bounds of a variable is still as it was
    same_sum : bounds_sum q.cells i ≡ bounds_sum p.cells i
    same_sum =
        let o = opposite_below n i h in
        let one : cell q.cells i (opposite i) ≡ cell p.cells i (opposite i) =
        sym (entries_inside n q.cells i (opposite i) h o) ∙ before.unary i ∙ entries_inside n p.cells i (opposite i) h o in
        let two : cell q.cells (opposite i) i ≡ cell p.cells (opposite i) i =
        sym (entries_inside n q.cells (opposite i) i o h) ∙ ap (entries n q.cells (opposite i)) (sym (opposite_twice i)) ∙ before.unary (opposite i)
        ∙ ap (entries n p.cells (opposite i)) (opposite_twice i) ∙ entries_inside n p.cells (opposite i) i o h in
        rw (one, two) refl

    least_room : i ≡ j → Some (pos 0) ⊑ least
    least_room e = le_lesser
        (le_trans (before.diagonal i h) (le_same (ap (entries n q.cells i) e ∙ entries_inside n q.cells i j h k)))
        (halves_grow (Some (pos 0)) (within_range sum) (le_trans (room i h) (le_same (ap within_range (sym same_sum ∙ ap (λ z. cell q.cells i (opposite i) ⊞ cell q.cells (opposite z) z) e)))))

    on_diagonal : (a : ℕ) → a < 2 * n → Some (pos 0) ⊑ entries n (strengthened_at i j q).cells a a
    on_diagonal a l = elim (written_cases n i j least q.cells h k before.comes.is.full a a) [
      | inr e ↦ le_trans (before.diagonal a l) (le_same (sym e))
      | inl c ↦ le_trans (least_room (elim c.1 [
        | inl s ↦ sym s.0 ∙ s.1
        | inr s ↦ sym (opposite_twice i) ∙ ap opposite (sym s.1 ∙ s.0) ∙ opposite_twice j
      ])) (le_same (sym c.0))
    ]

    step_even : Even n p (strengthened_at i j q)
    step_even = record {
      comes = comes_on before.comes (strengthened_comes n i j q h k before.comes.is);
      unary = λ a. on_unary a ∙ before.unary a;
      diagonal = on_diagonal;
    }

  row_even : (i : ℕ) (q : Progress) → i < 2 * n → Even n p q → Even n p (row_strengthened i (2 * n) q)
  row_even i q h before = in_turn_keeps (λ r. Even n p r) (strengthened_at i) (2 * n) (λ j r l e. step_even i j r h l e) q before

  pub strengthened_diagonal : IsMatrix n p.cells → ((a : ℕ) → a < 2 * n → Some (pos 0) ⊑ entries n p.cells a a)
      → (a : ℕ) → a < 2 * n → Some (pos 0) ⊑ entries n (all_strengthened n (2 * n) p).cells a a
  unfolding all_strengthened
  strengthened_diagonal is d =
      (in_turn_keeps (λ r. Even n p r) (λ i. row_strengthened i (2 * n)) (2 * n) (λ i r l e. row_even i r l e)
      p (record { comes = comes_here n p is; unary = λ a. refl; diagonal = d })).diagonal
