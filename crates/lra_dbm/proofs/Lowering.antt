-- What lowering an entry does: the step of which closing is made.
use Rattle.std.proofs.Common.{◌≡◌, ℕ, zero, suc, ◌*◌, ◌<◌, inl, inr, ℤ, Option, None, Some, refl, sym, ap, ◌∙◌, arith, Bool, true, false, cond, subst}
use Rattle.std.proofs.lemmas.Bool.{or_parts}
use Rattle.std.proofs.{lemmas.Bool.Decides.leb_tells, lemmas.Int.ints}
use Rattle.std.specs.Prelude.{not, unsigned_abs, ◌^◌}
use borrow.Author.Count.{below_more}
use Rattle.lra_dbm.specs.Entry.{◌⊑◌, lesser, EntryInRange, half_of, within_range, passes_range}
use Rattle.lra_dbm.specs.{Cells.Cells, Cells.cell, Cells.entries, Cells.entered, Cells.IsMatrix, Steps.Progress, Steps.in_turn, Steps.lowered, Tight.Entries, Tight.opposite}
use Rattle.lra_dbm.proofs.CellLemmas.{entries_inside, length-written, written_twin, written_same, written_cases}
use Rattle.lra_dbm.proofs.EntryLemmas.{le_refl, le_same, le_none, le_trans, le_antisym, lesser_left, lesser_right, lesser_is, le_lesser}
use Rattle.lra_dbm.proofs.{Strong.opposite_twice, Strong.half_bounds, Ways.Below}
use Rattle.lra_dbm.specs.Crates.lra_linear_spec.Range.{in_range}

pub lesser_fits : (a b : Option ℤ) → EntryInRange a → EntryInRange b → EntryInRange (lesser a b)
lesser_fits a b f g = elim (lesser_is a b) [ inl e ↦ subst (λ (z : Option ℤ). EntryInRange z) (sym e) f | inr e ↦ subst (λ (z : Option ℤ). EntryInRange z) (sym e) g ]

pub within_range_fits : (v : Option ℤ) → EntryInRange (within_range v)
within_range_fits None = tt
within_range_fits (Some v) = elim (leb_tells (suc (unsigned_abs v)) (2 ^ 127)) as (λ _. EntryInRange (cond (in_range v) (Some v) None)) [
  | inl h ↦ rw h.0 h.1
  | inr h ↦ rw h.0 tt
]

pub half_fits : (v : Option ℤ) → EntryInRange v → EntryInRange (half_of v)
half_fits None f = tt
half_fits (Some v) f = let b = half_bounds v in let low = b.0 in let high = b.1 in omega (arith, ints)

module _ (n i j : ℕ) (v : Option ℤ) (cells : Cells) (at_i : i < 2 * n) (at_j : j < 2 * n) (is : IsMatrix n cells) where
  least : lesser (cell cells i j) v ⊑ entries n cells i j
  least = le_trans (lesser_left (cell cells i j) v) (le_same (sym (entries_inside n cells i j at_i at_j)))

  pub enter_lowers : Below (entries n (entered i j v cells)) (entries n cells)
  enter_lowers = record {
    at = λ a b. elim (written_cases n i j (lesser (cell cells i j) v) cells at_i at_j is.full a b) [
      | inr e ↦ le_same e
      | inl e ↦ le_trans (le_same e.0) (le_trans least (le_same (elim e.1 [
        | inl s ↦ ap (λ z. entries n cells z j) (sym s.0) ∙ ap (entries n cells a) (sym s.1)
        | inr s ↦ is.coherent i j ∙ ap (λ z. entries n cells z (opposite i)) (sym s.0) ∙ ap (entries n cells a) (sym s.1)
      ])))
    ];
  }

  pub enter_at : entries n (entered i j v cells) i j ⊑ v
  enter_at = le_trans (le_same (written_same n i j (lesser (cell cells i j) v) cells at_i at_j is.full)) (lesser_right (cell cells i j) v)

  enter_twin : entries n (entered i j v cells) (opposite j) (opposite i) ⊑ v
  enter_twin = le_trans (le_same (written_twin n i j (lesser (cell cells i j) v) cells at_i at_j is.full)) (lesser_right (cell cells i j) v)

  pub enter_kept : (c : Entries) → Below c (entries n cells) → c i j ⊑ v → c (opposite j) (opposite i) ⊑ v → Below c (entries n (entered i j v cells))
  enter_kept c b h k = record {
    at = λ a d. elim (written_cases n i j (lesser (cell cells i j) v) cells at_i at_j is.full a d) [
      | inr e ↦ le_trans (b.at a d) (le_same (sym e))
      | inl e ↦ le_trans (elim e.1 [
        | inl s ↦ le_trans (le_same (ap (λ z. c z d) s.0 ∙ ap (c i) s.1)) (le_lesser (le_trans (b.at i j) (le_same (entries_inside n cells i j at_i at_j))) h)
        | inr s ↦ le_trans (le_same (ap (λ z. c z d) s.0 ∙ ap (c (opposite j)) s.1)) (le_lesser (le_trans (b.at (opposite j) (opposite i))
            (le_same (sym (is.coherent i j) ∙ entries_inside n cells i j at_i at_j))) k)
      ]) (le_same (sym e.0))
    ];
  }

  turned : Below (λ a b. entries n (entered i j v cells) (opposite b) (opposite a)) (entries n (entered i j v cells))
  turned = enter_kept (λ a b. entries n (entered i j v cells) (opposite b) (opposite a))
      (record { at = λ a b. le_trans (enter_lowers.at (opposite b) (opposite a)) (le_same (sym (is.coherent a b))) })
      enter_twin
      (le_trans (le_same (ap (λ z. entries n (entered i j v cells) z (opposite (opposite j))) (opposite_twice i) ∙ ap (entries n (entered i j v cells) i) (opposite_twice j))) enter_at)

  pub enter_matrix : EntryInRange v → IsMatrix n (entered i j v cells)
  enter_matrix fit = record {
    full = length-written i j (lesser (cell cells i j) v) cells ∙ is.full;
    coherent = λ a b. le_antisym
        (le_trans (le_same (sym (ap (λ z. entries n (entered i j v cells) z (opposite (opposite b))) (opposite_twice a) ∙ ap (entries n
        (entered i j v cells) a) (opposite_twice b)))) (turned.at (opposite b) (opposite a)))
        (turned.at a b);
    diagonal = λ a. le_trans (enter_lowers.at a a) (is.diagonal a);
    range = λ a b. elim (written_cases n i j (lesser (cell cells i j) v) cells at_i at_j is.full a b) [
      | inl e ↦ subst (λ (z : Option ℤ). EntryInRange z) (sym e.0) (lesser_fits (cell cells i j) v (subst (λ (z : Option ℤ). EntryInRange z) (entries_inside n cells i j at_i at_j) (is.range i j)) fit)
      | inr e ↦ subst (λ (z : Option ℤ). EntryInRange z) (sym e) (is.range a b)
    ];
  }

pub le_within_range : (v : Option ℤ) → v ⊑ within_range v
le_within_range None = record { at_most = tt }
le_within_range (Some v) = elim (in_range v) as (λ t. Some v ⊑ cond t (Some v) None) [ true ↦ le_refl (Some v) | false ↦ le_none (Some v) ]

pub within_range_same : (v : Option ℤ) → passes_range v ≡ false → within_range v ≡ v
within_range_same None h = refl
within_range_same (Some v) h = by_range (in_range v) h
  where
    by_range : (t : Bool) → not t ≡ false → cond t (Some v) None ≡ Some v
    by_range true h = refl
    by_range false h = absurd (cc)

-- from p to q entries only fall, and flags only rise
pub record Comes (n : ℕ) (p q : Progress) : Type 0 where
  pub is : IsMatrix n q.cells
  pub lowers : Below (entries n q.cells) (entries n p.cells)
  pub flags : q.flagged ≡ false → p.flagged ≡ false

pub comes_here : (n : ℕ) (p : Progress) → IsMatrix n p.cells → Comes n p p
comes_here n p is = record { is = is; lowers = record { at = λ i j. le_refl (entries n p.cells i j) }; flags = λ h. h }

pub comes_on : {n : ℕ} {p q r : Progress} → Comes n p q → Comes n q r → Comes n p r
comes_on {n} {p} {q} {r} a b = record {
  is = b.is;
  lowers = record { at = λ i j. le_trans (b.lowers.at i j) (a.lowers.at i j) };
  flags = λ h. a.flags (b.flags h);
}

pub lowered_comes : (n i j : ℕ) (v : Option ℤ) (p : Progress) → i < 2 * n → j < 2 * n → IsMatrix n p.cells → Comes n p (lowered i j v p)
lowered_comes n i j v p h k is = record {
  is = enter_matrix n i j (within_range v) p.cells h k is (within_range_fits v);
  lowers = enter_lowers n i j (within_range v) p.cells h k is;
  flags = λ f. (or_parts p.flagged (passes_range v) f).0;
}

pub lowered_at : (n i j : ℕ) (v : Option ℤ) (p : Progress) → i < 2 * n → j < 2 * n → IsMatrix n p.cells → (lowered i j v p).flagged ≡ false → entries n (lowered i j v p).cells i j ⊑ v
lowered_at n i j v p h k is f = le_trans (enter_at n i j (within_range v) p.cells h k is) (le_same (within_range_same v (or_parts p.flagged (passes_range v) f).1))

pub lowered_kept : (n i j : ℕ) (v : Option ℤ) (p : Progress) → i < 2 * n → j < 2 * n → IsMatrix n p.cells → (c : Entries) → Below c (entries n p.cells)
    → c i j ⊑ v → c (opposite j) (opposite i) ⊑ v → Below c (entries n (lowered i j v p).cells)
lowered_kept n i j v p h k is c b x y = enter_kept n i j (within_range v) p.cells h k is c b (le_trans x (le_within_range v)) (le_trans y (le_within_range v))

-- ---- folds

pub in_turn_keeps : (P : Progress → Type 0) (f : ℕ → Progress → Progress) (n : ℕ) → ((k : ℕ) (p : Progress) → k < n → P p → P (f k p)) → (p : Progress) → P p → P (in_turn f n p)
in_turn_keeps P f zero step p h = h
in_turn_keeps P f (suc n) step p h = step n (in_turn f n p) (omega arith) (in_turn_keeps P f n (λ k q l. step k q (omega arith)) p h)

-- what each step gives, and the later ones keep
pub in_turn_each : (P : Progress → Type 0) (Q : ℕ → Progress → Type 0) (f : ℕ → Progress → Progress) (n : ℕ)
    → ((k : ℕ) (p : Progress) → k < n → P p → P (f k p))
    → ((k : ℕ) (p : Progress) → k < n → P p → Q k (f k p))
    → ((k : ℕ) (p : Progress) → k < n → P p → (j : ℕ) → Q j p → Q j (f k p))
    → (p : Progress) → P p → (j : ℕ) → j < n → Q j (in_turn f n p)
in_turn_each P Q f zero keep give stay p h j l = absurd (omega arith)
in_turn_each P Q f (suc n) keep give stay p h j l =
    let before = in_turn_keeps P f n (λ k q l. keep k q (omega arith)) p h in
    below_more (λ j. Q j (f n (in_turn f n p))) n
    (λ j l. stay n (in_turn f n p) (omega arith) before j (in_turn_each P Q f n (λ k q l. keep k q (omega arith)) (λ k q l. give k q (omega arith)) (λ k q l. stay k q (omega arith)) p h j l))
    (give n (in_turn f n p) (omega arith) before) j (omega arith)
