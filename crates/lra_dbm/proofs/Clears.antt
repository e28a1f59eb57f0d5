-- Clearing a row entry by entry, and the two rows of a variable.
use Rattle.std.proofs.Common.{◌≡◌, ◌≢◌, ℕ, ◌+◌, ◌*◌, ◌/◌, ◌%◌, ◌<◌, ◌⊎◌, inl, inr, ℤ, pos, length, Option, None, Some, refl, sym, ap, ◌∙◌, subst, arith, cond}
use Rattle.std.proofs.lemmas.Bool.Decides.{eqb_tells}
use Rattle.std.specs.Prelude.{◌==◌, ◌||◌}
use Rattle.lra_dbm.specs.{Cells.Cells, Cells.size, Cells.entries, Cells.written, Cells.IsMatrix, Cells.forgotten, Clearing.RowCleared, Entry.EntryInRange, Tight.Entries, Tight.opposite}
use Rattle.lra_dbm.proofs.CellLemmas.{opposite_below, inside_or_out, length-written, written_twin, written_same, written_cases}
use Rattle.lra_dbm.proofs.{EntryLemmas.le_same, EntryLemmas.le_trans, Stores.parity_of, Strong.opposite_twice}

pub starts : (n i : ℕ) (cells : Cells) → length cells ≡ size n → RowCleared n i 0 (entries n cells) cells
starts n i cells full = record {
  full = full;
  gone = λ a b h k ne w. elim w [ inl p ↦ absurd (let q = p.1 in omega arith) | inr p ↦ absurd (let q = p.1 in omega arith) ];
  apart = λ a b w. refl;
  either = λ a b. inr refl;
}

opposite_self : (i : ℕ) → opposite i ≡ i → ⊥
unfolding opposite
opposite_self i e = absurd (omega arith)

module _ (n i j : ℕ) (old : Entries) (cells : Cells) (before : RowCleared n i j old cells) where
  pub skips : i ≡ j → RowCleared n i (j + 1) old cells
  skips same = record {
    full = before.full;
    gone = λ a b h k ne w. before.gone a b h k ne (elim w [
      | inl p ↦ inl (p.0, (let q = p.1 in let e : a ≡ i = p.0 in omega arith))
      | inr p ↦ inr (p.0, (let q = p.1 in let ne' : opposite a ≢ j = (λ f. ne (sym (opposite_twice a) ∙ ap opposite (f ∙ sym same) ∙ sym p.0)) in omega arith))
    ]);
    apart = before.apart;
    either = before.either;
  }

  module _ (at_i : i < 2 * n) (at_j : j < 2 * n) (other : i ≢ j) where
    as_before : (a b : ℕ) → (((a ≡ i) × (b ≡ j)) ⊎ ((a ≡ opposite j) × (b ≡ opposite i)) → ⊥) → entries n (written i j None cells) a b ≡ entries n cells a b
    as_before a b elsewhere = elim (written_cases n i j None cells at_i at_j before.full a b) [ inl c ↦ absurd (elsewhere c.1) | inr e ↦ e ]

    pub goes_on : RowCleared n i (j + 1) old (written i j None cells)
    goes_on = record {
      full = length-written i j None cells ∙ before.full;
      gone = λ a b h k ne w. elim (written_cases n i j None cells at_i at_j before.full a b) [
        | inl c ↦ c.0
        | inr e ↦ elim w [
          | inl p ↦ elim (eqb_tells b j) [
            | inl f ↦ ap (λ z. entries n (written i j None cells) z b) p.0 ∙ ap (entries n (written i j None cells) i) f.1 ∙ written_same n i j None cells at_i at_j before.full
            | inr f ↦ e ∙ before.gone a b h k ne (inl (p.0, (let q = p.1 in let g = f.1 in omega arith)))
          ]
          | inr p ↦ elim (eqb_tells (opposite a) j) [
            | inl f ↦ ap (λ z. entries n (written i j None cells) z b) (sym (opposite_twice a) ∙ ap opposite f.1) ∙ ap (entries n (written i j None cells) (opposite j)) p.0
                ∙ written_twin n i j None cells at_i at_j before.full
            | inr f ↦ e ∙ before.gone a b h k ne (inr (p.0, (let q = p.1 in let g = f.1 in omega arith)))
          ]
        ]
      ];
      apart = λ a b w. as_before a b (λ c. elim c [
        | inl p ↦ elim w [ inl e ↦ other (sym p.0 ∙ e ∙ p.1) | inr d ↦ d.0 p.0 ]
        | inr p ↦ elim w [ inl e ↦ other (sym (opposite_twice i) ∙ ap opposite (sym p.1 ∙ sym e ∙ p.0) ∙ opposite_twice j) | inr d ↦ d.1 p.1 ]
      ]) ∙ before.apart a b w;
      either = λ a b. elim (written_cases n i j None cells at_i at_j before.full a b) [
        | inl c ↦ inl c.0
        | inr e ↦ elim (before.either a b) [ inl f ↦ inl (e ∙ f) | inr f ↦ inr (e ∙ f) ]
      ];
    }

-- ---- both rows of a variable

pub in_pair : (x a : ℕ) → a / 2 ≡ x → (a ≡ 2 * x) ⊎ (a ≡ 2 * x + 1)
in_pair x a e = elim (parity_of (a % 2) (omega arith)) as (λ _. (a ≡ 2 * x) ⊎ (a ≡ 2 * x + 1)) [
  | inl r ↦ (let f = r in inl (omega arith))
  | inr r ↦ (let f = r in inr (omega arith))
]

pub half_opposite : (a : ℕ) → opposite a / 2 ≡ a / 2
unfolding opposite
half_opposite a = omega arith

pub opposite_plus : (x : ℕ) → opposite (2 * x) ≡ 2 * x + 1
unfolding opposite
opposite_plus x = omega arith

pub opposite_minus : (x : ℕ) → opposite (2 * x + 1) ≡ 2 * x
unfolding opposite
opposite_minus x = omega arith

module _ (n x : ℕ) (old one two : Cells) (small : x < n) (is : IsMatrix n old) (first : RowCleared n (2 * x) (2 * n) (entries n old) one)
    (second : RowCleared n (2 * x + 1) (2 * n) (entries n one) two) where
  kept_none : (a b : ℕ) → entries n one a b ≡ None → entries n two a b ≡ None
  kept_none a b e = elim (second.either a b) [ inl f ↦ f | inr f ↦ f ∙ e ]

  -- an entry of x apart from the diagonal
  of_x : (a b : ℕ) → a < 2 * n → b < 2 * n → a ≢ b → (a / 2 ≡ x) ⊎ (b / 2 ≡ x) → entries n two a b ≡ None
  of_x a b h k ne (inl e) = elim (in_pair x a e) [
    | inl p ↦ kept_none a b (first.gone a b h k ne (inl (p, k)))
    | inr p ↦ second.gone a b h k ne (inl (p, k))
  ]
  of_x a b h k ne (inr e) = elim (in_pair x b e) [
    | inl p ↦ second.gone a b h k ne (inr (p ∙ sym (opposite_minus x), opposite_below n a h))
    | inr p ↦ kept_none a b (first.gone a b h k ne (inr (p ∙ sym (opposite_plus x), opposite_below n a h)))
  ]

  other : (a b : ℕ) → (a ≡ b) ⊎ ((a / 2 ≢ x) × (b / 2 ≢ x)) → entries n two a b ≡ entries n old a b
  other a b (inl e) = second.apart a b (inl e) ∙ first.apart a b (inl e)
  other a b (inr f) =
      second.apart a b (inr ((λ e. f.0 (omega arith)), (λ e. let g = e ∙ opposite_minus x in f.1 (omega arith))))
      ∙ first.apart a b (inr ((λ e. f.0 (omega arith)), (λ e. let g = e ∙ opposite_plus x in f.1 (omega arith))))

  beyond_none : (a b : ℕ) (c : Cells) → a ≢ b → ((cells : Cells) → entries n cells a b ≡ cond (a == b) (Some (pos 0)) None) → entries n c a b ≡ None
  beyond_none a b c ne out = out c ∙ elim (eqb_tells a b) as (λ _. cond (a == b) (Some (pos 0)) None ≡ None) [ inl e ↦ absurd (ne e.1) | inr e ↦ rw e.0 refl ]

  of_x_anywhere : (a b : ℕ) → a ≢ b → (a / 2 ≡ x) ⊎ (b / 2 ≡ x) → entries n two a b ≡ None
  of_x_anywhere a b ne w = elim (inside_or_out n a b) [
    | inl h ↦ of_x a b h.0 h.1 ne w
    | inr out ↦ beyond_none a b two ne out
  ]

  pub both_cleared : (a b : ℕ) → entries n two a b ≡ forgotten x (entries n old) a b
  both_cleared a b = elim (eqb_tells a b) as (λ _. entries n two a b ≡ forgotten x (entries n old) a b) [
    | inl e ↦ rw e.0 (other a b (inl e.1))
    | inr e ↦ rw e.0 (elim (eqb_tells (a / 2) x) as (λ _. entries n two a b ≡ cond (a / 2 == x || b / 2 == x) None (entries n old a b)) [
      | inl f ↦ rw f.0 (of_x_anywhere a b e.1 (inl f.1))
      | inr f ↦ rw f.0 (elim (eqb_tells (b / 2) x) as (λ _. entries n two a b ≡ cond (b / 2 == x) None (entries n old a b)) [
        | inl g ↦ rw g.0 (of_x_anywhere a b e.1 (inr g.1))
        | inr g ↦ rw g.0 (other a b (inr (f.1, g.1)))
      ])
    ])
  ]

  -- an entry is none or as it was
  either_way : (a b : ℕ) → (entries n two a b ≡ None) ⊎ (entries n two a b ≡ entries n old a b)
  either_way a b = elim (second.either a b) [ inl e ↦ inl e | inr e ↦ elim (first.either a b) [ inl f ↦ inl (e ∙ f) | inr f ↦ inr (e ∙ f) ] ]

  pub forgotten_matrix : IsMatrix n two
  forgotten_matrix = record {
    full = second.full;
    coherent = λ a b. elim (eqb_tells a b) [
      | inl e ↦ other a b (inl e.1) ∙ is.coherent a b ∙ sym (other (opposite b) (opposite a) (inl (ap opposite (sym e.1))))
      | inr e ↦ (let ne : opposite b ≢ opposite a = (λ f. e.1 (sym (opposite_twice a) ∙ ap opposite (sym f) ∙ opposite_twice b)) in
          elim (eqb_tells (a / 2) x) [
            | inl f ↦ of_x_anywhere a b e.1 (inl f.1) ∙ sym (of_x_anywhere (opposite b) (opposite a) ne (inr (half_opposite a ∙ f.1)))
            | inr f ↦ elim (eqb_tells (b / 2) x) [
              | inl g ↦ of_x_anywhere a b e.1 (inr g.1) ∙ sym (of_x_anywhere (opposite b) (opposite a) ne (inl (half_opposite b ∙ g.1)))
              | inr g ↦ other a b (inr (f.1, g.1)) ∙ is.coherent a b
                  ∙ sym (other (opposite b) (opposite a) (inr ((λ h. g.1 (sym (half_opposite b) ∙ h)), (λ h. f.1 (sym (half_opposite a) ∙ h)))))
            ]
          ])
    ];
    diagonal = λ a. le_trans (le_same (other a a (inl refl))) (is.diagonal a);
    range = λ a b. elim (either_way a b) [
      | inl e ↦ subst (λ (z : Option ℤ). EntryInRange z) (sym e) tt
      | inr e ↦ subst (λ (z : Option ℤ). EntryInRange z) (sym e) (is.range a b)
    ];
  }
