-- Rewriting the two rows of a variable to which a number is added.
use Rattle.std.proofs.Common.{◌≡◌, ◌≢◌, ℕ, zero, suc, ◌+◌, ◌*◌, ◌/◌, ◌<◌, ◌^◌, ◌⊎◌, inl, inr, ℤ, pos, length, Option, None, Some, refl, sym, ap, ◌∙◌, subst, arith, cond, Bool, true, false}
use Rattle.std.proofs.lemmas.Bool.{or_parts}
use Rattle.std.proofs.{lemmas.Bool.Decides.eqb_tells, lemmas.Bool.Decides.leb_tells, lemmas.Int.ints}
use Rattle.std.specs.Prelude.{◌==◌, ◌&&◌, ◌||◌, ◌-ℤ◌, neg_ℤ, unsigned_abs}
use Rattle.lra_dbm.specs.Entry.{◌⊞◌, EntryInRange, within_range, passes_range}
use Rattle.lra_dbm.specs.Shifting.{added_to, origin, shifted, shifted_within, passes_at, ShiftPasses, ShiftedTo, RowGiven}
use Rattle.lra_dbm.specs.{Cells.Cells, Cells.size, Cells.entries, Cells.written, Cells.IsMatrix, Steps.any_below, Tight.Entries, Tight.opposite}
use Rattle.lra_dbm.proofs.CellLemmas.{opposite_below, inside_or_out, length-written, written_twin, written_same, written_cases}
use Rattle.lra_dbm.proofs.{Clears.in_pair, Clears.half_opposite, Clears.opposite_plus, Clears.opposite_minus, Paths.any_true}
use Rattle.lra_dbm.proofs.{EntryLemmas.le_same, EntryLemmas.le_trans, Lowering.within_range_fits, Lowering.within_range_same, Strong.opposite_twice}

-- ---- one more entry of a row

pub row_starts : (n i : ℕ) (given : Entries) (cells : Cells) → length cells ≡ size n → RowGiven n given i 0 cells cells
row_starts n i given cells full = record {
  full = full;
  here = λ a b h k w. elim w
      [ inl p ↦ absurd (let q = p.1 in omega arith) | inr p ↦ absurd (let q = p.1 in omega arith) ];
  either = λ a b h k. inr refl;
}

-- the entry at a pair, if twins are equal
at_pair : (m : Entries) (i j a b : ℕ) → m i j ≡ m (opposite j) (opposite i) → ((a ≡ i) × (b ≡ j)) ⊎
    ((a ≡ opposite j) × (b ≡ opposite i)) → m i j ≡ m a b
at_pair m i j a b twins (inl p) = rw (p.0, p.1) refl
at_pair m i j a b twins (inr p) = rw (p.0, p.1) twins

module _ (n i j : ℕ) (given : Entries) (old cells : Cells) (v : Option ℤ) (at_i : i < 2 * n) (at_j : j < 2 * n)
    (is : v ≡ given i j) (twins : given i j ≡ given (opposite j) (opposite i))
    (before : RowGiven n given i j old cells) where
  new_here : (a b : ℕ) → ((entries n (written i j v cells) a b ≡ v) ×
      (((a ≡ i) × (b ≡ j)) ⊎ ((a ≡ opposite j) × (b ≡ opposite i)))) → entries n (written i j v cells) a b ≡ given a b
  new_here a b c = c.0 ∙ is ∙ at_pair given i j a b twins c.1

  pub row_more : RowGiven n given i (j + 1) old (written i j v cells)
  row_more = record {
    full = length-written i j v cells ∙ before.full;
    here = λ a b h k w. elim (written_cases n i j v cells at_i at_j before.full a b) [
      | inl c ↦ new_here a b c
      | inr e ↦ elim w [
        | inl p ↦ elim (eqb_tells b j) [
          | inl f ↦ new_here a b (
            ap (λ z. entries n (written i j v cells) z b) p.0 ∙
                ap (entries n (written i j v cells) i) f.1 ∙ written_same n i j v cells at_i at_j before.full,
            inl (p.0, f.1),
          )
          | inr f ↦ e ∙ before.here a b h k (inl (p.0, (let q = p.1 in let g = f.1 in omega arith)))
        ]
        | inr p ↦ elim (eqb_tells (opposite a) j) [
          | inl f ↦ (let at : a ≡ opposite j = sym (opposite_twice a) ∙ ap opposite f.1 in
              new_here a b (
                ap (λ z. entries n (written i j v cells) z b) at ∙
                    ap (entries n (written i j v cells) (opposite j)) p.0 ∙
                    written_twin n i j v cells at_i at_j before.full,
                inr (at, p.0),
              ))
          | inr f ↦ e ∙ before.here a b h k (inr (p.0, (let q = p.1 in let g = f.1 in omega arith)))
        ]
      ]
    ];
    either = λ a b h k. elim (written_cases n i j v cells at_i at_j before.full a b) [
      | inl c ↦ inl (new_here a b c)
      | inr e ↦ elim (before.either a b h k) [ inl f ↦ inl (e ∙ f) | inr f ↦ inr (e ∙ f) ]
    ];
  }

-- ---- what a shift gives

source_opposite : (flips : Bool) (x i : ℕ) → origin flips x (opposite i) ≡ opposite (origin flips x i)
source_opposite flips x i = ap (λ z. cond (flips && z == x) (opposite (opposite i)) (opposite i)) (half_opposite i) ∙
    by_cases (flips && i / 2 == x)
  where
    by_cases : (t : Bool) → cond t (opposite (opposite i)) (opposite i) ≡ opposite (cond t (opposite i) i)
    by_cases true = refl
    by_cases false = refl

twice_negated : (c : ℤ) → c ≡ neg_ℤ (neg_ℤ c)
twice_negated c = omega (arith, ints)

pub added_plus : (x : ℕ) (c : ℤ) → added_to x c (2 * x) ≡ c
added_plus x c = elim (eqb_tells (2 * x) (2 * x)) as
    (λ _. added_to x c (2 * x) ≡ c) [ inl e ↦ rw e.0 refl | inr e ↦ absurd (e.1 refl) ]

pub added_minus : (x : ℕ) (c : ℤ) → added_to x c (2 * x + 1) ≡ neg_ℤ c
added_minus x c = elim (eqb_tells (2 * x + 1) (2 * x)) as (λ _. added_to x c (2 * x + 1) ≡ neg_ℤ c) [
  | inl e ↦ absurd (let f = e.1 in omega arith)
  | inr e ↦ rw e.0 (elim (eqb_tells (2 * x + 1) (2 * x + 1)) as
      (λ _. cond (2 * x + 1 == 2 * x + 1) (neg_ℤ c) (pos 0) ≡ neg_ℤ c)
      [ inl e ↦ rw e.0 refl | inr e ↦ absurd (e.1 refl) ])
]

pub added_other : (x : ℕ) (c : ℤ) (i : ℕ) → i / 2 ≢ x → added_to x c i ≡ pos 0
added_other x c i ne = elim (eqb_tells i (2 * x)) as (λ _. added_to x c i ≡ pos 0) [
  | inl e ↦ absurd (ne (let f = e.1 in omega arith))
  | inr e ↦ rw e.0 (elim (eqb_tells i (2 * x + 1)) as
      (λ _. cond (i == 2 * x + 1) (neg_ℤ c) (pos 0) ≡ pos 0)
      [ inl e ↦ absurd (ne (let f = e.1 in omega arith)) | inr e ↦ rw e.0 refl ])
]

added_opposite : (x : ℕ) (c : ℤ) (i : ℕ) → added_to x c (opposite i) ≡ neg_ℤ (added_to x c i)
added_opposite x c i = elim (eqb_tells (i / 2) x) [
  | inl h ↦ elim (in_pair x i h.1) [
    | inl e ↦ ap (λ z. added_to x c (opposite z)) e ∙ ap (added_to x c) (opposite_plus x) ∙ added_minus x c ∙
        ap neg_ℤ (sym (added_plus x c)) ∙ ap (λ z. neg_ℤ (added_to x c z)) (sym e)
    | inr e ↦ ap (λ z. added_to x c (opposite z)) e ∙ ap (added_to x c) (opposite_minus x) ∙ added_plus x c ∙
        twice_negated c ∙ ap neg_ℤ (sym (added_minus x c)) ∙ ap (λ z. neg_ℤ (added_to x c z)) (sym e)
  ]
  | inr h ↦ added_other x c (opposite i) (λ e. h.1 (sym (half_opposite i) ∙ e)) ∙ ap neg_ℤ (sym (added_other x c i h.1))
]

pub source_other : (flips : Bool) (x i : ℕ) → i / 2 ≢ x → origin flips x i ≡ i
source_other true x i ne = elim (eqb_tells (i / 2) x) as
    (λ _. origin true x i ≡ i) [ inl e ↦ absurd (ne e.1) | inr e ↦ rw e.0 refl ]
source_other false x i ne = refl

pub source_below : (n : ℕ) (flips : Bool) (x i : ℕ) → i < 2 * n → origin flips x i < 2 * n
source_below n flips x i h = by_cases (flips && i / 2 == x)
  where
    by_cases : (t : Bool) → cond t (opposite i) i < 2 * n
    by_cases true = opposite_below n i h
    by_cases false = h

plus_nothing : (o : Option ℤ) (d : ℤ) → o ⊞ Some (d -ℤ d) ≡ o
plus_nothing None d = refl
plus_nothing (Some v) d = ap Some (omega (arith, ints))

in_range_passes : (o : Option ℤ) → EntryInRange o → passes_range o ≡ false
in_range_passes None fit = refl
in_range_passes (Some v) fit = elim (leb_tells (suc (unsigned_abs v)) (2 ^ 127)) as
    (λ _. passes_range (Some v) ≡ false) [
      | inl h ↦ rw h.0 refl
      | inr h ↦ absurd (let far = h.1 in omega (arith, fit, far))
    ]

pub shifted_diagonal : (n : ℕ) (flips : Bool) (x : ℕ) (c : ℤ) (old : Cells) (i : ℕ) → IsMatrix n old
    → shifted_within flips x c (entries n old) i i ≡ entries n old (origin flips x i) (origin flips x i)
shifted_diagonal n flips x c old i is =
    ap within_range (plus_nothing (entries n old (origin flips x i) (origin flips x i)) (added_to x c i))
    ∙ within_range_same (entries n old (origin flips x i) (origin flips x i))
    (in_range_passes (entries n old (origin flips x i) (origin flips x i))
    (is.range (origin flips x i) (origin flips x i)))

module _ (n : ℕ) (flips : Bool) (x : ℕ) (c : ℤ) (old : Cells) (is : IsMatrix n old) where
  shift_twins : (a b : ℕ) → shifted flips x c (entries n old) a b ≡
      shifted flips x c (entries n old) (opposite b) (opposite a)
  shift_twins a b =
      rw (
        source_opposite flips x a,
        source_opposite flips x b,
        added_opposite x c a,
        added_opposite x c b,
        ← is.coherent (origin flips x a) (origin flips x b),
      )
      (ap (λ d. entries n old (origin flips x a) (origin flips x b) ⊞ Some d) (same (added_to x c a) (added_to x c b)))
    where
      same : (p q : ℤ) → q -ℤ p ≡ neg_ℤ p -ℤ neg_ℤ q
      same p q = omega (arith, ints)

  pub twins_within : (a b : ℕ) → shifted_within flips x c (entries n old) a b ≡
      shifted_within flips x c (entries n old) (opposite b) (opposite a)
  twins_within a b = ap within_range (shift_twins a b)

  shift_other : (a b : ℕ) → a / 2 ≢ x → b / 2 ≢ x → shifted flips x c (entries n old) a b ≡ entries n old a b
  shift_other a b f g = rw (
    source_other flips x a f,
    source_other flips x b g,
    added_other x c a f,
    added_other x c b g,
  ) (plus_nothing (entries n old a b) (pos 0))

  other_within : (a b : ℕ) → a / 2 ≢ x → b / 2 ≢ x → shifted_within flips x c (entries n old) a b ≡ entries n old a b
  other_within a b f g = ap within_range (shift_other a b f g) ∙
      within_range_same (entries n old a b) (in_range_passes (entries n old a b) (is.range a b))

  -- both rows were rewritten
  module _ (one two : Cells) (small : x < n) (first : RowGiven n (shifted_within flips x c (entries n old)) (2 * x)
      (2 * n) old one)
      (second : RowGiven n (shifted_within flips x c (entries n old)) (2 * x + 1) (2 * n) one two) where
    by_first : (a b : ℕ) → a < 2 * n → b < 2 * n → entries n one a b ≡ shifted_within flips x c (entries n old) a b →
        entries n two a b ≡ shifted_within flips x c (entries n old) a b
    by_first a b h k e = elim (second.either a b h k) [ inl f ↦ f | inr f ↦ f ∙ e ]

    both_given : (a b : ℕ) → a < 2 * n → b < 2 * n → entries n two a b ≡ shifted_within flips x c (entries n old) a b
    both_given a b h k = elim (eqb_tells (a / 2) x) [
      | inl f ↦ elim (in_pair x a f.1) [
        | inl p ↦ by_first a b h k (first.here a b h k (inl (p, k)))
        | inr p ↦ second.here a b h k (inl (p, k))
      ]
      | inr f ↦ elim (eqb_tells (b / 2) x) [
        | inl g ↦ elim (in_pair x b g.1) [
          | inl p ↦ second.here a b h k (inr (p ∙ sym (opposite_minus x), opposite_below n a h))
          | inr p ↦ by_first a b h k (first.here a b h k (inr (p ∙ sym (opposite_plus x), opposite_below n a h)))
        ]
        | inr g ↦ by_first a b h k (elim (first.either a b h k)
            [ inl e ↦ e | inr e ↦ e ∙ sym (other_within a b f.1 g.1) ])
      ]
    ]

    turned_below : (a b : ℕ) → opposite b < 2 * n → opposite a < 2 * n → (a < 2 * n) × (b < 2 * n)
    turned_below a b h k = (
      subst (λ (z : ℕ). z < 2 * n) (opposite_twice a) (opposite_below n (opposite a) k),
      subst (λ (z : ℕ). z < 2 * n) (opposite_twice b) (opposite_below n (opposite b) h),
    )

    shifted_matrix : IsMatrix n two
    shifted_matrix = record {
      full = second.full;
      coherent = λ a b. elim (inside_or_out n (opposite b) (opposite a)) [
        | inl h ↦ (let q = turned_below a b h.0 h.1 in both_given a b q.0 q.1 ∙ twins_within a b ∙
            sym (both_given (opposite b) (opposite a) h.0 h.1))
        | inr out ↦ elim (inside_or_out n a b) [
          | inl h ↦ both_given a b h.0 h.1 ∙ twins_within a b ∙
              sym (both_given (opposite b) (opposite a) (opposite_below n b h.1) (opposite_below n a h.0))
          | inr far ↦ far two ∙ sym (far old) ∙ is.coherent a b ∙ out old ∙ sym (out two)
        ]
      ];
      diagonal = λ a. elim (inside_or_out n a a) [
        | inl h ↦ le_trans (le_same (both_given a a h.0 h.1 ∙ shifted_diagonal n flips x c old a is))
            (is.diagonal (origin flips x a))
        | inr far ↦ le_trans (le_same (far two ∙ sym (far old))) (is.diagonal a)
      ];
      range = λ a b. elim (inside_or_out n a b) [
        | inl h ↦ subst (λ (z : Option ℤ). EntryInRange z) (sym (both_given a b h.0 h.1))
            (within_range_fits (shifted flips x c (entries n old) a b))
        | inr far ↦ subst (λ (z : Option ℤ). EntryInRange z) (far old ∙ sym (far two)) (is.range a b)
      ];
    }

-- ---- numbers that pass

none_below : (f : ℕ → Bool) (k i : ℕ) → any_below f k ≡ false → i < k → f i ≡ false
none_below f zero i h l = absurd (omega arith)
none_below f (suc k) i h l = elim (eqb_tells i k) [
  | inl e ↦ ap f e.1 ∙ (or_parts (any_below f k) (f k) h).1
  | inr e ↦ none_below f k i (or_parts (any_below f k) (f k) h).0 (let ne = e.1 in omega arith)
]

abbrev RowPasses : ℕ → Bool → ℕ → ℤ → Entries → ℕ → Bool
RowPasses n flips x c m i = any_below (passes_at flips x c m i) (2 * n)

row_passes : (n : ℕ) (flips : Bool) (x : ℕ) (c : ℤ) (m : Entries) (i : ℕ) → i < 2 * n →
    RowPasses n flips x c m i ≡ true → ShiftPasses n flips x c m
row_passes n flips x c m i h e = let r = any_true (passes_at flips x c m i) (2 * n) e in (i, r.0, h, r.1, r.2)

none_passes : (n : ℕ) (flips : Bool) (x : ℕ) (c : ℤ) (old : Cells) → IsMatrix n old →
    RowPasses n flips x c (entries n old) (2 * x) ≡ false
    → RowPasses n flips x c (entries n old) (2 * x + 1) ≡ false → (a b : ℕ) → a < 2 * n → b < 2 * n →
    passes_range (shifted flips x c (entries n old) a b) ≡ false
none_passes n flips x c old is plus minus a b h k = elim (eqb_tells (a / 2) x) [
  | inl f ↦ row a b f.1 k
  | inr f ↦ elim (eqb_tells (b / 2) x) [
    | inl g ↦ ap passes_range (shift_twins n flips x c old is a b) ∙
        row (opposite b) (opposite a) (half_opposite b ∙ g.1) (opposite_below n a h)
    | inr g ↦ ap passes_range (shift_other n flips x c old is a b f.1 g.1) ∙
        in_range_passes (entries n old a b) (is.range a b)
  ]
]
  where
    row : (a b : ℕ) → a / 2 ≡ x → b < 2 * n → passes_range (shifted flips x c (entries n old) a b) ≡ false
    row a b e k = elim (in_pair x a e) [
      | inl p ↦ ap (λ z. passes_range (shifted flips x c (entries n old) z b)) p ∙
          none_below (passes_at flips x c (entries n old) (2 * x)) (2 * n) b plus k
      | inr p ↦ ap (λ z. passes_range (shifted flips x c (entries n old) z b)) p ∙
          none_below (passes_at flips x c (entries n old) (2 * x + 1)) (2 * n) b minus k
    ]

-- both rows were rewritten, and it is reported whether a number of them passes
pub both_shifted : (n : ℕ) (flips : Bool) (x : ℕ) (c : ℤ) (old one two : Cells) (plus minus passes : Bool) → x < n →
    IsMatrix n old
    → RowGiven n (shifted_within flips x c (entries n old)) (2 * x) (2 * n) old one →
    RowGiven n (shifted_within flips x c (entries n old)) (2 * x + 1) (2 * n) one two
    → plus ≡ RowPasses n flips x c (entries n old) (2 * x) → minus ≡ RowPasses n flips x c (entries n old) (2 * x + 1) →
    passes ≡ (plus || minus)
    → ShiftedTo n flips x c old two passes
both_shifted n flips x c old one two plus minus passes small is first second p m e = record {
  is = shifted_matrix n flips x c old is one two small first second;
  entries = both_given n flips x c old is one two small first second;
  exact = λ none i j h k. let q = or_parts plus minus (sym e ∙ none) in
      both_given n flips x c old is one two small first second i j h k
      ∙ within_range_same (shifted flips x c (entries n old) i j)
      (none_passes n flips x c old is (sym p ∙ q.0) (sym m ∙ q.1) i j h k);
  flagged = λ some. strained plus minus p m (sym e ∙ some);
}
  where
    strained : (s t : Bool) → s ≡ RowPasses n flips x c (entries n old) (2 * x) →
        t ≡ RowPasses n flips x c (entries n old) (2 * x + 1) → (s || t) ≡ true
        → ShiftPasses n flips x c (entries n old)
    strained true t p m h = row_passes n flips x c (entries n old) (2 * x) (omega arith) (sym p)
    strained false t p m h = row_passes n flips x c (entries n old) (2 * x + 1) (omega arith) (sym m ∙ h)
