-- Variables that come last or go, and the diagonal of those that come.
use Rattle.std.proofs.Common.{◌≡◌, ◌≢◌, ℕ, zero, suc, ◌+◌, ◌*◌, ◌-◌, ◌/◌, ◌<◌, ◌≤◌, ◌⊎◌, inl, inr, ℤ, pos, [], ◌∷◌, ◌++◌, length, take, drop, replicate, Option, None, Some, refl, sym, ap, ◌∙◌, subst}
use Rattle.std.proofs.{Common.arith, Common.true, Common.false, Common.cond, Common.get_or, Math.ListN.get_or-append, Math.Seq.take-append_seam, lemmas.Bool.Decides.eqb_tells}
use Rattle.std.proofs.{lemmas.Bool.Decides.leb_tells, lemmas.List.get_or-append_right, lemmas.List.get_or-take, lemmas.List.get_or-replicate}
use Rattle.std.specs.Prelude.{◌==◌, nat_lt}
use Rattle.lra_dbm.specs.Cells.{Cells, size, place, cell, outside, entries, written, first_entries, IsMatrix}
use Rattle.lra_dbm.specs.{Clearing.Settled, Entry.EntryInRange, Tight.opposite}
use Rattle.lra_dbm.proofs.CellLemmas.{opposite_below, opposite_far, place_below, place_far, entries_inside, inside_or_out, length-written, written_twin, written_same, written_cases}
use Rattle.lra_dbm.proofs.{Clears.in_pair, Clears.opposite_plus, EntryLemmas.le_same, EntryLemmas.le_trans, Paths.beyond, Paths.beyond_self, Strong.opposite_twice}

-- ---- the diagonal

pub none_settled : (n from : ℕ) (cells : Cells) → length cells ≡ size n → Settled n from from cells cells
none_settled n from cells full = record {
  full = full;
  apart = λ a b ne. refl;
  before = λ a h. refl;
  zero = λ a h k. absurd (omega arith);
}

pub more_settled : (n from t : ℕ) (old cells : Cells) → Settled n from t old cells → t < n → from ≤ t
    → Settled n from (t + 1) old (written (2 * t) (2 * t) (Some (pos 0)) cells)
more_settled n from t old cells so h first =
    let at : 2 * t < 2 * n = omega arith in
    record {
      full = length-written (2 * t) (2 * t) (Some (pos 0)) cells ∙ so.full;
      apart = λ a b ne. elim (written_cases n (2 * t) (2 * t) (Some (pos 0)) cells at at so.full a b) [
        | inl c ↦ absurd (elim c.1 [ inl p ↦ ne (p.0 ∙ sym p.1) | inr p ↦ ne (p.0 ∙ sym p.1) ])
        | inr e ↦ e ∙ so.apart a b ne
      ];
      before = λ a l. elim (written_cases n (2 * t) (2 * t) (Some (pos 0)) cells at at so.full a a) [
        | inl c ↦ absurd (elim c.1 [ inl p ↦ (let q = p.0 in omega arith) | inr p ↦ (let q = p.0 ∙ opposite_plus t in omega arith) ])
        | inr e ↦ e ∙ so.before a l
      ];
      zero = λ a l m. elim (written_cases n (2 * t) (2 * t) (Some (pos 0)) cells at at so.full a a) [
        | inl c ↦ c.0
        | inr e ↦ elim (eqb_tells (a / 2) t) [
          | inl f ↦ elim (in_pair t a f.1) [
            | inl p ↦ ap (λ z. entries n (written (2 * t) (2 * t) (Some (pos 0)) cells) z z) p ∙ written_same n (2 * t) (2 * t) (Some (pos 0)) cells at at so.full
            | inr p ↦ ap (λ z. entries n (written (2 * t) (2 * t) (Some (pos 0)) cells) z z) (p ∙ sym (opposite_plus t)) ∙ written_twin n (2 * t) (2 * t) (Some (pos 0)) cells at at so.full
          ]
          | inr f ↦ e ∙ so.zero a l (let g = f.1 in omega arith)
        ]
      ];
    }

-- ---- further variables

-- a matrix of the same entries
same_matrix : (n m : ℕ) (old new : Cells) → IsMatrix n old → length new ≡ size m → ((a b : ℕ) → entries m new a b ≡ entries n old a b) → IsMatrix m new
same_matrix n m old new is full e = record {
  full = full;
  coherent = λ a b. e a b ∙ is.coherent a b ∙ sym (e (opposite b) (opposite a));
  diagonal = λ a. le_trans (le_same (e a a)) (is.diagonal a);
  range = λ a b. subst (λ (z : Option ℤ). EntryInRange z) (sym (e a b)) (is.range a b);
}

outside_fits : (a b : ℕ) → EntryInRange (outside a b)
outside_fits a b = elim (a == b) as (λ t. EntryInRange (cond t (Some (pos 0)) None)) [ true ↦ omega arith | false ↦ tt ]

none_there : (m i : ℕ) → get_or (replicate {A = Option ℤ} m None) i None ≡ None
none_there m i = elim (leb_tells (suc i) m) [
  | inl l ↦ get_or-replicate {A = Option ℤ} m i None None l.1
  | inr l ↦ past m i (let q = l.1 in omega arith)
]
  where
    past : (m i : ℕ) → m ≤ i → get_or (replicate {A = Option ℤ} m None) i None ≡ None
    past zero i h = refl
    past (suc m) zero h = absurd (omega arith)
    past (suc m) (suc i) h = past m i (omega arith)

module _ (n k m : ℕ) (old new : Cells) (is : IsMatrix n old) (more : Settled (n + k) n (n + k) (old ++ replicate m None) new) where
  abbrev padded : Cells
  padded = old ++ replicate m None

  padded_inside : (a b : ℕ) → a < 2 * n → b < 2 * n → entries (n + k) padded a b ≡ entries n old a b
  padded_inside a b h l =
      entries_inside (n + k) padded a b (omega arith) (omega arith)
      ∙ get_or-append old (replicate m None) None (place a b) (let p = place_below n a b h l in let q = is.full in omega arith)
      ∙ sym (entries_inside n old a b h l)

  padded_far : (a b : ℕ) → a ≢ b → (2 * n ≤ a) ⊎ (2 * n ≤ b) → entries (n + k) padded a b ≡ None
  padded_far a b ne far = elim (inside_or_out (n + k) a b) [
    | inl h ↦ entries_inside (n + k) padded a b h.0 h.1
        ∙ get_or-append_right old (replicate m None) (size n) (place a b) None is.full (place_far n a b far) ∙ none_there m (place a b - size n)
    | inr out ↦ out padded ∙ elim (eqb_tells a b) as (λ _. outside a b ≡ None) [ inl e ↦ absurd (ne e.1) | inr e ↦ rw e.0 refl ]
  ]

  pub grown_entries : (a b : ℕ) → entries (n + k) new a b ≡ entries n old a b
  grown_entries a b = elim (eqb_tells a b) [
    | inr e ↦ more.apart a b e.1 ∙ elim (leb_tells (suc a) (2 * n)) as (λ _. entries (n + k) padded a b ≡ entries n old a b) [
      | inr out ↦ (let far : 2 * n ≤ a = (let q = out.1 in omega arith) in padded_far a b e.1 (inl far) ∙ sym (beyond n old a b (inl far) e.1))
      | inl h ↦ elim (leb_tells (suc b) (2 * n)) as (λ _. entries (n + k) padded a b ≡ entries n old a b) [
        | inr out ↦ (let far : 2 * n ≤ b = (let q = out.1 in omega arith) in padded_far a b e.1 (inr far) ∙ sym (beyond n old a b (inr far) e.1))
        | inl l ↦ padded_inside a b h.1 l.1
      ]
    ]
    | inl e ↦ ap (entries (n + k) new a) (sym e.1) ∙ on_diagonal a ∙ ap (entries n old a) e.1
  ]
    where
      on_diagonal : (a : ℕ) → entries (n + k) new a a ≡ entries n old a a
      on_diagonal a = elim (leb_tells (suc a) (2 * n)) [
        | inl h ↦ more.before a (let q = h.1 in omega arith) ∙ padded_inside a a h.1 h.1
        | inr out ↦ (let far : 2 * n ≤ a = (let q = out.1 in omega arith) in
            elim (leb_tells (suc a) (2 * (n + k))) as (λ _. entries (n + k) new a a ≡ Some (pos 0)) [
              | inl h ↦ more.zero a (omega arith) (let q = h.1 in omega arith)
              | inr o ↦ beyond_self (n + k) new a (let q = o.1 in omega arith)
            ] ∙ sym (beyond_self n old a far))
      ]

  pub grown_matrix : IsMatrix (n + k) new
  grown_matrix = same_matrix n (n + k) old new is more.full grown_entries

-- the matrix of no variable
pub none_entries : (a b : ℕ) → entries 0 [] a b ≡ outside a b
none_entries a b = elim (inside_or_out 0 a b) [ inl h ↦ absurd (let q = h.0 in omega arith) | inr out ↦ out [] ]

pub none_matrix : IsMatrix 0 []
none_matrix = record {
  full = refl;
  coherent = λ a b. elim (eqb_tells a b) [
    | inl e ↦ ap (entries 0 [] a) (sym e.1) ∙ beyond_self 0 [] a (omega arith) ∙ sym (beyond_self 0 [] (opposite a) (omega arith)) ∙ ap (λ z. entries 0 [] (opposite z) (opposite a)) e.1
    | inr e ↦ beyond 0 [] a b (inl (omega arith)) e.1
        ∙ sym (beyond 0 [] (opposite b) (opposite a) (inl (omega arith)) (λ f. e.1 (sym (opposite_twice a) ∙ ap opposite (sym f) ∙ opposite_twice b)))
  ];
  diagonal = λ a. le_same (beyond_self 0 [] a (omega arith));
  range = λ a b. subst (λ (z : Option ℤ). EntryInRange z) (sym (none_entries a b)) (outside_fits a b);
}

-- ---- fewer variables

length_taken : (m : ℕ) (cells : Cells) → m ≤ length cells → length (take m cells) ≡ m
length_taken zero cells h = refl
length_taken (suc m) (c ∷ cells) h = omega (arith, length_taken m cells (omega arith))
length_taken (suc m) [] h = absurd (omega arith)

module _ (all n : ℕ) (some : n ≤ all) (cells : Cells) (is : IsMatrix all cells) where
  abbrev rest : Cells
  rest = take (size n) cells

  pub first_of_all : (a b : ℕ) → entries n rest a b ≡ first_entries n (entries all cells) a b
  unfolding entries
  first_of_all a b = elim (leb_tells (suc a) (2 * n)) as (λ _. entries n rest a b ≡ first_entries n (entries all cells) a b) [
    | inr o ↦ rw o.0 refl
    | inl h ↦ rw h.0 (elim (leb_tells (suc b) (2 * n)) as (λ _. cond (nat_lt b (2 * n)) (cell rest a b) (outside a b) ≡ cond (nat_lt b (2 * n)) (entries all cells a b) (outside a b)) [
      | inr o ↦ rw o.0 refl
      | inl l ↦ rw l.0 (get_or-take (size n) cells (place a b) None (place_below n a b h.1 l.1)
          ∙ sym (entries_inside all cells a b (let q = h.1 in omega arith) (let q = l.1 in omega arith)))
    ])
  ]

  inner : (a b : ℕ) → a < 2 * n → b < 2 * n → entries n rest a b ≡ entries all cells a b
  inner a b h l =
      entries_inside n rest a b h l ∙ get_or-take (size n) cells (place a b) None (place_below n a b h l)
      ∙ sym (entries_inside all cells a b (omega arith) (omega arith))

  opposites : (a b : ℕ) → a ≢ b → opposite b ≢ opposite a
  opposites a b ne f = ne (sym (opposite_twice a) ∙ ap opposite (sym f) ∙ opposite_twice b)

  -- twins of which one is beyond the first n variables
  far_twins : (a b : ℕ) → a ≢ b → (2 * n ≤ a) ⊎ (2 * n ≤ b) → entries n rest a b ≡ entries n rest (opposite b) (opposite a)
  far_twins a b ne far = beyond n rest a b far ne ∙ sym (beyond n rest (opposite b) (opposite a) (elim far [
    | inl f ↦ inr (opposite_far n a f)
    | inr f ↦ inl (opposite_far n b f)
  ]) (opposites a b ne))

  self_twins : (a : ℕ) → entries n rest a a ≡ entries n rest (opposite a) (opposite a)
  self_twins a = elim (leb_tells (suc a) (2 * n)) [
    | inl h ↦ (let o = opposite_below n a h.1 in inner a a h.1 h.1 ∙ is.coherent a a ∙ sym (inner (opposite a) (opposite a) o o))
    | inr out ↦ (let far : 2 * n ≤ a = (let q = out.1 in omega arith) in beyond_self n rest a far ∙ sym (beyond_self n rest (opposite a) (opposite_far n a far)))
  ]

  twins : (a b : ℕ) → entries n rest a b ≡ entries n rest (opposite b) (opposite a)
  twins a b = elim (eqb_tells a b) [
    | inl e ↦ ap (entries n rest a) (sym e.1) ∙ self_twins a ∙ ap (λ z. entries n rest (opposite z) (opposite a)) e.1
    | inr e ↦ elim (leb_tells (suc a) (2 * n)) [
      | inr out ↦ far_twins a b e.1 (inl (let q = out.1 in omega arith))
      | inl h ↦ elim (leb_tells (suc b) (2 * n)) [
        | inr out ↦ far_twins a b e.1 (inr (let q = out.1 in omega arith))
        | inl l ↦ inner a b h.1 l.1 ∙ is.coherent a b ∙ sym (inner (opposite b) (opposite a) (opposite_below n b l.1) (opposite_below n a h.1))
      ]
    ]
  ]

  size_grows : size n ≤ size all
  size_grows = grind (arith, some)

  pub first_matrix : IsMatrix n rest
  first_matrix = record {
    full = length_taken (size n) cells (let q = is.full in let g = size_grows in omega arith);
    coherent = twins;
    diagonal = λ a. elim (leb_tells (suc a) (2 * n)) [
      | inl h ↦ le_trans (le_same (inner a a h.1 h.1)) (is.diagonal a)
      | inr out ↦ le_same (beyond_self n rest a (let q = out.1 in omega arith))
    ];
    range = λ a b. elim (inside_or_out n a b) [
      | inl h ↦ subst (λ (z : Option ℤ). EntryInRange z) (sym (inner a b h.0 h.1)) (is.range a b)
      | inr out ↦ subst (λ (z : Option ℤ). EntryInRange z) (sym (out rest)) (outside_fits a b)
    ];
  }

-- ---- whole lists

-- what was written over the whole of a list
pub kept_whole : (m : ℕ) (xs ys : Cells) → m ≡ length xs → take m (xs ++ drop (length xs) ys) ≡ xs
kept_whole m xs ys e = rw e (take-append_seam xs (drop (length xs) ys))

take_all : (m : ℕ) (xs : Cells) → length xs ≤ m → take m xs ≡ xs
take_all zero [] h = refl
take_all zero (x ∷ xs) h = absurd (omega arith)
take_all (suc m) [] h = refl
take_all (suc m) (x ∷ xs) h = ap (λ z. x ∷ z) (take_all m xs (omega arith))

-- a list that was made longer
pub resized : (n k len m : ℕ) (old items : Cells) → IsMatrix n old → len ≡ size (n + k) → items ≡ take len old ++ replicate m None → items ≡ old ++ replicate m None
resized n k len m old items is e is_items =
    let long : size n ≤ size (n + k) = grind arith in
    is_items ∙ ap (λ z. z ++ replicate m None) (take_all len old (let q = is.full in omega arith))

pub settled_length : (n k len : ℕ) (old new : Cells) → Settled (n + k) n (n + k) old new → len ≡ size (n + k) → len ≡ length new
settled_length n k len old new so e = e ∙ sym so.full

pub from_none : (n : ℕ) (old new : Cells) → old ≡ [] → ((a b : ℕ) → entries (0 + n) new a b ≡ entries 0 old a b) → (a b : ℕ) → entries n new a b ≡ outside a b
from_none n old new none e a b =
    let start : 0 + n ≡ n = omega arith in
    ap (λ z. entries z new a b) (sym start) ∙ e a b ∙ ap (λ z. entries 0 z a b) none ∙ none_entries a b
