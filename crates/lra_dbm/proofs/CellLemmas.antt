-- What writing an entry does to a matrix.
use Rattle.std.proofs.Common.{◌≡◌, ℕ, zero, suc, ◌+◌, ◌*◌, ◌-◌, ◌/◌, ◌%◌, ◌<◌, ◌≤◌, ◌⊎◌, inl, inr, ℤ, length, Option, None, refl, sym, ap, ◌∙◌, arith, get_or, cond}
use Rattle.std.proofs.lemmas.List.{get_or-set_same, get_or-set_other}
use Rattle.std.proofs.{Math.ListN.set, Math.ListN.length-set, lemmas.Bool.lt-ltb, lemmas.Bool.Decides.eqb_tells, lemmas.Bool.Decides.leb_tells, lemmas.Grind.get_or-set_at, lemmas.Nat.div-mul-add}
use Rattle.std.specs.Prelude.{nat_lt, slice_set}
use Rattle.lra_dbm.specs.{Cells.Cells, Cells.size, Cells.row_place, Cells.place, Cells.cell, Cells.outside, Cells.entries, Cells.written, Tight.opposite}
use Rattle.lra_dbm.proofs.{Stores.parity_of, Strong.opposite_twice}

pub opposite_below : (n i : ℕ) → i < 2 * n → opposite i < 2 * n
unfolding opposite
opposite_below n i h = omega arith

-- ---- places

-- how many cells the rows before row i have
abbrev row_start : ℕ → ℕ
row_start i = (i + 1) * (i + 1) / 2

abbrev row_width : ℕ → ℕ
row_width i = 2 * (i / 2) + 2

odd_square : (t : ℕ) → (2 * t + 1) * (2 * t + 1) ≡ 2 * t * (t + 1) * 2 + 1
odd_square t = grind arith

even_square : (t : ℕ) → (2 * t + 2) * (2 * t + 2) ≡ 2 * (t + 1) * (t + 1) * 2 + 0
even_square t = grind arith

-- the rows of +x_t and of -x_t
plus_start : (t : ℕ) → row_start (2 * t) ≡ 2 * t * (t + 1)
plus_start t = ap (λ z. z / 2) (odd_square t) ∙ div-mul-add (2 * t * (t + 1)) 2 1 (omega arith)

minus_start : (t : ℕ) → row_start (2 * t + 1) ≡ 2 * (t + 1) * (t + 1)
minus_start t =
    let e : 2 * t + 1 + 1 ≡ 2 * t + 2 = omega arith in
    ap (λ z. z * z / 2) e ∙ ap (λ z. z / 2) (even_square t) ∙ div-mul-add (2 * (t + 1) * (t + 1)) 2 0 (omega arith)

row_end : (i : ℕ) → row_start i + row_width i ≡ row_start (i + 1)
row_end i =
    let t = i / 2 in
    elim (parity_of (i % 2) (omega arith)) [
      | inl e ↦ (
          let at : i ≡ 2 * (i / 2) = omega arith in
          let start = ap row_start at ∙ plus_start (i / 2) in
          let next = ap (λ z. row_start (z + 1)) at ∙ minus_start (i / 2) in
          let sum : 2 * t * (t + 1) + (2 * t + 2) ≡ 2 * (t + 1) * (t + 1) = grind arith in
          ap (λ z. z + row_width i) start ∙ sum ∙ sym next)
      | inr e ↦ (
          let at : i ≡ 2 * (i / 2) + 1 = omega arith in
          let over : i + 1 ≡ 2 * (i / 2 + 1) = omega arith in
          let start = ap row_start at ∙ minus_start (i / 2) in
          let next = ap row_start over ∙ plus_start (i / 2 + 1) in
          let sum : 2 * (t + 1) * (t + 1) + (2 * t + 2) ≡ 2 * (t + 1) * (t + 1 + 1) = grind arith in
          ap (λ z. z + row_width i) start ∙ sum ∙ sym next)
    ]

row_end_below : (i a : ℕ) → i < a → row_start i + row_width i ≤ row_start a
row_end_below i zero h = absurd (omega arith)
row_end_below i (suc a) h =
    let next : a + 1 ≡ suc a = omega arith in
    let more : row_start a + row_width a ≡ row_start (suc a) = row_end a ∙ ap row_start next in
    elim (eqb_tells i a) as (λ _. row_start i + row_width i ≤ row_start (suc a)) [
      | inl e ↦ rw e.1 (omega (arith, more))
      | inr e ↦ (let before = row_end_below i a (let ne = e.1 in omega arith) in omega (arith, before, more))
    ]

row_place_same : (i j a b : ℕ) → j < row_width i → b < row_width a → row_place i j ≡ row_place a b → (i ≡ a) × (j ≡ b)
row_place_same i j a b h k e =
    let same : i ≡ a = elim (leb_tells (suc i) a) as (λ _. i ≡ a) [
      | inl l ↦ absurd (let end = row_end_below i a l.1 in omega (arith, end, e, h))
      | inr l ↦ elim (leb_tells (suc a) i) as (λ _. i ≡ a) [
        | inl m ↦ absurd (let end = row_end_below a i m.1 in omega (arith, end, e, k))
        | inr m ↦ (let p = l.1 in let q = m.1 in omega arith)
      ]
    ] in
    let e' = rw same at e in
    (same, omega (arith, e'))

-- an entry stands in its own row, or its twin in that one's
place_cases : (i j : ℕ) → ((j < row_width i) × (place i j ≡ row_place i j))
    ⊎ ((opposite i < row_width (opposite j)) × (place i j ≡ row_place (opposite j) (opposite i)))
unfolding place opposite
place_cases i j = elim (leb_tells (suc j) (2 * (i / 2) + 2)) [
  | inl l ↦ inl (l.1, rw l.0 refl)
  | inr l ↦ inr (let far = l.1 in omega arith, rw l.0 refl)
]

pub place_in_row : (i j r : ℕ) → j < row_width i → r ≡ row_place i j → r ≡ place i j
unfolding place
place_in_row i j r h e = rw (lt-ltb j (2 * (i / 2) + 2) h) e

pub place_of_twin : (i j r : ℕ) → (j < row_width i → ⊥) → r ≡ row_place (opposite j) (opposite i) → r ≡ place i j
unfolding place
place_of_twin i j r h e = elim (leb_tells (suc j) (2 * (i / 2) + 2)) as (λ _. r ≡ cond (nat_lt j (2 * (i / 2) + 2)) (row_place i j) (row_place (opposite j) (opposite i))) [
  | inl l ↦ absurd (h l.1)
  | inr l ↦ rw l.0 e
]

-- entries at the same place are the same or twins
pub place_same : (i j a b : ℕ) → place i j ≡ place a b → ((i ≡ a) × (j ≡ b)) ⊎ ((i ≡ opposite b) × (j ≡ opposite a))
place_same i j a b e = elim (place_cases i j) [
  | inl p ↦ elim (place_cases a b) [
    | inl q ↦ inl (row_place_same i j a b p.0 q.0 (sym p.1 ∙ e ∙ q.1))
    | inr q ↦ inr (row_place_same i j (opposite b) (opposite a) p.0 q.0 (sym p.1 ∙ e ∙ q.1))
  ]
  | inr p ↦ elim (place_cases a b) [
    | inl q ↦ (let r = row_place_same (opposite j) (opposite i) a b p.0 q.0 (sym p.1 ∙ e ∙ q.1) in
        inr (sym (opposite_twice i) ∙ ap opposite r.1, sym (opposite_twice j) ∙ ap opposite r.0))
    | inr q ↦ (let r = row_place_same (opposite j) (opposite i) (opposite b) (opposite a) p.0 q.0 (sym p.1 ∙ e ∙ q.1) in
        inl (sym (opposite_twice i) ∙ ap opposite r.1 ∙ opposite_twice a, sym (opposite_twice j) ∙ ap opposite r.0 ∙ opposite_twice b))
  ]
]

row_place_below : (n i j : ℕ) → i < 2 * n → j < row_width i → row_place i j < size n
row_place_below n i j h k =
    let last = row_end_below i (2 * n) h in
    let all = plus_start n in
    omega (arith, last, all)

pub place_below : (n i j : ℕ) → i < 2 * n → j < 2 * n → place i j < size n
place_below n i j h k = elim (place_cases i j) as (λ _. place i j < size n) [
  | inl p ↦ rw p.1 (row_place_below n i j h p.0)
  | inr p ↦ rw p.1 (row_place_below n (opposite j) (opposite i) (opposite_below n j k) p.0)
]

-- each cell is that of some entry
row_there : (rows p : ℕ) → p < row_start rows → (i : ℕ) × (i < rows) × ((j : ℕ) × (j < row_width i) × (row_place i j ≡ p))
row_there zero p h = absurd (omega arith)
row_there (suc rows) p h = elim (leb_tells (suc p) (row_start rows)) [
  | inl l ↦ (let r = row_there rows p l.1 in (r.0, omega (arith, r.1), r.2))
  | inr l ↦ (
      let next : rows + 1 ≡ suc rows = omega arith in
      let end : row_start rows + row_width rows ≡ row_start (suc rows) = row_end rows ∙ ap row_start next in
      (rows, omega arith, (p - row_start rows, (let q = l.1 in omega (arith, end, h)), (let q = l.1 in omega arith))))
]

pub place_there : (n p : ℕ) → p < size n → (i : ℕ) × (j : ℕ) × ((i < 2 * n) × (j < 2 * n) × (place i j ≡ p))
place_there n p h =
    let all = plus_start n in
    let r = row_there (2 * n) p (omega (arith, all, h)) in
    let j = r.2.0 in
    (r.0, j, (r.1, (let q = r.2.1 in let l = r.1 in omega arith), sym (place_in_row r.0 j (row_place r.0 j) r.2.1 refl) ∙ r.2.2))

pub that_place_below : (n i j r : ℕ) → i < 2 * n → j < 2 * n → r ≡ place i j → r < size n
that_place_below n i j r h k e = rw e (place_below n i j h k)

start_grows : (i a : ℕ) → i ≤ a → row_start i ≤ row_start a
start_grows i a h = elim (leb_tells (suc i) a) as (λ _. row_start i ≤ row_start a) [
  | inl l ↦ (let end = row_end_below i a l.1 in omega (arith, end))
  | inr l ↦ (let same : i ≡ a = (let q = l.1 in omega arith) in rw same (omega arith))
]

pub opposite_far : (n i : ℕ) → 2 * n ≤ i → 2 * n ≤ opposite i
unfolding opposite
opposite_far n i h = omega arith

-- the entries of further variables come after those of the first n
pub place_far : (n i j : ℕ) → (2 * n ≤ i) ⊎ (2 * n ≤ j) → size n ≤ place i j
place_far n i j far = elim (place_cases i j) as (λ _. size n ≤ place i j) [
  | inl p ↦ (let start = start_grows (2 * n) i (elim far [ inl f ↦ f | inr f ↦ (let q = p.0 in omega arith) ]) in
      let all = plus_start n in let e = p.1 in omega (arith, start, all, e))
  | inr p ↦ (let start = start_grows (2 * n) (opposite j) (elim far [
    | inl f ↦ (let q = p.0 in let g = opposite_far n i f in omega arith)
    | inr f ↦ opposite_far n j f
  ]) in
      let all = plus_start n in let e = p.1 in omega (arith, start, all, e))
]

-- ---- entries

pub entries_inside : (n : ℕ) (cells : Cells) (i j : ℕ) → i < 2 * n → j < 2 * n → entries n cells i j ≡ cell cells i j
unfolding entries
entries_inside n cells i j h k = rw (lt-ltb i (2 * n) h, lt-ltb j (2 * n) k) refl

pub that_entry : (n : ℕ) (cells : Cells) (i j : ℕ) (r : Option ℤ) → i < 2 * n → j < 2 * n → r ≡ cell cells i j → r ≡ entries n cells i j
that_entry n cells i j r h k e = e ∙ sym (entries_inside n cells i j h k)

-- in the matrix, or beyond it in any matrix
pub inside_or_out : (n i j : ℕ) → ((i < 2 * n) × (j < 2 * n)) ⊎ ((cells : Cells) → entries n cells i j ≡ outside i j)
unfolding entries
inside_or_out n i j =
    elim (leb_tells (suc i) (2 * n)) [
      | inl a ↦ elim (leb_tells (suc j) (2 * n)) [ inl b ↦ inl (a.1, b.1) | inr b ↦ inr (λ cells. rw (a.0, b.0) refl) ]
      | inr a ↦ inr (λ cells. rw a.0 refl)
    ]

pub length-written : (i j : ℕ) (v : Option ℤ) (cells : Cells) → length (written i j v cells) ≡ length cells
length-written i j v cells = simp length-set

module _ (n i j : ℕ) (v : Option ℤ) (cells : Cells) (inside_i : i < 2 * n) (inside_j : j < 2 * n) (full : length cells ≡ size n) where
  pub written_twin : entries n (written i j v cells) (opposite j) (opposite i) ≡ v
  written_twin =
      let a = opposite_below n j inside_j in
      let b = opposite_below n i inside_i in
      let w = place_below n (opposite j) (opposite i) a b in
      entries_inside n (written i j v cells) (opposite j) (opposite i) a b ∙ get_or-set_same
      (slice_set cells (place i j) v) (place (opposite j) (opposite i)) v None (omega (arith, length-set {A = Option ℤ}, w, full))

  pub written_same : entries n (written i j v cells) i j ≡ v
  written_same =
      entries_inside n (written i j v cells) i j inside_i inside_j ∙ again (place i j) (place (opposite j) (opposite i)) (place_below n i j inside_i inside_j)
    where
      again : (p q : ℕ) → p < size n → get_or (set (set cells p v) q v) p None ≡ v
      again p q h = elim (eqb_tells p q) as (λ _. get_or (set (set cells p v) q v) p None ≡ v) [
        | inl e ↦ get_or-set_at (set cells p v) q p v None e.1 (omega (arith, length-set {A = Option ℤ}, e.1))
        | inr e ↦ get_or-set_other (set cells p v) q p v None e.1 ∙ get_or-set_same cells p v None (omega arith)
      ]

  -- an entry is v, and at the pair, or as it was
  pub written_cases : (a b : ℕ) → ((entries n (written i j v cells) a b ≡ v) × (((a ≡ i) × (b ≡ j)) ⊎ ((a ≡ opposite j) × (b ≡ opposite i))))
      ⊎ (entries n (written i j v cells) a b ≡ entries n cells a b)
  written_cases a b = elim (inside_or_out n a b) [
    | inr out ↦ inr (out (written i j v cells) ∙ sym (out cells))
    | inl h ↦ elim (eqb_tells (place a b) (place (opposite j) (opposite i))) [
      | inl e ↦ elim (place_same a b (opposite j) (opposite i) e.1) [
        | inl s ↦ at_twin s
        | inr s ↦ at_pair (s.0 ∙ opposite_twice i, s.1 ∙ opposite_twice j)
      ]
      | inr e ↦ elim (eqb_tells (place a b) (place i j)) [
        | inl f ↦ elim (place_same a b i j f.1) [ inl s ↦ at_pair s | inr s ↦ at_twin s ]
        | inr f ↦ inr (entries_inside n (written i j v cells) a b h.0 h.1
            ∙ get_or-set_other (slice_set cells (place i j) v) (place (opposite j) (opposite i)) (place a b) v None e.1
            ∙ get_or-set_other cells (place i j) (place a b) v None f.1 ∙ sym (entries_inside n cells a b h.0 h.1))
      ]
    ]
  ]
    where
      at_pair : (a ≡ i) × (b ≡ j) → ((entries n (written i j v cells) a b ≡ v) × (((a ≡ i) × (b ≡ j)) ⊎ ((a ≡ opposite j) × (b ≡ opposite i))))
          ⊎ (entries n (written i j v cells) a b ≡ entries n cells a b)
      at_pair s = inl (ap (λ z. entries n (written i j v cells) z b) s.0 ∙ ap (entries n (written i j v cells) i) s.1 ∙ written_same, inl s)

      at_twin : (a ≡ opposite j) × (b ≡ opposite i) → ((entries n (written i j v cells) a b ≡ v) × (((a ≡ i) × (b ≡ j))
          ⊎ ((a ≡ opposite j) × (b ≡ opposite i)))) ⊎ (entries n (written i j v cells) a b ≡ entries n cells a b)
      at_twin s = inl (ap (λ z. entries n (written i j v cells) z b) s.0 ∙ ap (entries n (written i j v cells) (opposite j)) s.1 ∙ written_twin, inr s)
