-- The rows of an octagon are in order, and are exactly its bounds.
use Rattle.std.proofs.Common.{◌≡◌, ◌≢◌, ℕ, zero, suc, ◌+◌, ◌-◌, ◌*◌, ◌/◌, ◌<◌, ◌≤◌, Bool, true, false, cond, ℤ, pos, negsuc, ◌<ℤ◌, List, [], ◌∷◌, ◌++◌, length, replicate, Option, None, Some, ◌⊎◌, inl}
use Rattle.std.proofs.Common.{inr, ◌↔◌, refl, sym, ap, subst, ◌∙◌, arith}
use Rattle.std.proofs.{lemmas.Bool.false_from_ne_true, lemmas.List.Elements.Contains-append_cases, lemmas.List.Elements.Contains-append_left, lemmas.List.Elements.Contains-append_right}
use Rattle.std.proofs.{Math.ListN.length-set, lemmas.Bool.false≢true, lemmas.Bool.Decides.eqb_tells, lemmas.Bool.Decides.leb_tells, lemmas.Int.ints, lemmas.List.length-replicate}
use Rattle.std.specs.{Cmp.int_cmp_is, Cmp.signed_Decides, Cmp.Lexicographic.slice_cmp, List.Contains, Ordering.int_cmp, Ordering.int_eq, Ordering.ordering_then, Prelude.if◌then◌else◌, Prelude.◌+ℤ◌}
use Rattle.std.specs.{Prelude.◌≤ℤ◌, Prelude.neg_ℤ, Prelude.int_le, Prelude.slice_set, declared.cmp.Ordering.Ordering, declared.cmp.Ordering.TheVariants.Less, declared.cmp.Ordering.TheVariants.Equal}
use Rattle.lra_linear_spec.specs.RowOrder.{Ascends, inequality_cmp}
use Rattle.lra_linear_spec.specs.{Echelon.lead_from, Echelon.pivot, Vectors.entry, declared.ConKind.ConKind, declared.ConKind.TheVariants.Ge, declared.ConKind.TheVariants.Eq}
use Rattle.lra_linear_spec.proofs.{Membership.contains_cases, Membership.contains_none, Products.entry_set_other, Products.entry_set_same}
use Rattle.lra_box.proofs.RowLemmas.{ascends_append, earlier, entry_zeros, only_has, tied}
use Rattle.lra_dbm.specs.Tight.{Entries, opposite}
use Rattle.lra_dbm.proofs.Clears.{half_opposite, in_pair}
use Rattle.lra_octagon.specs.Parts.{RowsAt, octagon_equalities, falling, implied_by, is_equality_pair, kind_row, makes_equality, pair_row, printed, rising, row_if_any, rows_with, sign_of}
use Rattle.lra_octagon.specs.Parts.{octagon_inequalities, unless_implied}
use Rattle.lra_octagon.specs.{ExactRows.IsRowBound, ExactRows.IsBoundRow, ExactRows.IsOctagonEquality, ExactRows.IsImplied, ExactRows.IsOctagonInequality, ExactRows.MakesEquality, Tables.most}

-- ---- the coefficients of the row q + v_i + v_j

abbrev factors : ℕ → ℕ → ℕ → List ℤ
factors n i j = slice_set (slice_set (replicate n (pos 0)) (i / 2) (sign_of i)) (j / 2) (sign_of j)

-- j is the same as i, or of a later variable
abbrev InOrder : ℕ → ℕ → Type 0
InOrder i j = (i ≡ j) ⊎ (i / 2 < j / 2)

sign_plus : (b : ℕ) → sign_of (2 * b) ≡ pos 1
sign_plus b = let r : 2 * b - 2 * ((2 * b) / 2) ≡ 0 = omega arith in rw r refl

sign_minus : (b : ℕ) → sign_of (2 * b + 1) ≡ negsuc 0
sign_minus b = let r : 2 * b + 1 - 2 * ((2 * b + 1) / 2) ≡ 1 = omega arith in rw r refl

length_once : (n i : ℕ) → length (slice_set (replicate n (pos 0)) (i / 2) (sign_of i)) ≡ n
length_once n i = length-set {A = ℤ} (replicate n (pos 0)) (i / 2) (sign_of i) ∙ length-replicate n (pos 0)

length_factors : (n i j : ℕ) → length (factors n i j) ≡ n
length_factors n i j = length-set {A = ℤ} (slice_set (replicate n (pos 0)) (i / 2) (sign_of i)) (j / 2) (sign_of j) ∙ length_once n i

at_second : (n i j : ℕ) → j < 2 * n → entry (factors n i j) (j / 2) ≡ sign_of j
at_second n i j h = let l = length_once n i in
    entry_set_same (slice_set (replicate n (pos 0)) (i / 2) (sign_of i)) (j / 2) (sign_of j) (omega (arith, l, h))

at_first : (n i j : ℕ) → i < 2 * n → j < 2 * n → InOrder i j → entry (factors n i j) (i / 2) ≡ sign_of i
at_first n i j h k (inl e) = ap (λ (x : ℕ). entry (factors n i j) (x / 2)) e ∙ at_second n i j k ∙ ap sign_of (sym e)
at_first n i j h k (inr l) = let w = length-replicate n (pos 0) in
    entry_set_other (slice_set (replicate n (pos 0)) (i / 2) (sign_of i)) (j / 2) (i / 2) (sign_of j) (λ e. omega (arith, l, e))
    ∙ entry_set_same (replicate n (pos 0)) (i / 2) (sign_of i) (omega (arith, w, h))

at_other : (n i j p : ℕ) → p ≢ i / 2 → p ≢ j / 2 → entry (factors n i j) p ≡ pos 0
at_other n i j p f g = entry_set_other (slice_set (replicate n (pos 0)) (i / 2) (sign_of i)) (j / 2) p (sign_of j) g
    ∙ entry_set_other (replicate n (pos 0)) (i / 2) p (sign_of i) f ∙ entry_zeros n p

at_plus : (n i b : ℕ) → b < n → entry (factors n i (2 * b)) b ≡ pos 1
at_plus n i b h = let half : (2 * b) / 2 ≡ b = omega arith in
    ap (entry (factors n i (2 * b))) (sym half) ∙ at_second n i (2 * b) (omega (arith, h)) ∙ sign_plus b

at_minus : (n i b : ℕ) → b < n → entry (factors n i (2 * b + 1)) b ≡ negsuc 0
at_minus n i b h = let half : (2 * b + 1) / 2 ≡ b = omega arith in
    ap (entry (factors n i (2 * b + 1))) (sym half) ∙ at_second n i (2 * b + 1) (omega (arith, h)) ∙ sign_minus b

-- ---- its pivot

lead_is : (k j : ℕ) (xs : List ℤ) → k < length xs → ((p : ℕ) → p < k → entry xs p ≡ pos 0) → entry xs k ≢ pos 0
    → lead_from j xs ≡ j + k
lead_is k j [] h z d = absurd (omega (arith, h))
lead_is zero j (x ∷ xs) h z d =
    ap (λ (b : Bool). cond b (lead_from (suc j) xs) j) (false_from_ne_true (int_eq x (pos 0)) (λ e. d ((signed_Decides x (pos 0)).0 e))) ∙ omega arith
lead_is (suc k) j (x ∷ xs) h z d =
    ap (λ (b : Bool). cond b (lead_from (suc j) xs) j) ((signed_Decides x (pos 0)).1 (z 0 (omega arith)))
    ∙ lead_is k (suc j) xs (omega (arith, h)) (λ p l. z (suc p) (omega (arith, l))) d ∙ omega arith

sign_there : (i : ℕ) → sign_of i ≢ pos 0
sign_there i e = elim (in_pair (i / 2) i refl) [
  | inl p ↦ (let s : sign_of i ≡ pos 1 = ap sign_of p ∙ sign_plus (i / 2) in let wrong : pos 1 ≡ pos 0 = sym s ∙ e in omega (arith, ints, wrong))
  | inr p ↦ (let s : sign_of i ≡ negsuc 0 = ap sign_of p ∙ sign_minus (i / 2) in let wrong : negsuc 0 ≡ pos 0 = sym s ∙ e in omega (arith, ints, wrong))
]

row_pivot : (n i j : ℕ) (q : ℤ) → i < 2 * n → j < 2 * n → InOrder i j → pivot (pair_row n i j q) ≡ suc (i / 2)
row_pivot n i j q h k o =
    let l = length_factors n i j in
    lead_is (i / 2) 1 (factors n i j) (omega (arith, l, h)) (λ p less. at_other n i j p (λ e. omega (arith, less, e)) (before p less o))
    (λ e. sign_there i (sym (at_first n i j h k o) ∙ e)) ∙ omega arith
  where
    before : (p : ℕ) → p < i / 2 → InOrder i j → p ≢ j / 2
    before p less (inl same) e = let s = ap (λ (x : ℕ). x / 2) same in omega (arith, less, e, s)
    before p less (inr later) e = omega (arith, less, e, later)

-- ---- which row comes first

-- the first column that differs decides
first_less : (k : ℕ) (xs ys us vs : List ℤ) → k < length xs → k < length ys → ((p : ℕ) → p < k → entry xs p ≡ entry ys p)
    → entry xs k <ℤ entry ys k → slice_cmp int_cmp (xs ++ us) (ys ++ vs) ≡ Less
first_less k [] ys us vs h l same less = absurd (omega (arith, h))
first_less k (x ∷ xs) [] us vs h l same less = absurd (omega (arith, l))
first_less zero (x ∷ xs) (y ∷ ys) us vs h l same less =
    ap (λ (o : Ordering). ordering_then o (slice_cmp int_cmp (xs ++ us) (ys ++ vs))) (sym (int_cmp_is x y Less less))
first_less (suc k) (x ∷ xs) (y ∷ ys) us vs h l same less =
    ap (λ (o : Ordering). ordering_then o (slice_cmp int_cmp (xs ++ us) (ys ++ vs))) (sym (int_cmp_is x y Equal (same 0 (omega arith))))
    ∙ first_less k xs ys us vs (omega (arith, h)) (omega (arith, l)) (λ p m. same (suc p) (omega (arith, m))) less

-- a row of an earlier variable
variable_first : (n i j s t : ℕ) (q r : ℤ) → i < 2 * n → j < 2 * n → s < 2 * n → t < 2 * n → InOrder i j → InOrder s t → i / 2 < s / 2
    → inequality_cmp (pair_row n i j q) (pair_row n s t r) ≡ Less
variable_first n i j s t q r hi hj hs ht o u less =
    let x = row_pivot n i j q hi hj o in
    let y = row_pivot n s t r hs ht u in
    earlier (pivot (pair_row n i j q)) (pivot (pair_row n s t r)) _ (omega (arith, x, y, less))

-- of one variable, the row that is greater in the first column in which they differ
greater_first : (n i j s t k : ℕ) (q r : ℤ) → i < 2 * n → j < 2 * n → s < 2 * n → t < 2 * n → InOrder i j → InOrder s t → i / 2 ≡ s / 2 → k < n
    → ((p : ℕ) → p < k → entry (factors n s t) p ≡ entry (factors n i j) p) → entry (factors n s t) k <ℤ entry (factors n i j) k
    → inequality_cmp (pair_row n i j q) (pair_row n s t r) ≡ Less
greater_first n i j s t k q r hi hj hs ht o u same inside front less =
    let x = row_pivot n i j q hi hj o in
    let y = row_pivot n s t r hs ht u in
    let l = length_factors n s t in
    let w = length_factors n i j in
    tied (pivot (pair_row n i j q)) (pivot (pair_row n s t r)) _ (x ∙ ap suc same ∙ sym y)
    (first_less k (factors n s t) (factors n i j) (r ∷ []) (q ∷ []) (omega (arith, l, inside)) (omega (arith, w, inside)) front less)

-- that of the variable before that of its opposite
plus_first : (n a j t : ℕ) (q r : ℤ) → a < n → j < 2 * n → t < 2 * n → InOrder (2 * a) j → InOrder (2 * a + 1) t
    → inequality_cmp (pair_row n (2 * a) j q) (pair_row n (2 * a + 1) t r) ≡ Less
plus_first n a j t q r h hj ht o u =
    let even : (2 * a) / 2 ≡ a = omega arith in
    let odd : (2 * a + 1) / 2 ≡ a = omega arith in
    let up : entry (factors n (2 * a) j) a ≡ pos 1 =
    ap (entry (factors n (2 * a) j)) (sym even) ∙ at_first n (2 * a) j (omega (arith, h)) hj o ∙ sign_plus a in
    let down : entry (factors n (2 * a + 1) t) a ≡ negsuc 0 =
    ap (entry (factors n (2 * a + 1) t)) (sym odd) ∙ at_first n (2 * a + 1) t (omega (arith, h)) ht u ∙ sign_minus a in
    greater_first n (2 * a) j (2 * a + 1) t a q r (omega (arith, h)) hj (omega (arith, h)) ht o u (even ∙ sym odd) h
    (λ p less. at_other n (2 * a + 1) t p (λ e. omega (arith, less, e, odd)) (past p (2 * a + 1) t less odd u)
    ∙ sym (at_other n (2 * a) j p (λ e. omega (arith, less, e, even)) (past p (2 * a) j less even o)))
    (omega (arith, ints, up, down))
  where
    past : (p i k : ℕ) → p < a → i / 2 ≡ a → InOrder i k → p ≢ k / 2
    past p i k less is (inl same) e = let s = ap (λ (x : ℕ). x / 2) same in omega (arith, less, is, e, s)
    past p i k less is (inr later) e = omega (arith, less, is, e, later)

-- of one signed variable: j is it itself, or its column is not before k
abbrev Far : ℕ → ℕ → ℕ → Type 0
Far i j k = (i ≡ j) ⊎ (k ≤ j / 2)

module _ (n i j t k : ℕ) (q r : ℤ) (hi : i < 2 * n) (hj : j < 2 * n) (ht : t < 2 * n) (o : InOrder i j) (u : InOrder i t) (inside : k < n) (f : Far i j k) (g : Far i t k) where
  apart : (p x : ℕ) → p < k → p ≢ i / 2 → Far i x k → p ≢ x / 2
  apart p x less ne (inl same) e = ne (e ∙ ap (λ (y : ℕ). y / 2) (sym same))
  apart p x less ne (inr far) e = omega (arith, less, far, e)

  second_first : entry (factors n i t) k <ℤ entry (factors n i j) k → inequality_cmp (pair_row n i j q) (pair_row n i t r) ≡ Less
  second_first less = greater_first n i j i t k q r hi hj hi ht o u refl inside (λ p m. elim (eqb_tells p (i / 2)) [
    | inl e ↦ (ap (entry (factors n i t)) e.1 ∙ at_first n i t hi ht u ∙ sym (at_first n i j hi hj o) ∙ ap (entry (factors n i j)) (sym e.1))
    | inr e ↦ at_other n i t p e.1 (apart p t m e.1 g) ∙ sym (at_other n i j p e.1 (apart p j m e.1 f))
  ]) less

-- ---- the order of the rows of one signed variable: +x_b for rising b, none, -x_b for falling b

half_plus : (b : ℕ) → (2 * b) / 2 ≡ b
half_plus b = omega arith

half_minus : (b : ℕ) → (2 * b + 1) / 2 ≡ b
half_minus b = omega arith

module _ (n i : ℕ) (hi : i < 2 * n) where
  later_plus : (b : ℕ) → i / 2 < b → InOrder i (2 * b)
  later_plus b l = let e = half_plus b in inr (omega (arith, l, e))

  later_minus : (b : ℕ) → i / 2 < b → InOrder i (2 * b + 1)
  later_minus b l = let e = half_minus b in inr (omega (arith, l, e))

  none_at : (j k : ℕ) → i / 2 < k → k ≢ j / 2 → entry (factors n i j) k ≡ pos 0
  none_at j k l ne = at_other n i j k (λ e. omega (arith, l, e)) ne

  plus_plus : (b c : ℕ) (q r : ℤ) → i / 2 < b → b < c → c < n → inequality_cmp (pair_row n i (2 * b) q) (pair_row n i (2 * c) r) ≡ Less
  plus_plus b c q r l m h =
      let e = half_plus b in
      let d = half_plus c in
      let x = at_plus n i b (omega (arith, m, h)) in
      let y = none_at (2 * c) b l (λ s. omega (arith, m, d, s)) in
      second_first n i (2 * b) (2 * c) b q r hi (omega (arith, m, h)) (omega (arith, h)) (later_plus b l) (later_plus c (omega (arith, l, m)))
      (omega (arith, m, h)) (inr (omega (arith, e))) (inr (omega (arith, d, m))) (omega (arith, ints, x, y))

  plus_own : (b : ℕ) (q r : ℤ) → i / 2 < b → b < n → inequality_cmp (pair_row n i (2 * b) q) (pair_row n i i r) ≡ Less
  plus_own b q r l h =
      let e = half_plus b in
      let x = at_plus n i b h in
      let y = none_at i b l (λ s. omega (arith, l, s)) in
      second_first n i (2 * b) i b q r hi (omega (arith, h)) hi (later_plus b l) (inl refl) h (inr (omega (arith, e))) (inl refl)
      (omega (arith, ints, x, y))

  own_minus : (c : ℕ) (q r : ℤ) → i / 2 < c → c < n → inequality_cmp (pair_row n i i q) (pair_row n i (2 * c + 1) r) ≡ Less
  own_minus c q r l h =
      let d = half_minus c in
      let x = at_minus n i c h in
      let y = none_at i c l (λ s. omega (arith, l, s)) in
      second_first n i i (2 * c + 1) c q r hi hi (omega (arith, h)) (inl refl) (later_minus c l) h (inl refl) (inr (omega (arith, d)))
      (omega (arith, ints, x, y))

  minus_minus : (b c : ℕ) (q r : ℤ) → i / 2 < c → c < b → b < n
      → inequality_cmp (pair_row n i (2 * b + 1) q) (pair_row n i (2 * c + 1) r) ≡ Less
  minus_minus b c q r l m h =
      let e = half_minus b in
      let d = half_minus c in
      let x = at_minus n i c (omega (arith, m, h)) in
      let y = none_at (2 * b + 1) c l (λ s. omega (arith, m, e, s)) in
      second_first n i (2 * b + 1) (2 * c + 1) c q r hi (omega (arith, h)) (omega (arith, m, h)) (later_minus b (omega (arith, l, m))) (later_minus c l)
      (omega (arith, m, h)) (inr (omega (arith, e, m))) (inr (omega (arith, d))) (omega (arith, ints, x, y))

  plus_minus : (b c : ℕ) (q r : ℤ) → i / 2 < b → b < n → i / 2 < c → c < n
      → inequality_cmp (pair_row n i (2 * b) q) (pair_row n i (2 * c + 1) r) ≡ Less
  plus_minus b c q r l h m g = elim (leb_tells (suc c) b) [
    | inl f ↦ at_c f.1
    | inr f ↦ (let w = f.1 in at_b (omega (arith, w)))
  ]
    where
      at_b : b ≤ c → inequality_cmp (pair_row n i (2 * b) q) (pair_row n i (2 * c + 1) r) ≡ Less
      at_b w =
          let e = half_plus b in
          let d = half_minus c in
          let x = at_plus n i b h in
          second_first n i (2 * b) (2 * c + 1) b q r hi (omega (arith, h)) (omega (arith, g)) (later_plus b l) (later_minus c m)
          h (inr (omega (arith, e))) (inr (omega (arith, d, w))) (below x)
        where
          below : entry (factors n i (2 * b)) b ≡ pos 1 → entry (factors n i (2 * c + 1)) b <ℤ entry (factors n i (2 * b)) b
          below x = elim (eqb_tells b c) [
            | inl s ↦ (let y : entry (factors n i (2 * c + 1)) b ≡ negsuc 0 = ap (entry (factors n i (2 * c + 1))) s.1 ∙ at_minus n i c g in omega (arith, ints, x, y))
            | inr s ↦ (let d = half_minus c in let y = none_at (2 * c + 1) b l (λ z. s.1 (z ∙ d)) in omega (arith, ints, x, y))
          ]

      at_c : c < b → inequality_cmp (pair_row n i (2 * b) q) (pair_row n i (2 * c + 1) r) ≡ Less
      at_c w =
          let e = half_plus b in
          let d = half_minus c in
          let x = at_minus n i c g in
          let y = none_at (2 * b) c m (λ s. omega (arith, w, e, s)) in
          second_first n i (2 * b) (2 * c + 1) c q r hi (omega (arith, h)) (omega (arith, g)) (later_plus b l) (later_minus c m)
          g (inr (omega (arith, e, w))) (inr (omega (arith, d))) (omega (arith, ints, x, y))

-- ---- the members of the lists of rows

of_rising : (f : RowsAt) (b k : ℕ) (r : List ℤ) → Contains (rising f b k) r → (c : ℕ) × (b ≤ c) × (c < b + k) × Contains (f (2 * c)) r
of_rising f b zero r h = absurd (contains_none r h)
of_rising f b (suc k) r h = elim (Contains-append_cases (f (2 * b)) (rising f (suc b) k) r h) [
  | inl d ↦ (b, omega arith, omega arith, d)
  | inr d ↦ (let w = of_rising f (suc b) k r d in (w.0, (let x = w.1 in omega (arith, x)), (let x = w.2 in omega (arith, x)), w.3))
]

has_rising : (f : RowsAt) (b k c : ℕ) (r : List ℤ) → b ≤ c → c < b + k → Contains (f (2 * c)) r → Contains (rising f b k) r
has_rising f b zero c r l h d = absurd (omega (arith, l, h))
has_rising f b (suc k) c r l h d = elim (eqb_tells c b) [
  | inl e ↦ Contains-append_left (f (2 * b)) (rising f (suc b) k) r (subst (λ (x : ℕ). Contains (f (2 * x)) r) e.1 d)
  | inr e ↦ (let ne = e.1 in Contains-append_right (f (2 * b)) (rising f (suc b) k) r (has_rising f (suc b) k c r (omega (arith, l, ne)) (omega (arith, h)) d))
]

of_falling : (f : RowsAt) (b k : ℕ) (r : List ℤ) → Contains (falling f b k) r → (c : ℕ) × (b ≤ c) × (c < b + k) × Contains (f (2 * c + 1)) r
of_falling f b zero r h = absurd (contains_none r h)
of_falling f b (suc k) r h = elim (Contains-append_cases (f (2 * (b + k) + 1)) (falling f b k) r h) [
  | inl d ↦ (b + k, omega arith, omega arith, d)
  | inr d ↦ (let w = of_falling f b k r d in (w.0, w.1, (let x = w.2 in omega (arith, x)), w.3))
]

has_falling : (f : RowsAt) (b k c : ℕ) (r : List ℤ) → b ≤ c → c < b + k → Contains (f (2 * c + 1)) r → Contains (falling f b k) r
has_falling f b zero c r l h d = absurd (omega (arith, l, h))
has_falling f b (suc k) c r l h d = elim (eqb_tells c (b + k)) [
  | inl e ↦ Contains-append_left (f (2 * (b + k) + 1)) (falling f b k) r (subst (λ (x : ℕ). Contains (f (2 * x + 1)) r) e.1 d)
  | inr e ↦ (let ne = e.1 in Contains-append_right (f (2 * (b + k) + 1)) (falling f b k) r (has_falling f b k c r l (omega (arith, h, ne)) d))
]

-- a row with i is that of some j after it
abbrev WithSecond : ℕ → RowsAt → ℕ → List ℤ → Type 0
WithSecond n f i r = (j : ℕ) × (j < 2 * n) × InOrder i j × Contains (f j) r

of_with : (n : ℕ) (f : ℕ → RowsAt) (i : ℕ) (r : List ℤ) → i < 2 * n → Contains (rows_with n f i) r → WithSecond n (f i) i r
of_with n f i r h d =
    let up = rising (f i) (suc (i / 2)) (n - suc (i / 2)) in
    let down = falling (f i) (suc (i / 2)) (n - suc (i / 2)) in
    elim (Contains-append_cases (up ++ f i i) down r d) [
      | inl x ↦ (elim (Contains-append_cases up (f i i) r x) [
        | inl y ↦ rises (of_rising (f i) (suc (i / 2)) (n - suc (i / 2)) r y)
        | inr y ↦ (i, h, inl refl, y)
      ])
      | inr x ↦ falls (of_falling (f i) (suc (i / 2)) (n - suc (i / 2)) r x)
    ]
  where
    rises : (c : ℕ) × (suc (i / 2) ≤ c) × (c < suc (i / 2) + (n - suc (i / 2))) × Contains (f i (2 * c)) r → WithSecond n (f i) i r
    rises (c, l, m, y) = (2 * c, omega (arith, h, l, m), later_plus n i h c (omega (arith, l)), y)

    falls : (c : ℕ) × (suc (i / 2) ≤ c) × (c < suc (i / 2) + (n - suc (i / 2))) × Contains (f i (2 * c + 1)) r → WithSecond n (f i) i r
    falls (c, l, m, y) = (2 * c + 1, omega (arith, h, l, m), later_minus n i h c (omega (arith, l)), y)

has_with : (n : ℕ) (f : ℕ → RowsAt) (i : ℕ) (r : List ℤ) → WithSecond n (f i) i r → Contains (rows_with n f i) r
has_with n f i r (j, h, inl e, d) =
    let up = rising (f i) (suc (i / 2)) (n - suc (i / 2)) in
    let down = falling (f i) (suc (i / 2)) (n - suc (i / 2)) in
    Contains-append_left (up ++ f i i) down r (Contains-append_right up (f i i) r (subst (λ (x : ℕ). Contains (f i x) r) (sym e) d))
has_with n f i r (j, h, inr l, d) =
    let up = rising (f i) (suc (i / 2)) (n - suc (i / 2)) in
    let down = falling (f i) (suc (i / 2)) (n - suc (i / 2)) in
    elim (in_pair (j / 2) j refl) [
      | inl e ↦ Contains-append_left (up ++ f i i) down r (Contains-append_left up (f i i) r
          (has_rising (f i) (suc (i / 2)) (n - suc (i / 2)) (j / 2) r (omega (arith, l)) (omega (arith, h, l)) (subst (λ (x : ℕ). Contains (f i x) r) e d)))
      | inr e ↦ Contains-append_right (up ++ f i i) down r
          (has_falling (f i) (suc (i / 2)) (n - suc (i / 2)) (j / 2) r (omega (arith, l)) (omega (arith, h, l)) (subst (λ (x : ℕ). Contains (f i x) r) e d))
    ]

-- ---- the rows of one pair: one, or none

abbrev is_equal : ConKind → Bool
is_equal Eq = true
is_equal Ge = false

-- the row is that of the pair, for the kind
abbrev IsOfPair : ConKind → ℕ → Entries → ℕ → ℕ → List ℤ → Type 0
IsOfPair kind n m i j r = (q : ℤ) × (printed m i j ≡ Some q) × (is_equality_pair m i j ≡ is_equal kind) × (r ≡ pair_row n i j q)

of_any : (n i j : ℕ) (o : Option ℤ) (r : List ℤ) → Contains (row_if_any n i j o) r → (q : ℤ) × (o ≡ Some q) × (r ≡ pair_row n i j q)
of_any n i j None r c = absurd (contains_none r c)
of_any n i j (Some q) r c = elim (contains_cases (pair_row n i j q) r [] c) [
  | inl e ↦ (q, refl, sym e)
  | inr d ↦ absurd (contains_none r d)
]

has_any : (n i j : ℕ) (o : Option ℤ) (q : ℤ) (r : List ℤ) → o ≡ Some q → r ≡ pair_row n i j q → Contains (row_if_any n i j o) r
has_any n i j o q r s e = subst (λ (x : Option ℤ). Contains (row_if_any n i j x) r) (sym s) (only_has (pair_row n i j q) r e)

any_ascends : (n i j : ℕ) (o : Option ℤ) → Ascends inequality_cmp (row_if_any n i j o)
any_ascends n i j None = tt
any_ascends n i j (Some q) = (λ y c. absurd (contains_none y c), tt)

of_pair : (kind : ConKind) (n : ℕ) (m : Entries) (i j : ℕ) (r : List ℤ) → Contains (kind_row kind n m i j) r → IsOfPair kind n m i j r
of_pair Eq n m i j r c = go (is_equality_pair m i j) c
  where
    go : (b : Bool) → Contains (if b then row_if_any n i j (printed m i j) else []) r
        → (q : ℤ) × (printed m i j ≡ Some q) × (b ≡ true) × (r ≡ pair_row n i j q)
    go true d = let w = of_any n i j (printed m i j) r d in (w.0, w.1, refl, w.2)
    go false d = absurd (contains_none r d)
of_pair Ge n m i j r c = go (is_equality_pair m i j) c
  where
    go : (b : Bool) → Contains (if b then [] else row_if_any n i j (printed m i j)) r
        → (q : ℤ) × (printed m i j ≡ Some q) × (b ≡ false) × (r ≡ pair_row n i j q)
    go true d = absurd (contains_none r d)
    go false d = let w = of_any n i j (printed m i j) r d in (w.0, w.1, refl, w.2)

has_pair : (kind : ConKind) (n : ℕ) (m : Entries) (i j : ℕ) (r : List ℤ) → IsOfPair kind n m i j r → Contains (kind_row kind n m i j) r
has_pair Eq n m i j r (q, some, told, e) =
    subst (λ (b : Bool). Contains (if b then row_if_any n i j (printed m i j) else []) r) (sym told) (has_any n i j (printed m i j) q r some e)
has_pair Ge n m i j r (q, some, told, e) =
    subst (λ (b : Bool). Contains (if b then [] else row_if_any n i j (printed m i j)) r) (sym told) (has_any n i j (printed m i j) q r some e)

pair_ascends : (kind : ConKind) (n : ℕ) (m : Entries) (i j : ℕ) → Ascends inequality_cmp (kind_row kind n m i j)
pair_ascends Eq n m i j = go (is_equality_pair m i j)
  where
    go : (b : Bool) → Ascends inequality_cmp (if b then row_if_any n i j (printed m i j) else [])
    go true = any_ascends n i j (printed m i j)
    go false = tt
pair_ascends Ge n m i j = go (is_equality_pair m i j)
  where
    go : (b : Bool) → Ascends inequality_cmp (if b then [] else row_if_any n i j (printed m i j))
    go true = tt
    go false = any_ascends n i j (printed m i j)

as_rows : (x y a b : List ℤ) → x ≡ a → y ≡ b → inequality_cmp a b ≡ Less → inequality_cmp x y ≡ Less
as_rows x y a b e f h = rw (e, f) h

-- ---- the lists are in order

abbrev up_rows : ℕ → RowsAt → ℕ → List (List ℤ)
up_rows n f i = rising f (suc (i / 2)) (n - suc (i / 2))

abbrev down_rows : ℕ → RowsAt → ℕ → List (List ℤ)
down_rows n f i = falling f (suc (i / 2)) (n - suc (i / 2))

abbrev plus_rows : ℕ → Entries → ℕ → List (List ℤ)
plus_rows n m a = rows_with n (kind_row Ge n m) (2 * a)

abbrev minus_rows : ℕ → Entries → ℕ → List (List ℤ)
minus_rows n m a = rows_with n (kind_row Ge n m) (2 * a + 1)

module _ (kind : ConKind) (n : ℕ) (m : Entries) where
  module _ (i : ℕ) (hi : i < 2 * n) where
    -- the rows of two seconds of i, the first of which comes first
    seconds_less : (j t : ℕ) (x y : List ℤ) → Contains (kind_row kind n m i j) x → Contains (kind_row kind n m i t) y
        → ((q r : ℤ) → inequality_cmp (pair_row n i j q) (pair_row n i t r) ≡ Less) → inequality_cmp x y ≡ Less
    seconds_less j t x y c d less =
        let p = of_pair kind n m i j x c in
        let s = of_pair kind n m i t y d in
        as_rows x y (pair_row n i j p.0) (pair_row n i t s.0) p.3 s.3 (less p.0 s.0)

    rising_ascends : (b k : ℕ) → i / 2 < b → b + k ≤ n → Ascends inequality_cmp (rising (kind_row kind n m i) b k)
    rising_ascends b zero l h = tt
    rising_ascends b (suc k) l h = ascends_append inequality_cmp (kind_row kind n m i (2 * b)) (rising (kind_row kind n m i) (suc b) k)
        (pair_ascends kind n m i (2 * b)) (rising_ascends (suc b) k (omega (arith, l)) (omega (arith, h)))
        (λ x y c d. let w = of_rising (kind_row kind n m i) (suc b) k y d in
        let low = w.1 in
        let high = w.2 in
        seconds_less (2 * b) (2 * w.0) x y c w.3 (λ q r. plus_plus n i hi b w.0 q r l (omega (arith, low)) (omega (arith, high, h))))

    falling_ascends : (b k : ℕ) → i / 2 < b → b + k ≤ n → Ascends inequality_cmp (falling (kind_row kind n m i) b k)
    falling_ascends b zero l h = tt
    falling_ascends b (suc k) l h = ascends_append inequality_cmp (kind_row kind n m i (2 * (b + k) + 1)) (falling (kind_row kind n m i) b k)
        (pair_ascends kind n m i (2 * (b + k) + 1)) (falling_ascends b k l (omega (arith, h)))
        (λ x y c d. let w = of_falling (kind_row kind n m i) b k y d in
        let low = w.1 in
        let high = w.2 in
        seconds_less (2 * (b + k) + 1) (2 * w.0 + 1) x y c w.3
        (λ q r. minus_minus n i hi (b + k) w.0 q r (omega (arith, l, low)) high (omega (arith, h))))

    with_ascends : Ascends inequality_cmp (rows_with n (kind_row kind n m) i)
    with_ascends = ascends_append inequality_cmp (up_rows n (kind_row kind n m i) i ++ kind_row kind n m i i) (down_rows n (kind_row kind n m i) i)
        (ascends_append inequality_cmp (up_rows n (kind_row kind n m i) i) (kind_row kind n m i i) (rising_ascends (suc (i / 2)) (n - suc (i / 2)) (omega arith) (omega (arith, hi)))
        (pair_ascends kind n m i i) own_last) (falling_ascends (suc (i / 2)) (n - suc (i / 2)) (omega arith) (omega (arith, hi))) down_last
      where
        own_last : (x y : List ℤ) → Contains (up_rows n (kind_row kind n m i) i) x → Contains (kind_row kind n m i i) y → inequality_cmp x y ≡ Less
        own_last x y c d =
            let w = of_rising (kind_row kind n m i) (suc (i / 2)) (n - suc (i / 2)) x c in
            let low = w.1 in
            let high = w.2 in
            seconds_less (2 * w.0) i x y w.3 d (λ q r. plus_own n i hi w.0 q r (omega (arith, low)) (omega (arith, high, hi)))

        down_last : (x y : List ℤ) → Contains (up_rows n (kind_row kind n m i) i ++ kind_row kind n m i i) x → Contains (down_rows n (kind_row kind n m i) i) y → inequality_cmp x y ≡ Less
        down_last x y c d =
            let w = of_falling (kind_row kind n m i) (suc (i / 2)) (n - suc (i / 2)) y d in
            let low = w.1 in
            let high = w.2 in
            elim (Contains-append_cases (up_rows n (kind_row kind n m i) i) (kind_row kind n m i i) x c) [
              | inl e ↦ (let v = of_rising (kind_row kind n m i) (suc (i / 2)) (n - suc (i / 2)) x e in
                  let least = v.1 in
                  let most_of = v.2 in
                  seconds_less (2 * v.0) (2 * w.0 + 1) x y v.3 w.3
                  (λ q r. plus_minus n i hi v.0 w.0 q r (omega (arith, least)) (omega (arith, most_of, hi)) (omega (arith, low)) (omega (arith, high, hi))))
              | inr e ↦ seconds_less i (2 * w.0 + 1) x y e w.3 (λ q r. own_minus n i hi w.0 q r (omega (arith, low)) (omega (arith, high, hi)))
            ]

  -- the rows of two variables
  variables_less : (i s : ℕ) (x y : List ℤ) → i < 2 * n → s < 2 * n → i / 2 < s / 2 → Contains (rows_with n (kind_row kind n m) i) x
      → Contains (rows_with n (kind_row kind n m) s) y → inequality_cmp x y ≡ Less
  variables_less i s x y hi hs less c d =
      let v = of_with n (kind_row kind n m) i x hi c in
      let w = of_with n (kind_row kind n m) s y hs d in
      let p = of_pair kind n m i v.0 x v.3 in
      let o = of_pair kind n m s w.0 y w.3 in
      as_rows x y (pair_row n i v.0 p.0) (pair_row n s w.0 o.0) p.3 o.3 (variable_first n i v.0 s w.0 p.0 o.0 hi v.1 hs w.1 v.2 w.2 less)

  -- those of a variable and of its opposite
  opposites_less : (a : ℕ) (x y : List ℤ) → a < n → Contains (rows_with n (kind_row kind n m) (2 * a)) x
      → Contains (rows_with n (kind_row kind n m) (2 * a + 1)) y → inequality_cmp x y ≡ Less
  opposites_less a x y h c d =
      let v = of_with n (kind_row kind n m) (2 * a) x (omega (arith, h)) c in
      let w = of_with n (kind_row kind n m) (2 * a + 1) y (omega (arith, h)) d in
      let p = of_pair kind n m (2 * a) v.0 x v.3 in
      let o = of_pair kind n m (2 * a + 1) w.0 y w.3 in
      as_rows x y (pair_row n (2 * a) v.0 p.0) (pair_row n (2 * a + 1) w.0 o.0) p.3 o.3 (plus_first n a v.0 w.0 p.0 o.0 h v.1 w.1 v.2 w.2)

of_equals : (n : ℕ) (m : Entries) (a k : ℕ) (r : List ℤ) → Contains (octagon_equalities n m a k) r
    → (c : ℕ) × (a ≤ c) × (c < a + k) × Contains (rows_with n (kind_row Eq n m) (2 * c)) r
of_equals n m a zero r d = absurd (contains_none r d)
of_equals n m a (suc k) r d = elim (Contains-append_cases (rows_with n (kind_row Eq n m) (2 * a)) (octagon_equalities n m (suc a) k) r d) [
  | inl e ↦ (a, omega arith, omega arith, e)
  | inr e ↦ (let w = of_equals n m (suc a) k r e in (w.0, (let x = w.1 in omega (arith, x)), (let x = w.2 in omega (arith, x)), w.3))
]

has_equals : (n : ℕ) (m : Entries) (a k c : ℕ) (r : List ℤ) → a ≤ c → c < a + k → Contains (rows_with n (kind_row Eq n m) (2 * c)) r
    → Contains (octagon_equalities n m a k) r
has_equals n m a zero c r l h d = absurd (omega (arith, l, h))
has_equals n m a (suc k) c r l h d = elim (eqb_tells c a) [
  | inl e ↦ Contains-append_left (rows_with n (kind_row Eq n m) (2 * a)) (octagon_equalities n m (suc a) k) r
      (subst (λ (x : ℕ). Contains (rows_with n (kind_row Eq n m) (2 * x)) r) e.1 d)
  | inr e ↦ (let ne = e.1 in Contains-append_right (rows_with n (kind_row Eq n m) (2 * a)) (octagon_equalities n m (suc a) k) r
      (has_equals n m (suc a) k c r (omega (arith, l, ne)) (omega (arith, h)) d))
]

of_unequals : (n : ℕ) (m : Entries) (a k : ℕ) (r : List ℤ) → Contains (octagon_inequalities n m a k) r
    → (i : ℕ) × (a ≤ i / 2) × (i / 2 < a + k) × Contains (rows_with n (kind_row Ge n m) i) r
of_unequals n m a zero r d = absurd (contains_none r d)
of_unequals n m a (suc k) r d =
    let plus = plus_rows n m a in
    let minus = minus_rows n m a in
    elim (Contains-append_cases (plus ++ minus) (octagon_inequalities n m (suc a) k) r d) [
      | inl e ↦ (elim (Contains-append_cases plus minus r e) [
        | inl x ↦ (2 * a, omega arith, omega arith, x)
        | inr x ↦ (2 * a + 1, omega arith, omega arith, x)
      ])
      | inr e ↦ (let w = of_unequals n m (suc a) k r e in (w.0, (let x = w.1 in omega (arith, x)), (let x = w.2 in omega (arith, x)), w.3))
    ]

has_unequals : (n : ℕ) (m : Entries) (a k i : ℕ) (r : List ℤ) → a ≤ i / 2 → i / 2 < a + k → Contains (rows_with n (kind_row Ge n m) i) r
    → Contains (octagon_inequalities n m a k) r
has_unequals n m a zero i r l h d = absurd (omega (arith, l, h))
has_unequals n m a (suc k) i r l h d =
    let plus = plus_rows n m a in
    let minus = minus_rows n m a in
    elim (eqb_tells (i / 2) a) [
      | inl e ↦ Contains-append_left (plus ++ minus) (octagon_inequalities n m (suc a) k) r (elim (in_pair a i e.1) [
        | inl x ↦ Contains-append_left plus minus r (subst (λ (y : ℕ). Contains (rows_with n (kind_row Ge n m) y) r) x d)
        | inr x ↦ Contains-append_right plus minus r (subst (λ (y : ℕ). Contains (rows_with n (kind_row Ge n m) y) r) x d)
      ])
      | inr e ↦ (let ne = e.1 in Contains-append_right (plus ++ minus) (octagon_inequalities n m (suc a) k) r
          (has_unequals n m (suc a) k i r (omega (arith, l, ne)) (omega (arith, h)) d))
    ]

pub equal_ascend : (n : ℕ) (m : Entries) (a k : ℕ) → a + k ≡ n → Ascends inequality_cmp (octagon_equalities n m a k)
equal_ascend n m a zero e = tt
equal_ascend n m a (suc k) e = ascends_append inequality_cmp (rows_with n (kind_row Eq n m) (2 * a)) (octagon_equalities n m (suc a) k)
    (with_ascends Eq n m (2 * a) (omega (arith, e))) (equal_ascend n m (suc a) k (omega (arith, e)))
    (λ x y c d. let w = of_equals n m (suc a) k y d in
    let low = w.1 in
    let high = w.2 in
    variables_less Eq n m (2 * a) (2 * w.0) x y (omega (arith, e)) (omega (arith, e, high)) (omega (arith, low)) c w.3)

pub unequal_ascend : (n : ℕ) (m : Entries) (a k : ℕ) → a + k ≡ n → Ascends inequality_cmp (octagon_inequalities n m a k)
unequal_ascend n m a zero e = tt
unequal_ascend n m a (suc k) e = ascends_append inequality_cmp (plus_rows n m a ++ minus_rows n m a) (octagon_inequalities n m (suc a) k)
    (ascends_append inequality_cmp (plus_rows n m a) (minus_rows n m a) (with_ascends Ge n m (2 * a) (omega (arith, e))) (with_ascends Ge n m (2 * a + 1) (omega (arith, e)))
    (λ x y c d. opposites_less Ge n m a x y (omega (arith, e)) c d))
    (unequal_ascend n m (suc a) k (omega (arith, e))) later_last
  where
    later_last : (x y : List ℤ) → Contains (plus_rows n m a ++ minus_rows n m a) x → Contains (octagon_inequalities n m (suc a) k) y → inequality_cmp x y ≡ Less
    later_last x y c d =
        let w = of_unequals n m (suc a) k y d in
        let low = w.1 in
        let high = w.2 in
        elim (Contains-append_cases (plus_rows n m a) (minus_rows n m a) x c) [
          | inl p ↦ variables_less Ge n m (2 * a) w.0 x y (omega (arith, e)) (omega (arith, e, high)) (omega (arith, low)) p w.3
          | inr p ↦ variables_less Ge n m (2 * a + 1) w.0 x y (omega (arith, e)) (omega (arith, e, high)) (omega (arith, low)) p w.3
        ]

-- ---- what is printed is a bound

some_same : (p q : ℤ) → Some p ≡ Some q → p ≡ q
some_same p q e = cc

implied_is : (m : Entries) (i j : ℕ) (q : ℤ) → (implied_by (most m (opposite i)) (most m (opposite j)) q ≡ true) ↔ IsImplied m i j q
implied_is m i j q = (λ t. told (most m (opposite i)) (most m (opposite j)) refl refl t, λ w. tells w)
  where
    below : (a b : ℤ) → int_le (a +ℤ b) q ≡ true → (a +ℤ b) ≤ℤ q
    below a b t = omega (arith, ints, t)

    above : (a b : ℤ) → (a +ℤ b) ≤ℤ q → int_le (a +ℤ b) q ≡ true
    above a b l = grind (arith, ints)

    told : (a b : Option ℤ) → most m (opposite i) ≡ a → most m (opposite j) ≡ b → implied_by a b q ≡ true → IsImplied m i j q
    told None b e f t = absurd (false≢true t)
    told (Some x) None e f t = absurd (false≢true t)
    told (Some x) (Some y) e f t = record { first = x; second = y; is_first = e; is_second = f; below = below x y t }

    tells : IsImplied m i j q → implied_by (most m (opposite i)) (most m (opposite j)) q ≡ true
    tells w = rw (w.is_first, w.is_second) (above w.first w.second w.below)

unless_is : (a b o : Option ℤ) (q : ℤ) → (unless_implied a b o ≡ Some q) ↔ ((o ≡ Some q) × (implied_by a b q ≡ false))
unless_is a b None q = (λ e. absurd (let wrong : ⊥ = cc in wrong), λ w. absurd (let e = w.0 in let wrong : ⊥ = cc in wrong))
unless_is a b (Some p) q = go (implied_by a b p) refl
  where
    go : (t : Bool) → implied_by a b p ≡ t → (cond t None (Some p) ≡ Some q) ↔ ((Some p ≡ Some q) × (implied_by a b q ≡ false))
    go true is = (
      λ e. absurd (let wrong : ⊥ = cc in wrong),
      λ w. absurd (false≢true (sym w.1 ∙ ap (implied_by a b) (sym (some_same p q w.0)) ∙ is)),
    )
    go false is = (λ e. (e, ap (implied_by a b) (sym (some_same p q e)) ∙ is), λ w. w.0)

printed_is : (m : Entries) (i j : ℕ) (q : ℤ) → InOrder i j → (printed m i j ≡ Some q) ↔ IsRowBound m i j q
printed_is m i j q (inl same) = elim (eqb_tells i j) as (λ _. (printed m i j ≡ Some q) ↔ IsRowBound m i j q) [
  | inl t ↦ rw t.0 (λ e. inl (same, e), λ w. elim w [ inl x ↦ x.1 | inr x ↦ absurd (x.0 (ap (λ (y : ℕ). y / 2) same)) ])
  | inr f ↦ absurd (f.1 same)
]
printed_is m i j q (inr later) = elim (eqb_tells i j) as (λ _. (printed m i j ≡ Some q) ↔ IsRowBound m i j q) [
  | inl t ↦ absurd (let e = t.1 in omega (arith, later, e))
  | inr f ↦ rw f.0 (
    λ e. let w = (unless_is (most m (opposite i)) (most m (opposite j)) (m i (opposite j)) q).0 e in
        inr ((λ s. omega (arith, later, s)), w.0, λ x. false≢true (sym w.1 ∙ (implied_is m i j q).1 x)),
    λ w. elim w [
      | inl x ↦ absurd (f.1 x.0)
      | inr x ↦ (unless_is (most m (opposite i)) (most m (opposite j)) (m i (opposite j)) q).1
          (x.1, false_from_ne_true (implied_by (most m (opposite i)) (most m (opposite j)) q) (λ t. x.2 ((implied_is m i j q).0 t)))
    ],
  )
]

opposite_order : (i j : ℕ) → InOrder i j → InOrder (opposite i) (opposite j)
opposite_order i j (inl e) = inl (ap opposite e)
opposite_order i j (inr l) = inr (let p = half_opposite i in let q = half_opposite j in omega (arith, l, p, q))

equality_tells : (o p : Option ℤ) (q : ℤ) → o ≡ Some q → (makes_equality o p ≡ true) ↔ (p ≡ Some (neg_ℤ q))
equality_tells o p q e = subst (λ (x : Option ℤ). (makes_equality x p ≡ true) ↔ (p ≡ Some (neg_ℤ q))) (sym e) (tells p)
  where
    turn : (x y : ℤ) → x ≡ neg_ℤ y → y ≡ neg_ℤ x
    turn x y s = omega (arith, ints, s)

    tells : (x : Option ℤ) → (makes_equality (Some q) x ≡ true) ↔ (x ≡ Some (neg_ℤ q))
    tells None = (λ t. absurd (false≢true t), λ s. absurd (let wrong : ⊥ = cc in wrong))
    tells (Some r) = (
      λ t. ap Some (turn q r ((signed_Decides q (neg_ℤ r)).0 t)),
      λ s. (signed_Decides q (neg_ℤ r)).1 (turn r q (some_same r (neg_ℤ q) s)),
    )

equality_is : (m : Entries) (i j : ℕ) (q : ℤ) → InOrder i j → printed m i j ≡ Some q → (is_equality_pair m i j ≡ true) ↔ MakesEquality m i j q
equality_is m i j q o e =
    let t = equality_tells (printed m i j) (printed m (opposite i) (opposite j)) q e in
    let b = printed_is m (opposite i) (opposite j) (neg_ℤ q) (opposite_order i j o) in
    (λ s. b.0 (t.0 s), λ w. t.1 (b.1 w))

-- the row of a bound, as it is listed with its first signed variable
bound_row : (kind : ConKind) (n : ℕ) (m : Entries) (i : ℕ) (r : List ℤ) → i < 2 * n → Contains (rows_with n (kind_row kind n m) i) r
    → (w : IsBoundRow n m r) × (w.i ≡ i) × (is_equality_pair m w.i w.j ≡ is_equal kind)
bound_row kind n m i r h d =
    let v = of_with n (kind_row kind n m) i r h d in
    let p = of_pair kind n m i v.0 r v.3 in (
      record {
        i = i;
        j = v.0;
        q = p.0;
        first = h;
        second = v.1;
        in_order = v.2;
        bound = (printed_is m i v.0 p.0 v.2).0 p.1;
        is = p.3;
      },
      refl,
      p.2,
    )

row_listed : (kind : ConKind) (n : ℕ) (m : Entries) (r : List ℤ) → (w : IsBoundRow n m r) → is_equality_pair m w.i w.j ≡ is_equal kind
    → Contains (rows_with n (kind_row kind n m) w.i) r
row_listed kind n m r w t = has_with n (kind_row kind n m) w.i r (
  w.j,
  w.second,
  w.in_order,
  has_pair kind n m w.i w.j r (w.q, (printed_is m w.i w.j w.q w.in_order).1 w.bound, t, w.is),
)

row_equality : (n : ℕ) (m : Entries) (r : List ℤ) → (w : IsBoundRow n m r) → (is_equality_pair m w.i w.j ≡ true) ↔ MakesEquality m w.i w.j w.q
row_equality n m r w = equality_is m w.i w.j w.q w.in_order ((printed_is m w.i w.j w.q w.in_order).1 w.bound)

pub equal_exact : (n : ℕ) (m : Entries) (r : List ℤ) → Contains (octagon_equalities n m 0 n) r ↔ IsOctagonEquality n m r
equal_exact n m r = (λ d. named (of_equals n m 0 n r d), λ w. listed w)
  where
    named : (c : ℕ) × (0 ≤ c) × (c < 0 + n) × Contains (rows_with n (kind_row Eq n m) (2 * c)) r → IsOctagonEquality n m r
    named (c, l, h, d) =
        let w = bound_row Eq n m (2 * c) r (omega (arith, h)) d in
        let at = w.1 in
        record { row = w.0; turned = omega (arith, at); equality = (row_equality n m r w.0).0 w.2 }

    listed : IsOctagonEquality n m r → Contains (octagon_equalities n m 0 n) r
    listed w =
        let t = w.turned in
        let first = w.row.first in
        let even : w.row.i ≡ 2 * (w.row.i / 2) = omega (arith, t) in
        has_equals n m 0 n (w.row.i / 2) r (omega arith) (omega (arith, first))
        (subst (λ (x : ℕ). Contains (rows_with n (kind_row Eq n m) x) r) even (row_listed Eq n m r w.row ((row_equality n m r w.row).1 w.equality)))

pub unequal_exact : (n : ℕ) (m : Entries) (r : List ℤ) → Contains (octagon_inequalities n m 0 n) r ↔ IsOctagonInequality n m r
unequal_exact n m r = (λ d. named (of_unequals n m 0 n r d), λ w. listed w)
  where
    named : (i : ℕ) × (0 ≤ i / 2) × (i / 2 < 0 + n) × Contains (rows_with n (kind_row Ge n m) i) r → IsOctagonInequality n m r
    named (i, l, h, d) =
        let w = bound_row Ge n m i r (omega (arith, h)) d in
        record { row = w.0; alone = λ x. false≢true (sym w.2 ∙ (row_equality n m r w.0).1 x) }

    listed : IsOctagonInequality n m r → Contains (octagon_inequalities n m 0 n) r
    listed w =
        let first = w.row.first in
        has_unequals n m 0 n w.row.i r (omega arith) (omega (arith, first))
        (row_listed Ge n m r w.row (false_from_ne_true (is_equality_pair m w.row.i w.row.j) (λ t. w.alone ((row_equality n m r w.row).0 t))))
