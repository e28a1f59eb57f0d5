-- The rows of an octagon mean it.
use Rattle.std.proofs.Common.{◌≡◌, ◌≢◌, ℕ, zero, suc, ◌+◌, ◌-◌, ◌*◌, ◌/◌, ◌%◌, ◌<◌, ◌≤◌, ◌⊎◌, inl, inr, ◌↔◌, ℤ, pos, ◌+ℤ◌, ◌*ℤ◌, List, [], ◌∷◌, ◌++◌, length, replicate, Option, None, Some, Bool, true}
use Rattle.std.proofs.Common.{false, cond, refl, sym, ap, ◌∙◌, subst, arith}
use Rattle.std.proofs.{Math.ListN.length-set, lemmas.Bool.false≢true, lemmas.Bool.Decides.eqb_tells, lemmas.Bool.Decides.leb_tells, lemmas.Int.ints, lemmas.List.get_or-set_other}
use Rattle.std.proofs.{lemmas.List.get_or-replicate, lemmas.List.Elements.All-cons, lemmas.List.Elements.All-nil}
use Rattle.std.specs.{Cmp.signed_Decides, List.All, Prelude.◌==◌, Prelude.◌-ℤ◌, Prelude.◌≤ℤ◌, Prelude.neg_ℤ, Prelude.slice_set, Prelude.slice_index_or}
use Rattle.lra_linear_spec.specs.{Vectors.entry, Vectors.product, declared.ConKind.ConKind, declared.ConKind.TheVariants.Ge, declared.ConKind.TheVariants.Eq}
use Rattle.lra_octagon.specs.Crates.lra_systems.LinearSystems.{LinearSystem}
use Rattle.lra_domain.specs.Parts.{SomePartHolds}
use Rattle.lra_box.proofs.PartLemmas.{AllHold, hold_append, rows_hold, product_zeros, times_one, one_times, minus_times}
use Rattle.lra_dbm.specs.{Cells.Cells, Cells.entries, Entry.◌⊑◌, Entry.half_of, Tight.Entries, Tight.opposite, Tight.with_sign, Tight.signed_value, Tight.IsStore}
use Rattle.lra_dbm.proofs.Clears.{half_opposite, in_pair, opposite_plus, opposite_minus}
use Rattle.lra_dbm.proofs.{CellLemmas.opposite_below, Closed.signed_opposite, EntryLemmas.le_same, EntryLemmas.le_none, EntryLemmas.le_trans, Strong.opposite_twice, Strong.half_bounds}
use Rattle.lra_octagon.specs.Parts.{sign_of, pair_row, implied_by, unless_implied, printed, makes_equality, is_equality_pair, row_if_any, kind_row, RowsAt, rising, falling, rows_with}
use Rattle.lra_octagon.specs.{Content.IsOctagon, Content.CellsFit, Content.has_store, Parts.octagon_equalities, Parts.octagon_inequalities, Parts.octagon_system, Parts.octagon_parts, Tables.most}

-- ---- what a row is at a store

no_times : (x : ℤ) → pos 0 *ℤ x ≡ pos 0
no_times x = grind (arith, ints)

product_set : (cs s : List ℤ) (k : ℕ) (f : ℤ) → k < length cs → length s ≡ length cs → slice_index_or cs k (pos 0) ≡ pos 0
    → product (slice_set cs k f) s ≡ product cs s +ℤ (f *ℤ entry s k)
product_set [] s k f h e z = absurd (omega arith)
product_set (c ∷ cs) [] k f h e z = absurd (omega arith)
product_set (c ∷ cs) (x ∷ xs) zero f h e z = let n = no_times x in let m : c *ℤ x ≡ pos 0 = rw z n in omega (arith, ints)
product_set (c ∷ cs) (x ∷ xs) (suc k) f h e z = let p = product_set cs xs k f (omega arith) (omega arith) z in omega (arith, ints)

set_twice : (cs : List ℤ) (k : ℕ) (f g : ℤ) → slice_set (slice_set cs k f) k g ≡ slice_set cs k g
set_twice [] k f g = refl
set_twice (c ∷ cs) zero f g = refl
set_twice (c ∷ cs) (suc k) f g = ap (λ z. c ∷ z) (set_twice cs k f g)

length_zeros : (n : ℕ) → length (replicate n (pos 0)) ≡ n
length_zeros zero = refl
length_zeros (suc n) = ap suc (length_zeros n)

sign_times : (r : ℕ) (x : ℤ) → with_sign r (pos 1) *ℤ x ≡ with_sign r x
sign_times zero x = one_times x
sign_times (suc r) x = minus_times x

signed_is : (s : List ℤ) (i : ℕ) → sign_of i *ℤ entry s (i / 2) ≡ signed_value s i
unfolding signed_value
signed_is s i = let r : i - 2 * (i / 2) ≡ i % 2 = omega arith in rw r (sign_times (i % 2) (entry s (i / 2)))

one_set : (n i : ℕ) (s : List ℤ) → i < 2 * n → length s ≡ n → product (slice_set (replicate n (pos 0)) (i / 2) (sign_of i)) s ≡ signed_value s i
one_set n i s h e =
    let w = length_zeros n in
    product_set (replicate n (pos 0)) s (i / 2) (sign_of i) (omega arith) (omega arith) (get_or-replicate n (i / 2) (pos 0) (pos 0) (omega arith))
    ∙ ap (λ z. z +ℤ (sign_of i *ℤ entry s (i / 2))) (product_zeros n s) ∙ zero_plus (sign_of i *ℤ entry s (i / 2)) ∙ signed_is s i
  where
    zero_plus : (x : ℤ) → pos 0 +ℤ x ≡ x
    zero_plus x = omega (arith, ints)

row_start : (q p : ℤ) → (q *ℤ pos 1) +ℤ p ≡ q +ℤ p
row_start q p = let t = times_one q in omega (arith, ints)

-- the row q + v_i + v_j, or q + v_i
abbrev sum_at : List ℤ → ℕ → ℕ → ℤ
sum_at s i j = cond (i == j) (signed_value s i) (signed_value s i +ℤ signed_value s j)

own_row : (n i : ℕ) (q : ℤ) (s : List ℤ) → i < 2 * n → length s ≡ n → product (pair_row n i i q) (pos 1 ∷ s) ≡ q +ℤ signed_value s i
own_row n i q s h e = row_start q (product (slice_set (slice_set (replicate n (pos 0)) (i / 2) (sign_of i)) (i / 2) (sign_of i)) s)
    ∙ ap (λ z. q +ℤ product z s) (set_twice (replicate n (pos 0)) (i / 2) (sign_of i) (sign_of i)) ∙ ap (λ z. q +ℤ z) (one_set n i s h e)

two_row : (n i j : ℕ) (q : ℤ) (s : List ℤ) → i < 2 * n → j < 2 * n → j / 2 ≢ i / 2 → length s ≡ n
    → product (pair_row n i j q) (pos 1 ∷ s) ≡ q +ℤ (signed_value s i +ℤ signed_value s j)
two_row n i j q s h k ne e =
    let w = length_zeros n in
    let long : length (slice_set (replicate n (pos 0)) (i / 2) (sign_of i)) ≡ n = length-set {A = ℤ} (replicate n (pos 0)) (i / 2) (sign_of i) ∙ w in
    row_start q (product (slice_set (slice_set (replicate n (pos 0)) (i / 2) (sign_of i)) (j / 2) (sign_of j)) s)
    ∙ ap (λ z. q +ℤ z) (product_set (slice_set (replicate n (pos 0)) (i / 2) (sign_of i)) s (j / 2) (sign_of j) (omega arith) (omega arith)
    (get_or-set_other (replicate n (pos 0)) (i / 2) (j / 2) (sign_of i) (pos 0) ne ∙ get_or-replicate n (j / 2) (pos 0) (pos 0) (omega arith))
    ∙ ap (λ z. z +ℤ (sign_of j *ℤ entry s (j / 2))) (one_set n i s h e) ∙ ap (λ z. signed_value s i +ℤ z) (signed_is s j))

-- i and j name one row: they are the same, or of different variables
abbrev Apart : ℕ → ℕ → Type 0
Apart i j = (j ≡ i) ⊎ (i / 2 < j / 2)

row_value : (n i j : ℕ) (q : ℤ) (s : List ℤ) → i < 2 * n → j < 2 * n → Apart i j → length s ≡ n → product (pair_row n i j q) (pos 1 ∷ s) ≡ q +ℤ sum_at s i j
row_value n i j q s h k (inl same) e = elim (eqb_tells i j) as (λ _. product (pair_row n i j q) (pos 1 ∷ s) ≡ q +ℤ sum_at s i j) [
  | inl f ↦ rw (f.0, same) (own_row n i q s h e)
  | inr f ↦ absurd (f.1 (sym same))
]
row_value n i j q s h k (inr later) e = elim (eqb_tells i j) as (λ _. product (pair_row n i j q) (pos 1 ∷ s) ≡ q +ℤ sum_at s i j) [
  | inl f ↦ absurd (let g = f.1 in omega arith)
  | inr f ↦ rw f.0 (two_row n i j q s h k (λ g. let l = later in omega arith) e)
]

sum_opposite : (s : List ℤ) (i j : ℕ) → Apart i j → sum_at s (opposite i) (opposite j) ≡ neg_ℤ (sum_at s i j)
sum_opposite s i j (inl same) = elim (eqb_tells i j) as (λ _. sum_at s (opposite i) (opposite j) ≡ neg_ℤ (sum_at s i j)) [
  | inr f ↦ absurd (f.1 (sym same))
  | inl f ↦ rw f.0 (elim (eqb_tells (opposite i) (opposite j)) as (λ _. sum_at s (opposite i) (opposite j) ≡ neg_ℤ (signed_value s i)) [
    | inl g ↦ rw g.0 (signed_opposite s i)
    | inr g ↦ absurd (g.1 (ap opposite (sym same)))
  ])
]
sum_opposite s i j (inr later) = elim (eqb_tells i j) as (λ _. sum_at s (opposite i) (opposite j) ≡ neg_ℤ (sum_at s i j)) [
  | inl f ↦ absurd (let g = f.1 in omega arith)
  | inr f ↦ rw f.0 (elim (eqb_tells (opposite i) (opposite j)) as (λ _. sum_at s (opposite i) (opposite j) ≡ neg_ℤ (signed_value s i +ℤ signed_value s j)) [
    | inl g ↦ absurd (let p = half_opposite i in let q = half_opposite j in let r = ap (λ z. z / 2) g.1 in omega arith)
    | inr g ↦ rw (g.0, signed_opposite s i, signed_opposite s j) (both (signed_value s i) (signed_value s j))
  ])
]
  where
    both : (p q : ℤ) → neg_ℤ p +ℤ neg_ℤ q ≡ neg_ℤ (p +ℤ q)
    both p q = omega (arith, ints)

-- ---- when a row holds

-- the inequality, if there is one, is met
abbrev Met : Option ℤ → ℤ → Type 0
Met None v = Unit {0}
Met (Some q) v = pos 0 ≤ℤ (q +ℤ v)

ge_holds : (n i j : ℕ) (o : Option ℤ) (s : List ℤ) → i < 2 * n → j < 2 * n → Apart i j → length s ≡ n → AllHold Ge (row_if_any n i j o) s ↔ Met o (sum_at s i j)
ge_holds n i j None s h k a e = (λ p. tt, λ p. tt)
ge_holds n i j (Some q) s h k a e =
    let v = row_value n i j q s h k a e in
    (λ p. subst (λ (z : ℤ). pos 0 ≤ℤ z) v p.0, λ p. (subst (λ (z : ℤ). pos 0 ≤ℤ z) (sym v) p, tt))

eq_holds : (n i j : ℕ) (o p : Option ℤ) (s : List ℤ) → i < 2 * n → j < 2 * n → Apart i j → length s ≡ n → makes_equality o p ≡ true
    → AllHold Eq (row_if_any n i j o) s ↔ (Met o (sum_at s i j) × Met p (neg_ℤ (sum_at s i j)))
eq_holds n i j None p s h k a e t = absurd (false≢true t)
eq_holds n i j (Some q) None s h k a e t = absurd (false≢true t)
eq_holds n i j (Some q) (Some r) s h k a e t =
    let v = row_value n i j q s h k a e in
    let same : q ≡ neg_ℤ r = (signed_Decides q (neg_ℤ r)).0 t in
    (λ z. let w : q +ℤ sum_at s i j ≡ pos 0 = sym v ∙ z.0 in (omega (arith, ints), omega (arith, ints)), λ z. let x = z.0 in let y = z.1 in (v ∙ zero_of q r (sum_at s i j) same x y, tt))
  where
    zero_of : (q r v : ℤ) → q ≡ neg_ℤ r → pos 0 ≤ℤ (q +ℤ v) → pos 0 ≤ℤ (r +ℤ neg_ℤ v) → q +ℤ v ≡ pos 0
    zero_of q r v same x y = omega (arith, ints)

turned_equality : (o p : Option ℤ) → makes_equality o p ≡ true → makes_equality p o ≡ true
turned_equality None p t = absurd (false≢true t)
turned_equality (Some a) None t = absurd (false≢true t)
turned_equality (Some a) (Some b) t = (signed_Decides b (neg_ℤ a)).1 (let e : a ≡ neg_ℤ b = (signed_Decides a (neg_ℤ b)).0 t in omega (arith, ints))

-- ---- lists of rows

abbrev AtLater : (ℕ → Type 0) → ℕ → ℕ → Type 0
AtLater p b k = (j : ℕ) → b ≤ j → j < b + k → p j

later_step : (p : ℕ → Type 0) (b k : ℕ) → (p b × AtLater p (suc b) k) ↔ AtLater p b (suc k)
later_step p b k = (
  λ h j l m. elim (eqb_tells j b) [ inl e ↦ subst p (sym e.1) h.0 | inr e ↦ (let ne = e.1 in h.1 j (omega arith) (omega arith)) ],
  λ h. (h b (omega arith) (omega arith), λ j l m. h j (omega arith) (omega arith)),
)

later_last : (p : ℕ → Type 0) (b k : ℕ) → (p (b + k) × AtLater p b k) ↔ AtLater p b (suc k)
later_last p b k = (
  λ h j l m. elim (eqb_tells j (b + k)) [ inl e ↦ subst p (sym e.1) h.0 | inr e ↦ (let ne = e.1 in h.1 j l (omega arith)) ],
  λ h. (h (b + k) (omega arith) (omega arith), λ j l m. h j l (omega arith)),
)

rising_holds : (kind : ConKind) (f : RowsAt) (b k : ℕ) (s : List ℤ) → AllHold kind (rising f b k) s ↔ AtLater (λ j. AllHold kind (f (2 * j)) s) b k
rising_holds kind f b zero s = (λ h j l m. absurd (omega arith), λ h. tt)
rising_holds kind f b (suc k) s =
    let a = hold_append kind (f (2 * b)) (rising f (suc b) k) s in
    let r = rising_holds kind f (suc b) k s in
    let t = later_step (λ j. AllHold kind (f (2 * j)) s) b k in
    (λ h. let q = a.0 h in t.0 (q.0, r.0 q.1), λ h. let q = t.1 h in a.1 (q.0, r.1 q.1))

falling_holds : (kind : ConKind) (f : RowsAt) (b k : ℕ) (s : List ℤ) → AllHold kind (falling f b k) s ↔ AtLater (λ j. AllHold kind (f (2 * j + 1)) s) b k
falling_holds kind f b zero s = (λ h j l m. absurd (omega arith), λ h. tt)
falling_holds kind f b (suc k) s =
    let a = hold_append kind (f (2 * (b + k) + 1)) (falling f b k) s in
    let r = falling_holds kind f b k s in
    let t = later_last (λ j. AllHold kind (f (2 * j + 1)) s) b k in
    (λ h. let q = a.0 h in t.0 (q.0, r.0 q.1), λ h. let q = t.1 h in a.1 (q.0, r.1 q.1))

-- the rows with i, at each signed variable that comes with it
abbrev WithHolds : ConKind → ℕ → Entries → List ℤ → ℕ → Type 0
WithHolds kind n m s i = (j : ℕ) → j < 2 * n → Apart i j → AllHold kind (kind_row kind n m i j) s

with_holds : (kind : ConKind) (n : ℕ) (m : Entries) (i : ℕ) (s : List ℤ) → i < 2 * n → AllHold kind (rows_with n (kind_row kind n m) i) s ↔ WithHolds kind n m s i
with_holds kind n m i s h =
    let f = kind_row kind n m i in
    let up = rising f (suc (i / 2)) (n - suc (i / 2)) in
    let down = falling f (suc (i / 2)) (n - suc (i / 2)) in
    let a = hold_append kind (up ++ f i) down s in
    let b = hold_append kind up (f i) s in
    let u = rising_holds kind f (suc (i / 2)) (n - suc (i / 2)) s in
    let d = falling_holds kind f (suc (i / 2)) (n - suc (i / 2)) s in (
      λ w. let p = a.0 w in let q = b.0 p.0 in at q.1 (u.0 q.0) (d.0 p.1),
      λ w. a.1 (
        b.1 (u.1 (λ j l k. w (2 * j) (omega arith) (inr (omega arith))), w i h (inl refl)),
        d.1 (λ j l k. w (2 * j + 1) (omega arith) (inr (omega arith))),
      ),
    )
  where
    at : AllHold kind (kind_row kind n m i i) s → AtLater (λ j. AllHold kind (kind_row kind n m i (2 * j)) s) (suc (i / 2)) (n - suc (i / 2))
        → AtLater (λ j. AllHold kind (kind_row kind n m i (2 * j + 1)) s) (suc (i / 2)) (n - suc (i / 2)) → WithHolds kind n m s i
    at own plus minus j k (inl e) = subst (λ (z : ℕ). AllHold kind (kind_row kind n m i z) s) (sym e) own
    at own plus minus j k (inr l) = elim (in_pair (j / 2) j refl) [
      | inl e ↦ subst (λ (z : ℕ). AllHold kind (kind_row kind n m i z) s) (sym e) (plus (j / 2) (let q = l in omega arith) (let q = l in omega arith))
      | inr e ↦ subst (λ (z : ℕ). AllHold kind (kind_row kind n m i z) s) (sym e) (minus (j / 2) (let q = l in omega arith) (let q = l in omega arith))
    ]

equal_holds : (n : ℕ) (m : Entries) (a k : ℕ) (s : List ℤ) → a + k ≡ n →
    AllHold Eq (octagon_equalities n m a k) s ↔ AtLater (λ b. WithHolds Eq n m s (2 * b)) a k
equal_holds n m a zero s e = (λ h j l q. absurd (omega arith), λ h. tt)
equal_holds n m a (suc k) s e =
    let p = hold_append Eq (rows_with n (kind_row Eq n m) (2 * a)) (octagon_equalities n m (suc a) k) s in
    let w = with_holds Eq n m (2 * a) s (omega arith) in
    let r = equal_holds n m (suc a) k s (omega arith) in
    let t = later_step (λ b. WithHolds Eq n m s (2 * b)) a k in
    (λ h. let q = p.0 h in t.0 (w.0 q.0, r.0 q.1), λ h. let q = t.1 h in p.1 (w.1 q.0, r.1 q.1))

unequal_holds : (n : ℕ) (m : Entries) (a k : ℕ) (s : List ℤ) → a + k ≡ n
    → AllHold Ge (octagon_inequalities n m a k) s ↔ AtLater (λ b. WithHolds Ge n m s (2 * b) × WithHolds Ge n m s (2 * b + 1)) a k
unequal_holds n m a zero s e = (λ h j l q. absurd (omega arith), λ h. tt)
unequal_holds n m a (suc k) s e =
    let plus = rows_with n (kind_row Ge n m) (2 * a) in
    let minus = rows_with n (kind_row Ge n m) (2 * a + 1) in
    let p = hold_append Ge (plus ++ minus) (octagon_inequalities n m (suc a) k) s in
    let b = hold_append Ge plus minus s in
    let u = with_holds Ge n m (2 * a) s (omega arith) in
    let d = with_holds Ge n m (2 * a + 1) s (omega arith) in
    let r = unequal_holds n m (suc a) k s (omega arith) in
    let t = later_step (λ b. WithHolds Ge n m s (2 * b) × WithHolds Ge n m s (2 * b + 1)) a k in
    (λ h. let q = p.0 h in let o = b.0 q.0 in t.0 ((u.0 o.0, d.0 o.1), r.0 q.1), λ h. let q = t.1 h in p.1 (b.1 (u.1 q.0.0, d.1 q.0.1), r.1 q.1))

-- ---- all rows hold exactly if each printed inequality is met

abbrev AllMet : ℕ → Entries → List ℤ → Type 0
AllMet n m s = (i j : ℕ) → i < 2 * n → j < 2 * n → Apart i j → Met (printed m i j) (sum_at s i j)

apart_opposite : (i j : ℕ) → Apart i j → Apart (opposite i) (opposite j)
apart_opposite i j (inl e) = inl (ap opposite e)
apart_opposite i j (inr l) = inr (let p = half_opposite i in let q = half_opposite j in let r = l in omega arith)

equality_opposite : (m : Entries) (i j : ℕ) → is_equality_pair m i j ≡ true → is_equality_pair m (opposite i) (opposite j) ≡ true
equality_opposite m i j t = ap (λ z. makes_equality (printed m (opposite i) (opposite j)) (printed m z (opposite (opposite j)))) (opposite_twice i)
    ∙ ap (λ z. makes_equality (printed m (opposite i) (opposite j)) (printed m i z)) (opposite_twice j)
    ∙ turned_equality (printed m i j) (printed m (opposite i) (opposite j)) t

-- at an equality, its row holds exactly if both inequalities are met
equality_met : (n : ℕ) (m : Entries) (i j : ℕ) (s : List ℤ) → i < 2 * n → j < 2 * n → Apart i j → length s ≡ n → is_equality_pair m i j ≡ true
    → AllHold Eq (kind_row Eq n m i j) s ↔ (Met (printed m i j) (sum_at s i j) × Met (printed m (opposite i) (opposite j)) (sum_at s (opposite i) (opposite j)))
equality_met n m i j s h k a e t =
    let q = eq_holds n i j (printed m i j) (printed m (opposite i) (opposite j)) s h k a e t in
    rw (t, sum_opposite s i j a) q

all_met : (n : ℕ) (m : Entries) (s : List ℤ) → length s ≡ n → AtLater (λ b. WithHolds Eq n m s (2 * b)) 0 n
    → AtLater (λ b. WithHolds Ge n m s (2 * b) × WithHolds Ge n m s (2 * b + 1)) 0 n → AllMet n m s
all_met n m s e equal unequal i j h k a = by_test (is_equality_pair m i j) refl
  where
    own : (i j : ℕ) → i < 2 * n → j < 2 * n → Apart i j → AllHold Ge (kind_row Ge n m i j) s
    own i j h k a = elim (in_pair (i / 2) i refl) [
      | inl p ↦ subst (λ (z : ℕ). AllHold Ge (kind_row Ge n m z j) s) (sym p) ((unequal (i / 2) (omega arith) (omega arith)).0 j k (subst (λ (z : ℕ). Apart z j) p a))
      | inr p ↦ subst (λ (z : ℕ). AllHold Ge (kind_row Ge n m z j) s) (sym p) ((unequal (i / 2) (omega arith) (omega arith)).1 j k (subst (λ (z : ℕ). Apart z j) p a))
    ]

    plus : (i j : ℕ) → i ≡ 2 * (i / 2) → i < 2 * n → j < 2 * n → Apart i j → AllHold Eq (kind_row Eq n m i j) s
    plus i j p h k a = subst (λ (z : ℕ). AllHold Eq (kind_row Eq n m z j) s) (sym p) (equal (i / 2) (omega arith) (omega arith) j k (subst (λ (z : ℕ). Apart z j) p a))

    by_test : (t : Bool) → is_equality_pair m i j ≡ t → Met (printed m i j) (sum_at s i j)
    by_test false t = (ge_holds n i j (printed m i j) s h k a e).0
        (subst (λ (z : Bool). AllHold Ge (cond z [] (row_if_any n i j (printed m i j))) s) t (own i j h k a))
    by_test true t = elim (in_pair (i / 2) i refl) [
      | inl p ↦ ((equality_met n m i j s h k a e t).0 (plus i j p h k a)).0
      | inr p ↦ (
          let even : opposite i ≡ 2 * (opposite i / 2) = ap opposite p ∙ opposite_minus (i / 2) ∙ ap (λ z. 2 * z) (sym (half_opposite i)) in
          let row = plus (opposite i) (opposite j) even (opposite_below n i h) (opposite_below n j k) (apart_opposite i j a) in
          let met = (equality_met n m (opposite i) (opposite j) s (opposite_below n i h) (opposite_below n j k) (apart_opposite i j a) e (equality_opposite m i j t)).0 row in
          let back : Met (printed m i j) (sum_at s i j) = rw (opposite_twice i, opposite_twice j) at met.1 in back)
    ]

rows_of_met : (n : ℕ) (m : Entries) (s : List ℤ) → length s ≡ n → AllMet n m s → AtLater (λ b. WithHolds Eq n m s (2 * b)) 0 n
    × AtLater (λ b. WithHolds Ge n m s (2 * b) × WithHolds Ge n m s (2 * b + 1)) 0 n
rows_of_met n m s e met = (
  λ b l k j d a. equal (2 * b) j (omega arith) d a (is_equality_pair m (2 * b) j) refl,
  λ b l k. (
    λ j d a. unequal (2 * b) j (omega arith) d a (is_equality_pair m (2 * b) j) refl,
    λ j d a. unequal (2 * b + 1) j (omega arith) d a (is_equality_pair m (2 * b + 1) j) refl,
  ),
)
  where
    equal : (i j : ℕ) → i < 2 * n → j < 2 * n → Apart i j → (t : Bool) → is_equality_pair m i j ≡ t → AllHold Eq (kind_row Eq n m i j) s
    equal i j h k a true t = (equality_met n m i j s h k a e t).1
        (met i j h k a, met (opposite i) (opposite j) (opposite_below n i h) (opposite_below n j k) (apart_opposite i j a))
    equal i j h k a false t = subst (λ (z : Bool). AllHold Eq (cond z (row_if_any n i j (printed m i j)) []) s) (sym t) tt

    unequal : (i j : ℕ) → i < 2 * n → j < 2 * n → Apart i j → (t : Bool) → is_equality_pair m i j ≡ t → AllHold Ge (kind_row Ge n m i j) s
    unequal i j h k a true t = subst (λ (z : Bool). AllHold Ge (cond z [] (row_if_any n i j (printed m i j))) s) (sym t) tt
    unequal i j h k a false t = subst (λ (z : Bool). AllHold Ge (cond z [] (row_if_any n i j (printed m i j))) s) (sym t)
        ((ge_holds n i j (printed m i j) s h k a e).1 (met i j h k a))

-- ---- printed inequalities and entries

half_met : (o : Option ℤ) (v w : ℤ) → w ≡ neg_ℤ v → Some (w -ℤ v) ⊑ o ↔ Met (half_of o) v
half_met None v w e = (λ h. tt, λ h. le_none (Some (w -ℤ v)))
half_met (Some q) v w e = let b = half_bounds q in (λ h. let p = h.at_most in omega (arith, ints), λ h. record { at_most = omega (arith, ints) })

implied_met : (a b : Option ℤ) (q v w : ℤ) → implied_by a b q ≡ true → Met a v → Met b w → pos 0 ≤ℤ (q +ℤ (v +ℤ w))
implied_met None b q v w t p r = absurd (false≢true t)
implied_met (Some a) None q v w t p r = absurd (false≢true t)
implied_met (Some a) (Some b) q v w t p r = let l : (a +ℤ b) ≤ℤ q = grind (arith, ints) in omega (arith, ints)

unless_back : (a b o : Option ℤ) (v w : ℤ) → Met a v → Met b w → Met (unless_implied a b o) (v +ℤ w) → Met o (v +ℤ w)
unless_back a b None v w p r h = tt
unless_back a b (Some q) v w p r h = by_test (implied_by a b q) refl h
  where
    by_test : (t : Bool) → implied_by a b q ≡ t → Met (cond t None (Some q)) (v +ℤ w) → Met (Some q) (v +ℤ w)
    by_test true t h = implied_met a b q v w t p r
    by_test false t h = h

unless_on : (a b o : Option ℤ) (v : ℤ) → Met o v → Met (unless_implied a b o) v
unless_on a b None v h = tt
unless_on a b (Some q) v h = by_test (implied_by a b q)
  where
    by_test : (t : Bool) → Met (cond t None (Some q)) v
    by_test true = tt
    by_test false = h

met_entry : (o : Option ℤ) (v w u : ℤ) → u ≡ neg_ℤ w → Some (u -ℤ v) ⊑ o ↔ Met o (v +ℤ w)
met_entry None v w u e = (λ h. tt, λ h. le_none (Some (u -ℤ v)))
met_entry (Some q) v w u e = (λ h. let p = h.at_most in omega (arith, ints), λ h. record { at_most = omega (arith, ints) })

own_printed : (m : Entries) (i j : ℕ) → j ≡ i → printed m i j ≡ most m (opposite i)
own_printed m i j e = elim (eqb_tells i j) as (λ _. printed m i j ≡ most m (opposite i)) [ inl f ↦ rw f.0 refl | inr f ↦ absurd (f.1 (sym e)) ]

two_printed : (m : Entries) (i j : ℕ) → i / 2 < j / 2 → printed m i j ≡ unless_implied (most m (opposite i)) (most m (opposite j)) (m i (opposite j))
two_printed m i j l = elim (eqb_tells i j) as (λ _. printed m i j ≡ unless_implied (most m (opposite i)) (most m (opposite j)) (m i (opposite j))) [
  | inl f ↦ absurd (let g = f.1 in omega arith)
  | inr f ↦ rw f.0 refl
]

own_sum : (s : List ℤ) (i j : ℕ) → j ≡ i → sum_at s i j ≡ signed_value s i
own_sum s i j e = elim (eqb_tells i j) as (λ _. sum_at s i j ≡ signed_value s i) [ inl f ↦ rw f.0 refl | inr f ↦ absurd (f.1 (sym e)) ]

two_sum : (s : List ℤ) (i j : ℕ) → i / 2 < j / 2 → sum_at s i j ≡ signed_value s i +ℤ signed_value s j
two_sum s i j l = elim (eqb_tells i j) as (λ _. sum_at s i j ≡ signed_value s i +ℤ signed_value s j) [
  | inl f ↦ absurd (let g = f.1 in omega arith)
  | inr f ↦ rw f.0 refl
]

-- the unary inequality
own_met : (m : Entries) (s : List ℤ) (i : ℕ) → Some (signed_value s (opposite i) -ℤ signed_value s i) ⊑ m i (opposite i) ↔ Met (most m (opposite i)) (signed_value s i)
own_met m s i =
    let q = half_met (m (opposite (opposite i)) (opposite i)) (signed_value s i) (signed_value s (opposite i)) (signed_opposite s i) in
    let same : m (opposite (opposite i)) (opposite i) ≡ m i (opposite i) = ap (λ z. m z (opposite i)) (opposite_twice i) in
    (λ h. q.0 (le_trans h (le_same (sym same))), λ h. le_trans (q.1 h) (le_same same))

store_met : (n : ℕ) (m : Entries) (s : List ℤ) → IsStore n m s → AllMet n m s
store_met n m s h i j k l (inl e) = rw (own_printed m i j e, own_sum s i j e) ((own_met m s i).0 (h.below i (opposite i) k (opposite_below n i k)))
store_met n m s h i j k l (inr d) = rw (two_printed m i j d, two_sum s i j d) (unless_on (most m (opposite i)) (most m (opposite j)) (m i (opposite j)) (signed_value s i +ℤ signed_value s j)
    ((met_entry (m i (opposite j)) (signed_value s i) (signed_value s j) (signed_value s (opposite j)) (signed_opposite s j)).0 (h.below i (opposite j) k (opposite_below n j l))))

other_sign : (i j : ℕ) → i / 2 ≡ j / 2 → j ≢ i → j ≡ opposite i
other_sign i j d ne = elim (in_pair (i / 2) i refl) [
  | inl p ↦ elim (in_pair (i / 2) j (sym d)) [ inl q ↦ absurd (ne (q ∙ sym p)) | inr q ↦ q ∙ sym (opposite_plus (i / 2)) ∙ ap opposite (sym p) ]
  | inr p ↦ elim (in_pair (i / 2) j (sym d)) [ inl q ↦ q ∙ sym (opposite_minus (i / 2)) ∙ ap opposite (sym p) | inr q ↦ absurd (ne (q ∙ sym p)) ]
]

met_store : (n : ℕ) (cells : Cells) (s : List ℤ) → IsOctagon n cells → length s ≡ n → AllMet n (entries n cells) s → IsStore n (entries n cells) s
met_store n cells s fit e met = record { width = e; below = λ i j h k. at i j h k }
  where
    unary : (i : ℕ) → i < 2 * n → Met (most (entries n cells) (opposite i)) (signed_value s i)
    unary i h = rw (own_printed (entries n cells) i i refl, own_sum s i i refl) at (met i i h h (inl refl))

    binary : (i j : ℕ) → i < 2 * n → j < 2 * n → i / 2 < j / 2 → Some (signed_value s (opposite j) -ℤ signed_value s i) ⊑ entries n cells i (opposite j)
    binary i j h k d = (met_entry (entries n cells i (opposite j)) (signed_value s i) (signed_value s j) (signed_value s (opposite j)) (signed_opposite s j)).1
        (unless_back (most (entries n cells) (opposite i)) (most (entries n cells) (opposite j)) (entries n cells i (opposite j)) (signed_value s i) (signed_value s j)
        (unary i h) (unary j k) (rw (two_printed (entries n cells) i j d, two_sum s i j d) at (met i j h k (inr d))))

    later : (i j : ℕ) → i < 2 * n → j < 2 * n → i / 2 < j / 2 → Some (signed_value s j -ℤ signed_value s i) ⊑ entries n cells i j
    later i j h k d = subst (λ (z : ℕ). Some (signed_value s z -ℤ signed_value s i) ⊑ entries n cells i z) (opposite_twice j)
        (binary i (opposite j) h (opposite_below n j k) (let q = half_opposite j in omega arith))

    turned : (v w x y : ℤ) (o : Option ℤ) → x ≡ neg_ℤ v → y ≡ neg_ℤ w → Some (x -ℤ y) ⊑ o → Some (w -ℤ v) ⊑ o
    turned v w x y o p q r = let same : w -ℤ v ≡ x -ℤ y = omega (arith, ints) in le_trans (le_same (ap Some same)) r

    at : (i j : ℕ) → i < 2 * n → j < 2 * n → Some (signed_value s j -ℤ signed_value s i) ⊑ entries n cells i j
    at i j h k = elim (leb_tells (suc (i / 2)) (j / 2)) [
      | inl p ↦ later i j h k p.1
      | inr p ↦ elim (leb_tells (suc (j / 2)) (i / 2)) [
        | inl q ↦ turned (signed_value s i) (signed_value s j) (signed_value s (opposite i)) (signed_value s (opposite j)) (entries n cells i j) (signed_opposite s i) (signed_opposite s j)
            (le_trans (later (opposite j) (opposite i) (opposite_below n j k) (opposite_below n i h) (let a = half_opposite i in let b = half_opposite j in let l = q.1 in omega arith))
            (le_same (sym (fit.is.coherent i j))))
        | inr q ↦ same_variable i j h (let l = p.1 in let r = q.1 in omega arith)
      ]
    ]
      where
        diagonal : (v : ℤ) → Some (v -ℤ v) ⊑ Some (pos 0)
        diagonal v = record { at_most = omega (arith, ints) }

        same_variable : (i j : ℕ) → i < 2 * n → i / 2 ≡ j / 2 → Some (signed_value s j -ℤ signed_value s i) ⊑ entries n cells i j
        same_variable i j h d = elim (eqb_tells j i) [
          | inl p ↦ subst (λ (z : ℕ). Some (signed_value s z -ℤ signed_value s i) ⊑ entries n cells i z) (sym p.1) (le_trans (diagonal (signed_value s i)) (le_same (sym (fit.diagonal i))))
          | inr p ↦ subst (λ (z : ℕ). Some (signed_value s z -ℤ signed_value s i) ⊑ entries n cells i z) (sym (other_sign i j d p.1)) ((own_met (entries n cells) s i).1 (unary i h))
        ]

-- at a store all rows of some part hold, whatever the entries are
pub stores_hold : (n : ℕ) (o : Option Cells) (s : List ℤ) → length s ≡ n → has_store n o s → SomePartHolds (octagon_parts n o) s
stores_hold n None s e h = h
stores_hold n (Some cells) s e h =
    let m = entries n cells in
    let w = rows_of_met n m s e (store_met n m s h) in
    inl ((rows_hold (octagon_equalities n m 0 n) (octagon_inequalities n m 0 n) s).1 ((equal_holds n m 0 n s (omega arith)).1 w.0, (unequal_holds n m 0 n s (omega arith)).1 w.1))

-- a list of as many numbers as dimensions is a store exactly if all rows of some part hold
pub parts_mean : (n : ℕ) (o : Option Cells) (s : List ℤ) → CellsFit n o → length s ≡ n → has_store n o s ↔ SomePartHolds (octagon_parts n o) s
parts_mean n None s fit e = (λ h. h, λ h. h)
parts_mean n (Some cells) s fit e =
    let m = entries n cells in
    let r = rows_hold (octagon_equalities n m 0 n) (octagon_inequalities n m 0 n) s in
    let q = equal_holds n m 0 n s (omega arith) in
    let u = unequal_holds n m 0 n s (omega arith) in (
      stores_hold n (Some cells) s e,
      λ h. let w = r.0 (only h) in met_store n cells s fit e (all_met n m s e (q.0 w.0) (u.0 w.1)),
    )
  where
    only : {A : Type 0} → A ⊎ ⊥ → A
    only (inl a) = a
    only (inr b) = absurd b

pub parts_dims : (n : ℕ) (o : Option Cells) → All (λ p. p.dims ≡ n) (octagon_parts n o)
parts_dims n None = All-nil (λ (p : LinearSystem ConKind). p.dims ≡ n)
parts_dims n (Some cells) = All-cons (λ (p : LinearSystem ConKind). p.dims ≡ n) (octagon_system n (entries n cells)) [] refl (All-nil (λ (p : LinearSystem ConKind). p.dims ≡ n))
