-- What rows span, and one reduced echelon form for one span.
use Rattle.std.proofs.Common.{List, [], ap, arith, inl, inr, length, neg_ℤ, pos, refl, subst, suc, sym, zero, ℕ, ℤ, ◌*ℤ◌, ◌*◌, ◌+ℤ◌, ◌+◌, ◌<ℤ◌, ◌<◌, ◌∙◌, ◌∷◌, ◌≡◌, ◌≤◌, ◌⊎◌}
use Rattle.std.proofs.{lemmas.Bool.cases_lt, lemmas.Int.ints}
use Rattle.std.specs.List.{Contains}
use Rattle.lra_linear_spec.specs.{Echelon.Before, Echelon.IsEchelon, Echelon.HasPivot, Echelon.Spanned, Vectors.entry, Vectors.signed_sum, Vectors.zeros}
use Rattle.lra_linear_spec.proofs.Membership.{contains_cases, contains_head, contains_none, contains_tail}
use Rattle.lra_linear_spec.proofs.Signs.{as_nat, cancel_same, no_factor, no_product, not_both, positive_nat}
use Rattle.lra_linear_spec.proofs.{LowestTerms.same_multiple, Products.entry_past, Products.row_same, Ring.ring, Ring.v, Ring.⊖, Ring.◌⊕◌, Ring.◌⊗◌}

-- ---- sums at a column where the rows are 0
-- no rows, no sum
signed_sum_none : (zs : List ℤ) (j : ℕ) → signed_sum zs [] j ≡ pos 0
signed_sum_none [] j = refl
signed_sum_none (z ∷ zs) j = refl

-- rows that are 0 in a column have sums that are 0 there
pub sum_zero : (zs : List ℤ) (rows : List (List ℤ)) (j : ℕ) → ((t : List ℤ) → Contains rows t → entry t j ≡ pos 0) → signed_sum zs rows j ≡ pos 0
sum_zero [] rows j h = refl
sum_zero (z ∷ zs) [] j h = refl
sum_zero (z ∷ zs) (r ∷ rows) j h =
    ap (λ y. (z *ℤ y) +ℤ signed_sum zs rows j) (h r (contains_head r rows)) ∙ ap (λ y. (z *ℤ pos 0) +ℤ y) (sum_zero zs rows j (λ t k. h t (contains_tail r t rows k))) ∙
    ring (v z ⊗ v (pos 0) ⊕ v (pos 0)) (v (pos 0)) (omega arith)

-- ---- spans
-- a span is closed under sums of multiples
pub spanned_same : (rows : List (List ℤ)) (u w : ℕ → ℤ) → ((j : ℕ) → u j ≡ w j) → Spanned rows u → Spanned rows w
spanned_same rows u w e g = record { multiple = g.multiple; positive = g.positive; factors = g.factors; is_sum = λ j. ap (λ a. pos g.multiple *ℤ a) (sym (e j)) ∙ g.is_sum j }

-- the factors of a sum of multiples
abbrev linear_factors : ℤ → ℤ → List ℤ → List ℤ → List ℤ
linear_factors a b [] [] = []
linear_factors a b [] (y ∷ ys) = (b *ℤ y) ∷ linear_factors a b [] ys
linear_factors a b (x ∷ xs) [] = (a *ℤ x) ∷ linear_factors a b xs []
linear_factors a b (x ∷ xs) (y ∷ ys) = ((a *ℤ x) +ℤ (b *ℤ y)) ∷ linear_factors a b xs ys

signed_sum_linear : (a b : ℤ) (xs ys : List ℤ) (rows : List (List ℤ)) (j : ℕ) → signed_sum (linear_factors a b xs ys) rows j ≡ (a *ℤ signed_sum xs rows j) +ℤ (b *ℤ signed_sum ys rows j)
signed_sum_linear a b [] [] rows j = ring (v (pos 0)) (v a ⊗ v (pos 0) ⊕ v b ⊗ v (pos 0)) (omega arith)
signed_sum_linear a b [] (y ∷ ys) [] j = ring (v (pos 0)) (v a ⊗ v (pos 0) ⊕ v b ⊗ v (pos 0)) (omega arith)
signed_sum_linear a b [] (y ∷ ys) (r ∷ rows) j = ap (λ s. ((b *ℤ y) *ℤ entry r j) +ℤ s) (signed_sum_linear a b [] ys rows j) ∙
    ring ((v b ⊗ v y) ⊗ v (entry r j) ⊕ (v a ⊗ v (pos 0) ⊕ v b ⊗ v (signed_sum ys rows j))) (v a ⊗ v (pos 0) ⊕ v b ⊗ (v y ⊗ v (entry r j) ⊕ v (signed_sum ys rows j))) (omega arith)
signed_sum_linear a b (x ∷ xs) [] [] j = ring (v (pos 0)) (v a ⊗ v (pos 0) ⊕ v b ⊗ v (pos 0)) (omega arith)
signed_sum_linear a b (x ∷ xs) [] (r ∷ rows) j = ap (λ s. ((a *ℤ x) *ℤ entry r j) +ℤ s) (signed_sum_linear a b xs [] rows j) ∙
    ring ((v a ⊗ v x) ⊗ v (entry r j) ⊕ (v a ⊗ v (signed_sum xs rows j) ⊕ v b ⊗ v (pos 0))) (v a ⊗ (v x ⊗ v (entry r j) ⊕ v (signed_sum xs rows j)) ⊕ v b ⊗ v (pos 0)) (omega arith)
signed_sum_linear a b (x ∷ xs) (y ∷ ys) [] j = ring (v (pos 0)) (v a ⊗ v (pos 0) ⊕ v b ⊗ v (pos 0)) (omega arith)
signed_sum_linear a b (x ∷ xs) (y ∷ ys) (r ∷ rows) j = ap (λ s. (((a *ℤ x) +ℤ (b *ℤ y)) *ℤ entry r j) +ℤ s) (signed_sum_linear a b xs ys rows j) ∙
    ring ((v a ⊗ v x ⊕ v b ⊗ v y) ⊗ v (entry r j) ⊕ (v a ⊗ v (signed_sum xs rows j) ⊕ v b ⊗ v (signed_sum ys rows j)))
    (v a ⊗ (v x ⊗ v (entry r j) ⊕ v (signed_sum xs rows j)) ⊕ v b ⊗ (v y ⊗ v (entry r j) ⊕ v (signed_sum ys rows j))) (omega arith)

pub spanned_linear : (rows : List (List ℤ)) (a b : ℤ) (u w : ℕ → ℤ) → Spanned rows u → Spanned rows w → Spanned rows (λ j. (a *ℤ u j) +ℤ (b *ℤ w j))
spanned_linear rows a b u w g h =
    let k = g.multiple in
    let l = h.multiple in
    record {
      multiple = k * l;
      positive = grind (arith, g.positive, h.positive);
      factors = linear_factors (pos l *ℤ a) (pos k *ℤ b) g.factors h.factors;
      is_sum = λ j.
          ring (v (pos (k * l)) ⊗ (v a ⊗ v (u j) ⊕ v b ⊗ v (w j))) ((v (pos l) ⊗ v a) ⊗ (v (pos k) ⊗ v (u j)) ⊕ (v (pos k) ⊗ v b) ⊗ (v (pos l) ⊗ v (w j))) (omega arith) ∙
          ap (λ s. ((pos l *ℤ a) *ℤ s) +ℤ ((pos k *ℤ b) *ℤ (pos l *ℤ w j))) (g.is_sum j) ∙
          ap (λ s. ((pos l *ℤ a) *ℤ signed_sum g.factors rows j) +ℤ ((pos k *ℤ b) *ℤ s)) (h.is_sum j) ∙
          sym (signed_sum_linear (pos l *ℤ a) (pos k *ℤ b) g.factors h.factors rows j);
    }

-- each row is in the span of its list, and more rows span more
pub spanned_head : (r : List ℤ) (rows : List (List ℤ)) → Spanned (r ∷ rows) (entry r)
spanned_head r rows = record { multiple = 1; positive = omega arith; factors = pos 1 ∷ []; is_sum = λ j. ring (v (pos 1) ⊗ v (entry r j)) (v (pos 1) ⊗ v (entry r j) ⊕ v (pos 0)) (omega arith) }

pub spanned_more : (r : List ℤ) (rows : List (List ℤ)) (u : ℕ → ℤ) → Spanned rows u → Spanned (r ∷ rows) u
spanned_more r rows u g = record {
  multiple = g.multiple;
  positive = g.positive;
  factors = pos 0 ∷ g.factors;
  is_sum = λ j. g.is_sum j ∙ ring (v (signed_sum g.factors rows j)) (v (pos 0) ⊗ v (entry r j) ⊕ v (signed_sum g.factors rows j)) (omega arith);
}

-- what is spanned by rows that are 0 in a column is 0 there
zero_at : (rows : List (List ℤ)) (p : ℕ) → ((t : List ℤ) → Contains rows t → entry t p ≡ pos 0) → (u : ℕ → ℤ) → Spanned rows u → u p ≡ pos 0
zero_at rows p h u g = no_product g.multiple (u p) g.positive (g.is_sum p ∙ sum_zero g.factors rows p h)

pub spanned_zero : (rows : List (List ℤ)) → Spanned rows (λ j. pos 0)
spanned_zero rows = record { multiple = 1; positive = omega arith; factors = []; is_sum = λ j. refl }

pub spanned_divided : (rows : List (List ℤ)) (k : ℕ) (u : ℕ → ℤ) → 0 < k → Spanned rows (λ j. pos k *ℤ u j) → Spanned rows u
spanned_divided rows k u p g = record {
  multiple = g.multiple * k;
  positive = grind (arith, g.positive, p);
  factors = g.factors;
  is_sum = λ j. ring (v (pos (g.multiple * k)) ⊗ v (u j)) (v (pos g.multiple) ⊗ (v (pos k) ⊗ v (u j))) (omega arith) ∙ g.is_sum j;
}

-- each row of a list is in its span
pub spanned_row : (rows : List (List ℤ)) (r : List ℤ) → Contains rows r → Spanned rows (entry r)
spanned_row [] r k = absurd (contains_none r k)
spanned_row (x ∷ rows) r k = elim (contains_cases x r rows k) [
  | inl e ↦ subst (λ y. Spanned (x ∷ rows) (entry y)) e (spanned_head x rows)
  | inr d ↦ spanned_more x rows (entry r) (spanned_row rows r d)
]

-- what rows in a span span lies in it
sum_spanned : (rows target : List (List ℤ)) → ((t : List ℤ) → Contains rows t → Spanned target (entry t)) → (zs : List ℤ) → Spanned target (signed_sum zs rows)
sum_spanned rows target h [] = spanned_zero target
sum_spanned [] target h (z ∷ zs) = spanned_zero target
sum_spanned (r ∷ rows) target h (z ∷ zs) =
    spanned_same target (λ j. (z *ℤ entry r j) +ℤ (pos 1 *ℤ signed_sum zs rows j)) (signed_sum (z ∷ zs) (r ∷ rows))
    (λ j. ring (v z ⊗ v (entry r j) ⊕ v (pos 1) ⊗ v (signed_sum zs rows j)) (v z ⊗ v (entry r j) ⊕ v (signed_sum zs rows j)) (omega arith))
    (spanned_linear target z (pos 1) (entry r) (signed_sum zs rows) (h r (contains_head r rows)) (sum_spanned rows target (λ t k. h t (contains_tail r t rows k)) zs))

pub spanned_through : (rows target : List (List ℤ)) (u : ℕ → ℤ) → ((t : List ℤ) → Contains rows t → Spanned target (entry t)) → Spanned rows u → Spanned target u
spanned_through rows target u h g =
    spanned_divided target g.multiple u g.positive (spanned_same target (signed_sum g.factors rows) (λ j. pos g.multiple *ℤ u j) (λ j. sym (g.is_sum j)) (sum_spanned rows target h g.factors))

-- ---- echelon forms
-- with 0 at the first pivot, it is in the span of the rest
pub drop_head : (r : List ℤ) (rows : List (List ℤ)) (p : ℕ) (u : ℕ → ℤ) → pos 0 <ℤ entry r p → ((t : List ℤ) → Contains rows t → entry t p ≡ pos 0) → u p ≡ pos 0 → Spanned (r ∷ rows) u →
    Spanned rows u
drop_head r rows p u h zeros e g = by_factors g.factors g.is_sum
  where
    by_factors : (zs : List ℤ) → ((j : ℕ) → pos g.multiple *ℤ u j ≡ signed_sum zs (r ∷ rows) j) → Spanned rows u
    by_factors [] s = record { multiple = g.multiple; positive = g.positive; factors = []; is_sum = s }
    by_factors (z ∷ zs) s =
        let at : z *ℤ entry r p ≡ pos 0 =
        ring (v z ⊗ v (entry r p)) (v z ⊗ v (entry r p) ⊕ v (pos 0)) (omega arith) ∙ ap (λ y. (z *ℤ entry r p) +ℤ y) (sym (sum_zero zs rows p zeros)) ∙ sym (s p) ∙ ap (λ y. pos g.multiple *ℤ y) e ∙
        ring (v (pos g.multiple) ⊗ v (pos 0)) (v (pos 0)) (omega arith) in
        let zz : z ≡ pos 0 = no_factor z (entry r p) h at in
        record {
          multiple = g.multiple;
          positive = g.positive;
          factors = zs;
          is_sum = λ j. s j ∙ ap (λ y. (y *ℤ entry r j) +ℤ signed_sum zs rows j) zz ∙ ring (v (pos 0) ⊗ v (entry r j) ⊕ v (signed_sum zs rows j)) (v (signed_sum zs rows j)) (omega arith);
        }

-- with 0 at every pivot, it is 0
pub all_zero : (rows : List (List ℤ)) (ps : List ℕ) → IsEchelon rows ps → (u : ℕ → ℤ) → Spanned rows u → ((q : ℕ) → Contains ps q → u q ≡ pos 0) → (j : ℕ) → u j ≡ pos 0
all_zero [] ps ech u g h j = no_product g.multiple (u j) g.positive (g.is_sum j ∙ signed_sum_none g.factors j)
all_zero (r ∷ rows) [] ech u g h j = absurd ech
all_zero (r ∷ rows) (p ∷ ps) ech u g h j =
    all_zero rows ps ech.4 u (drop_head r rows p u ech.0.here (λ t k. ech.2 t k p (inr refl)) (h p (0, omega arith, refl)) g) (λ q k. h q (suc k.0, omega (arith, k.1), k.2)) j

-- nothing in the span has an entry before the first pivot
pub early : (r : List ℤ) (rows : List (List ℤ)) (p : ℕ) (ps : List ℕ) → IsEchelon (r ∷ rows) (p ∷ ps) → (u : ℕ → ℤ) → Spanned (r ∷ rows) u → (j : ℕ) → Before j p → u j ≡ pos 0
early r rows p ps ech u g j h = no_product g.multiple (u j) g.positive (g.is_sum j ∙ sum_zero g.factors (r ∷ rows) j
    (λ t k. elim (contains_cases r t rows k) [ inl e ↦ subst (λ y. entry y j ≡ pos 0) e (ech.0.before j h) | inr d ↦ ech.2 t d j (inl h) ]))

-- the first pivot of the one isn't before that of the other
first_pivot : (r r' : List ℤ) (rows rows' : List (List ℤ)) (p p' : ℕ) (ps ps' : List ℕ) → IsEchelon (r ∷ rows) (p ∷ ps) → IsEchelon (r' ∷ rows') (p' ∷ ps') →
    ((u : ℕ → ℤ) → Spanned (r ∷ rows) u → Spanned (r' ∷ rows') u) → ¬ (Before p p')
first_pivot r r' rows rows' p p' ps ps' ech ech' sub h = not_both (entry r p) ech.0.here (early r' rows' p' ps' ech' (entry r) (sub (entry r) (spanned_head r rows)) p h)

-- of two columns the one comes before the other, unless they are the same
neither : (i j : ℕ) → ¬ (Before i j) → ¬ (Before j i) → i ≡ j
neither i j h k = elim (cases_lt i j) [
  | inl l ↦ elim (cases_lt 0 i) [ inl p ↦ absurd (h (p, inl l)) | inr p ↦ absurd (k (omega arith, inr (omega arith))) ]
  | inr l ↦ elim (cases_lt j i) [
    | inl m ↦ elim (cases_lt 0 j) [ inl p ↦ absurd (k (p, inl m)) | inr p ↦ absurd (h (omega arith, inr (omega arith))) ]
    | inr m ↦ omega arith
  ]
]

-- the tail's span is what of the whole span is 0 at the pivot
tail_sub : (r r' : List ℤ) (rows rows' : List (List ℤ)) (p : ℕ) (ps ps' : List ℕ) → IsEchelon (r ∷ rows) (p ∷ ps) → IsEchelon (r' ∷ rows') (p ∷ ps') →
    ((u : ℕ → ℤ) → Spanned (r ∷ rows) u → Spanned (r' ∷ rows') u) → (u : ℕ → ℤ) → Spanned rows u → Spanned rows' u
tail_sub r r' rows rows' p ps ps' ech ech' sub u g =
    drop_head r' rows' p u ech'.0.here (λ t k. ech'.2 t k p (inr refl)) (zero_at rows p (λ t k. ech.2 t k p (inr refl)) u g) (sub u (spanned_more r rows u g))

-- a row with a pivot isn't spanned by no rows
nothing_leads : (r : List ℤ) (p : ℕ) → HasPivot r p → Spanned [] (entry r) → ⊥
nothing_leads r p l g = not_both (entry r p) l.here (no_product g.multiple (entry r p) g.positive (g.is_sum p ∙ signed_sum_none g.factors p))

-- two echelon forms with one span are equal, and their pivots too
pub echelon_unique : (n : ℕ) (rows rows' : List (List ℤ)) (ps ps' : List ℕ) → ((t : List ℤ) → Contains rows t → length t ≡ n) → ((t : List ℤ) → Contains rows' t → length t ≡ n) →
    IsEchelon rows ps → IsEchelon rows' ps' → ((u : ℕ → ℤ) → (Spanned rows u → Spanned rows' u) × (Spanned rows' u → Spanned rows u)) → (rows ≡ rows') × (ps ≡ ps')
echelon_unique n [] [] [] [] w w' ech ech' both = (refl, refl)
echelon_unique n [] [] [] (q ∷ ps') w w' ech ech' both = absurd ech'
echelon_unique n [] rows' (p ∷ ps) ps' w w' ech ech' both = absurd ech
echelon_unique n [] (r' ∷ rows') [] [] w w' ech ech' both = absurd ech'
echelon_unique n [] (r' ∷ rows') [] (p' ∷ ps') w w' ech ech' both = absurd (nothing_leads r' p' ech'.0 ((both (entry r')).1 (spanned_head r' rows')))
echelon_unique n (r ∷ rows) rows' [] ps' w w' ech ech' both = absurd ech
echelon_unique n (r ∷ rows) [] (p ∷ ps) [] w w' ech ech' both = absurd (nothing_leads r p ech.0 ((both (entry r)).0 (spanned_head r rows)))
echelon_unique n (r ∷ rows) [] (p ∷ ps) (q ∷ ps') w w' ech ech' both = absurd ech'
echelon_unique n (r ∷ rows) (r' ∷ rows') (p ∷ ps) [] w w' ech ech' both = absurd ech'
echelon_unique n (r ∷ rows) (r' ∷ rows') (p ∷ ps) (p' ∷ ps') w w' ech ech' both =
    let same : p' ≡ p = neither p' p (first_pivot r' r rows' rows p' p ps' ps ech' ech (λ u. (both u).1)) (first_pivot r r' rows rows' p p' ps ps' ech ech' (λ u. (both u).0)) in
    let ech2 : IsEchelon (r' ∷ rows') (p ∷ ps') = subst (λ (x : ℕ). IsEchelon (r' ∷ rows') (x ∷ ps')) same ech' in
    let i = echelon_unique n rows rows' ps ps' (λ t k. w t (contains_tail r t rows k)) (λ t k. w' t (contains_tail r' t rows' k)) ech.4 ech'.4
    (λ u. (tail_sub r r' rows rows' p ps ps' ech ech2 (λ x. (both x).0) u, tail_sub r' r rows' rows p ps' ps ech2 ech (λ x. (both x).1) u)) in
    let a = as_nat (entry r p) (omega (arith, ints, ech.0.here)) in
    let b = as_nat (entry r' p) (omega (arith, ints, ech2.0.here)) in
    let x : ℕ → ℤ = λ j. (entry r' p *ℤ entry r j) +ℤ (neg_ℤ (entry r p) *ℤ entry r' j) in
    let gx : Spanned (r ∷ rows) x = spanned_linear (r ∷ rows) (entry r' p) (neg_ℤ (entry r p)) (entry r) (entry r') (spanned_head r rows) ((both (entry r')).1 (spanned_head r' rows')) in
    let tail = drop_head r rows p x ech.0.here (λ t k. ech.2 t k p (inr refl)) (ring (v (entry r' p) ⊗ v (entry r p) ⊕ ⊖ (v (entry r p)) ⊗ v (entry r' p)) (v (pos 0)) (omega arith)) gx in
    let zero_x : (j : ℕ) → x j ≡ pos 0 = all_zero rows ps ech.4 x tail
    (λ q k. ap (λ y. (entry r' p *ℤ y) +ℤ (neg_ℤ (entry r p) *ℤ entry r' q)) (ech.3 q k) ∙
    ap (λ y. (entry r' p *ℤ pos 0) +ℤ (neg_ℤ (entry r p) *ℤ y)) (ech2.3 q (subst (λ (l : List ℕ). Contains l q) i.1 k)) ∙
    ring (v (entry r' p) ⊗ v (pos 0) ⊕ ⊖ (v (entry r p)) ⊗ v (pos 0)) (v (pos 0)) (omega arith)) in
    let multiples : (j : ℕ) → pos b.0 *ℤ entry r j ≡ pos a.0 *ℤ entry r' j = λ j.
    ap (λ y. y *ℤ entry r j) (sym b.1) ∙
    ring (v (entry r' p) ⊗ v (entry r j)) ((v (entry r' p) ⊗ v (entry r j) ⊕ ⊖ (v (entry r p)) ⊗ v (entry r' j)) ⊕ v (entry r p) ⊗ v (entry r' j)) (omega arith) ∙
    ap (λ y. y +ℤ (entry r p *ℤ entry r' j)) (zero_x j) ∙ ring (v (pos 0) ⊕ v (entry r p) ⊗ v (entry r' j)) (v (entry r p) ⊗ v (entry r' j)) (omega arith) ∙
    ap (λ y. y *ℤ entry r' j) a.1 in
    let mn : b.0 ≡ a.0 = same_multiple b.0 a.0 r r' ech.1 ech'.1 multiples in
    let rr : r ≡ r' = row_same r r' (w r (contains_head r rows) ∙ sym (w' r' (contains_head r' rows')))
    (λ j. cancel_same b.0 (entry r j) (entry r' j) (positive_nat (entry r' p) b.0 ech2.0.here b.1) (multiples j ∙ ap (λ (k : ℕ). pos k *ℤ entry r' j) (sym mn))) in
    let tails : rows ≡ rows' = i.0 in
    let pivots : ps ≡ ps' = i.1 in
    (cc, cc)

-- ---- an echelon form has at most as many rows as columns
pub leads_inside : (r : List ℤ) (p : ℕ) → HasPivot r p → p < length r
leads_inside r p l = elim (cases_lt p (length r)) [ inl h ↦ h | inr h ↦ absurd (not_both (entry r p) l.here (entry_past r p h)) ]

-- no more rows than columns after the one that is passed
few_above : (w lo : ℕ) (rows : List (List ℤ)) (ps : List ℕ) → ((t : List ℤ) → Contains rows t → length t ≡ w) → IsEchelon rows ps →
    ((t : List ℤ) → Contains rows t → (j : ℕ) → 0 < j → j ≤ lo → entry t j ≡ pos 0) → lo < w → length rows + lo ≤ w
few_above w lo [] ps width ech low h = omega arith
few_above w lo (r ∷ rows) [] width ech low h = absurd ech
few_above w lo (r ∷ rows) (zero ∷ ps) width ech low h = elim rows as (λ (x : List (List ℤ)). ((t : List ℤ) → Contains x t → (j : ℕ) → Before j 0 ⊎ (j ≡ 0) → entry t j ≡ pos 0) → IsEchelon x ps →
    length (r ∷ x) + lo ≤ w) [
      | [] ↦ λ z e. omega arith
      | ◌∷◌ t more ↦ λ z e. absurd (nothing t more ps z e)
    ] ech.2 ech.4
  where
    nothing : (t : List ℤ) (more : List (List ℤ)) (ps : List ℕ) → ((s : List ℤ) → Contains (t ∷ more) s → (j : ℕ) → Before j 0 ⊎ (j ≡ 0) → entry s j ≡ pos 0) → IsEchelon (t ∷ more) ps → ⊥
    nothing t more [] z e = e
    nothing t more (zero ∷ ps) z e = not_both (entry t 0) e.0.here (z t (contains_head t more) 0 (inr refl))
    nothing t more (suc q ∷ ps) z e = not_both (entry t (suc q)) e.0.here (z t (contains_head t more) (suc q) (inl (omega arith, inr refl)))
few_above w lo (r ∷ rows) (suc p ∷ ps) width ech low h =
    let inside : suc p < w = subst (λ (n : ℕ). suc p < n) (width r (contains_head r rows)) (leads_inside r (suc p) ech.0) in
    let above : lo < suc p = elim (cases_lt lo (suc p)) [ inl k ↦ k | inr k ↦ absurd (not_both (entry r (suc p)) ech.0.here (low r (contains_head r rows) (suc p) (omega arith) k)) ] in
    let i = few_above w (suc p) rows ps (λ t k. width t (contains_tail r t rows k)) ech.4
    (λ t k j a b. ech.2 t k j (elim (cases_lt j (suc p)) [ inl m ↦ inl (a, inl m) | inr m ↦ inr (omega arith) ])) inside in
    omega (arith, i)

-- no more rows than columns
pub echelon_rows_at_most : (w : ℕ) (rows : List (List ℤ)) (ps : List ℕ) → ((t : List ℤ) → Contains rows t → length t ≡ w) → IsEchelon rows ps → 0 < w → length rows ≤ w
echelon_rows_at_most w rows ps width ech h = let i = few_above w 0 rows ps width ech (λ t k j a b. absurd (omega arith)) h in omega (arith, i)
