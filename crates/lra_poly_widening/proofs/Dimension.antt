-- The number of rows of an echelon form: one whose span lies in that of another has no more rows than it, and spans as much if it
-- has as many.
use Rattle.std.proofs.Common.{List, [], ap, arith, inl, inr, length, neg_ℤ, pos, refl, subst, suc, sym, zero, ℕ, ℤ, ◌*ℤ◌, ◌*◌, ◌++◌, ◌+ℤ◌, ◌<◌, ◌≤◌, ◌∙◌, ◌∷◌, ◌≡◌, ◌⊎◌}
use Rattle.std.proofs.lemmas.List.Elements.{Contains-append_cases, Contains-append_left, Contains-append_right}
use Rattle.std.proofs.{lemmas.Bool.cases_lt, lemmas.Int.ints, lemmas.List.length-append}
use Rattle.std.specs.List.{Contains}
use Rattle.lra_poly_widening.specs.Crates.lra_linear_spec.Echelon.{Before, IsEchelon, HasPivot, Spanned}
use Rattle.lra_poly_widening.specs.Crates.lra_linear_spec.Vectors.{entry}
use Rattle.lra_poly_widening.proofs.Crates.lra_linear_spec.Membership.{NoRepeat, contains_cases, contains_head, contains_none, contains_split, contains_tail}
use Rattle.lra_poly_widening.proofs.Crates.lra_linear_spec.Spans.{all_zero, drop_head, early, spanned_divided, spanned_head, spanned_linear, spanned_more, spanned_row, spanned_same, spanned_zero}
use Rattle.lra_poly_widening.proofs.Crates.{lra_linear_spec.AdjacentPairs.both_positive, lra_linear_spec.Products.entry_past, lra_linear_spec.Ring.ring, lra_linear_spec.Ring.v, lra_linear_spec.Ring.⊖}
use Rattle.lra_poly_widening.proofs.Crates.{lra_linear_spec.Ring.◌⊕◌, lra_linear_spec.Ring.◌⊗◌, lra_linear_spec.Signs.as_nat, lra_linear_spec.Signs.not_both, lra_linear_spec.Signs.positive_nat}

-- ---- pairs of members
-- Each member of the one list is related to one of the other, no two of them to the same: so the one is no longer, and if it is as
-- long each member of the other is reached.
pub record Matched {A B : Type 0} (Related : A → B → Type 0) (xs : List A) (ys : List B) : Type 0 where
  pub each : (x : A) → Contains xs x → (y : B) × Contains ys y × Related x y
  pub apart : (x z : A) (y : B) → Contains xs x → Contains xs z → Related x y → Related z y → x ≡ z

pub no_longer : {A B : Type 0} (Related : A → B → Type 0) (xs : List A) (ys : List B) → NoRepeat xs → Matched Related xs ys →
    (length xs ≤ length ys) × (length ys ≤ length xs → (y : B) → Contains ys y → (x : A) × Contains xs x × Related x y)
no_longer Related [] [] n m = (omega arith, λ h y k. absurd (contains_none y k))
no_longer Related [] (z ∷ ys) n m = (omega arith, λ h y k. absurd (omega (arith, h)))
no_longer {A = A} {B = B} Related (x ∷ xs) ys n m =
    let f = m.each x (contains_head x xs) in
    let s = contains_split ys f.0 f.1 in
    let rest : Matched Related xs (s.front ++ s.back) = record {
      each = λ z k.
          let g = m.each z (contains_tail x z xs k) in
          elim (others s.front s.back f.0 g.0 (subst (λ (l : List B). Contains l g.0) s.is g.1)) [
            | inl e ↦ absurd (n.0 (subst (Contains xs) (m.apart z x f.0 (contains_tail x z xs k) (contains_head x xs) (subst (Related z) (sym e) g.2) f.2) k))
            | inr i ↦ (g.0, i, g.2)
          ];
      apart = λ z t y k l. m.apart z t y (contains_tail x z xs k) (contains_tail x t xs l);
    } in
    let i = no_longer Related xs (s.front ++ s.back) n.1 rest in
    let long : length ys ≡ suc (length (s.front ++ s.back)) = omega (arith, ap length s.is, length-append s.front (f.0 ∷ s.back), length-append s.front s.back) in (
      omega (arith, i.0, long),
      λ h y k. elim (others s.front s.back f.0 y (subst (λ (l : List B). Contains l y) s.is k)) [
        | inl e ↦ (x, contains_head x xs, subst (Related x) e f.2)
        | inr j ↦ let g = i.1 (omega (arith, h, long)) y j in (g.0, contains_tail x g.0 xs g.1, g.2)
      ],
    )
  where
    others : (front back : List B) (z y : B) → Contains (front ++ z ∷ back) y → (z ≡ y) ⊎ Contains (front ++ back) y
    others front back z y k = elim (Contains-append_cases front (z ∷ back) y k) [
      | inl a ↦ inr (Contains-append_left front back y a)
      | inr a ↦ elim (contains_cases z y back a) [ inl e ↦ inl e | inr b ↦ inr (Contains-append_right front back y b) ]
    ]

-- ---- spans and pivots
-- of two columns the one comes before the other, unless they are the same
pub which_first : (i j : ℕ) → (i ≡ j) ⊎ (Before i j ⊎ Before j i)
which_first zero zero = inl refl
which_first zero (suc j) = inr (inr (omega arith, inr refl))
which_first (suc i) zero = inr (inl (omega arith, inr refl))
which_first (suc i) (suc j) = elim (cases_lt i j) [
  | inl l ↦ inr (inl (omega arith, inl (omega (arith, l))))
  | inr l ↦ elim (cases_lt j i) [ inl m ↦ inr (inr (omega arith, inl (omega (arith, m)))) | inr m ↦ inl (omega (arith, l, m)) ]
]

-- the first column other than 0 of what is spanned is a pivot
lead_is_pivot : (rows : List (List ℤ)) (ps : List ℕ) → IsEchelon rows ps → (u : ℕ → ℤ) (q : ℕ) → Spanned rows u → ((j : ℕ) → Before j q → u j ≡ pos 0) → ¬ (u q ≡ pos 0) → Contains ps q
lead_is_pivot [] [] ech u q g before here = absurd (here (all_zero [] [] ech u g (λ p k. absurd (contains_none p k)) q))
lead_is_pivot [] (p ∷ ps) ech u q g before here = absurd ech
lead_is_pivot (r ∷ rows) [] ech u q g before here = absurd ech
lead_is_pivot (r ∷ rows) (p ∷ ps) ech u q g before here = elim (which_first p q) [
  | inl e ↦ subst (Contains (p ∷ ps)) e (contains_head p ps)
  | inr d ↦ elim d [
    | inl l ↦ contains_tail p q ps (lead_is_pivot rows ps ech.4 u q (drop_head r rows p u ech.0.here (λ t k. ech.2 t k p (inr refl)) (before p l) g) before here)
    | inr l ↦ absurd (here (early r rows p ps ech u g q l))
  ]
]

-- a pivot is that of a row
pub pivot_row : (rows : List (List ℤ)) (ps : List ℕ) → IsEchelon rows ps → (q : ℕ) → Contains ps q → (r : List ℤ) × Contains rows r × HasPivot r q
pivot_row [] [] ech q k = absurd (contains_none q k)
pivot_row [] (p ∷ ps) ech q k = absurd ech
pivot_row (r ∷ rows) [] ech q k = absurd ech
pivot_row (r ∷ rows) (p ∷ ps) ech q k = elim (contains_cases p q ps k) [
  | inl e ↦ (r, contains_head r rows, subst (HasPivot r) e ech.0)
  | inr d ↦ let i = pivot_row rows ps ech.4 q d in (i.0, contains_tail r i.0 rows i.1, i.2)
]

-- as many pivots as rows, and no pivot twice
pivots_many : (rows : List (List ℤ)) (ps : List ℕ) → IsEchelon rows ps → length ps ≡ length rows
pivots_many [] [] ech = refl
pivots_many [] (p ∷ ps) ech = absurd ech
pivots_many (r ∷ rows) [] ech = absurd ech
pivots_many (r ∷ rows) (p ∷ ps) ech = ap suc (pivots_many rows ps ech.4)

pivots_apart : (rows : List (List ℤ)) (ps : List ℕ) → IsEchelon rows ps → NoRepeat ps
pivots_apart [] [] ech = tt
pivots_apart [] (p ∷ ps) ech = absurd ech
pivots_apart (r ∷ rows) [] ech = absurd ech
pivots_apart (r ∷ rows) (p ∷ ps) ech = (λ k. not_both (entry r p) ech.0.here (ech.3 p k), pivots_apart rows ps ech.4)

-- ---- a vector cleared at the pivots
record Cleared (rows : List (List ℤ)) (ps : List ℕ) (u : ℕ → ℤ) : Type 0 where
  times : ℕ
  positive : 0 < times
  part : ℕ → ℤ
  on_span : Spanned rows part
  zero : (q : ℕ) → Contains ps q → (pos times *ℤ u q) +ℤ neg_ℤ (part q) ≡ pos 0

-- a (m u - w) - ((m u - w) at p) r, if a is r at p
clear_sum : (a m u w z r : ℤ) → ((a *ℤ m) *ℤ u) +ℤ neg_ℤ ((a *ℤ w) +ℤ (z *ℤ r)) ≡ (a *ℤ ((m *ℤ u) +ℤ neg_ℤ w)) +ℤ neg_ℤ (z *ℤ r)
clear_sum a m u w z r = ring ((v a ⊗ v m) ⊗ v u ⊕ ⊖ (v a ⊗ v w ⊕ v z ⊗ v r)) (v a ⊗ (v m ⊗ v u ⊕ ⊖ (v w)) ⊕ ⊖ (v z ⊗ v r)) (omega arith)

cleared_exists : (rows : List (List ℤ)) (ps : List ℕ) → IsEchelon rows ps → (u : ℕ → ℤ) → Cleared rows ps u
cleared_exists [] ps ech u = record { times = 1; positive = omega arith; part = λ j. pos 0; on_span = spanned_zero []; zero = λ q k. none ps ech q k }
  where
    none : (ps : List ℕ) → IsEchelon [] ps → (q : ℕ) → Contains ps q → (pos 1 *ℤ u q) +ℤ neg_ℤ (pos 0) ≡ pos 0
    none [] ech q k = absurd (contains_none q k)
    none (p ∷ ps) ech q k = absurd ech
cleared_exists (r ∷ rows) [] ech u = absurd ech
cleared_exists (r ∷ rows) (p ∷ ps) ech u =
    let i = cleared_exists rows ps ech.4 u in
    let a = as_nat (entry r p) (omega (arith, ints, ech.0.here)) in
    let z : ℤ = (pos i.times *ℤ u p) +ℤ neg_ℤ (i.part p) in
    let w : ℕ → ℤ = λ j. (entry r p *ℤ i.part j) +ℤ (z *ℤ entry r j) in
    let scaled : pos (a.0 * i.times) ≡ entry r p *ℤ pos i.times = ring (v (pos (a.0 * i.times))) (v (pos a.0) ⊗ v (pos i.times)) (omega arith) ∙ ap (λ y. y *ℤ pos i.times) (sym a.1) in
    let sum : (q : ℕ) → (pos (a.0 * i.times) *ℤ u q) +ℤ neg_ℤ (w q) ≡ (entry r p *ℤ ((pos i.times *ℤ u q) +ℤ neg_ℤ (i.part q))) +ℤ neg_ℤ (z *ℤ entry r q) =
    λ q. ap (λ y. (y *ℤ u q) +ℤ neg_ℤ (w q)) scaled ∙ clear_sum (entry r p) (pos i.times) (u q) (i.part q) z (entry r q) in
    record {
      times = a.0 * i.times;
      positive = both_positive a.0 i.times (positive_nat (entry r p) a.0 ech.0.here a.1) i.positive;
      part = w;
      on_span = spanned_linear (r ∷ rows) (entry r p) z i.part (entry r) (spanned_more r rows i.part i.on_span) (spanned_head r rows);
      zero = λ q k. elim (contains_cases p q ps k) [
        | inl e ↦ subst (λ y. (pos (a.0 * i.times) *ℤ u y) +ℤ neg_ℤ (w y) ≡ pos 0) e
            (sum p ∙ ring (v (entry r p) ⊗ v z ⊕ ⊖ (v z ⊗ v (entry r p))) (v (pos 0)) (omega arith))
        | inr d ↦ sum q ∙ ap (λ y. (entry r p *ℤ y) +ℤ neg_ℤ (z *ℤ entry r q)) (i.zero q d) ∙ ap (λ y. (entry r p *ℤ pos 0) +ℤ neg_ℤ (z *ℤ y)) (ech.3 q d) ∙
            ring (v (entry r p) ⊗ v (pos 0) ⊕ ⊖ (v z ⊗ v (pos 0))) (v (pos 0)) (omega arith)
      ];
    }

-- ---- the theorem
pub smaller_span : (rows rows' : List (List ℤ)) (ps ps' : List ℕ) → IsEchelon rows ps → IsEchelon rows' ps' → ((u : ℕ → ℤ) → Spanned rows u → Spanned rows' u) →
    (length rows ≤ length rows') × (length rows' ≤ length rows → (u : ℕ → ℤ) → Spanned rows' u → Spanned rows u)
smaller_span rows rows' ps ps' ech ech' sub =
    let m : Matched (λ (i j : ℕ). i ≡ j) ps ps' = record {
      each = λ q k. let f = pivot_row rows ps ech q k in (
        q,
        lead_is_pivot rows' ps' ech' (entry f.0) q (sub (entry f.0) (spanned_row rows f.0 f.1)) f.2.before (λ e. not_both (entry f.0 q) f.2.here e),
        refl,
      );
      apart = λ x z y k l e f. e ∙ sym f;
    } in
    let i = no_longer (λ (i j : ℕ). i ≡ j) ps ps' (pivots_apart rows ps ech) m in
    let many = pivots_many rows ps ech in
    let many' = pivots_many rows' ps' ech' in (
      omega (arith, i.0, many, many'),
      λ h u g.
          let c = cleared_exists rows ps ech u in
          let rest : ℕ → ℤ = λ j. (pos c.times *ℤ u j) +ℤ (pos 1 *ℤ neg_ℤ (c.part j)) in
          let in_other : Spanned rows' (λ j. (pos c.times *ℤ u j) +ℤ (neg_ℤ (pos 1) *ℤ c.part j)) = spanned_linear rows' (pos c.times) (neg_ℤ (pos 1)) u c.part g (sub c.part c.on_span) in
          let nothing : (j : ℕ) → (pos c.times *ℤ u j) +ℤ (neg_ℤ (pos 1) *ℤ c.part j) ≡ pos 0 = all_zero rows' ps' ech' (λ j. (pos c.times *ℤ u j) +ℤ (neg_ℤ (pos 1) *ℤ c.part j)) in_other
          (λ q k. let f = i.1 (omega (arith, h, many, many')) q k in
          ring (v (pos c.times) ⊗ v (u q) ⊕ ⊖ (v (pos 1)) ⊗ v (c.part q)) (v (pos c.times) ⊗ v (u q) ⊕ ⊖ (v (c.part q))) (omega arith) ∙ c.zero q (subst (Contains ps) f.2 f.1)) in
          spanned_divided rows c.times u c.positive (spanned_same rows c.part (λ j. pos c.times *ℤ u j)
          (λ j. ring (v (c.part j)) ((⊖ (v (pos c.times) ⊗ v (u j) ⊕ ⊖ (v (pos 1)) ⊗ v (c.part j))) ⊕ v (pos c.times) ⊗ v (u j)) (omega arith) ∙
          ap (λ y. neg_ℤ y +ℤ (pos c.times *ℤ u j)) (nothing j) ∙ ring (⊖ (v (pos 0)) ⊕ v (pos c.times) ⊗ v (u j)) (v (pos c.times) ⊗ v (u j)) (omega arith))
          c.on_span),
    )

-- ---- no more rows than columns from 1 on, if no row leads in column 0
abbrev columns_below : ℕ → List ℕ
columns_below zero = []
columns_below (suc n) = suc n ∷ columns_below n

below_has : (n q : ℕ) → 0 < q → q ≤ n → Contains (columns_below n) q
below_has zero q h l = absurd (omega (arith, h, l))
below_has (suc n) q h l = elim (cases_lt n q) [
  | inl m ↦ subst (Contains (columns_below (suc n))) (let e : suc n ≡ q = omega (arith, m, l) in e) (contains_head (suc n) (columns_below n))
  | inr m ↦ contains_tail (suc n) q (columns_below n) (below_has n q h (omega (arith, m)))
]

below_many : (n : ℕ) → length (columns_below n) ≡ n
below_many zero = refl
below_many (suc n) = ap suc (below_many n)

pub few_rows : (n : ℕ) (rows : List (List ℤ)) (ps : List ℕ) → ((t : List ℤ) → Contains rows t → length t ≡ suc n) → IsEchelon rows ps → ¬ (Contains ps 0) → length rows ≤ n
few_rows n rows ps widths ech none =
    let m : Matched (λ (i j : ℕ). i ≡ j) ps (columns_below n) = record {
      each = λ q k. let f = pivot_row rows ps ech q k in (q, below_has n q (above q k) (inside f.0 q (widths f.0 f.1) f.2), refl);
      apart = λ x z y k l e f. e ∙ sym f;
    } in
    let i = no_longer (λ (i j : ℕ). i ≡ j) ps (columns_below n) (pivots_apart rows ps ech) m in
    omega (arith, i.0, pivots_many rows ps ech, below_many n)
  where
    above : (q : ℕ) → Contains ps q → 0 < q
    above zero k = absurd (none k)
    above (suc q) k = omega arith

    inside : (r : List ℤ) (q : ℕ) → length r ≡ suc n → HasPivot r q → q ≤ n
    inside r q e l = elim (cases_lt q (suc n)) [ inl h ↦ omega (arith, h) | inr h ↦ absurd (not_both (entry r q) l.here (entry_past r q (omega (arith, h, e)))) ]
