-- An echelon form with one more row is one, and of the same span; and what passes when it is made is a strain.
use Rattle.std.proofs.Common.{◌≡◌, ◌≢◌, ℕ, zero, suc, ◌+◌, ◌<◌, Bool, true, false, cond, List, [], ◌∷◌, ◌++◌, length, refl, ap, sym, ◌∙◌, subst, pos, ℤ, ◌+ℤ◌, ◌*ℤ◌, ◌<ℤ◌, neg_ℤ, arith, inl, inr, ◌⊎◌}
use Rattle.std.proofs.{Common.true≢false, lemmas.Bool.cases_lt, lemmas.Int.ints, lemmas.List.Elements.Contains-append_right}
use Rattle.std.specs.{Cmp.signed_Decides, List.Contains, Ordering.int_eq}
use Rattle.lra_canonical.specs.Crates.lra_linear_spec.Echelon.{Before, IsEchelon, HasPivot, Spanned, lead_from, pivot}
use Rattle.lra_canonical.specs.Crates.{lra_linear_spec.LowestTerms.IsPrimitive, lra_linear_spec.Vectors.entry, lra_linear_spec.Vectors.negated}
use Rattle.lra_canonical.proofs.Crates.lra_linear_spec.EchelonExtension.{ClearedRow, ClearedRows, before_trans, echelon_insert, extension_span}
use Rattle.lra_canonical.proofs.Crates.lra_linear_spec.Membership.{contains_cases, contains_head, contains_none, contains_tail}
use Rattle.lra_canonical.proofs.Crates.lra_linear_spec.Ring.{ring, v, ⊖, ◌⊕◌, ◌⊗◌}
use Rattle.lra_canonical.proofs.Crates.lra_linear_spec.Signs.{as_nat, not_both, positive_is_nonnegative, positive_nat}
use Rattle.lra_canonical.proofs.Crates.{lra_linear_spec.Pivots.echelon_positive, lra_linear_spec.Pivots.pivot_is, lra_linear_spec.Products.entry_negated, lra_linear_spec.Widening.zero_said}
use Rattle.lra_canonical.specs.{Echelons.AreCleared, Echelons.IsPlaced, Echelons.StartsAfter, Reduced.IsEchelonForm, Reduced.IsCleared}
use Rattle.lra_canonical.proofs.{Chains.step_entry, Solutions.pivot_of_some}

-- ---- the pivot of a row
other_of : (x : ℤ) → int_eq x (pos 0) ≡ false → ¬ (x ≡ pos 0)
other_of x e z = absurd (true≢false (sym ((signed_Decides x (pos 0)).1 z) ∙ e))

-- where the search from a column on ends: nowhere, or at an entry other than 0, before which all are 0
abbrev Found : List ℤ → ℕ → ℕ → Type 0
Found xs j p =
    ((p ≡ 0) × ((i : ℕ) → entry xs i ≡ pos 0)) ⊎ ((k : ℕ) × (p ≡ j + k) × (¬ (entry xs k ≡ pos 0)) × ((i : ℕ) → i < k → entry xs i ≡ pos 0))

lead_search : (xs : List ℤ) (j : ℕ) → Found xs j (lead_from j xs)
lead_search [] j = inl (refl, λ i. refl)
lead_search (x ∷ xs) j = step (int_eq x (pos 0)) refl (lead_search xs (suc j))
  where
    step : (b : Bool) → int_eq x (pos 0) ≡ b → Found xs (suc j) (lead_from (suc j) xs) → Found (x ∷ xs) j (cond b (lead_from (suc j) xs) j)
    step false e f = inr (0, omega arith, other_of x e, λ i l. absurd (omega (arith, l)))
    step true e (inl f) = inl (f.0, λ i. all i f.1)
      where
        all : (i : ℕ) → ((k : ℕ) → entry xs k ≡ pos 0) → entry (x ∷ xs) i ≡ pos 0
        all zero h = zero_said x e
        all (suc i) h = h i
    step true e (inr f) = inr (suc f.0, f.1 ∙ omega arith, f.2, λ i l. all i l f.3)
      where
        all : (i : ℕ) → i < suc f.0 → ((k : ℕ) → k < f.0 → entry xs k ≡ pos 0) → entry (x ∷ xs) i ≡ pos 0
        all zero l h = zero_said x e
        all (suc i) l h = h i (omega (arith, l))

before_found : (x : ℤ) (xs : List ℤ) (p j : ℕ) → Found xs 1 p → Before j p → entry (x ∷ xs) j ≡ pos 0
before_found x xs p zero f b = absurd (omega (arith, b.0))
before_found x xs p (suc i) (inl f) b = f.1 i
before_found x xs p (suc i) (inr f) (h, inl l) = f.3 i (omega (arith, l, f.1))
before_found x xs p (suc i) (inr f) (h, inr l) = absurd (omega (arith, l, f.1))

-- before its pivot a row is 0
pub before_pivot : (r : List ℤ) (j : ℕ) → Before j (pivot r) → entry r j ≡ pos 0
before_pivot [] j b = refl
before_pivot (x ∷ xs) j b = before_found x xs (lead_from 1 xs) j (lead_search xs 1) b

-- a row that is 0 at its pivot is 0
pub zero_at_pivot : (r : List ℤ) → entry r (pivot r) ≡ pos 0 → (j : ℕ) → entry r j ≡ pos 0
zero_at_pivot [] z j = refl
zero_at_pivot (x ∷ xs) z j = by_search (lead_from 1 xs) (lead_search xs 1) z j
  where
    by_search : (p : ℕ) → Found xs 1 p → entry (x ∷ xs) p ≡ pos 0 → (j : ℕ) → entry (x ∷ xs) j ≡ pos 0
    by_search p (inl f) z zero = ap (entry (x ∷ xs)) (sym f.0) ∙ z
    by_search p (inl f) z (suc j) = f.1 j
    by_search p (inr f) z j = absurd (let e : p ≡ suc f.0 = f.1 ∙ omega arith in f.2 (ap (entry (x ∷ xs)) (sym e) ∙ z))

pub leads_at_pivot : (r : List ℤ) → pos 0 <ℤ entry r (pivot r) → HasPivot r (pivot r)
leads_at_pivot r h = record { before = before_pivot r; here = h }

-- the negative of a row that is negative at its pivot is positive there, and that is its pivot
pub negated_leads : (r : List ℤ) → entry r (pivot r) <ℤ pos 0 → pos 0 <ℤ entry (negated r) (pivot (negated r))
negated_leads r h =
    let p = pivot r in
    let here : pos 0 <ℤ entry (negated r) p = subst (λ z. pos 0 <ℤ z) (sym (entry_negated r p)) (opposite (entry r p) h) in
    let l : HasPivot (negated r) p = record { before = λ j b. entry_negated r j ∙ ap neg_ℤ (before_pivot r j b) ∙ omega (arith, ints); here = here } in
    subst (λ (n : ℕ). pos 0 <ℤ entry (negated r) n) (sym (pivot_is (negated r) p l)) here
  where
    opposite : (z : ℤ) → z <ℤ pos 0 → pos 0 <ℤ neg_ℤ z
    opposite z h = omega (arith, ints, h)

-- ---- the order of the columns
-- of two columns one comes before the other, or they are one
before_or : (i j : ℕ) → ¬ (Before i j) → (i ≡ j) ⊎ Before j i
before_or zero zero n = inl refl
before_or zero (suc j) n = inr (omega arith, inr refl)
before_or (suc i) zero n = absurd (n (omega arith, inr refl))
before_or (suc i) (suc j) n = elim (cases_lt j i) [
  | inl h ↦ inr (omega arith, inl (omega (arith, h)))
  | inr h ↦ elim (cases_lt i j) [
    | inl l ↦ absurd (n (omega arith, inl (omega (arith, l))))
    | inr l ↦ inl (omega (arith, h, l))
  ]
]

-- ---- the rows of a form
pub member_leads : (form : List (List ℤ)) (ps : List ℕ) → IsEchelon form ps → (r : List ℤ) → Contains form r → HasPivot r (pivot r)
member_leads form ps e r k = leads_at_pivot r (echelon_positive form ps e r k)

-- the pivots of the first rows, and of the others
pub record PivotsOf (low high : List (List ℤ)) (ps : List ℕ) : Type 0 where
  pub lows : List ℕ
  pub highs : List ℕ
  pub is : ps ≡ lows ++ highs
  pub as_many : length low ≡ length lows

pivots_split : (low high : List (List ℤ)) (ps : List ℕ) → IsEchelon (low ++ high) ps → PivotsOf low high ps
pivots_split [] high ps e = record { lows = []; highs = ps; is = refl; as_many = refl }
pivots_split (r ∷ low) high [] e = absurd e
pivots_split (r ∷ low) high (p ∷ ps) e = let i = pivots_split low high ps e.4 in record { lows = p ∷ i.lows; highs = i.highs; is = ap (λ (qs : List ℕ). p ∷ qs) i.is; as_many = ap suc i.as_many }

low_pivot : (low high : List (List ℤ)) (lows highs : List ℕ) → length low ≡ length lows → IsEchelon (low ++ high) (lows ++ highs) → (q : ℕ) → Contains lows q → (r : List ℤ) × Contains low r ×
    (pivot r ≡ q)
low_pivot [] high [] highs l e q k = absurd (contains_none q k)
low_pivot [] high (p ∷ lows) highs l e q k = absurd (omega (arith, l))
low_pivot (r ∷ low) high [] highs l e q k = absurd (omega (arith, l))
low_pivot (r ∷ low) high (p ∷ lows) highs l e q k = elim (contains_cases p q lows k) [
  | inl s ↦ (r, contains_head r low, pivot_is r p e.0 ∙ s)
  | inr d ↦ let i = low_pivot low high lows highs (omega (arith, l)) e.4 q d in (i.0, contains_tail r i.0 low i.1, i.2)
]

echelon_high : (low high : List (List ℤ)) (lows highs : List ℕ) → length low ≡ length lows → IsEchelon (low ++ high) (lows ++ highs) → IsEchelon high highs
echelon_high [] high [] highs l e = e
echelon_high [] high (p ∷ lows) highs l e = absurd (omega (arith, l))
echelon_high (r ∷ low) high [] highs l e = absurd (omega (arith, l))
echelon_high (r ∷ low) high (p ∷ lows) highs l e = echelon_high low high lows highs (omega (arith, l)) e.4

-- the rows from the first on that doesn't come before the line are 0 up to the line's pivot
high_zero : (high : List (List ℤ)) (highs : List ℕ) (line : List ℤ) → IsEchelon high highs → StartsAfter line high → ((r : List ℤ) → Contains high r → pivot r ≢ pivot line) →
    (t : List ℤ) → Contains high t → (j : ℕ) → Before j (pivot line) ⊎ (j ≡ pivot line) → entry t j ≡ pos 0
high_zero [] highs line e s n t k j b = absurd (contains_none t k)
high_zero (r ∷ high) [] line e s n t k j b = absurd e
high_zero (r ∷ high) (p ∷ highs) line e s n t k j b =
    let behind : Before (pivot line) (pivot r) = elim (before_or (pivot r) (pivot line) s) [ inl q ↦ absurd (n r (contains_head r high) q) | inr q ↦ q ] in
    let early : Before j (pivot r) = elim b [ inl q ↦ before_trans j (pivot line) (pivot r) q behind | inr q ↦ subst (λ (m : ℕ). Before m (pivot r)) (sym q) behind ] in
    elim (contains_cases r t high k) [
      | inl q ↦ ap (λ (y : List ℤ). entry y j) (sym q) ∙ before_pivot r j early
      | inr d ↦ e.2 t d j (inl (subst (λ (m : ℕ). Before j m) (pivot_is r p e.0) early))
    ]

-- ---- the rows cleared
cleared_row : (line r t : List ℤ) → pos 0 <ℤ entry line (pivot line) → length r ≡ length line → IsPrimitive r → IsCleared line r t → ClearedRow line (pivot line) r t
cleared_row line r t h w p (inl c) =
    let a = as_nat (entry line (pivot line)) (positive_is_nonnegative (entry line (pivot line)) h) in
    record {
      times = a.0;
      positive = positive_nat (entry line (pivot line)) a.0 h a.1;
      is = λ j.
          ap (λ z. z *ℤ entry t j) (sym a.1) ∙ ap (λ (x : List ℤ). entry line (pivot line) *ℤ entry x j) c.1 ∙
          ring (v (entry line (pivot line)) ⊗ v (entry r j)) (v (entry line (pivot line)) ⊗ v (entry r j) ⊕ ⊖ (v (pos 0)) ⊗ v (entry line j)) (omega arith) ∙
          ap (λ z. (entry line (pivot line) *ℤ entry r j) +ℤ (neg_ℤ z *ℤ entry line j)) (sym c.0);
      lowest = inl (subst IsPrimitive (sym c.1) p);
    }
cleared_row line r t h w p (inr s) = record { times = s.lowest.times; positive = s.lowest.positive; is = step_entry line r t w s; lowest = s.lowest.lowest }

pub cleared_rows : (line : List ℤ) (rows new : List (List ℤ)) → pos 0 <ℤ entry line (pivot line) → ((r : List ℤ) → Contains rows r → length r ≡ length line) →
    ((r : List ℤ) → Contains rows r → IsPrimitive r) → AreCleared line rows new → ClearedRows line (pivot line) rows new
cleared_rows line [] [] h w p c = tt
cleared_rows line [] (t ∷ new) h w p c = absurd c
cleared_rows line (r ∷ rows) [] h w p c = absurd c
cleared_rows line (r ∷ rows) (t ∷ new) h w p c = (
  cleared_row line r t h (w r (contains_head r rows)) (p r (contains_head r rows)) c.0,
  cleared_rows line rows new h (λ x k. w x (contains_tail r x rows k)) (λ x k. p x (contains_tail r x rows k)) c.1,
)

-- ---- the form with the line
pub record Extension (form : List (List ℤ)) (line : List ℤ) (low new high : List (List ℤ)) : Type 0 where
  pub pivots : List ℕ
  pub echelon : IsEchelon (new ++ line ∷ high) pivots
  pub same : (u : ℕ → ℤ) → (Spanned (new ++ line ∷ high) u → Spanned (line ∷ form) u) × (Spanned (line ∷ form) u → Spanned (new ++ line ∷ high) u)

pub placed_extension : (form : List (List ℤ)) (line : List ℤ) (low new high : List (List ℤ)) → IsEchelonForm form → IsPlaced form line low high → pos 0 <ℤ entry line (pivot line) → IsPrimitive line →
    ((r : List ℤ) → Contains form r → entry line (pivot r) ≡ pos 0) → ClearedRows line (pivot line) low new → Extension form line low new high
placed_extension form line low new high f placed here prime zeros c =
    let p = pivot line in
    let e : IsEchelon (low ++ high) f.0 = subst (λ (rows : List (List ℤ)). IsEchelon rows f.0) placed.is f.1 in
    let s = pivots_split low high f.0 e in
    let ech : IsEchelon (low ++ high) (s.lows ++ s.highs) = subst (λ (ps : List ℕ). IsEchelon (low ++ high) ps) s.is e in
    let in_form : (r : List ℤ) → Contains (low ++ high) r → Contains form r = λ r k. subst (λ (rows : List (List ℤ)). Contains rows r) (sym placed.is) k in
    let at : (q : ℕ) → Contains (s.lows ++ s.highs) q → entry line q ≡ pos 0 = λ q k.
    let i = pivot_of_some (low ++ high) (s.lows ++ s.highs) ech q k in
    ap (entry line) (sym i.2) ∙ zeros i.0 (in_form i.0 i.1) in
    let before : (q : ℕ) → Contains s.lows q → Before q p = λ q k.
    let i = low_pivot low high s.lows s.highs s.as_many ech q k in
    subst (λ (m : ℕ). Before m p) i.2 (placed.before i.0 i.1) in
    let other : (r : List ℤ) → Contains high r → pivot r ≢ p = λ r k q. absurd (not_both (entry line p) here (ap (entry line) (sym q) ∙ zeros r (in_form r (Contains-append_right low high r k)))) in
    let hz = high_zero high s.highs line (echelon_high low high s.lows s.highs s.as_many ech) placed.behind other in
    record {
      pivots = s.lows ++ p ∷ s.highs;
      echelon = echelon_insert line p low new high s.lows s.highs (leads_at_pivot line here) prime at before hz s.as_many c ech;
      same = λ u.
          let x = extension_span line p low new high here c u in
          (λ g. subst (λ (rows : List (List ℤ)). Spanned (line ∷ rows) u) (sym placed.is) (x.0 g), λ g. x.1 (subst (λ (rows : List (List ℤ)). Spanned (line ∷ rows) u) placed.is g));
    }
