-- The pivot of a row is a function of the row: if a row leads in a column, that column is its pivot. In an echelon form each row is
-- positive at its pivot, and the others are 0 there, row by row.
use Rattle.std.proofs.Common.{List, [], ap, arith, cond, false, inl, inr, length, pos, refl, subst, suc, sym, zero, ℕ, ℤ, ◌++◌, ◌+◌, ◌<ℤ◌, ◌<◌, ◌∙◌, ◌∷◌, ◌≡◌, ◌≢◌}
use Rattle.std.proofs.{lemmas.Bool.false_from_ne_true, lemmas.List.Elements.Contains-append_right, lemmas.List.Elements.Contains-get_or}
use Rattle.std.specs.{Cmp.signed_Decides, List.Contains, Ordering.int_eq, Prelude.slice_index_or}
use Rattle.lra_linear_spec.specs.{Echelon.IsEchelon, Echelon.HasPivot, Echelon.lead_from, Echelon.pivot, Vectors.entry}
use Rattle.lra_linear_spec.proofs.{Membership.contains_cases, Membership.contains_head, Membership.contains_none, Membership.contains_tail, Signs.not_both}

-- ---- the first column other than 0
lead_none : (xs : List ℤ) (j : ℕ) → ((i : ℕ) → entry xs i ≡ pos 0) → lead_from j xs ≡ 0
lead_none [] j h = refl
lead_none (x ∷ xs) j h = ap (λ b. cond b (lead_from (suc j) xs) j) ((signed_Decides x (pos 0)).1 (h 0)) ∙ lead_none xs (suc j) (λ i. h (suc i))

lead_at : (xs : List ℤ) (j k : ℕ) → ((i : ℕ) → i < k → entry xs i ≡ pos 0) → entry xs k ≢ pos 0 → lead_from j xs ≡ j + k
lead_at [] j k h n = absurd (n refl)
lead_at (x ∷ xs) j zero h n = ap (λ b. cond b (lead_from (suc j) xs) j) (unequal x n) ∙ omega arith
  where
    unequal : (x : ℤ) → x ≢ pos 0 → int_eq x (pos 0) ≡ false
    unequal x n = false_from_ne_true (int_eq x (pos 0)) (λ e. n ((signed_Decides x (pos 0)).0 e))
lead_at (x ∷ xs) j (suc k) h n =
    ap (λ b. cond b (lead_from (suc j) xs) j) ((signed_Decides x (pos 0)).1 (h 0 (omega arith))) ∙
    lead_at xs (suc j) k (λ i l. h (suc i) (omega (arith, l))) n ∙ omega arith

pub pivot_is : (r : List ℤ) (p : ℕ) → HasPivot r p → pivot r ≡ p
pivot_is [] p l = absurd (not_both (pos 0) l.here refl)
pivot_is (x ∷ xs) zero l = lead_none xs 1 (λ i. l.before (suc i) (omega arith, inr refl))
pivot_is (x ∷ xs) (suc q) l = lead_at xs 1 q (λ i h. l.before (suc i) (omega arith, inl (omega (arith, h)))) (λ e. not_both (entry xs q) l.here e) ∙ omega arith

-- ---- the rows of an echelon form, by their places
pub echelon_positive : (form : List (List ℤ)) (ps : List ℕ) → IsEchelon form ps → (r : List ℤ) → Contains form r → pos 0 <ℤ entry r (pivot r)
echelon_positive [] ps e r k = absurd (contains_none r k)
echelon_positive (x ∷ form) [] e r k = absurd e
echelon_positive (x ∷ form) (p ∷ ps) e r k = elim (contains_cases x r form k) [
  | inl s ↦ subst (λ y. pos 0 <ℤ entry y (pivot y)) s (subst (λ (n : ℕ). pos 0 <ℤ entry x n) (sym (pivot_is x p e.0)) e.0.here)
  | inr d ↦ echelon_positive form ps e.4 r d
]

-- the pivot of a row is one of the pivots
pub echelon_pivot : (form : List (List ℤ)) (ps : List ℕ) → IsEchelon form ps → (r : List ℤ) → Contains form r → Contains ps (pivot r)
echelon_pivot [] ps e r k = absurd (contains_none r k)
echelon_pivot (x ∷ form) [] e r k = absurd e
echelon_pivot (x ∷ form) (p ∷ ps) e r k = elim (contains_cases x r form k) [
  | inl s ↦ subst (λ y. Contains (p ∷ ps) (pivot y)) s (subst (λ (n : ℕ). Contains (p ∷ ps) n) (sym (pivot_is x p e.0)) (contains_head p ps))
  | inr d ↦ contains_tail p (pivot r) ps (echelon_pivot form ps e.4 r d)
]

-- the others are 0 at the pivot of a row, wherever the row stands
pub echelon_apart : (front : List (List ℤ)) (r : List ℤ) (back : List (List ℤ)) (ps : List ℕ) → IsEchelon (front ++ r ∷ back) ps → (t : List ℤ) → Contains (front ++ back) t → entry t (pivot r) ≡ pos 0
echelon_apart [] r back [] e t k = absurd e
echelon_apart [] r back (p ∷ ps) e t k = subst (λ (n : ℕ). entry t n ≡ pos 0) (sym (pivot_is r p e.0)) (e.2 t k p (inr refl))
echelon_apart (x ∷ front) r back [] e t k = absurd e
echelon_apart (x ∷ front) r back (p ∷ ps) e t k = elim (contains_cases x t (front ++ back) k) [
  | inl s ↦ subst (λ y. entry y (pivot r) ≡ pos 0) s (e.3 (pivot r) (echelon_pivot (front ++ r ∷ back) ps e.4 r (Contains-append_right front (r ∷ back) r (contains_head r back))))
  | inr d ↦ echelon_apart front r back ps e.4 t d
]

-- by index
pub echelon_apart_at : (form : List (List ℤ)) (ps : List ℕ) → IsEchelon form ps → (i k : ℕ) → i < length form → k < length form → i ≢ k →
    entry (slice_index_or form i []) (pivot (slice_index_or form k [])) ≡ pos 0
echelon_apart_at [] ps e i k h l n = absurd (omega (arith, h))
echelon_apart_at (x ∷ form) [] e i k h l n = absurd e
echelon_apart_at (x ∷ form) (p ∷ ps) e zero zero h l n = absurd (n refl)
echelon_apart_at (x ∷ form) (p ∷ ps) e zero (suc k) h l n =
    e.3 (pivot (slice_index_or form k [])) (echelon_pivot form ps e.4 (slice_index_or form k []) (Contains-get_or form k [] (omega (arith, l))))
echelon_apart_at (x ∷ form) (p ∷ ps) e (suc i) zero h l n =
    subst (λ (m : ℕ). entry (slice_index_or form i []) m ≡ pos 0) (sym (pivot_is x p e.0)) (e.2 (slice_index_or form i []) (Contains-get_or form i [] (omega (arith, h))) p (inr refl))
echelon_apart_at (x ∷ form) (p ∷ ps) e (suc i) (suc k) h l n = echelon_apart_at form ps e.4 i k (omega (arith, h)) (omega (arith, l)) (λ s. n (ap suc s))
