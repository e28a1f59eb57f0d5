-- The rows of a box are in order, and are exactly its bounds.
use Rattle.std.proofs.Common.{◌≡◌, ◌≢◌, ℕ, zero, suc, ◌+◌, ◌<◌, Bool, true, false, cond, ℤ, pos, negsuc, ◌<ℤ◌, List, [], ◌∷◌, ◌++◌, length, replicate, Option, None, Some, ◌⊎◌, inl, inr, ◌↔◌, refl}
use Rattle.std.proofs.lemmas.List.Elements.{Contains-append_cases, Contains-append_left, Contains-append_right}
use Rattle.std.proofs.{Common.sym, Common.ap, Common.subst, Common.◌∙◌, Common.arith, lemmas.Int.ints, lemmas.List.length-replicate, lemmas.Option.slice_get_within}
use Rattle.std.specs.{Cmp.nat_cmp_is, Cmp.Lexicographic.slice_cmp, List.Contains, Ordering.int_cmp, Ordering.int_eq, Ordering.nat_cmp, Ordering.ordering_then, Prelude.neg_ℤ, Prelude.slice_get}
use Rattle.std.specs.{Prelude.slice_set, Prelude.unsigned_abs, declared.cmp.Ordering.Ordering, declared.cmp.Ordering.TheVariants.Less, declared.cmp.Ordering.TheVariants.Equal}
use Rattle.lra_box.specs.Crates.lra_linear_spec.Echelon.{Before, IsEchelon, HasPivot, lead_from, pivot}
use Rattle.lra_box.specs.Crates.{lra_linear_spec.LowestTerms.IsPrimitive, lra_linear_spec.RowOrder.Ascends, lra_linear_spec.RowOrder.inequality_cmp, lra_linear_spec.Vectors.entry}
use Rattle.lra_box.proofs.Crates.lra_linear_spec.Membership.{contains_cases, contains_head, contains_none, contains_tail}
use Rattle.lra_box.proofs.Crates.{lra_linear_spec.LowestTerms.primitive_at, lra_linear_spec.Products.entry_set_other, lra_linear_spec.Products.entry_set_same}
use Rattle.lra_box.specs.Parts.{bound_row, box_equalities, high_rows, is_single, low_rows, box_inequalities}
use Rattle.lra_box.specs.{ExactRows.IsEqualityRow, ExactRows.IsInequalityRow, ExactRows.IsOfEnd, declared.interval.Interval.Interval}

-- ---- the entries of a bound's row

pub entry_zeros : (n j : ℕ) → entry (replicate n (pos 0)) j ≡ pos 0
entry_zeros zero j = refl
entry_zeros (suc n) zero = refl
entry_zeros (suc n) (suc j) = entry_zeros n j

entry_here : (n k : ℕ) (c f : ℤ) → k < n → entry (bound_row n k c f) (suc k) ≡ f
entry_here n k c f h =
    let l = length-replicate n (pos 0) in
    entry_set_same (replicate n (pos 0)) k f (omega (arith, l, h))

entry_elsewhere : (n k j : ℕ) (c f : ℤ) → 0 < j → j ≢ suc k → entry (bound_row n k c f) j ≡ pos 0
entry_elsewhere n k zero c f p h = absurd (omega (arith, p))
entry_elsewhere n k (suc j) c f p h =
    entry_set_other (replicate n (pos 0)) k j f (λ e. h (ap suc e)) ∙ entry_zeros n j

before_apart : (j k : ℕ) → Before j (suc k) → j ≢ suc k
before_apart j k b e = elim b.1 [ inl l ↦ omega (arith, l, e) | inr z ↦ absurd (omega (arith, b.0, z)) ]

row_leads : (n k : ℕ) (c : ℤ) → k < n → HasPivot (bound_row n k c (pos 1)) (suc k)
row_leads n k c h = record {
  before = λ j b. entry_elsewhere n k j c (pos 1) b.0 (before_apart j k b);
  here = subst (λ (z : ℤ). pos 0 <ℤ z) (sym (entry_here n k c (pos 1) h)) (omega (arith, ints));
}

row_primitive : (n k : ℕ) (c : ℤ) → k < n → IsPrimitive (bound_row n k c (pos 1))
row_primitive n k c h = primitive_at (bound_row n k c (pos 1)) (suc k) (ap unsigned_abs (entry_here n k c (pos 1) h))

-- ---- its pivot

lead_at : (n k j : ℕ) (f : ℤ) → k < n → int_eq f (pos 0) ≡ false
    → lead_from j (slice_set (replicate n (pos 0)) k f) ≡ j + k
lead_at zero k j f h d = absurd (omega (arith, h))
lead_at (suc n) zero j f h d =
    ap (λ (b : Bool). cond b (lead_from (suc j) (replicate n (pos 0))) j) d ∙ omega arith
lead_at (suc n) (suc k) j f h d = lead_at n k (suc j) f (omega (arith, h)) d ∙ omega arith

row_pivot : (n k : ℕ) (c f : ℤ) → k < n → int_eq f (pos 0) ≡ false → pivot (bound_row n k c f) ≡ suc k
row_pivot n k c f h d = lead_at n k 1 f h d ∙ omega arith

end_pivot : (n k : ℕ) (i : Interval) (r : List ℤ) → k < n → IsOfEnd n k i r → pivot r ≡ suc k
end_pivot n k i r h (inl (l, is, e)) = ap pivot e ∙ row_pivot n k (neg_ℤ l) (pos 1) h refl
end_pivot n k i r h (inr (u, is, e)) = ap pivot e ∙ row_pivot n k u (negsuc 0) h refl

-- ---- the order

-- at one place the row of the lower bound comes first
greater_first : (n k : ℕ) (c d : ℤ) → k < n
    → slice_cmp int_cmp (slice_set (replicate n (pos 0)) k (negsuc 0) ++ c ∷ [])
    (slice_set (replicate n (pos 0)) k (pos 1) ++ d ∷ []) ≡ Less
greater_first zero k c d h = absurd (omega (arith, h))
greater_first (suc n) zero c d h = refl
greater_first (suc n) (suc k) c d h = greater_first n k c d (omega (arith, h))

pub tied : (x y : ℕ) (o : Ordering) → x ≡ y → o ≡ Less → ordering_then (nat_cmp x y) o ≡ Less
tied x y o e l = ap (λ (p : Ordering). ordering_then p o) (sym (nat_cmp_is x y Equal e)) ∙ l

pub earlier : (x y : ℕ) (o : Ordering) → x < y → ordering_then (nat_cmp x y) o ≡ Less
earlier x y o h = ap (λ (p : Ordering). ordering_then p o) (sym (nat_cmp_is x y Less h))

low_first : (n k : ℕ) (c d : ℤ) → k < n
    → inequality_cmp (bound_row n k c (pos 1)) (bound_row n k d (negsuc 0)) ≡ Less
low_first n k c d h = tied (pivot (bound_row n k c (pos 1))) (pivot (bound_row n k d (negsuc 0))) _
    (row_pivot n k c (pos 1) h refl ∙ sym (row_pivot n k d (negsuc 0) h refl)) (greater_first n k d c h)

-- rows of an earlier place come before those of a later one
place_first : (n k q : ℕ) (i j : Interval) (r t : List ℤ) → k < q → q < n → IsOfEnd n k i r → IsOfEnd n q j t
    → inequality_cmp r t ≡ Less
place_first n k q i j r t h g a b =
    let x = end_pivot n k i r (omega (arith, h, g)) a in
    let y = end_pivot n q j t g b in
    earlier (pivot r) (pivot t) _ (omega (arith, x, y, h))

pub ascends_append : {A : Type 0} (cmp : A → A → Ordering) (xs ys : List A) → Ascends cmp xs → Ascends cmp ys
    → ((x y : A) → Contains xs x → Contains ys y → cmp x y ≡ Less) → Ascends cmp (xs ++ ys)
ascends_append cmp [] ys a b f = b
ascends_append cmp (x ∷ xs) ys a b f = (
  λ y k. elim (Contains-append_cases xs ys y k) [ inl i ↦ a.0 y i | inr i ↦ f x y (contains_head x xs) i ],
  ascends_append cmp xs ys a.1 b (λ u v k m. f u v (contains_tail x u xs k) m),
)

-- ---- the rows of one interval

of_low : (n k : ℕ) (o : Option ℤ) (r : List ℤ) → Contains (low_rows n k o) r
    → (l : ℤ) × (o ≡ Some l) × (r ≡ bound_row n k (neg_ℤ l) (pos 1))
of_low n k None r c = absurd (contains_none r c)
of_low n k (Some l) r c = elim (contains_cases (bound_row n k (neg_ℤ l) (pos 1)) r [] c) [
  | inl e ↦ (l, refl, sym e)
  | inr d ↦ absurd (contains_none r d)
]

of_high : (n k : ℕ) (o : Option ℤ) (r : List ℤ) → Contains (high_rows n k o) r
    → (h : ℤ) × (o ≡ Some h) × (r ≡ bound_row n k h (negsuc 0))
of_high n k None r c = absurd (contains_none r c)
of_high n k (Some h) r c = elim (contains_cases (bound_row n k h (negsuc 0)) r [] c) [
  | inl e ↦ (h, refl, sym e)
  | inr d ↦ absurd (contains_none r d)
]

pub only_has : {A : Type 0} (x y : A) → y ≡ x → Contains (x ∷ []) y
only_has x y e = subst (Contains (x ∷ [])) (sym e) (contains_head x [])

has_low : (n k : ℕ) (o : Option ℤ) (l : ℤ) (r : List ℤ) → o ≡ Some l → r ≡ bound_row n k (neg_ℤ l) (pos 1)
    → Contains (low_rows n k o) r
has_low n k o l r s e =
    subst (λ (x : Option ℤ). Contains (low_rows n k x) r) (sym s) (only_has (bound_row n k (neg_ℤ l) (pos 1)) r e)

has_high : (n k : ℕ) (o : Option ℤ) (h : ℤ) (r : List ℤ) → o ≡ Some h → r ≡ bound_row n k h (negsuc 0)
    → Contains (high_rows n k o) r
has_high n k o h r s e =
    subst (λ (x : Option ℤ). Contains (high_rows n k x) r) (sym s) (only_has (bound_row n k h (negsuc 0)) r e)

abbrev own_equal : ℕ → ℕ → Bool → Interval → List (List ℤ)
own_equal n k t i = cond t (low_rows n k i.low) []

abbrev own_unequal : ℕ → ℕ → Bool → Interval → List (List ℤ)
own_unequal n k t i = cond t [] (low_rows n k i.low ++ high_rows n k i.high)

-- the equality of a lower bound
abbrev IsOfLow : ℕ → ℕ → Interval → List ℤ → Type 0
IsOfLow n k i r = (l : ℤ) × (i.low ≡ Some l) × (r ≡ bound_row n k (neg_ℤ l) (pos 1))

of_equal : (n k : ℕ) (t : Bool) (i : Interval) (r : List ℤ) → Contains (own_equal n k t i) r
    → (t ≡ true) × IsOfLow n k i r
of_equal n k true i r c = (refl, of_low n k i.low r c)
of_equal n k false i r c = absurd (contains_none r c)

has_equal : (n k : ℕ) (t : Bool) (i : Interval) (r : List ℤ) → t ≡ true → IsOfLow n k i r
    → Contains (own_equal n k t i) r
has_equal n k true i r e (l, is, row) = has_low n k i.low l r is row
has_equal n k false i r e own = let wrong : ⊥ = cc in absurd wrong

of_unequal : (n k : ℕ) (t : Bool) (i : Interval) (r : List ℤ) → Contains (own_unequal n k t i) r
    → (t ≡ false) × IsOfEnd n k i r
of_unequal n k true i r c = absurd (contains_none r c)
of_unequal n k false i r c = (
  refl,
  elim (Contains-append_cases (low_rows n k i.low) (high_rows n k i.high) r c) [
    | inl d ↦ inl (of_low n k i.low r d)
    | inr d ↦ inr (of_high n k i.high r d)
  ],
)

has_unequal : (n k : ℕ) (t : Bool) (i : Interval) (r : List ℤ) → t ≡ false → IsOfEnd n k i r
    → Contains (own_unequal n k t i) r
has_unequal n k true i r e own = let wrong : ⊥ = cc in absurd wrong
has_unequal n k false i r e (inl (l, is, row)) =
    Contains-append_left (low_rows n k i.low) (high_rows n k i.high) r (has_low n k i.low l r is row)
has_unequal n k false i r e (inr (h, is, row)) =
    Contains-append_right (low_rows n k i.low) (high_rows n k i.high) r (has_high n k i.high h r is row)

-- ---- those of all intervals, from place k on

-- some interval, p places after place k, is as Q says
abbrev SomePlace : (ℕ → Interval → Type 0) → ℕ → List Interval → Type 0
SomePlace Q k is = (p : ℕ) × (i : Interval) × (slice_get is p ≡ Some i) × Q (k + p) i

abbrev EqualAt : ℕ → List ℤ → ℕ → Interval → Type 0
EqualAt n r q i = (is_single i ≡ true) × IsOfLow n q i r

abbrev UnequalAt : ℕ → List ℤ → ℕ → Interval → Type 0
UnequalAt n r q i = (is_single i ≡ false) × IsOfEnd n q i r

place_here : (Q : ℕ → Interval → Type 0) (k : ℕ) (i : Interval) (is : List Interval) → Q k i → SomePlace Q k (i ∷ is)
place_here Q k i is q = (0, i, refl, subst (λ (m : ℕ). Q m i) (omega arith) q)

place_later : (Q : ℕ → Interval → Type 0) (k : ℕ) (i : Interval) (is : List Interval) → SomePlace Q (suc k) is
    → SomePlace Q k (i ∷ is)
place_later Q k i is w = (suc w.0, w.1, w.2, subst (λ (m : ℕ). Q m w.1) (omega arith) w.3)

of_equals : (n k : ℕ) (is : List Interval) (r : List ℤ) → Contains (box_equalities n k is) r
    → SomePlace (EqualAt n r) k is
of_equals n k [] r c = absurd (contains_none r c)
of_equals n k (i ∷ is) r c =
    elim (Contains-append_cases (own_equal n k (is_single i) i) (box_equalities n (suc k) is) r c) [
      | inl d ↦ place_here (EqualAt n r) k i is (of_equal n k (is_single i) i r d)
      | inr d ↦ place_later (EqualAt n r) k i is (of_equals n (suc k) is r d)
    ]

of_unequals : (n k : ℕ) (is : List Interval) (r : List ℤ) → Contains (box_inequalities n k is) r
    → SomePlace (UnequalAt n r) k is
of_unequals n k [] r c = absurd (contains_none r c)
of_unequals n k (i ∷ is) r c =
    elim (Contains-append_cases (own_unequal n k (is_single i) i) (box_inequalities n (suc k) is) r c) [
      | inl d ↦ place_here (UnequalAt n r) k i is (of_unequal n k (is_single i) i r d)
      | inr d ↦ place_later (UnequalAt n r) k i is (of_unequals n (suc k) is r d)
    ]

-- an interval that was found is the first one, or one of the others
first_or_later : (Q : ℕ → Interval → Type 0) (k : ℕ) (i : Interval) (is : List Interval) → SomePlace Q k (i ∷ is)
    → Q k i ⊎ SomePlace Q (suc k) is
first_or_later Q k i is (zero, j, there, q) =
    let same : j ≡ i = cc in
    inl (subst (λ (x : Interval). Q k x) same (subst (λ (m : ℕ). Q m j) (omega arith) q))
first_or_later Q k i is (suc p, j, there, q) = inr (p, j, there, subst (λ (m : ℕ). Q m j) (omega arith) q)

no_place : (Q : ℕ → Interval → Type 0) (k : ℕ) → SomePlace Q k [] → ⊥
no_place Q k (p, i, there, q) = let wrong : ⊥ = cc in wrong

has_equals : (n k : ℕ) (is : List Interval) (r : List ℤ) → SomePlace (EqualAt n r) k is
    → Contains (box_equalities n k is) r
has_equals n k [] r w = absurd (no_place (EqualAt n r) k w)
has_equals n k (i ∷ is) r w = elim (first_or_later (EqualAt n r) k i is w) [
  | inl q ↦ Contains-append_left (own_equal n k (is_single i) i) (box_equalities n (suc k) is) r
      (has_equal n k (is_single i) i r q.0 q.1)
  | inr q ↦ Contains-append_right (own_equal n k (is_single i) i) (box_equalities n (suc k) is) r
      (has_equals n (suc k) is r q)
]

has_unequals : (n k : ℕ) (is : List Interval) (r : List ℤ) → SomePlace (UnequalAt n r) k is
    → Contains (box_inequalities n k is) r
has_unequals n k [] r w = absurd (no_place (UnequalAt n r) k w)
has_unequals n k (i ∷ is) r w = elim (first_or_later (UnequalAt n r) k i is w) [
  | inl q ↦ Contains-append_left (own_unequal n k (is_single i) i) (box_inequalities n (suc k) is) r
      (has_unequal n k (is_single i) i r q.0 q.1)
  | inr q ↦ Contains-append_right (own_unequal n k (is_single i) i) (box_inequalities n (suc k) is) r
      (has_unequals n (suc k) is r q)
]

-- ---- the inequalities are in order

ends_ascend : (n k : ℕ) (a b : Option ℤ) → k < n → Ascends inequality_cmp (low_rows n k a ++ high_rows n k b)
ends_ascend n k None None h = tt
ends_ascend n k None (Some u) h = (λ y c. absurd (contains_none y c), tt)
ends_ascend n k (Some l) None h = (λ y c. absurd (contains_none y c), tt)
ends_ascend n k (Some l) (Some u) h = (
  λ y c. elim (contains_cases (bound_row n k u (negsuc 0)) y [] c) [
    | inl e ↦ subst (λ (z : List ℤ). inequality_cmp (bound_row n k (neg_ℤ l) (pos 1)) z ≡ Less) e
        (low_first n k (neg_ℤ l) u h)
    | inr d ↦ absurd (contains_none y d)
  ],
  (λ y c. absurd (contains_none y c), tt),
)

own_ascends : (n k : ℕ) (t : Bool) (i : Interval) → k < n → Ascends inequality_cmp (own_unequal n k t i)
own_ascends n k true i h = tt
own_ascends n k false i h = ends_ascend n k i.low i.high h

pub unequal_ascend : (n k : ℕ) (is : List Interval) → k + length is ≡ n → Ascends inequality_cmp (box_inequalities n k is)
unequal_ascend n k [] l = tt
unequal_ascend n k (i ∷ is) l = ascends_append inequality_cmp (own_unequal n k (is_single i) i)
    (box_inequalities n (suc k) is) (own_ascends n k (is_single i) i (omega (arith, l)))
    (unequal_ascend n (suc k) is (omega (arith, l)))
    (λ x y c d. apart x y (of_unequal n k (is_single i) i x c) (of_unequals n (suc k) is y d))
  where
    apart : (x y : List ℤ) → (is_single i ≡ false) × IsOfEnd n k i x → SomePlace (UnequalAt n y) (suc k) is
        → inequality_cmp x y ≡ Less
    apart x y own (p, j, there, at) =
        let inside = slice_get_within is p j there in
        place_first n k (suc k + p) i j x y (omega arith) (omega (arith, l, inside)) own.1 at.1

-- ---- the equalities are in echelon form

abbrev low_pivots : ℕ → Option ℤ → List ℕ
low_pivots k None = []
low_pivots k (Some l) = suc k ∷ []

abbrev own_pivots : ℕ → Bool → Interval → List ℕ
own_pivots k t i = cond t (low_pivots k i.low) []

abbrev pub pivots_from : ℕ → List Interval → List ℕ
pivots_from k [] = []
pivots_from k (i ∷ is) = own_pivots k (is_single i) i ++ pivots_from (suc k) is

low_past : (k q : ℕ) (t : Bool) (o : Option ℤ) → Contains (cond t (low_pivots k o) []) q → k < q
low_past k q false o c = absurd (contains_none q c)
low_past k q true None c = absurd (contains_none q c)
low_past k q true (Some l) c = elim (contains_cases (suc k) q [] c) [
  | inl e ↦ omega (arith, e)
  | inr d ↦ absurd (contains_none q d)
]

pivots_past : (k : ℕ) (is : List Interval) (q : ℕ) → Contains (pivots_from k is) q → k < q
pivots_past k [] q c = absurd (contains_none q c)
pivots_past k (i ∷ is) q c =
    elim (Contains-append_cases (own_pivots k (is_single i) i) (pivots_from (suc k) is) q c) [
      | inl d ↦ low_past k q (is_single i) i.low d
      | inr d ↦ let h = pivots_past (suc k) is q d in omega (arith, h)
    ]

-- a row of a later place is 0 up to this place's pivot
later_zero : (n k : ℕ) (is : List Interval) (t : List ℤ) (j : ℕ) → Contains (box_equalities n (suc k) is) t
    → Before j (suc k) ⊎ (j ≡ suc k) → entry t j ≡ pos 0
later_zero n k is t j c b = by_place (of_equals n (suc k) is t c)
  where
    near : Before j (suc k) ⊎ (j ≡ suc k) → (0 < j) × (j < suc (suc k))
    near (inl (p, inl l)) = (p, omega (arith, l))
    near (inl (p, inr z)) = absurd (omega (arith, p, z))
    near (inr e) = (omega (arith, e), omega (arith, e))

    by_place : SomePlace (EqualAt n t) (suc k) is → entry t j ≡ pos 0
    by_place (p, i, there, (single, (l, low, row))) =
        let g = near b in
        ap (λ (x : List ℤ). entry x j) row ∙
        entry_elsewhere n (suc k + p) j (neg_ℤ l) (pos 1) g.0 (λ e. omega (arith, g.1, e))

equal_step : (n k : ℕ) (t : Bool) (o : Option ℤ) (is : List Interval) → k < n
    → IsEchelon (box_equalities n (suc k) is) (pivots_from (suc k) is)
    → IsEchelon (cond t (low_rows n k o) [] ++ box_equalities n (suc k) is)
    (cond t (low_pivots k o) [] ++ pivots_from (suc k) is)
equal_step n k false o is h e = e
equal_step n k true None is h e = e
equal_step n k true (Some l) is h e = (
  row_leads n k (neg_ℤ l) h,
  row_primitive n k (neg_ℤ l) h,
  λ t c j b. later_zero n k is t j c b,
  λ q c. let past = pivots_past (suc k) is q c in
      entry_elsewhere n k q (neg_ℤ l) (pos 1) (omega (arith, past)) (λ s. omega (arith, past, s)),
  e,
)

pub equal_echelon : (n k : ℕ) (is : List Interval) → k + length is ≡ n
    → IsEchelon (box_equalities n k is) (pivots_from k is)
equal_echelon n k [] l = tt
equal_echelon n k (i ∷ is) l = equal_step n k (is_single i) i.low is (omega (arith, l))
    (equal_echelon n (suc k) is (omega (arith, l)))

-- ---- said of the bounds alone

from_start : (Q : ℕ → Interval → Type 0) (p : ℕ) (i : Interval) → Q (0 + p) i ↔ Q p i
from_start Q p i =
    let same : 0 + p ≡ p = omega arith in
    (λ q. subst (λ (m : ℕ). Q m i) same q, λ q. subst (λ (m : ℕ). Q m i) (sym same) q)

pub equal_exact : (n : ℕ) (is : List Interval) (r : List ℤ) → Contains (box_equalities n 0 is) r ↔ IsEqualityRow n is r
equal_exact n is r = (λ c. named (of_equals n 0 is r c), λ e. has_equals n 0 is r (placed e))
  where
    named : SomePlace (EqualAt n r) 0 is → IsEqualityRow n is r
    named (p, i, there, at) =
        let own = (from_start (EqualAt n r) p i).0 at in
        record {
          place = p;
          interval = i;
          there = there;
          single = own.0;
          end = own.1.0;
          is_end = own.1.1;
          row = own.1.2;
        }

    placed : IsEqualityRow n is r → SomePlace (EqualAt n r) 0 is
    placed e = (
      e.place,
      e.interval,
      e.there,
      (from_start (EqualAt n r) e.place e.interval).1 (e.single, (e.end, e.is_end, e.row)),
    )

pub unequal_exact : (n : ℕ) (is : List Interval) (r : List ℤ)
    → Contains (box_inequalities n 0 is) r ↔ IsInequalityRow n is r
unequal_exact n is r = (λ c. named (of_unequals n 0 is r c), λ e. has_unequals n 0 is r (placed e))
  where
    named : SomePlace (UnequalAt n r) 0 is → IsInequalityRow n is r
    named (p, i, there, at) =
        let own = (from_start (UnequalAt n r) p i).0 at in
        record { place = p; interval = i; there = there; apart = own.0; of_end = own.1 }

    placed : IsInequalityRow n is r → SomePlace (UnequalAt n r) 0 is
    placed e = (
      e.place,
      e.interval,
      e.there,
      (from_start (UnequalAt n r) e.place e.interval).1 (e.apart, e.of_end),
    )
