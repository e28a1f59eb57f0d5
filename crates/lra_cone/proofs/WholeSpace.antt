-- The whole space, with the unit rows as its lines.
use Rattle.std.proofs.Common.{◌≡◌, ℕ, zero, suc, ◌+◌, ◌-◌, ◌<◌, ◌≤◌, List, [], ◌∷◌, ◌++◌, length, map, slice_set, refl, ap, sym, ◌∙◌, subst, arith, pos, ℤ, ◌+ℤ◌, ◌*ℤ◌, ◌≤ℤ◌, ◌<ℤ◌, unsigned_abs, inl}
use Rattle.std.proofs.{Common.inr, Common.◌⊎◌, lemmas.Bool.cases_lt, lemmas.Int.ints, lemmas.List.append_assoc}
use Rattle.std.specs.List.{Contains}
use Rattle.lra_cone.specs.Crates.lra_linear_spec.Cones.{Generated, both_ways, all_rows, AreDual}
use Rattle.lra_cone.specs.Crates.lra_linear_spec.Echelon.{Before, IsEchelon}
use Rattle.lra_cone.specs.Crates.lra_linear_spec.Vectors.{entry, dot, negated, zeros, behind_zero, units}
use Rattle.lra_cone.specs.Crates.{lra_linear_spec.Canonical.IsCanonical, lra_linear_spec.Descriptions.LinearRow, lra_linear_spec.OperationStrain.unit_row}
use Rattle.lra_cone.proofs.Crates.lra_linear_spec.Lines.{signed_from, in_lines, in_lines_negated, generated_described, whole_described}
use Rattle.lra_cone.proofs.Crates.lra_linear_spec.Membership.{contains_none, contains_cases, contains_head, contains_tail, split_none, map_has, map_from}
use Rattle.lra_cone.proofs.Crates.lra_linear_spec.Products.{negated_dot, negated_length, entry_past}
use Rattle.lra_cone.proofs.Crates.{lra_linear_spec.Combinations.generated_row, lra_linear_spec.LinearMaps.generated_through, lra_linear_spec.LowestTerms.primitive_at}
use Rattle.lra_cone.proofs.Crates.{lra_linear_spec.OneSpelling.dot_zeros, lra_linear_spec.Ring.ring, lra_linear_spec.Ring.v, lra_linear_spec.Ring.◌⊕◌, lra_linear_spec.Ring.◌⊗◌}
use Rattle.lra_cone.proofs.Crates.{lra_linear_spec.Signs.between_opposites, lra_linear_spec.UnitRows.unit_here, lra_linear_spec.UnitRows.unit_length, lra_linear_spec.UnitRows.unit_other}
use Rattle.lra_canonical.proofs.Solutions.{behind_zero_from}
use Rattle.lra_cone.specs.Cones.{IsCone, columns_from, unit_lines, whole_space}

-- ---- unit rows
pub dot_unit : (n j : ℕ) (u : ℕ → ℤ) → j < n → dot (slice_set (zeros n) j (pos 1)) u ≡ u j
dot_unit zero j u h = absurd (omega (arith, h))
dot_unit (suc n) zero u h = ap (λ z. (pos 1 *ℤ u 0) +ℤ z) (dot_zeros n (λ j. u (suc j))) ∙ ring (v (pos 1) ⊗ v (u 0) ⊕ v (pos 0)) (v (u 0)) (omega arith)
dot_unit (suc n) (suc j) u h = ap (λ z. (pos 0 *ℤ u 0) +ℤ z) (dot_unit n j (λ i. u (suc i)) (omega (arith, h))) ∙ ring (v (pos 0) ⊗ v (u 0) ⊕ v (u (suc j))) (v (u (suc j))) (omega arith)

-- ---- the columns
column_has : (start n j : ℕ) → ((start ≤ j) × (j < start + n)) ⊎ (j ≡ 0) → Contains (columns_from start n) j
column_has start zero j (inl h) = absurd (omega (arith, h.0, h.1))
column_has start zero j (inr e) = subst (Contains (0 ∷ [])) (sym e) (contains_head 0 [])
column_has start (suc n) j (inr e) = contains_tail start j (columns_from (suc start) n) (column_has (suc start) n j (inr e))
column_has start (suc n) j (inl h) = elim (cases_lt start j) [
  | inl l ↦ contains_tail start j (columns_from (suc start) n) (column_has (suc start) n j (inl (l, omega (arith, h.1))))
  | inr g ↦ let e : start ≡ j = omega (arith, g, h.0) in subst (Contains (start ∷ columns_from (suc start) n)) e (contains_head start (columns_from (suc start) n))
]

column_from : (start n j : ℕ) → Contains (columns_from start n) j → ((start ≤ j) × (j < start + n)) ⊎ (j ≡ 0)
column_from start zero j k = elim (contains_cases 0 j [] k) [ inl e ↦ inr (sym e) | inr m ↦ absurd (contains_none j m) ]
column_from start (suc n) j k = elim (contains_cases start j (columns_from (suc start) n) k) [
  | inl e ↦ inl (omega (arith, e), omega (arith, e))
  | inr m ↦ elim (column_from (suc start) n j m) [ inl h ↦ inl (omega (arith, h.0), omega (arith, h.1)) | inr e ↦ inr e ]
]

-- ---- the echelon form
-- a column before another isn't it, nor after it
not_before : (i j : ℕ) → Before i j → Before j i ⊎ (j ≡ i) → ⊥
not_before i j b (inl x) = first b.0 b.1 x.0 x.1
  where
    first : 0 < i → (i < j) ⊎ (j ≡ 0) → 0 < j → (j < i) ⊎ (i ≡ 0) → ⊥
    first h (inl l) m (inl r) = omega (arith, l, r)
    first h (inl l) m (inr r) = omega (arith, h, r)
    first h (inr l) m r = omega (arith, l, m)
not_before i j b (inr e) = second b.0 b.1 e
  where
    second : 0 < i → (i < j) ⊎ (j ≡ 0) → j ≡ i → ⊥
    second h (inl l) e = omega (arith, l, e)
    second h (inr l) e = omega (arith, h, l, e)

units_echelon : (w start n : ℕ) → 0 < start → start + n ≤ suc w → IsEchelon (map (unit_row w) (columns_from start n)) (columns_from start n)
units_echelon w start zero p h = (
  record { before = λ j b. unit_other w 0 j (λ e. omega (arith, b.0, e)); here = subst (λ z. pos 0 <ℤ z) (sym (unit_here w 0 (omega arith))) (omega (arith, ints)) },
  primitive_at (unit_row w 0) 0 (ap unsigned_abs (unit_here w 0 (omega arith))),
  (λ t k j b. absurd (contains_none t k)),
  (λ q k. absurd (contains_none q k)),
  tt,
)
units_echelon w start (suc n) p h =
    let later : (q : ℕ) → Contains (columns_from (suc start) n) q → Before start q = λ q k. elim (column_from (suc start) n q k) [ inl x ↦ (p, inl x.0) | inr e ↦ (p, inr e) ] in (
      record { before = λ j b. unit_other w start j (λ e. not_before j start b (inr (sym e))); here = subst (λ z. pos 0 <ℤ z) (sym (unit_here w start (omega (arith, h)))) (omega (arith, ints)) },
      primitive_at (unit_row w start) start (ap unsigned_abs (unit_here w start (omega (arith, h)))),
      (λ t k j b.
          let f = map_from (unit_row w) (columns_from (suc start) n) t k in
          ap (λ (x : List ℤ). entry x j) (sym f.2) ∙ unit_other w f.0 j (λ e. not_before start f.0 (later f.0 f.1) (subst (λ (i : ℕ). Before i start ⊎ (i ≡ start)) e b))),
      (λ q k. unit_other w start q (λ e. not_before start q (later q k) (inr e))),
      units_echelon w (suc start) n (omega arith) (omega (arith, h)),
    )

-- ---- all vectors
-- the unit rows, place by place
unit_place : (w : ℕ) (r : List ℤ) → Contains (units w) r → (j : ℕ) × (j < w) × (r ≡ slice_set (zeros w) j (pos 1))
unit_place zero r k = absurd (contains_none r k)
unit_place (suc w) r k = elim (contains_cases (pos 1 ∷ zeros w) r (behind_zero (units w)) k) [
  | inl e ↦ (0, omega arith, sym e)
  | inr m ↦
      let b = behind_zero_from (units w) r m in
      let i = unit_place w b.0 b.1 in
      (suc i.0, omega (arith, i.1), b.2 ∙ ap (λ (x : List ℤ). pos 0 ∷ x) i.2)
]

unit_has : (n j : ℕ) → j < suc n → Contains (unit_lines n) (unit_row n j)
unit_has n j h = map_has (unit_row n) (columns_from 1 n) j (column_has 1 n j (split j h))
  where
    split : (j : ℕ) → j < suc n → ((1 ≤ j) × (j < 1 + n)) ⊎ (j ≡ 0)
    split zero h = inr refl
    split (suc j) h = inl (omega arith, omega (arith, h))

lines_length : (n : ℕ) (l : List ℤ) → Contains (unit_lines n) l → length l ≡ suc n
lines_length n l k = let f = map_from (unit_row n) (columns_from 1 n) l k in ap length (sym f.2) ∙ unit_length n f.0

all_generated : (n : ℕ) (u : List ℤ) → length u ≡ suc n → Generated (both_ways (unit_lines n)) (entry u)
all_generated n u lu =
    generated_through (both_ways (unit_lines n)) (both_ways (units (suc n))) (entry u)
    (λ t k.
    let s = signed_from (units (suc n)) t k in
    let p = unit_place (suc n) s.line s.has in
    let m : Contains (unit_lines n) s.line = subst (Contains (unit_lines n)) (sym p.2) (unit_has n p.0 p.1) in
    generated_row (both_ways (unit_lines n)) t (elim s.sign [
      | inl e ↦ subst (Contains (both_ways (unit_lines n))) (sym e) (in_lines (unit_lines n) s.line m)
      | inr e ↦ subst (Contains (both_ways (unit_lines n))) (sym e) (in_lines_negated (unit_lines n) s.line m)
    ]))
    (generated_described (units (suc n)) [] (entry u) (whole_described (suc n) u lu))

-- nothing but 0 is valid on all vectors
none_valid : (n : ℕ) (c : List ℤ) → length c ≡ suc n → ((r : List ℤ) → Contains (both_ways (unit_lines n)) r → pos 0 ≤ℤ dot r (entry c)) → (j : ℕ) → entry c j ≡ pos 0
none_valid n c lc h j = elim (cases_lt j (suc n)) [
  | inr g ↦ entry_past c j (omega (arith, g, lc))
  | inl l ↦
      let r = unit_row n j in
      let m = unit_has n j l in
      sym (dot_unit (suc n) j (entry c) l) ∙
      between_opposites (dot r (entry c)) (dot (negated r) (entry c)) (negated_dot r (entry c)) (h r (in_lines (unit_lines n) r m)) (h (negated r) (in_lines_negated (unit_lines n) r m))
]

whole_dual : (n : ℕ) → AreDual (suc n) [] (all_rows (unit_lines n) [])
whole_dual n = record {
  system_widths = λ c k. absurd (contains_none c k);
  row_widths = λ t k. let s = signed_from (unit_lines n) t k in elim s.sign [
    | inl e ↦ ap length e ∙ lines_length n s.line s.has
    | inr e ↦ ap length e ∙ negated_length s.line ∙
        lines_length n s.line s.has
  ];
  solutions = λ u lu h. all_generated n u lu;
  consequences = λ c lc h. record {
    multiple = 1;
    positive = omega arith;
    factors = [];
    is_sum = λ j. ap (λ z. pos 1 *ℤ z) (none_valid n c lc h j) ∙
        ring (v (pos 1) ⊗ v (pos 0)) (v (pos 0)) (omega arith);
  };
  meets = λ r k c m. absurd (contains_none c m);
}

whole_canonical : (n : ℕ) → IsCanonical (unit_lines n) []
whole_canonical n = record {
  pivots = columns_from 1 n;
  echelon = units_echelon n 1 n (omega arith) (omega arith);
  reduced = λ r k q m. absurd (contains_none r k);
  lowest = λ r k. absurd (contains_none r k);
  needed = λ front r back e g. split_none front r back e;
  pointed = λ r k g. contains_none r k;
}

pub whole_cone : (n : ℕ) → IsCone (whole_space n)
whole_cone n = record { dual = whole_dual n; canonical = whole_canonical n; few = omega arith }

-- ---- the loop: what is there, and the columns that are to come
pub columns_start : (n : ℕ) (items : List (List ℤ)) → items ≡ [] → items ++ map (unit_row n) (columns_from 1 (n + 1 - 1)) ≡ unit_lines n
columns_start n items e = ap (λ (x : List (List ℤ)). x ++ map (unit_row n) (columns_from 1 (n + 1 - 1))) e ∙ ap (λ (k : ℕ). map (unit_row n) (columns_from 1 k)) (back n)
  where
    back : (n : ℕ) → n + 1 - 1 ≡ n
    back n = omega arith

pub columns_step : (n column : ℕ) (items new : List (List ℤ)) (r : List ℤ) → column < n + 1 → new ≡ items ++ r ∷ [] → r ≡ unit_row n column →
    items ++ map (unit_row n) (columns_from column (n + 1 - column)) ≡ unit_lines n →
    new ++ map (unit_row n) (columns_from (column + 1) (n + 1 - (column + 1))) ≡ unit_lines n
columns_step n column items new r h e f i =
    ap (λ (x : List (List ℤ)). x ++ map (unit_row n) (columns_from (column + 1) (n + 1 - (column + 1)))) (e ∙ ap (λ (x : List ℤ). items ++ x ∷ []) f) ∙
    append_assoc items (unit_row n column ∷ []) (map (unit_row n) (columns_from (column + 1) (n + 1 - (column + 1)))) ∙
    ap (λ (c : ℕ). items ++ unit_row n column ∷ map (unit_row n) (columns_from c (n + 1 - (column + 1)))) (plus_one column) ∙
    ap (λ (k : ℕ). items ++ map (unit_row n) (columns_from column k)) (left n column h) ∙ i
  where
    plus_one : (k : ℕ) → k + 1 ≡ suc k
    plus_one k = omega arith

    left : (n column : ℕ) → column < n + 1 → suc (n + 1 - (column + 1)) ≡ n + 1 - column
    left n column h = omega (arith, h)

pub columns_end : (n column : ℕ) (items new : List (List ℤ)) (r : List ℤ) → column ≡ n + 1 → new ≡ items ++ r ∷ [] → r ≡ unit_row n 0 →
    items ++ map (unit_row n) (columns_from column (n + 1 - column)) ≡ unit_lines n → new ≡ unit_lines n
columns_end n column items new r h e f i =
    e ∙ ap (λ (x : List ℤ). items ++ x ∷ []) f ∙ ap (λ (k : ℕ). items ++ map (unit_row n) (columns_from column k)) (none n column h) ∙ i
  where
    none : (n column : ℕ) → column ≡ n + 1 → 0 ≡ n + 1 - column
    none n column h = omega (arith, h)

-- ---- the cone that is made
pub whole_made : (n d : ℕ) (taken : List LinearRow) (lines rays : List (List ℤ)) → d ≡ n → taken ≡ [] → lines ≡ unit_lines n → rays ≡ [] →
    (record { dims = d; taken = taken; lines = lines; rays = rays }) ≡ whole_space n
whole_made n d taken lines rays ed et el er =
    ap (λ (x : ℕ). record { dims = x; taken = taken; lines = lines; rays = rays }) ed ∙ ap (λ (x : List LinearRow). record { dims = n; taken = x; lines = lines; rays = rays }) et ∙
    ap (λ (x : List (List ℤ)). record { dims = n; taken = []; lines = x; rays = rays }) el ∙ ap (λ (x : List (List ℤ)). record { dims = n; taken = []; lines = unit_lines n; rays = x }) er
