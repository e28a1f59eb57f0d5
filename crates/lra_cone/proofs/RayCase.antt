-- The step where the product of each line with c is 0: the rays on which c holds stay, and adjacent rays on both sides are combined.
-- These new rays, with the lines, are the canonical description of the cone at which c holds.
use Rattle.std.proofs.Common.{◌≡◌, ◌≢◌, ℕ, Bool, true, false, List, [], ◌∷◌, ◌++◌, length, refl, ap, sym, ◌∙◌, subst, pos, negsuc, ℤ, ◌+ℤ◌, ◌*ℤ◌, neg_ℤ, ◌≤ℤ◌, ◌<ℤ◌, arith, inl, inr, ◌⊎◌, int_le}
use Rattle.std.proofs.{lemmas.Int.ints, lemmas.List.Elements.Contains-append_cases, lemmas.List.Elements.Contains-append_left, lemmas.List.Elements.Contains-append_right}
use Rattle.std.specs.List.{Contains, filter}
use Rattle.lra_cone.specs.Crates.lra_linear_spec.Cones.{Generated, Solves, both_ways, all_rows, AreDual}
use Rattle.lra_cone.specs.Crates.lra_linear_spec.LowestTerms.{IsPrimitive, IsLowest}
use Rattle.lra_cone.specs.Crates.lra_linear_spec.Vectors.{entry, dot, product, negated, signed_sum}
use Rattle.lra_cone.specs.Crates.{lra_linear_spec.Canonical.IsCanonical, lra_linear_spec.ConeStrain.IsIntersection, lra_linear_spec.Descriptions.HoldsWith}
use Rattle.lra_cone.proofs.Crates.lra_linear_spec.CanonicalForms.{lines_are_all, ray_extreme}
use Rattle.lra_cone.proofs.Crates.lra_linear_spec.Combinations.{generated_row, generated_zero, generated_same, generated_plus, generated_times, generated_divided}
use Rattle.lra_cone.proofs.Crates.lra_linear_spec.LinearMaps.{bent, generated_right, generated_through, generated_bent, generated_nonneg}
use Rattle.lra_cone.proofs.Crates.lra_linear_spec.Lines.{signed_from, signed_multiple, in_lines, in_lines_negated, lines_generated}
use Rattle.lra_cone.proofs.Crates.lra_linear_spec.Membership.{NoRepeat, contains_cases, contains_head, contains_tail, contains_split, contains_middle, filter_has, filter_from}
use Rattle.lra_cone.proofs.Crates.lra_linear_spec.Products.{entry_blend, blend_length, row_same, dot_linear, dot_same, dot_scale, dot_plus, dot_negated, negated_dot, negated_length, entry_negated}
use Rattle.lra_cone.proofs.Crates.lra_linear_spec.Redundancy.{drop_keeps, redundant_tight, kept_pointed, pair_pointed}
use Rattle.lra_cone.proofs.Crates.lra_linear_spec.Ring.{ring, v, ⊖, ◌⊕◌, ◌⊗◌, mul_nonnegative}
use Rattle.lra_cone.proofs.Crates.lra_linear_spec.Saturation.{NotAdjacent, TightToo, Beside, AdjacentStep}
use Rattle.lra_cone.proofs.Crates.lra_linear_spec.Signs.{as_nat, no_product, no_factor, cancel_same, positive_is_nonnegative, between_opposites, zero_at_least, cases_sign, above_zero, le_yes, le_said}
use Rattle.lra_cone.proofs.Crates.{lra_linear_spec.AdjacentPairs.adjacent_pairs_suffice, lra_linear_spec.Descriptions.holds_at_least, lra_linear_spec.DoubleDescription.pair}
use Rattle.lra_cone.proofs.Crates.{lra_linear_spec.DoubleDescription.StepOf, lra_linear_spec.Duality.dual_step, lra_linear_spec.FlatRows.generated_flat, lra_linear_spec.LowestTerms.same_multiple}
use Rattle.lra_double_description.proofs.PairLists.{not_below}

-- ---- the step
-- t is two adjacent rays on both sides of c combined, in lowest terms
pub record IsAdjacentSum (c : List ℤ) (system rays : List (List ℤ)) (t : List ℤ) : Type 0 where
  pub up : List ℤ
  pub down : List ℤ
  pub has_up : Contains rays up
  pub has_down : Contains rays down
  pub above : pos 0 <ℤ product c up
  pub below : product c down <ℤ pos 0
  pub adjacent : ¬ (NotAdjacent system rays up down)
  pub lowest : IsLowest (pair c up down) t

pub record RayCase (equal : Bool) (c : List ℤ) (system rays new : List (List ℤ)) : Type 0 where
  pub keeps : (r : List ℤ) → Contains rays r → HoldsWith equal (product c r) → Contains new r
  pub pairs : (u d : List ℤ) → Contains rays u → Contains rays d → pos 0 <ℤ product c u → product c d <ℤ pos 0 →
      NotAdjacent system rays u d ⊎ ((t : List ℤ) × Contains new t × IsLowest (pair c u d) t)
  pub from : (t : List ℤ) → Contains new t →
      (Contains rays t × HoldsWith equal (product c t)) ⊎ IsAdjacentSum c system rays t
  pub once : NoRepeat new

-- ---- lists without repeats
-- an element at one place stands at no other
pub other_place : {A : Type 0} (front : List A) (x : A) (back : List A) → NoRepeat (front ++ x ∷ back) → ¬ (Contains (front ++ back) x)
other_place [] x back n k = n.0 k
other_place (y ∷ front) x back n k = elim (contains_cases y x (front ++ back) k) [
  | inl e ↦ n.0 (subst (λ z. Contains (front ++ x ∷ back) z) (sym e) (Contains-append_right front (x ∷ back) x (contains_head x back)))
  | inr m ↦ other_place front x back n.1 m
]

-- an element other than the one at the place
pub beside_place : {A : Type 0} (front : List A) (x : A) (back : List A) (t : A) → Contains (front ++ x ∷ back) t → t ≢ x → Contains (front ++ back) t
beside_place front x back t k n = elim (Contains-append_cases front (x ∷ back) t k) [
  | inl m ↦ Contains-append_left front back t m
  | inr m ↦ elim (contains_cases x t back m) [ inl e ↦ absurd (n (sym e)) | inr o ↦ Contains-append_right front back t o ]
]

-- ---- numbers
-- if a sum of numbers that are not negative is 0, each is
first_zero : (a b z y : ℤ) → pos 0 <ℤ a → pos 0 ≤ℤ b → pos 0 ≤ℤ z → pos 0 ≤ℤ y → ((a *ℤ z) +ℤ (b *ℤ y)) ≡ pos 0 → z ≡ pos 0
first_zero a b z y ha hb hz hy e =
    no_factor z a ha (zero_part (z *ℤ a) (b *ℤ y) (mul_nonnegative z a hz (positive_is_nonnegative a ha)) (mul_nonnegative b y hb hy)
    (ring (v z ⊗ v a ⊕ v b ⊗ v y) (v a ⊗ v z ⊕ v b ⊗ v y) (omega arith) ∙ e))
  where
    zero_part : (p q : ℤ) → pos 0 ≤ℤ p → pos 0 ≤ℤ q → p +ℤ q ≡ pos 0 → p ≡ pos 0
    zero_part p q hp hq e = omega (arith, ints, hp, hq, e)

turned_above : (z : ℤ) → z <ℤ pos 0 → pos 0 <ℤ neg_ℤ z
turned_above z h = omega (arith, ints, h)

-- a u + b d with factors that are not negative
weighted : (rows : List (List ℤ)) (a b : ℤ) (u d : ℕ → ℤ) → pos 0 ≤ℤ a → pos 0 ≤ℤ b → Generated rows u → Generated rows d → Generated rows (λ j. (a *ℤ u j) +ℤ (b *ℤ d j))
weighted rows a b u d ha hb gu gd =
    let x = as_nat a ha in
    let y = as_nat b hb in
    generated_same rows (λ j. (pos x.0 *ℤ u j) +ℤ (pos y.0 *ℤ d j)) (λ j. (a *ℤ u j) +ℤ (b *ℤ d j))
    (λ j. ap (λ z. (z *ℤ u j) +ℤ (pos y.0 *ℤ d j)) (sym x.1) ∙ ap (λ z. (a *ℤ u j) +ℤ (z *ℤ d j)) (sym y.1))
    (generated_plus rows (λ j. pos x.0 *ℤ u j) (λ j. pos y.0 *ℤ d j) (generated_times rows x.0 u gu) (generated_times rows y.0 d gd))

-- lowest terms of one row are one row
lowest_same : (r t q : List ℤ) → IsLowest r t → IsLowest r q → IsPrimitive t → IsPrimitive q → q ≡ t
lowest_same r t q x y p o =
    let multiples : (j : ℕ) → pos y.times *ℤ entry q j ≡ pos x.times *ℤ entry t j = λ j. y.is_multiple j ∙ sym (x.is_multiple j) in
    let same : y.times ≡ x.times = same_multiple y.times x.times q t o p multiples in
    row_same q t (y.same_length ∙ sym x.same_length) (λ j. cancel_same y.times (entry q j) (entry t j) y.positive (multiples j ∙ ap (λ (n : ℕ). pos n *ℤ entry t j) (sym same)))

-- ---- dual descriptions with the same rows
-- the same rows in another order, or more than once
pub rows_same : (w : ℕ) (system rows others : List (List ℤ)) → ((t : List ℤ) → Contains rows t → Contains others t) → ((t : List ℤ) → Contains others t → Contains rows t) → AreDual w system rows →
    AreDual w system others
rows_same w system rows others to from d = record {
  system_widths = d.system_widths;
  row_widths = λ t m. d.row_widths t (from t m);
  solutions = λ u l h. generated_through others rows (entry u) (λ t m. generated_row others t (to t m)) (d.solutions u l h);
  consequences = λ c l h. d.consequences c l (λ t m. h t (to t m));
  meets = λ t m. d.meets t (from t m);
}

pub system_same : (w : ℕ) (system others rows : List (List ℤ)) → ((t : List ℤ) → Contains system t → Contains others t) → ((t : List ℤ) → Contains others t → Contains system t) →
    AreDual w system rows → AreDual w others rows
system_same w system others rows to from d = record {
  system_widths = λ c m. d.system_widths c (from c m);
  row_widths = d.row_widths;
  solutions = λ u l h. d.solutions u l (λ c m. h c (to c m));
  consequences = λ c l h. generated_through others system (entry c) (λ t m. generated_row others t (to t m)) (d.consequences c l h);
  meets = λ t m c n. d.meets t m c (from c n);
}

-- the first two exchanged
flip : (x y : List ℤ) (rows : List (List ℤ)) (t : List ℤ) → Contains (x ∷ y ∷ rows) t → Contains (y ∷ x ∷ rows) t
flip x y rows t m = elim (contains_cases x t (y ∷ rows) m) [
  | inl e ↦ subst (Contains (y ∷ x ∷ rows)) e (contains_tail y x (x ∷ rows) (contains_head x rows))
  | inr n ↦ elim (contains_cases y t rows n) [
    | inl e ↦ subst (Contains (y ∷ x ∷ rows)) e (contains_head y (x ∷ rows))
    | inr o ↦ contains_tail y t (x ∷ rows) (contains_tail x t rows o)
  ]
]

-- ---- rows that are the same or not
same_number : (x y : ℤ) → (x ≡ y) ⊎ (x ≢ y)
same_number x y = elim (cases_sign (x +ℤ neg_ℤ y)) [
  | inr low ↦ inr (λ e. below x y low e)
  | inl high ↦ elim (above_zero (x +ℤ neg_ℤ y) high) [ inl z ↦ inl (level x y z) | inr above ↦ inr (λ e. over x y above e) ]
]
  where
    below : (x y : ℤ) → (x +ℤ neg_ℤ y) <ℤ pos 0 → x ≡ y → ⊥
    below x y h e = omega (arith, ints, h, e)

    level : (x y : ℤ) → (x +ℤ neg_ℤ y) ≡ pos 0 → x ≡ y
    level x y e = omega (arith, ints, e)

    over : (x y : ℤ) → pos 0 <ℤ (x +ℤ neg_ℤ y) → x ≡ y → ⊥
    over x y h e = omega (arith, ints, h, e)

same_or_not : (xs ys : List ℤ) → (xs ≡ ys) ⊎ (xs ≢ ys)
same_or_not [] [] = inl refl
same_or_not [] (y ∷ ys) = inr (λ e. cc)
same_or_not (x ∷ xs) [] = inr (λ e. cc)
same_or_not (x ∷ xs) (y ∷ ys) = elim (same_number x y) [
  | inr n ↦ inr (λ e. n (cc))
  | inl e ↦ elim (same_or_not xs ys) [ inr n ↦ inr (λ f. n (cc)) | inl f ↦ inl (cc) ]
]

-- ---- lines
-- the opposite of what the lines generate
pub turned_lines : (lines : List (List ℤ)) (u : ℕ → ℤ) → Generated (both_ways lines) u → Generated (both_ways lines) (λ j. neg_ℤ (u j))
turned_lines lines u g =
    let both = both_ways lines in
    generated_same both (bent [] (negsuc 0) (λ j. pos 0) u) (λ j. neg_ℤ (u j)) (λ j. ring (v (negsuc 0) ⊗ v (u j) ⊕ v (pos 0) ⊗ v (pos 0)) (⊖ (v (u j))) (omega arith))
    (generated_bent [] (negsuc 0) (λ j. pos 0) both both u
    (λ r m.
    let s = signed_from lines r m in
    generated_same both (λ j. negsuc 0 *ℤ entry r j) (bent [] (negsuc 0) (λ j. pos 0) (entry r))
    (λ j. ring (v (negsuc 0) ⊗ v (entry r j)) (v (negsuc 0) ⊗ v (entry r j) ⊕ v (pos 0) ⊗ v (pos 0)) (omega arith))
    (signed_multiple lines s.line r (negsuc 0) s.has s.sign)) g)

-- ---- sums of two rays
module _ (w : ℕ) (c : List ℤ) (system lines rays : List (List ℤ)) (d : AreDual w system (all_rows lines rays)) (k : IsCanonical lines rays) where
  abbrev all : List (List ℤ)
  all = all_rows lines rays

  ray_in : (r : List ℤ) → Contains rays r → Contains all r
  ray_in r h = Contains-append_left rays (both_ways lines) r h

  same_width : (r t : List ℤ) → Contains rays r → Contains rays t → length r ≡ length t
  same_width r t h m = d.row_widths r (ray_in r h) ∙ sym (d.row_widths t (ray_in t m))

  -- no other ray is tight wherever a ray is
  pub only_itself : (r t : List ℤ) → Contains rays r → Contains rays t → t ≢ r → TightToo system (entry r) (entry t) → ⊥
  only_itself r t hr ht n tight =
      let s = contains_split rays r hr in
      k.needed s.front r s.back s.is
      (drop_keeps w system lines s.front r s.back (subst (λ (y : List (List ℤ)). AreDual w system (all_rows lines y)) s.is d)
      (subst (λ (y : List (List ℤ)). (q : List ℤ) → Contains y q → ¬ (Generated (all_rows lines y) (λ j. neg_ℤ (entry q j)))) s.is k.pointed)
      t (beside_place s.front r s.back t (subst (λ (y : List (List ℤ)). Contains y t) s.is ht) n) tight)

  module _ (t : List ℤ) (a : IsAdjacentSum c system rays t) where
    abbrev up_factor : ℤ
    up_factor = neg_ℤ (product c a.down)

    abbrev down_factor : ℤ
    down_factor = product c a.up

    up_positive : pos 0 <ℤ up_factor
    up_positive = turned_above (product c a.down) a.below

    pub sum_entry : (j : ℕ) → pos a.lowest.times *ℤ entry t j ≡ (up_factor *ℤ entry a.up j) +ℤ (down_factor *ℤ entry a.down j)
    sum_entry j = a.lowest.is_multiple j ∙ entry_blend up_factor down_factor a.up a.down (same_width a.up a.down a.has_up a.has_down) j

    sum_dot : (s : List ℤ) → pos a.lowest.times *ℤ dot s (entry t) ≡ (up_factor *ℤ dot s (entry a.up)) +ℤ (down_factor *ℤ dot s (entry a.down))
    sum_dot s =
        sym (dot_scale s (pos a.lowest.times) (entry t)) ∙ dot_same s (λ j. pos a.lowest.times *ℤ entry t j) (λ j. (up_factor *ℤ entry a.up j) +ℤ (down_factor *ℤ entry a.down j)) sum_entry ∙
        dot_linear s up_factor down_factor (entry a.up) (entry a.down)

    -- it is tight exactly if both rays are
    pub sum_tight : (s : List ℤ) → Contains system s → dot s (entry t) ≡ pos 0 → (dot s (entry a.up) ≡ pos 0) × (dot s (entry a.down) ≡ pos 0)
    sum_tight s m z =
        let x = dot s (entry a.up) in
        let y = dot s (entry a.down) in
        let hx : pos 0 ≤ℤ x = d.meets a.up (ray_in a.up a.has_up) s m in
        let hy : pos 0 ≤ℤ y = d.meets a.down (ray_in a.down a.has_down) s m in
        let e : ((up_factor *ℤ x) +ℤ (down_factor *ℤ y)) ≡ pos 0 = sym (sum_dot s) ∙ ap (λ q. pos a.lowest.times *ℤ q) z ∙ ring (v (pos a.lowest.times) ⊗ v (pos 0)) (v (pos 0)) (omega arith) in (
          first_zero up_factor down_factor x y up_positive (positive_is_nonnegative down_factor a.above) hx hy e,
          first_zero down_factor up_factor y x a.above (positive_is_nonnegative up_factor up_positive) hy hx
              (ring (v down_factor ⊗ v y ⊕ v up_factor ⊗ v x) (v up_factor ⊗ v x ⊕ v down_factor ⊗ v y) (omega arith) ∙ e),
        )

    pub tight_sum_of : (s : List ℤ) → dot s (entry a.up) ≡ pos 0 → dot s (entry a.down) ≡ pos 0 → dot s (entry t) ≡ pos 0
    tight_sum_of s e f =
        no_product a.lowest.times (dot s (entry t)) a.lowest.positive (sum_dot s ∙ ap (λ q. (up_factor *ℤ q) +ℤ (down_factor *ℤ dot s (entry a.down))) e ∙
        ap (λ q. (up_factor *ℤ pos 0) +ℤ (down_factor *ℤ q)) f ∙ ring (v up_factor ⊗ v (pos 0) ⊕ v down_factor ⊗ v (pos 0)) (v (pos 0)) (omega arith))

    pub sum_flat : product c t ≡ pos 0
    sum_flat =
        no_product a.lowest.times (dot c (entry t)) a.lowest.positive (sum_dot c ∙ ring (⊖ (v (product c a.down)) ⊗ v (product c a.up) ⊕ v (product c a.up) ⊗ v (product c a.down)) (v (pos 0))
        (omega arith))

    sum_inside : Generated all (entry t)
    sum_inside =
        generated_divided all a.lowest.times (entry t) a.lowest.positive
        (generated_same all (λ j. (up_factor *ℤ entry a.up j) +ℤ (down_factor *ℤ entry a.down j)) (λ j. pos a.lowest.times *ℤ entry t j) (λ j. sym (sum_entry j))
        (weighted all up_factor down_factor (entry a.up) (entry a.down) (positive_is_nonnegative up_factor up_positive) (positive_is_nonnegative down_factor a.above)
        (generated_row all a.up (ray_in a.up a.has_up)) (generated_row all a.down (ray_in a.down a.has_down))))

    sum_pointed : (new : List (List ℤ)) → ((u : ℕ → ℤ) → Generated new u → Generated all u) → ¬ (Generated new (λ j. neg_ℤ (entry t j)))
    sum_pointed new sub = pair_pointed all new sub a.up a.down t up_factor down_factor a.lowest.times (ray_in a.down a.has_down) (k.pointed a.up a.has_up) up_positive
        (positive_is_nonnegative down_factor a.above) sum_entry

    -- no ray on which c is tight is tight wherever both are
    pub none_between : (r : List ℤ) → Contains rays r → product c r ≡ pos 0 → ((s : List ℤ) → Contains system s → dot s (entry a.up) ≡ pos 0 → dot s (entry a.down) ≡ pos 0 → dot s (entry r) ≡ pos 0) →
        ⊥
    none_between r m z tight = a.adjacent (record {
      ray = r;
      has = m;
      not_p = λ e. above_not (product c r) (subst (λ (y : List ℤ). pos 0 <ℤ product c y) (sym e) a.above) z;
      not_n = λ e. below_not (product c r) (subst (λ (y : List ℤ). product c y <ℤ pos 0) (sym e) a.below) z;
      tight = tight;
    })
      where
        above_not : (z : ℤ) → pos 0 <ℤ z → z ≡ pos 0 → ⊥
        above_not z h e = omega (arith, ints, h, e)

        below_not : (z : ℤ) → z <ℤ pos 0 → z ≡ pos 0 → ⊥
        below_not z h e = omega (arith, ints, h, e)

  -- a sum that is tight wherever another is, is one of the same two rays
  pub same_two : (t q : List ℤ) (a : IsAdjacentSum c system rays t) (b : IsAdjacentSum c system rays q) → TightToo system (entry t) (entry q) → (¬ (b.up ≢ a.up)) × (¬ (b.down ≢ a.down))
  same_two t q a b tight = (
    λ n. a.adjacent (record {
      ray = b.up;
      has = b.has_up;
      not_p = n;
      not_n = λ e. sides (product c a.down) (subst (λ (y : List ℤ). pos 0 <ℤ product c y) e b.above) a.below;
      tight = λ s i e f. (sum_tight q b s i (tight s i (tight_sum_of t a s e f))).0;
    }),
    λ n. a.adjacent (record {
      ray = b.down;
      has = b.has_down;
      not_p = λ e. sides (product c a.up) a.above (subst (λ (y : List ℤ). product c y <ℤ pos 0) e b.below);
      not_n = n;
      tight = λ s i e f. (sum_tight q b s i (tight s i (tight_sum_of t a s e f))).1;
    }),
  )
    where
      sides : (z : ℤ) → pos 0 <ℤ z → z <ℤ pos 0 → ⊥
      sides z h i = omega (arith, ints, h, i)

  -- ---- the new description is canonical
  module _ (equal : Bool) (new : List (List ℤ)) (flat : (l : List ℤ) → Contains (both_ways lines) l → dot c (entry l) ≡ pos 0) (x : RayCase equal c system rays new) where
    abbrev target : List (List ℤ)
    target = all_rows lines new

    new_inside : (t : List ℤ) → Contains target t → Generated all (entry t)
    new_inside t m = elim (Contains-append_cases new (both_ways lines) t m) [
      | inl i ↦ elim (x.from t i) [ inl a ↦ generated_row all t (ray_in t a.0) | inr a ↦ sum_inside t a ]
      | inr i ↦ generated_row all t (Contains-append_right rays (both_ways lines) t i)
    ]

    pub new_sub : (u : ℕ → ℤ) → Generated target u → Generated all u
    new_sub u g = generated_through all target u new_inside g

    new_pointed : (t : List ℤ) → Contains new t → ¬ (Generated target (λ j. neg_ℤ (entry t j)))
    new_pointed t m = elim (x.from t m) [ inl a ↦ kept_pointed all target new_sub t (k.pointed t a.0) | inr a ↦ sum_pointed t a target new_sub ]

    new_lowest : (t : List ℤ) → Contains new t → IsPrimitive t
    new_lowest t m = elim (x.from t m) [
      | inl a ↦ k.lowest t a.0
      | inr a ↦ elim a.lowest.lowest [
        | inl p ↦ p
        | inr z ↦ absurd (new_pointed t m (generated_same target (λ j. pos 0) (λ j. neg_ℤ (entry t j)) (λ j. sym (ap neg_ℤ (z j))) (generated_zero target)))
      ]
    ]

    new_reduced : (t : List ℤ) → Contains new t → (q : ℕ) → Contains k.pivots q → entry t q ≡ pos 0
    new_reduced t m q i = elim (x.from t m) [
      | inl a ↦ k.reduced t a.0 q i
      | inr a ↦ no_product a.lowest.times (entry t q) a.lowest.positive (sum_entry t a q ∙ ap (λ z. (up_factor t a *ℤ z) +ℤ (down_factor t a *ℤ entry a.down q)) (k.reduced a.up a.has_up q i) ∙
          ap (λ z. (up_factor t a *ℤ pos 0) +ℤ (down_factor t a *ℤ z)) (k.reduced a.down a.has_down q i) ∙
          ring (v (up_factor t a) ⊗ v (pos 0) ⊕ v (down_factor t a) ⊗ v (pos 0)) (v (pos 0)) (omega arith))
    ]

    new_above : (t : List ℤ) → Contains new t → pos 0 ≤ℤ product c t
    new_above t m = elim (x.from t m) [ inl a ↦ holds_at_least equal (product c t) a.1 | inr a ↦ subst (λ z. pos 0 ≤ℤ z) (sym (sum_flat t a)) (omega (arith, ints)) ]

    new_meets : (t : List ℤ) → Contains target t → Solves (c ∷ system) (entry t)
    new_meets t m s i = elim (contains_cases c s system i) [
      | inl e ↦ subst (λ (y : List ℤ). pos 0 ≤ℤ dot y (entry t)) e (elim (Contains-append_cases new (both_ways lines) t m)
          [ inl n ↦ new_above t n | inr n ↦ subst (λ z. pos 0 ≤ℤ z) (sym (flat t n)) (omega (arith, ints)) ])
      | inr n ↦ generated_nonneg s all (entry t) (λ q o. d.meets q o s n) (new_inside t m)
    ]

    -- no other new ray is tight wherever one is
    new_clash : (t q : List ℤ) → Contains new t → Contains new q → q ≢ t → TightToo (c ∷ system) (entry t) (entry q) → ⊥
    new_clash t q mt mq n tight =
        let later : TightToo system (entry t) (entry q) = λ s i e. tight s (contains_tail c s system i) e in
        elim (x.from t mt) [
          | inl a ↦ elim (x.from q mq) [
            | inl b ↦ only_itself t q a.0 b.0 n later
            | inr b ↦ only_itself t b.down a.0 b.has_down (λ e. not_below (product c t) (holds_at_least equal (product c t) a.1) (subst (λ (y : List ℤ). product c y <ℤ pos 0) e b.below))
                (λ s i e. (sum_tight q b s i (later s i e)).1)
          ]
          | inr a ↦ elim (x.from q mq) [
            | inl b ↦ none_between t a q b.0 (tight c (contains_head c system) (sum_flat t a)) (λ s i e f. later s i (tight_sum_of t a s e f))
            | inr b ↦
                let two = same_two t q a b later in
                two.0 (λ e. two.1 (λ f. n (lowest_same (pair c a.up a.down) t q a.lowest (subst (λ (y : List ℤ). IsLowest (pair c a.up y) q) f
                (subst (λ (y : List ℤ). IsLowest (pair c y b.down) q) e b.lowest)) (new_lowest t mt) (new_lowest q mq))))
          ]
        ]

    new_needed : (front : List (List ℤ)) (t : List ℤ) (back : List (List ℤ)) → new ≡ front ++ t ∷ back → ¬ (Generated (all_rows lines (front ++ back)) (entry t))
    new_needed front t back is g =
        let others = front ++ back in
        let sub : (q : List ℤ) → Contains others q → Contains new q = λ q o. subst (λ (y : List (List ℤ)). Contains y q) (sym is) (contains_middle front t back q (contains_tail t q others o)) in
        let mt : Contains new t = subst (λ (y : List (List ℤ)). Contains y t) (sym is) (contains_middle front t back t (contains_head t others)) in
        let meets : (q : List ℤ) → Contains (all_rows lines others) q → Solves (c ∷ system) (entry q) = λ q o. new_meets q (elim (Contains-append_cases others (both_ways lines) q o) [
          | inl i ↦ Contains-append_left new (both_ways lines) q (sub q i)
          | inr i ↦ Contains-append_right new (both_ways lines) q i
        ]) in
        let off : ¬ (Generated (both_ways lines) (entry t)) = λ h. new_pointed t mt (generated_right new (both_ways lines) (λ j. neg_ℤ (entry t j)) (turned_lines lines (entry t) h)) in
        let r = redundant_tight w (c ∷ system) lines others t meets off g in
        new_clash t r.0 mt (sub r.0 r.1) (λ e. other_place front t back (subst NoRepeat is x.once) (subst (Contains others) e r.1)) r.2

    pub new_canonical : IsCanonical lines new
    new_canonical = record {
      pivots = k.pivots;
      echelon = k.echelon;
      reduced = new_reduced;
      lowest = new_lowest;
      needed = new_needed;
      pointed = new_pointed;
    }

    -- ---- and describes the cone at which c holds
    -- what lies on the lines is tight at the whole system
    line_tight : (t : List ℤ) → Contains (both_ways lines) t → (s : List ℤ) → Contains system s → dot s (entry t) ≡ pos 0
    line_tight t m s i =
        let l = signed_from lines t m in
        let at : (q : List ℤ) → Contains (both_ways lines) q → pos 0 ≤ℤ dot s (entry q) = λ q o. d.meets q (Contains-append_right rays (both_ways lines) q o) s i in
        let z : dot s (entry l.line) ≡ pos 0 = between_opposites (dot s (entry l.line)) (dot s (entry (negated l.line))) (dot_negated s l.line) (at l.line (in_lines lines l.line l.has))
        (at (negated l.line) (in_lines_negated lines l.line l.has)) in
        elim l.sign [ inl e ↦ ap (λ (y : List ℤ). dot s (entry y)) e ∙ z | inr e ↦ ap (λ (y : List ℤ). dot s (entry y)) e ∙ dot_negated s l.line ∙ ap neg_ℤ z ]

    -- rays that are the same up to a line are the same
    rays_distinct : (r t : List ℤ) → Contains rays r → Contains rays t → Beside (both_ways lines) r t → t ≡ r
    rays_distinct r t hr ht b = elim (same_or_not t r) [
      | inl e ↦ e
      | inr n ↦ absurd (only_itself r t hr ht n (λ s i e.
          no_product b.times (dot s (entry t)) b.positive
          (sym (dot_scale s (pos b.times) (entry t)) ∙ dot_same s (λ j. pos b.times *ℤ entry t j) (λ j. (pos b.other *ℤ entry r j) +ℤ b.line j) b.is_beside ∙
          dot_plus s (pos b.other) (entry r) b.line ∙
          ap (λ z. (pos b.other *ℤ z) +ℤ dot s b.line) e ∙ ap (λ z. (pos b.other *ℤ pos 0) +ℤ z) (generated_flat s (both_ways lines) b.line (λ q o. line_tight q o s i) b.on_line) ∙
          ring (v (pos b.other) ⊗ v (pos 0) ⊕ v (pos 0)) (v (pos 0)) (omega arith))))
    ]

    -- a vector that is tight at the whole system lies on the lines
    none_hidden : (u : List ℤ) → length u ≡ w → ((s : List ℤ) → Contains system s → dot s (entry u) ≡ pos 0) → Generated (both_ways lines) (entry u)
    none_hidden u lu tight =
        let here : Generated all (entry u) = d.solutions u lu (λ s i. zero_at_least (dot s (entry u)) (tight s i)) in
        let there : Generated all (λ j. neg_ℤ (entry u j)) =
        generated_same all (entry (negated u)) (λ j. neg_ℤ (entry u j)) (entry_negated u)
        (d.solutions (negated u) (negated_length u ∙ lu) (λ s i. zero_at_least (dot s (entry (negated u))) (dot_negated s u ∙ ap neg_ℤ (tight s i)))) in
        let g = lines_are_all lines rays k (entry u) here there in
        generated_divided (both_ways lines) g.multiple (entry u) g.positive (generated_same (both_ways lines) (signed_sum g.factors lines) (λ j. pos g.multiple *ℤ entry u j) (λ j. sym (g.is_sum j))
        (lines_generated lines g.factors))

    -- the rays of the inequality: those above c as well
    abbrev wide : List (List ℤ)
    wide = filter (λ r. int_le (pos 0) (product c r)) rays ++ new

    wide_has : (r : List ℤ) → Contains rays r → pos 0 ≤ℤ product c r → Contains wide r
    wide_has r m h = Contains-append_left (filter (λ r. int_le (pos 0) (product c r)) rays) new r (filter_has (λ r. int_le (pos 0) (product c r)) rays r m (sym (le_yes (product c r) h)))

    wide_new : (t : List ℤ) → Contains new t → Contains wide t
    wide_new t m = Contains-append_right (filter (λ r. int_le (pos 0) (product c r)) rays) new t m

    wide_from : (t : List ℤ) → Contains wide t → (Contains rays t × (pos 0 ≤ℤ product c t)) ⊎ Contains new t
    wide_from t m = elim (Contains-append_cases (filter (λ r. int_le (pos 0) (product c r)) rays) new t m) [
      | inl i ↦ let f = filter_from (λ r. int_le (pos 0) (product c r)) rays t i in inl (f.0, le_said (product c t) (sym f.1))
      | inr i ↦ inr i
    ]

    abbrev wide_target : List (List ℤ)
    wide_target = all_rows lines wide

    wide_inside : (t : List ℤ) → Contains wide_target t → Generated all (entry t)
    wide_inside t m = elim (Contains-append_cases wide (both_ways lines) t m) [
      | inl i ↦ elim (wide_from t i) [ inl a ↦ generated_row all t (ray_in t a.0) | inr n ↦ new_inside t (Contains-append_left new (both_ways lines) t n) ]
      | inr i ↦ generated_row all t (Contains-append_right rays (both_ways lines) t i)
    ]

    adjacent_step : AdjacentStep w c system rays (both_ways lines) wide_target
    adjacent_step = record {
      dual = d;
      line_flat = flat;
      extremes = λ r m. ray_extreme lines rays r k m;
      distinct = rays_distinct;
      reversed = turned_lines lines;
      hidden = none_hidden;
      keeps = λ r m h. generated_row wide_target r (Contains-append_left wide (both_ways lines) r (wide_has r m h));
      line_kept = λ l m. generated_row wide_target l (Contains-append_right wide (both_ways lines) l m);
      pairs = λ p n hp hn up down. elim (x.pairs p n hp hn up down) [
        | inl a ↦ inr a
        | inr t ↦ inl (generated_same wide_target (λ j. pos t.2.times *ℤ entry t.0 j) (entry (pair c p n)) t.2.is_multiple
            (generated_times wide_target t.2.times (entry t.0) (generated_row wide_target t.0 (Contains-append_left wide (both_ways lines) t.0 (wide_new t.0 t.1)))))
      ];
    }

    -- the step with the inequality c
    first_step : StepOf c all wide_target
    first_step = record {
      keeps = λ r m h. elim (Contains-append_cases rays (both_ways lines) r m) [
        | inl i ↦ generated_row wide_target r (Contains-append_left wide (both_ways lines) r (wide_has r i h))
        | inr i ↦ generated_row wide_target r (Contains-append_right wide (both_ways lines) r i)
      ];
      pairs = λ p n mp mn up down. elim (Contains-append_cases rays (both_ways lines) p mp) [
        | inr i ↦ absurd (above_not (product c p) up (flat p i))
        | inl hp ↦ elim (Contains-append_cases rays (both_ways lines) n mn) [
          | inr i ↦ absurd (below_not (product c n) down (flat n i))
          | inl hn ↦ generated_same wide_target (entry (pair c p n)) (λ j. (neg_ℤ (dot c (entry n)) *ℤ entry p j) +ℤ (dot c (entry p) *ℤ entry n j))
              (entry_blend (neg_ℤ (product c n)) (product c p) p n (same_width p n hp hn)) (adjacent_pairs_suffice adjacent_step p n hp hn up down)
        ]
      ];
      from = λ t m. elim (Contains-append_cases wide (both_ways lines) t m) [
        | inl i ↦ elim (wide_from t i) [
          | inl a ↦ inl (ray_in t a.0, a.1)
          | inr n ↦ elim (x.from t n) [ inl a ↦ inl (ray_in t a.0, holds_at_least equal (product c t) a.1) | inr a ↦ inr (sum_flat t a) ]
        ]
        | inr i ↦ inr (flat t i)
      ];
      inside = wide_inside;
    }
      where
        above_not : (z : ℤ) → pos 0 <ℤ z → z ≡ pos 0 → ⊥
        above_not z h e = omega (arith, ints, h, e)

        below_not : (z : ℤ) → z <ℤ pos 0 → z ≡ pos 0 → ⊥
        below_not z h e = omega (arith, ints, h, e)

    wide_width : (t : List ℤ) → Contains wide_target t → length t ≡ w
    wide_width t m = elim (Contains-append_cases wide (both_ways lines) t m) [
      | inl i ↦ elim (wide_from t i) [ inl a ↦ d.row_widths t (ray_in t a.0) | inr n ↦ new_width t n ]
      | inr i ↦ d.row_widths t (Contains-append_right rays (both_ways lines) t i)
    ]
      where
        new_width : (t : List ℤ) → Contains new t → length t ≡ w
        new_width t n = elim (x.from t n) [
          | inl a ↦ d.row_widths t (ray_in t a.0)
          | inr a ↦ a.lowest.same_length ∙ blend_length (up_factor t a) (down_factor t a) a.up a.down (same_width a.up a.down a.has_up a.has_down) ∙ d.row_widths a.up (ray_in a.up a.has_up)
        ]

    target_wide : (t : List ℤ) → Contains target t → Contains wide_target t
    target_wide t m = elim (Contains-append_cases new (both_ways lines) t m) [
      | inl i ↦ Contains-append_left wide (both_ways lines) t (wide_new t i)
      | inr i ↦ Contains-append_right wide (both_ways lines) t i
    ]

    -- of an inequality, the new rays have all that the wide ones have
    wide_target_new : equal ≡ false → (t : List ℤ) → Contains wide_target t → Contains target t
    wide_target_new e t m = elim (Contains-append_cases wide (both_ways lines) t m) [
      | inl i ↦ elim (wide_from t i) [
        | inl a ↦ Contains-append_left new (both_ways lines) t (x.keeps t a.0 (subst (λ b. HoldsWith b (product c t)) (sym e) a.1))
        | inr n ↦ Contains-append_left new (both_ways lines) t n
      ]
      | inr i ↦ Contains-append_right new (both_ways lines) t i
    ]

    -- of an equality, each new ray is flat, and the step with the opposite of c gives these
    target_flat : equal ≡ true → (t : List ℤ) → Contains target t → product c t ≡ pos 0
    target_flat e t m = elim (Contains-append_cases new (both_ways lines) t m) [
      | inl i ↦ elim (x.from t i) [ inl a ↦ subst (λ b. HoldsWith b (product c t)) e a.1 | inr a ↦ sum_flat t a ]
      | inr i ↦ flat t i
    ]

    wide_above : (t : List ℤ) → Contains wide_target t → pos 0 ≤ℤ product c t
    wide_above t m = elim (Contains-append_cases wide (both_ways lines) t m) [
      | inl i ↦ elim (wide_from t i) [ inl a ↦ a.1 | inr n ↦ new_above t n ]
      | inr i ↦ zero_at_least (product c t) (flat t i)
    ]

    second_step : equal ≡ true → StepOf (negated c) wide_target target
    second_step e = record {
      keeps = λ r m h. generated_row target r (elim (Contains-append_cases wide (both_ways lines) r m) [
        | inl i ↦ Contains-append_left new (both_ways lines) r (elim (wide_from r i) [
          | inl a ↦ x.keeps r a.0 (subst (λ b. HoldsWith b (product c r)) (sym e) (between_opposites (product c r) (dot (negated c) (entry r)) (negated_dot c (entry r)) a.1 h))
          | inr n ↦ n
        ])
        | inr i ↦ Contains-append_right new (both_ways lines) r i
      ]);
      pairs = λ p n mp mn up down. absurd (never (product c p) (subst (λ z. pos 0 <ℤ z) (negated_dot c (entry p)) up) (wide_above p mp));
      from = λ t m. inr (negated_dot c (entry t) ∙ ap neg_ℤ (target_flat e t m));
      inside = λ t m. generated_row wide_target t (target_wide t m);
    }
      where
        never : (z : ℤ) → pos 0 <ℤ neg_ℤ z → pos 0 ≤ℤ z → ⊥
        never z h i = omega (arith, ints, h, i)

    -- whatever system the old rows describe, the new ones describe it with c
    pub new_met : length c ≡ w → IsIntersection w equal c all target
    new_met lc = go equal refl
      where
        go : (b : Bool) → equal ≡ b → IsIntersection w b c all target
        go false e = λ other o. rows_same w (c ∷ other) wide_target target (wide_target_new e) target_wide (dual_step w c other all wide_target o lc wide_width first_step)
        go true e = λ other o.
            system_same w (negated c ∷ c ∷ other) (c ∷ negated c ∷ other) target (flip (negated c) c other) (flip c (negated c) other)
            (dual_step w (negated c) (c ∷ other) wide_target target (dual_step w c other all wide_target o lc wide_width first_step) (negated_length c ∙ lc) (λ t m. wide_width t (target_wide t m))
            (second_step e))
