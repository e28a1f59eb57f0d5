-- What is reported about a form bounds its value at each store, and is one thing.
use Rattle.std.proofs.Common.{◌≡◌, ◌≢◌, ◌∙◌, ◌⊎◌, ℤ, pos, neg_ℤ, ◌+ℤ◌, ◌*ℤ◌, ◌<ℤ◌, ◌≤ℤ◌, List, [], ◌∷◌, Option, None}
use Rattle.std.proofs.Common.{Some, inl, inr, ap, sym, refl, subst, arith}
use Rattle.std.proofs.lemmas.Int.{ints}
use Rattle.std.specs.{Cmp.int_cmp_is, Cmp.int_ranks, Int.int_div_euclid, Ordering.int_cmp, Ordering.MatchOrdering}
use Rattle.std.specs.{Prelude.option_map, declared.cmp.Ordering.Ordering, declared.cmp.Ordering.TheVariants.Equal}
use Rattle.lra_domain.specs.Bounds.{IsLowerBound, IsBetween, IsUpperBound}
use Rattle.lra_poly_domain.specs.Crates.lra_linear_forms.Form.{Form, form_row, form_value}
use Rattle.lra_linear_spec.specs.Vectors.{entry, negated, product}
use Rattle.lra_linear_spec.specs.{Descriptions.Con, Points.IsEmptySet, Polyhedra.Polyhedron}
use Rattle.lra_linear_spec.proofs.Products.{negated_dot}
use Rattle.lra_linear_spec.proofs.Ring.{mul_nonnegative, ring, v, ⊖, ◌⊕◌, ◌⊗◌}
use Rattle.lra_linear_spec.proofs.Signs.{as_nat, cases_sign, divide_nonnegative, positive_is_nonnegative, positive_nat}
use Rattle.lra_duality.specs.Maxima.{IsAtMost, IsGreatestValue}
use Rattle.lra_row.proofs.Ratio.{euclid, ratio_apart, rem_bounds}
use Rattle.lra_poly_domain.specs.Bounded.{IsGreatestRounded, IsLeastRounded, PolyhedronBounded}
use Rattle.lra_poly_domain.specs.Content.{PolyhedronGamma, polyhedron_parts}
use Rattle.lra_poly_domain.specs.{Covering.parts_empty, Covering.store_point, Reach.form_product}

-- ---- quotients rounded downwards
-- what is at most a fraction is at most its floor
floor_above : (num den z : ℤ) → pos 0 <ℤ den → (z *ℤ den) ≤ℤ num → z ≤ℤ int_div_euclid num den
floor_above num den z above h = elim (cases_sign (q +ℤ neg_ℤ z)) [
  | inl up ↦ omega (arith, ints, up)
  | inr down ↦
      let wide = mul_nonnegative (z +ℤ neg_ℤ q +ℤ neg_ℤ (pos 1)) den (omega (arith, ints, down))
      (positive_is_nonnegative den above) in
      let spread = ring ((v z ⊕ ⊖ (v q) ⊕ ⊖ (v (pos 1))) ⊗ v den) (v z ⊗ v den ⊕ ⊖ (v q ⊗ v den) ⊕ ⊖ (v den))
      (omega arith) in
      let whole = euclid num den above in
      let rest = rem_bounds num den above in
      let wrong : ⊥ = omega (arith, ints, h, wide, spread, whole, rest) in absurd wrong
]
  where
    q : ℤ
    q = int_div_euclid num den

-- the floors of one fraction are one
apart_low : (x y : ℤ) → (x +ℤ neg_ℤ y) <ℤ pos 0 → x ≢ y
apart_low x y h e = omega (arith, ints, h, e)

apart_high : (x y : ℤ) → (y +ℤ neg_ℤ x) <ℤ pos 0 → x ≢ y
apart_high x y h e = omega (arith, ints, h, e)

cases_same : (x y : ℤ) → (x ≡ y) ⊎ (x ≢ y)
cases_same x y = elim (cases_sign (x +ℤ neg_ℤ y)) [
  | inl up ↦ elim (cases_sign (y +ℤ neg_ℤ x)) [
    | inl down ↦ inl (omega (arith, ints, up, down))
    | inr low ↦ inr (apart_high x y low)
  ]
  | inr low ↦ inr (apart_low x y low)
]

equal_cmp : (x y : ℤ) → int_cmp x y ≡ Equal → x ≡ y
equal_cmp x y e = subst (λ (o : Ordering). MatchOrdering o (x <ℤ y) (x ≡ y) (y <ℤ x)) e (int_ranks x y)

floor_same : (n d m e : ℤ) → pos 0 <ℤ d → pos 0 <ℤ e → n *ℤ e ≡ m *ℤ d → int_div_euclid n d ≡ int_div_euclid m e
floor_same n d m e up too same = elim (cases_same (int_div_euclid n d) (int_div_euclid m e)) [
  | inl is ↦ is
  | inr other ↦ absurd (other (equal_cmp (int_div_euclid n d) (int_div_euclid m e)
      (ratio_apart n d m e up too other ∙ sym (int_cmp_is (n *ℤ e) (m *ℤ d) Equal same))))
]

-- ---- fractions
-- a factor above 0 is taken away
without : (k y z : ℤ) → pos 0 <ℤ k → z ≡ k *ℤ y → pos 0 ≤ℤ z → pos 0 ≤ℤ y
without k y z above e h =
    let n = as_nat k (positive_is_nonnegative k above) in
    divide_nonnegative n.0 y (positive_nat k n.0 above n.1)
    (subst (λ (x : ℤ). pos 0 ≤ℤ (x *ℤ y)) n.1 (subst (λ (x : ℤ). pos 0 ≤ℤ x) e h))

-- f / c is n / d, and at most m / e: so n / d is at most m / e
at_most_there : (f c n d m e : ℤ) → f *ℤ d ≡ n *ℤ c → (f *ℤ e) ≤ℤ (m *ℤ c) → pos 0 <ℤ d → pos 0 <ℤ c →
    (n *ℤ e) ≤ℤ (m *ℤ d)
at_most_there f c n d m e is most up above =
    let wide = mul_nonnegative ((m *ℤ c) +ℤ neg_ℤ (f *ℤ e)) d (omega (arith, ints, most))
    (positive_is_nonnegative d up) in
    let spread : ((m *ℤ c) +ℤ neg_ℤ (f *ℤ e)) *ℤ d ≡ c *ℤ ((m *ℤ d) +ℤ neg_ℤ (n *ℤ e)) =
    ring ((v m ⊗ v c ⊕ ⊖ (v f ⊗ v e)) ⊗ v d) (v m ⊗ v c ⊗ v d ⊕ ⊖ (v e ⊗ (v f ⊗ v d))) (omega arith) ∙
    ap (λ (z : ℤ). (m *ℤ c *ℤ d) +ℤ neg_ℤ (e *ℤ z)) is ∙
    ring (v m ⊗ v c ⊗ v d ⊕ ⊖ (v e ⊗ (v n ⊗ v c))) (v c ⊗ (v m ⊗ v d ⊕ ⊖ (v n ⊗ v e))) (omega arith) in
    let left = without c ((m *ℤ d) +ℤ neg_ℤ (n *ℤ e)) _ above spread wide in
    omega (arith, ints, left)

-- f / c is at most n / d, of which k is the floor: so f is at most (k + 1) c
past : (f c n d k : ℤ) → (f *ℤ d) ≤ℤ (n *ℤ c) → k ≡ int_div_euclid n d → pos 0 <ℤ d → pos 0 <ℤ c →
    (f *ℤ pos 1) ≤ℤ ((k +ℤ pos 1) *ℤ c)
past f c n d k most is up above =
    let whole = euclid n d up in
    let rest = rem_bounds n d up in
    let next = ring ((v k ⊕ v (pos 1)) ⊗ v d) (v k ⊗ v d ⊕ v d) (omega arith) in
    let same = ap (λ (z : ℤ). z *ℤ d) is in
    let wide = mul_nonnegative (((k +ℤ pos 1) *ℤ d) +ℤ neg_ℤ n) c (omega (arith, ints, whole, rest, next, same))
    (positive_is_nonnegative c above) in
    let spread = ring (((v k ⊕ v (pos 1)) ⊗ v d ⊕ ⊖ (v n)) ⊗ v c ⊕ (v n ⊗ v c ⊕ ⊖ (v f ⊗ v d)))
    (v d ⊗ ((v k ⊕ v (pos 1)) ⊗ v c ⊕ ⊖ (v f))) (omega arith) in
    let left = without d (((k +ℤ pos 1) *ℤ c) +ℤ neg_ℤ f) _ up spread (omega (arith, ints, wide, most)) in
    let one = ring (v f ⊗ v (pos 1)) (v f) (omega arith) in
    omega (arith, ints, left, one)

-- ---- values at stores
-- the greatest value, rounded, bounds the row's product with each store
under : (p : Polyhedron) (row : List ℤ) (high : Option ℤ) (s : List ℤ) → PolyhedronGamma p s →
    IsGreatestRounded p row high → IsUpperBound high (product row (pos 1 ∷ s))
under p row None s has is = tt
under p row (Some k) s has (num, den, g, same) =
    let most : IsAtMost row num den (pos 1 ∷ s) = g.greatest (pos 1 ∷ s) (store_point p.dims s has.0) has.1 in
    subst (λ (z : ℤ). product row (pos 1 ∷ s) ≤ℤ z) (sym same)
    (floor_above num den (product row (pos 1 ∷ s)) g.positive (whole num den (product row (pos 1 ∷ s)) most))
  where
    whole : (num den f : ℤ) → (f *ℤ den) ≤ℤ (num *ℤ pos 1) → (f *ℤ den) ≤ℤ num
    whole num den f h = let one = ring (v num ⊗ v (pos 1)) (v num) (omega arith) in omega (arith, ints, h, one)

above : (p : Polyhedron) (row : List ℤ) (low : Option ℤ) (s : List ℤ) → PolyhedronGamma p s → IsLeastRounded p row low →
    IsLowerBound low (product row (pos 1 ∷ s))
above p row low s has (None, is, same) =
    subst (λ (l : Option ℤ). IsLowerBound l (product row (pos 1 ∷ s))) (sym same) tt
above p row low s has (Some k, is, same) =
    let most = under p (negated row) (Some k) s has is in
    subst (λ (l : Option ℤ). IsLowerBound l (product row (pos 1 ∷ s))) (sym same)
    (turned k (product (negated row) (pos 1 ∷ s)) (product row (pos 1 ∷ s)) (negated_dot row (entry (pos 1 ∷ s))) most)
  where
    turned : (k y z : ℤ) → y ≡ neg_ℤ z → y ≤ℤ k → neg_ℤ k ≤ℤ z
    turned k y z e h = omega (arith, ints, e, h)

pub bounded_between : (p : Polyhedron) (f : Form) (l h : Option ℤ) (s : List ℤ) → PolyhedronBounded p f l h →
    PolyhedronGamma p s → IsBetween l h (form_value f s)
bounded_between p f l h s (inl none) has =
    subst (λ (x : Option ℤ). IsBetween x h (form_value f s)) (sym none.1)
    (subst (λ (x : Option ℤ). IsBetween None x (form_value f s)) (sym none.2) (tt, tt))
bounded_between p f l h s (inr some) has = subst (IsBetween l h) (form_product f s)
    (above p (form_row f) l s has some.1, under p (form_row f) h s has some.2)

-- ---- one thing is reported
-- there is no greatest value if there is no point, or no bound
not_greatest : (p : Polyhedron) (row : List ℤ) (k : ℤ) → IsGreatestRounded p row None →
    ¬ IsGreatestRounded p row (Some k)
not_greatest p row k (inl empty) (num, den, g, same) = empty g.point g.is_point g.inside
not_greatest p row k (inr free) (num, den, g, same) =
    free (k +ℤ pos 1) (λ x i c. past (product row x) (entry x 0) num den k (g.greatest x i c) same g.positive i.divisor)

one_greatest : (p : Polyhedron) (row : List ℤ) (h k : Option ℤ) → IsGreatestRounded p row h →
    IsGreatestRounded p row k → h ≡ k
one_greatest p row None None a b = refl
one_greatest p row None (Some k) a b = absurd (not_greatest p row k a b)
one_greatest p row (Some h) None a b = absurd (not_greatest p row h b a)
one_greatest p row (Some h) (Some k) (n, d, g, e) (m, c, i, f) =
    ap Some (e ∙ floor_same n d m c g.positive i.positive (one_value p row n d m c g i) ∙ sym f)
  where
    -- each is at most the other at the point where that is the value
    one_value : (p : Polyhedron) (row : List ℤ) (n d m e : ℤ) → IsGreatestValue p row n d → IsGreatestValue p row m e →
        n *ℤ e ≡ m *ℤ d
    one_value p row n d m e g h =
        let low = at_most_there (product row g.point) (entry g.point 0) n d m e g.value
        (h.greatest g.point g.is_point g.inside) g.positive g.is_point.divisor in
        let high = at_most_there (product row h.point) (entry h.point 0) m e n d h.value
        (g.greatest h.point h.is_point h.inside) h.positive h.is_point.divisor in
        omega (arith, ints, low, high)

one_least : (p : Polyhedron) (row : List ℤ) (l j : Option ℤ) → IsLeastRounded p row l → IsLeastRounded p row j → l ≡ j
one_least p row l j a b =
    a.2 ∙ ap (option_map neg_ℤ) (one_greatest p (negated row) a.0 b.0 a.1 b.1) ∙ sym b.2

pub one_told : (p : Polyhedron) (f : Form) (l h j k : Option ℤ) → PolyhedronBounded p f l h →
    PolyhedronBounded p f j k → (l ≡ j) × (h ≡ k)
one_told p f l h j k (inl a) (inl b) = (a.1 ∙ sym b.1, a.2 ∙ sym b.2)
one_told p f l h j k (inl a) (inr b) = absurd (b.0 a.0)
one_told p f l h j k (inr a) (inl b) = absurd (a.0 b.0)
one_told p f l h j k (inr a) (inr b) =
    (one_least p (form_row f) l j a.1 b.1, one_greatest p (form_row f) h k a.2 b.2)

-- nothing is reported about a polyhedron without parts
none_greatest : (p : Polyhedron) (row : List ℤ) (h : Option ℤ) → IsEmptySet p.dims (Con p.rows) →
    IsGreatestRounded p row h → h ≡ None
none_greatest p row None empty is = refl
none_greatest p row (Some k) empty (num, den, g, same) = absurd (empty g.point g.is_point g.inside)

pub nothing_told : (p : Polyhedron) (f : Form) (l h : Option ℤ) → polyhedron_parts p ≡ [] → PolyhedronBounded p f l h →
    (l ≡ None) × (h ≡ None)
nothing_told p f l h e (inl none) = (none.1, none.2)
nothing_told p f l h e (inr some) =
    let empty = parts_empty p p.dims e in (
      some.1.2 ∙ ap (option_map neg_ℤ) (none_greatest p (negated (form_row f)) some.1.0 empty some.1.1),
      none_greatest p (form_row f) h empty some.2,
    )
