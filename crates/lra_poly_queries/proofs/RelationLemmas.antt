-- What the generators say of the signs that a form takes on a polyhedron.
use Rattle.std.proofs.Common.{◌≡◌, ◌≢◌, ◌⊎◌, ℕ, suc, ◌+◌, Bool, true, false, List, [], ◌∷◌, length, ap, refl, sym, ◌∙◌, subst, ℤ, pos, negsuc, neg_ℤ, ◌+ℤ◌, ◌*ℤ◌, ◌<ℤ◌, ◌≤ℤ◌, inl, inr, arith}
use Rattle.std.proofs.{lemmas.Int.ints, lemmas.List.Elements.All-contains}
use Rattle.std.specs.{List.All, List.Contains, List.list_all, Prelude.◌↔◌, Prelude.IsTrue, Prelude.unsigned_abs}
use Rattle.lra_poly_queries.specs.Crates.lra_linear_spec.Descriptions.{LinearRow, Con, HoldsWith, equality, inequality, system_of}
use Rattle.lra_poly_queries.specs.Crates.lra_linear_spec.Polyhedra.{HasPoint, IsPolyhedron, Polyhedron, positivity}
use Rattle.lra_poly_queries.specs.Crates.lra_linear_spec.Vectors.{blend, entry, negated, product}
use Rattle.lra_poly_queries.specs.Crates.{lra_linear_spec.Points.IsPoint, lra_linear_spec.SetOperations.ValidOn, lra_linear_spec.Widening.holds_with}
use Rattle.lra_poly_queries.proofs.Crates.lra_linear_spec.Descriptions.{FromGiven, gen_generated, generated_gen, system_from, system_has}
use Rattle.lra_poly_queries.proofs.Crates.lra_linear_spec.Membership.{contains_cases, contains_none, all_from, list_all_at, list_all_from}
use Rattle.lra_poly_queries.proofs.Crates.lra_linear_spec.Polyhedra.{con_gen, generators_are_generators}
use Rattle.lra_poly_queries.proofs.Crates.lra_linear_spec.Products.{blend_length, entry_blend, entry_negated, negated_dot, negated_length, product_comm}
use Rattle.lra_poly_queries.proofs.Crates.lra_linear_spec.Ring.{mul_nonnegative, ring, v, ⊖, ◌⊕◌, ◌⊗◌}
use Rattle.lra_poly_queries.proofs.Crates.lra_linear_spec.SetOperations.{has_vertex, valid_on_rows, blend_product}
use Rattle.lra_poly_queries.proofs.Crates.lra_linear_spec.Signs.{above_zero, add_nonnegative, between_opposites, cases_sign, not_both, opposite_of_zero, positive_is_nonnegative, times_positive}
use Rattle.lra_poly_queries.proofs.Crates.lra_linear_spec.Signs.{zero_at_least}
use Rattle.lra_poly_queries.proofs.Crates.{lra_duality.PolyhedronLemmas.falsity_is_empty, lra_linear_spec.Combinations.generated_row, lra_linear_spec.LinearMaps.generated_nonneg}
use Rattle.lra_poly_queries.proofs.Crates.{lra_linear_spec.Lines.zeros_length, lra_linear_spec.OneSpelling.positivity_product, lra_linear_spec.Widening.valid_decides}
use Rattle.lra_poly_queries.specs.Relations.{AreMissed, HoldsNowhere, IsRelation, MissesZero, StaysAbove, StaysBelow}
use Rattle.lra_poly_queries.specs.{declared.relation.Missed.Missed, declared.relation.Relation.Relation}

-- ---- products with sums of multiples

product_blend : (a b : ℤ) (c x y : List ℤ) → length x ≡ length y →
    product c (blend a b x y) ≡ (a *ℤ product c x) +ℤ (b *ℤ product c y)
product_blend a b c x y e =
    product_comm c (blend a b x y) ∙ blend_product a b x y c e
    ∙ ap (λ (z : ℤ). (a *ℤ z) +ℤ (b *ℤ product y c)) (product_comm x c)
    ∙ ap (λ (z : ℤ). (a *ℤ product c x) +ℤ (b *ℤ z)) (product_comm y c)

-- ---- an inequality that each generator meets
all_true : {A : Type 0} (test : A → Bool) (xs : List A) → All (λ x. IsTrue (test x)) xs → list_all test xs ≡ true
all_true test xs h = list_all_from test xs (λ x k. All-contains (λ y. IsTrue (test y)) xs x h k)

true_all : {A : Type 0} (test : A → Bool) (xs : List A) → list_all test xs ≡ true → All (λ x. IsTrue (test x)) xs
true_all test xs h = all_from (λ x. IsTrue (test x)) xs (λ x k. list_all_at test xs h x k)

pub valid_where : (p : Polyhedron) → IsPolyhedron p → (r : LinearRow) →
    All (λ g. IsTrue (holds_with r g)) p.generators ↔ ValidOn p.dims (Con p.rows) r
valid_where p (inl none) r = (
  λ h x i c. absurd (falsity_is_empty p.dims p.rows none.0 x i c),
  λ v. all_from (λ g. IsTrue (holds_with r g)) p.generators
      (λ g k. absurd (contains_none g (subst (λ (l : List LinearRow). Contains l g) none.1 k))),
)
valid_where p (inr h) r = (
  λ a. (valid_decides p h r).0 (all_true (holds_with r) p.generators a),
  λ u. true_all (holds_with r) p.generators ((valid_decides p h r).1 u),
)

-- ---- the points of a polyhedron
point_inside : (p : Polyhedron) (h : HasPoint p) (g : LinearRow) → Contains p.generators g → pos 0 <ℤ entry g.row 0 →
    IsPoint p.dims g.row × Con p.rows g.row
point_inside p h g k d =
    let m : Contains (system_of p.generators) g.row = system_has p.generators g k in
    let i : IsPoint p.dims g.row = record { width = (has_vertex p h).widths g.row m; divisor = d } in (
      i,
      (con_gen p (inr h)).1 g.row i
          (generated_gen p.generators (entry g.row) (generated_row (system_of p.generators) g.row m)),
    )

-- if no point of the set has the form 0, no generator does
pub misses_where : (p : Polyhedron) → IsPolyhedron p → (form : List ℤ) →
    ((x : List ℤ) → IsPoint p.dims x → Con p.rows x → product form x ≢ pos 0) → All (MissesZero form) p.generators
misses_where p (inl none) form n = all_from (MissesZero form) p.generators
    (λ g k. absurd (contains_none g (subst (λ (l : List LinearRow). Contains l g) none.1 k)))
misses_where p (inr h) form n = all_from (MissesZero form) p.generators
    (λ g k both. let q = point_inside p h g k both.0 in n g.row q.0 q.1 both.1)

-- ---- a form that is above 0 at each point of a description, and doesn't fall along its rays and lines
-- at least each divisor
most_divisor : List LinearRow → ℕ
most_divisor [] = 0
most_divisor (g ∷ gs) = unsigned_abs (entry g.row 0) + most_divisor gs

divisor_at_most : (list : List LinearRow) (g : LinearRow) → Contains list g → entry g.row 0 ≤ℤ pos (most_divisor list)
unfolding most_divisor
divisor_at_most [] g k = absurd (contains_none g k)
divisor_at_most (f ∷ list) g k = elim (contains_cases f g list k) [
  | inl e ↦ subst (λ (t : LinearRow). entry t.row 0 ≤ℤ pos (unsigned_abs (entry f.row 0) + most_divisor list)) e
      (own (entry f.row 0) (most_divisor list))
  | inr m ↦ later (entry g.row 0) (unsigned_abs (entry f.row 0)) (most_divisor list) (divisor_at_most list g m)
]
  where
    own : (z : ℤ) (n : ℕ) → z ≤ℤ pos (unsigned_abs z + n)
    own z n = omega (arith, ints)

    later : (z : ℤ) (m n : ℕ) → z ≤ℤ pos n → z ≤ℤ pos (m + n)
    later z m n h = omega (arith, ints, h)

times_at_least : (d z f : ℤ) → pos 0 ≤ℤ d → pos 0 <ℤ f → z ≤ℤ d → pos 0 ≤ℤ ((d *ℤ f) +ℤ (negsuc 0 *ℤ z))
times_at_least d z f h up most =
    let k = mul_nonnegative d (f +ℤ negsuc 0) h (less f up) in
    let e : d *ℤ (f +ℤ negsuc 0) ≡ (d *ℤ f) +ℤ (negsuc 0 *ℤ d) =
    ring (v d ⊗ (v f ⊕ v (negsuc 0))) (v d ⊗ v f ⊕ v (negsuc 0) ⊗ v d) (omega arith) in
    more (d *ℤ f) d z (subst (λ (y : ℤ). pos 0 ≤ℤ y) e k) most
  where
    less : (f : ℤ) → pos 0 <ℤ f → pos 0 ≤ℤ (f +ℤ negsuc 0)
    less f h = omega (arith, ints, h)

    more : (t d z : ℤ) → pos 0 ≤ℤ (t +ℤ (negsuc 0 *ℤ d)) → z ≤ℤ d → pos 0 ≤ℤ (t +ℤ (negsuc 0 *ℤ z))
    more t d z h k = omega (arith, ints, h, k)

level_at_least : (d z f : ℤ) → pos 0 ≤ℤ d → pos 0 ≤ℤ f → z ≡ pos 0 → pos 0 ≤ℤ ((d *ℤ f) +ℤ (negsuc 0 *ℤ z))
level_at_least d z f h up level = same (d *ℤ f) z (mul_nonnegative d f h up) level
  where
    same : (t z : ℤ) → pos 0 ≤ℤ t → z ≡ pos 0 → pos 0 ≤ℤ (t +ℤ (negsuc 0 *ℤ z))
    same t z h e = omega (arith, ints, h, e)

positive_where : (d : ℕ) (z f : ℤ) → pos 0 <ℤ z → pos 0 ≤ℤ ((pos d *ℤ f) +ℤ (negsuc 0 *ℤ z)) → pos 0 ≤ℤ f → pos 0 <ℤ f
positive_where d z f up h low = elim (above_zero f low) [
  | inl e ↦ absurd (none (pos d *ℤ f) z up h (nothing d f e))
  | inr more ↦ more
]
  where
    nothing : (d : ℕ) (f : ℤ) → f ≡ pos 0 → pos d *ℤ f ≡ pos 0
    nothing d f e = ap (λ (y : ℤ). pos d *ℤ y) e ∙ ring (v (pos d) ⊗ v (pos 0)) (v (pos 0)) (omega arith)

    none : (t z : ℤ) → pos 0 <ℤ z → pos 0 ≤ℤ (t +ℤ (negsuc 0 *ℤ z)) → t ≡ pos 0 → ⊥
    none t z up h e = omega (arith, ints, up, h, e)

-- so it is above 0 at each point
pub above_on_all : (p : Polyhedron) → IsPolyhedron p → (form : List ℤ) → length form ≡ suc p.dims →
    All (StaysAbove form) p.generators → All (MissesZero form) p.generators → (x : List ℤ) → IsPoint p.dims x →
    Con p.rows x → pos 0 <ℤ product form x
above_on_all p (inl none) form e above missed x i c = absurd (falsity_is_empty p.dims p.rows none.0 x i c)
above_on_all p (inr h) form e above missed x i c =
    positive_where d (entry x 0) (product form x) i.divisor
    (subst (λ (z : ℤ). pos 0 ≤ℤ z) (turned x)
    (generated_nonneg row (system_of p.generators) (entry x) on_rows
    (gen_generated p.generators (entry x) ((con_gen p (inr h)).0 x i c))))
    (valid x i c)
  where
    d : ℕ
    d = most_divisor p.generators

    row : List ℤ
    row = blend (pos d) (negsuc 0) form (positivity p.dims)

    valid : ValidOn p.dims (Con p.rows) (inequality form)
    valid = (valid_where p (inr h) (inequality form)).0 above

    turned : (t : List ℤ) → product row t ≡ (pos d *ℤ product form t) +ℤ (negsuc 0 *ℤ entry t 0)
    turned t = blend_product (pos d) (negsuc 0) form (positivity p.dims) t (e ∙ sym (ap suc (zeros_length p.dims)))
        ∙ ap (λ (z : ℤ). (pos d *ℤ product form t) +ℤ (negsuc 0 *ℤ z)) (positivity_product p.dims t)

    nonneg : (t : List ℤ) → Contains (system_of p.generators) t → pos 0 ≤ℤ product form t
    nonneg = valid_on_rows p.dims p.generators (has_vertex p h) form
        (λ y is_point gen. valid y is_point ((con_gen p (inr h)).1 y is_point gen))

    at_point : (t : List ℤ) → Contains (system_of p.generators) t → pos 0 <ℤ entry t 0 → FromGiven p.generators t →
        pos 0 ≤ℤ ((pos d *ℤ product form t) +ℤ (negsuc 0 *ℤ entry t 0))
    at_point t k up f = elim f.sign [
      | inl s ↦ times_at_least (pos d) (entry t 0) (product form t) (omega (arith, ints))
          (elim (above_zero (product form t) (nonneg t k)) [
            | inl z ↦ absurd (All-contains (MissesZero form) p.generators f.given missed f.has (
              subst (λ (r : List ℤ). pos 0 <ℤ entry r 0) s up,
              subst (λ (r : List ℤ). product form r ≡ pos 0) s z,
            ))
            | inr more ↦ more
          ])
          (subst (λ (r : List ℤ). entry r 0 ≤ℤ pos d) (sym s) (divisor_at_most p.generators f.given f.has))
      | inr s ↦ absurd (of_line f.given f.has s.0 (subst (λ (r : List ℤ). pos 0 <ℤ entry r 0) s.1 up))
    ]
      where
        no_level : (z y : ℤ) → y ≡ neg_ℤ z → z ≡ pos 0 → pos 0 <ℤ y → ⊥
        no_level z y e f h = omega (arith, ints, e, f, h)

        of_line : (g : LinearRow) → Contains p.generators g → g.equal ≡ true → pos 0 <ℤ entry (negated g.row) 0 → ⊥
        of_line g m l up = elim (generators_are_generators p (inr h) g m) [
          | inl point ↦ (let z : true ≡ false = sym l ∙ point.0 in cc)
          | inr level ↦ no_level (entry g.row 0) (entry (negated g.row) 0) (entry_negated g.row 0) level up
        ]

    on_rows : (t : List ℤ) → Contains (system_of p.generators) t → pos 0 ≤ℤ product row t
    on_rows t k = subst (λ (z : ℤ). pos 0 ≤ℤ z) (sym (turned t)) (elim ((has_vertex p h).columns t k) [
      | inl up ↦ at_point t k up (system_from p.generators t k)
      | inr level ↦ level_at_least (pos d) (entry t 0) (product form t) (omega (arith, ints)) (nonneg t k) level
    ])

-- ---- the opposite of a form
turned_up : (z y : ℤ) → y ≡ neg_ℤ z → pos 0 <ℤ y → pos 0 ≤ℤ z → ⊥
turned_up z y e h k = omega (arith, ints, e, h, k)

turned_down : (z y : ℤ) → y ≡ neg_ℤ z → z <ℤ pos 0 → pos 0 ≤ℤ y
turned_down z y e h = omega (arith, ints, e, h)

turned_back : (z y : ℤ) → y ≡ neg_ℤ z → y <ℤ pos 0 → pos 0 <ℤ z
turned_back z y e h = omega (arith, ints, e, h)

turned_zero : (z y : ℤ) → y ≡ neg_ℤ z → y ≡ pos 0 → z ≡ pos 0
turned_zero z y e h = omega (arith, ints, e, h)

misses_opposite : (form : List ℤ) (list : List LinearRow) → All (MissesZero form) list → All (MissesZero (negated form)) list
misses_opposite form list missed = all_from (MissesZero (negated form)) list (λ g k both.
    All-contains (MissesZero form) list g missed k
    (both.0, turned_zero (product form g.row) (product (negated form) g.row) (negated_dot form (entry g.row)) both.1))

below_on_all : (p : Polyhedron) → IsPolyhedron p → (form : List ℤ) → length form ≡ suc p.dims →
    All (StaysBelow form) p.generators → All (MissesZero form) p.generators → (x : List ℤ) → IsPoint p.dims x →
    Con p.rows x → pos 0 ≤ℤ product form x → ⊥
below_on_all p h form e below missed x i c =
    turned_up (product form x) (product (negated form) x) (negated_dot form (entry x))
    (above_on_all p h (negated form) (negated_length form ∙ e) below (misses_opposite form p.generators missed) x i c)

-- ---- between two points with values of either sign
holds_sum : (b : Bool) (s t u w : ℤ) → pos 0 ≤ℤ s → pos 0 ≤ℤ t → HoldsWith b u → HoldsWith b w →
    HoldsWith b ((s *ℤ u) +ℤ (t *ℤ w))
holds_sum true s t u w hs ht e f =
    ap (λ (z : ℤ). (s *ℤ z) +ℤ (t *ℤ w)) e ∙ ap (λ (z : ℤ). (s *ℤ pos 0) +ℤ (t *ℤ z)) f
    ∙ ring (v s ⊗ v (pos 0) ⊕ v t ⊗ v (pos 0)) (v (pos 0)) (omega arith)
holds_sum false s t u w hs ht e f =
    add_nonnegative (s *ℤ u) (t *ℤ w) (mul_nonnegative s u hs e) (mul_nonnegative t w ht f)

con_blend : (rows : List LinearRow) (s t : ℤ) (x y : List ℤ) → pos 0 ≤ℤ s → pos 0 ≤ℤ t → length x ≡ length y →
    Con rows x → Con rows y → Con rows (blend s t x y)
con_blend rows s t x y hs ht e cx cy g k =
    subst (λ (z : ℤ). HoldsWith g.equal z) (sym (product_blend s t g.row x y e))
    (holds_sum g.equal s t (product g.row x) (product g.row y) hs ht (cx g k) (cy g k))

crossing : (p : Polyhedron) (form x y : List ℤ) → HoldsNowhere p (equality form) → IsPoint p.dims x → Con p.rows x →
    IsPoint p.dims y → Con p.rows y → product form x <ℤ pos 0 → pos 0 <ℤ product form y → ⊥
crossing p form x y n ix cx iy cy down up =
    n (blend s t x y) (record {
      width = blend_length s t x y same ∙ ix.width;
      divisor = subst (λ (z : ℤ). pos 0 <ℤ z) (sym (entry_blend s t x y same 0))
          (sum_above (s *ℤ entry x 0) (t *ℤ entry y 0) (times_positive s (entry x 0) up ix.divisor)
          (times_positive t (entry y 0) (opposite_above (product form x) down) iy.divisor));
    }) (
      con_blend p.rows s t x y (positive_is_nonnegative s up)
          (positive_is_nonnegative t (opposite_above (product form x) down)) same cx cy,
      product_blend s t form x y same ∙ crossed (product form x) (product form y),
    )
  where
    s : ℤ
    s = product form y

    t : ℤ
    t = neg_ℤ (product form x)

    same : length x ≡ length y
    same = ix.width ∙ sym iy.width

    sum_above : (a b : ℤ) → pos 0 <ℤ a → pos 0 <ℤ b → pos 0 <ℤ (a +ℤ b)
    sum_above a b h k = omega (arith, ints, h, k)

    opposite_above : (z : ℤ) → z <ℤ pos 0 → pos 0 <ℤ neg_ℤ z
    opposite_above z h = omega (arith, ints, h)

    crossed : (a b : ℤ) → (b *ℤ a) +ℤ (neg_ℤ a *ℤ b) ≡ pos 0
    crossed a b = ring (v b ⊗ v a ⊕ ⊖ (v a) ⊗ v b) (v (pos 0)) (omega arith)

-- if no point has the value 0, the form doesn't take both signs
one_side : (p : Polyhedron) (form : List ℤ) → HoldsNowhere p (equality form) →
    ¬ (ValidOn p.dims (Con p.rows) (inequality form)) →
    ¬ (ValidOn p.dims (Con p.rows) (inequality (negated form))) → ⊥
one_side p form n a b = a (λ x i c. elim (cases_sign (product form x)) [
  | inl low ↦ low
  | inr down ↦ absurd (b (λ y j k. elim (cases_sign (product (negated form) y)) [
    | inl low ↦ low
    | inr up ↦ absurd (crossing p form x y n i c j k down
        (turned_back (product form y) (product (negated form) y) (negated_dot form (entry y)) up))
  ]))
])

-- ---- what the four answers report
flat_where : (p : Polyhedron) → IsPolyhedron p → (form : List ℤ) →
    (All (StaysAbove form) p.generators × All (StaysBelow form) p.generators) ↔
    ValidOn p.dims (Con p.rows) (equality form)
flat_where p h form = (
  λ both x i c. between_opposites (product form x) (product (negated form) x) (negated_dot form (entry x))
      ((valid_where p h (inequality form)).0 both.0 x i c)
      ((valid_where p h (inequality (negated form))).0 both.1 x i c),
  λ u. (
    (valid_where p h (inequality form)).1 (λ x i c. zero_at_least (product form x) (u x i c)),
    (valid_where p h (inequality (negated form))).1 (λ x i c.
        opposite_of_zero (product form x) (product (negated form) x) (negated_dot form (entry x)) (u x i c)),
  ),
)

nowhere_at_least : (p : Polyhedron) → IsPolyhedron p → (form : List ℤ) → length form ≡ suc p.dims →
    (All (MissesZero form) p.generators × All (StaysBelow form) p.generators) ↔ HoldsNowhere p (inequality form)
nowhere_at_least p h form e = (
  λ both x i k. below_on_all p h form e both.1 both.0 x i k.0 k.1,
  λ n. (
    misses_where p h form (λ x i c z. n x i (c, zero_at_least (product form x) z)),
    (valid_where p h (inequality (negated form))).1 (λ x i c. elim (cases_sign (product form x)) [
      | inl low ↦ absurd (n x i (c, low))
      | inr down ↦ turned_down (product form x) (product (negated form) x) (negated_dot form (entry x)) down
    ]),
  ),
)

nowhere_zero : (p : Polyhedron) → IsPolyhedron p → (form : List ℤ) → length form ≡ suc p.dims →
    All (MissesZero form) p.generators → All (StaysAbove form) p.generators ⊎ All (StaysBelow form) p.generators →
    HoldsNowhere p (equality form)
nowhere_zero p h form e missed (inl above) x i k =
    not_both (product form x) (above_on_all p h form e above missed x i k.0) k.1
nowhere_zero p h form e missed (inr below) x i k =
    below_on_all p h form e below missed x i k.0 (zero_at_least (product form x) k.1)

one_true : (a b : Bool) → (¬ (IsTrue a) → ¬ (IsTrue b) → ⊥) → IsTrue a ⊎ IsTrue b
one_true true b h = inl refl
one_true false true h = inr refl
one_true false false h = absurd (h (λ t. let k : false ≡ true = t in cc) (λ t. let k : false ≡ true = t in cc))

pub related : (p : Polyhedron) → IsPolyhedron p → (g : LinearRow) → length g.row ≡ suc p.dims → (m : Missed) →
    AreMissed g.row p.generators m → (r : Relation) →
    IsTrue r.saturated_on_all ↔ (IsTrue m.below × IsTrue m.above) →
    IsTrue r.saturated_nowhere ↔ (IsTrue m.zero × (IsTrue m.below ⊎ IsTrue m.above)) →
    (g.equal ≡ false → (r.holds_on_all ≡ m.below) × (IsTrue r.holds_nowhere ↔ (IsTrue m.zero × IsTrue m.above))) →
    (g.equal ≡ true → (r.holds_on_all ≡ r.saturated_on_all) × (r.holds_nowhere ≡ r.saturated_nowhere)) →
    IsRelation p g r
related p h g e m a r flat unmet by_inequality by_equality = by_kind g.equal refl
  where
    form : List ℤ
    form = g.row

    all_zero : IsTrue r.saturated_on_all ↔ ValidOn p.dims (Con p.rows) (equality form)
    all_zero = (
      λ t. (flat_where p h form).0 (a.below.0 (flat.0 t).0, a.above.0 (flat.0 t).1),
      λ u. let both = (flat_where p h form).1 u in flat.1 (a.below.1 both.0, a.above.1 both.1),
    )

    none_zero : IsTrue r.saturated_nowhere ↔ HoldsNowhere p (equality form)
    none_zero = (
      λ t. nowhere_zero p h form e (a.zero.0 (unmet.0 t).0) (elim (unmet.0 t).1 [
        | inl b ↦ inl (a.below.0 b)
        | inr b ↦ inr (a.above.0 b)
      ]),
      λ n. unmet.1 (
        a.zero.1 (misses_where p h form (λ x i c z. n x i (c, z))),
        one_true m.below m.above (λ nb na. one_side p form n
            (λ u. nb (a.below.1 ((valid_where p h (inequality form)).1 u)))
            (λ u. na (a.above.1 ((valid_where p h (inequality (negated form))).1 u)))),
      ),
    )

    by_kind : (b : Bool) → g.equal ≡ b → IsRelation p g r
    by_kind false k =
        let q : record { row = g.row; equal = g.equal } ≡ inequality form =
        ap (λ (b : Bool). (let t : LinearRow = record { row = g.row; equal = b } in t)) k in
        let at_all : IsTrue r.holds_on_all ↔ ValidOn p.dims (Con p.rows) (inequality form) = (
          λ t. (valid_where p h (inequality form)).0 (a.below.0 (sym (by_inequality k).0 ∙ t)),
          λ u. (by_inequality k).0 ∙ a.below.1 ((valid_where p h (inequality form)).1 u),
        ) in
        let at_none : IsTrue r.holds_nowhere ↔ HoldsNowhere p (inequality form) = (
          λ t. let both = (by_inequality k).1.0 t in
              (nowhere_at_least p h form e).0 (a.zero.0 both.0, a.above.0 both.1),
          λ n. let both = (nowhere_at_least p h form e).1 n in
              (by_inequality k).1.1 (a.zero.1 both.0, a.above.1 both.1),
        ) in
        record {
          on_all = subst (λ (t : LinearRow). IsTrue r.holds_on_all ↔ ValidOn p.dims (Con p.rows) t) (sym q) at_all;
          nowhere = subst (λ (t : LinearRow). IsTrue r.holds_nowhere ↔ HoldsNowhere p t) (sym q) at_none;
          all_saturated = all_zero;
          none_saturated = none_zero;
        }
    by_kind true k =
        let q : record { row = g.row; equal = g.equal } ≡ equality form =
        ap (λ (b : Bool). (let t : LinearRow = record { row = g.row; equal = b } in t)) k in
        record {
          on_all = subst (λ (t : LinearRow). IsTrue r.holds_on_all ↔ ValidOn p.dims (Con p.rows) t) (sym q)
              (subst (λ (b : Bool). IsTrue b ↔ ValidOn p.dims (Con p.rows) (equality form)) (sym (by_equality k).0)
              all_zero);
          nowhere = subst (λ (t : LinearRow). IsTrue r.holds_nowhere ↔ HoldsNowhere p t) (sym q)
              (subst (λ (b : Bool). IsTrue b ↔ HoldsNowhere p (equality form)) (sym (by_equality k).1) none_zero);
          all_saturated = all_zero;
          none_saturated = none_zero;
        }
