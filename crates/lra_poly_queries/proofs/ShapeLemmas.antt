-- All points, and bounded polyhedra.
use Rattle.std.proofs.Common.{◌≡◌, ◌⊎◌, ℕ, zero, suc, ◌<◌, ◌≤◌, ◌+◌, Bool, true, false, List, [], ◌∷◌, ◌++◌, length, ap, refl, sym, ◌∙◌, subst, ℤ, pos, negsuc, neg_ℤ, ◌+ℤ◌, ◌*ℤ◌, ◌<ℤ◌, ◌≤ℤ◌, inl, inr}
use Rattle.std.proofs.lemmas.List.{length-set}
use Rattle.std.proofs.lemmas.List.Elements.{All-contains, Contains-append_cases, Contains-append_left, Contains-append_right}
use Rattle.std.proofs.{Common.arith, Common.slice_set, lemmas.Int.ints, lemmas.Nat.Gcd.dvd_refl, lemmas.Nat.Gcd.dvd-zero}
use Rattle.std.specs.{Int.◌∣◌, List.All, List.Contains, Prelude.◌↔◌, Prelude.◌==◌, Prelude.IsTrue, Prelude.unsigned_abs}
use Rattle.lra_poly_queries.specs.Crates.lra_linear_spec.Descriptions.{LinearRow, Con, equality, rows_as, inequality, system_of}
use Rattle.lra_poly_queries.specs.Crates.lra_linear_spec.Polyhedra.{HasPoint, IsPolyhedron, Polyhedron, positivity}
use Rattle.lra_poly_queries.specs.Crates.lra_linear_spec.Vectors.{blend, cleared, entry, product}
use Rattle.lra_poly_queries.specs.Crates.lra_linear_spec.declared.GenKind.TheVariants.{Point, Ray, Line}
use Rattle.lra_poly_queries.specs.Crates.{lra_linear_spec.Echelon.pivot, lra_linear_spec.Kinds.is_equality, lra_linear_spec.Kinds.is_line, lra_linear_spec.Points.IsPoint}
use Rattle.lra_poly_queries.specs.Crates.{lra_linear_spec.Points.IsWithin, lra_linear_spec.declared.ConKind.ConKind, lra_linear_spec.declared.GenKind.GenKind}
use Rattle.lra_poly_queries.proofs.Crates.lra_linear_spec.Descriptions.{FromGiven, con_none, gen_generated, system_from, system_has}
use Rattle.lra_poly_queries.proofs.Crates.lra_linear_spec.Membership.{all_from, contains_cases, contains_head, contains_none, contains_tail}
use Rattle.lra_poly_queries.proofs.Crates.lra_linear_spec.OneSpelling.{far, given_from, given_has, positivity_product}
use Rattle.lra_poly_queries.proofs.Crates.lra_linear_spec.Polyhedra.{con_gen, generators_are_generators}
use Rattle.lra_poly_queries.proofs.Crates.lra_linear_spec.Products.{entry_past, product_comm, row_same}
use Rattle.lra_poly_queries.proofs.Crates.lra_linear_spec.Ring.{mul_nonnegative, ring, v, ⊖, ◌⊕◌, ◌⊗◌}
use Rattle.lra_poly_queries.proofs.Crates.lra_linear_spec.SetOperations.{has_vertex, product_set, valid_on_rows, blend_product}
use Rattle.lra_poly_queries.proofs.Crates.lra_linear_spec.Signs.{add_nonnegative, cases_sign, times_positive}
use Rattle.lra_poly_queries.proofs.Crates.{lra_description_pair.OwnRows.none_of, lra_duality.PolyhedronLemmas.falsity_is_empty, lra_duality.PolyhedronLemmas.given_width}
use Rattle.lra_poly_queries.proofs.Crates.{lra_linear_spec.LinearMaps.generated_nonneg, lra_linear_spec.Lines.entry_zeros, lra_linear_spec.Lines.zeros_length, lra_linear_spec.Pivots.echelon_positive}
use Rattle.lra_systems.specs.LinearSystems.{FitKinds, FitsKind, LinearSystem, constraints, generators, rows_by_kind}
use Rattle.lra_poly_queries.specs.Shapes.{HasBound, IsBounded, IsUniverse}

-- ---- an inequality that holds at all points

-- the point that is z along one coordinate
along_is_point : (n k : ℕ) (z : ℤ) → IsPoint n (slice_set (positivity n) (suc k) z)
along_is_point n k z = record {
  width = length-set (positivity n) (suc k) z ∙ ap suc (zeros_length n);
  divisor = omega (arith, ints);
}

value_along : (n : ℕ) (c : List ℤ) (k : ℕ) (z : ℤ) → suc k < suc n →
    product c (slice_set (positivity n) (suc k) z) ≡ entry c 0 +ℤ (entry c (suc k) *ℤ z)
value_along n c k z inside =
    product_set c (positivity n) (suc k) z (subst (λ (w : ℕ). suc k < w) (sym (ap suc (zeros_length n))) inside)
    ∙ ap (λ (y : ℤ). y +ℤ (entry c (suc k) *ℤ z))
    (product_comm (cleared (suc k) c) (positivity n) ∙ positivity_product n (cleared (suc k) c) ∙ first c)
  where
    first : (c : List ℤ) → entry (cleared (suc k) c) 0 ≡ entry c 0
    first [] = refl
    first (x ∷ c) = refl

level_column : (n : ℕ) (c : List ℤ) → length c ≡ suc n → ((x : List ℤ) → IsPoint n x → pos 0 ≤ℤ product c x) →
    (k : ℕ) → suc k < suc n → entry c (suc k) ≡ pos 0
level_column n c e valid k inside = both (entry c (suc k)) (far (entry c 0) (entry c (suc k)) up)
    (far (entry c 0) (neg_ℤ (entry c (suc k))) down)
  where
    at : (z : ℤ) → pos 0 ≤ℤ (entry c 0 +ℤ (entry c (suc k) *ℤ z))
    at z = subst (λ (y : ℤ). pos 0 ≤ℤ y) (value_along n c k z inside)
        (valid (slice_set (positivity n) (suc k) z) (along_is_point n k z))

    up : (m : ℕ) → pos 0 ≤ℤ (entry c 0 +ℤ (pos m *ℤ entry c (suc k)))
    up m = subst (λ (y : ℤ). pos 0 ≤ℤ y)
        (ring (v (entry c 0) ⊕ v (entry c (suc k)) ⊗ v (pos m)) (v (entry c 0) ⊕ v (pos m) ⊗ v (entry c (suc k)))
        (omega arith)) (at (pos m))

    down : (m : ℕ) → pos 0 ≤ℤ (entry c 0 +ℤ (pos m *ℤ neg_ℤ (entry c (suc k))))
    down m = subst (λ (y : ℤ). pos 0 ≤ℤ y)
        (ring (v (entry c 0) ⊕ v (entry c (suc k)) ⊗ ⊖ (v (pos m)))
        (v (entry c 0) ⊕ v (pos m) ⊗ ⊖ (v (entry c (suc k)))) (omega arith)) (at (neg_ℤ (pos m)))

    both : (z : ℤ) → pos 0 ≤ℤ z → pos 0 ≤ℤ neg_ℤ z → z ≡ pos 0
    both z h k = omega (arith, ints, h, k)

-- is 0 but for its constant
level_row : (n : ℕ) (c : List ℤ) → length c ≡ suc n → ((x : List ℤ) → IsPoint n x → pos 0 ≤ℤ product c x) →
    (k : ℕ) → entry c (suc k) ≡ pos 0
level_row n c e valid k = by_place (le_or k n)
  where
    le_or : (k n : ℕ) → (suc k < suc n) ⊎ (suc n ≤ suc k)
    le_or k zero = inr (omega arith)
    le_or zero (suc n) = inl (omega arith)
    le_or (suc k) (suc n) = elim (le_or k n) [ inl a ↦ inl (omega (arith, a)) | inr b ↦ inr (omega (arith, b)) ]

    by_place : (suc k < suc n) ⊎ (suc n ≤ suc k) → entry c (suc k) ≡ pos 0
    by_place (inl a) = level_column n c e valid k a
    by_place (inr b) = entry_past c (suc k) (omega (arith, e, b))

origin_is_point : (n : ℕ) → IsPoint n (positivity n)
origin_is_point n = record { width = ap suc (zeros_length n); divisor = omega (arith, ints) }

at_origin : (n : ℕ) (c : List ℤ) → product c (positivity n) ≡ entry c 0
at_origin n c = product_comm c (positivity n) ∙ positivity_product n c

-- an equality is a row of zeros, so no row of an echelon form
no_equality : (p : Polyhedron) (h : HasPoint p) → IsWithin p.dims (Con []) (Con p.rows) → (c : List ℤ) →
    Contains h.equalities c → ⊥
no_equality p h all c k = zero_above (entry c (pivot c)) (echelon_positive h.equalities
    h.constraints_canonical.pivots h.constraints_canonical.echelon c k) (each (pivot c))
  where
    has : Contains p.rows (equality c)
    has = subst (λ (l : List LinearRow). Contains l (equality c)) (sym h.rows_are)
        (Contains-append_left (rows_as true h.equalities) (rows_as false h.inequalities) (equality c)
        (given_has true h.equalities c k))

    holds : (x : List ℤ) → IsPoint p.dims x → product c x ≡ pos 0
    holds x i = all x i (con_none x) (equality c) has

    each : (j : ℕ) → entry c j ≡ pos 0
    each zero = sym (at_origin p.dims c) ∙ holds (positivity p.dims) (origin_is_point p.dims)
    each (suc j) = level_row p.dims c (given_width p (inr h) (equality c) has) (λ x i. zero_low (product c x) (holds x i)) j
      where
        zero_low : (z : ℤ) → z ≡ pos 0 → pos 0 ≤ℤ z
        zero_low z e = omega (arith, ints, e)

    zero_above : (z : ℤ) → pos 0 <ℤ z → z ≡ pos 0 → ⊥
    zero_above z h e = omega (arith, ints, h, e)

-- an inequality is the positivity row, which isn't shown
no_inequality : (p : Polyhedron) (h : HasPoint p) → IsWithin p.dims (Con []) (Con p.rows) → (c : List ℤ) →
    Contains h.inequalities c → ⊥
no_inequality p h all c k = (h.shown c k).1 (row_same c (positivity p.dims)
    (wide ∙ sym (ap suc (zeros_length p.dims))) same)
  where
    has : Contains p.rows (inequality c)
    has = subst (λ (l : List LinearRow). Contains l (inequality c)) (sym h.rows_are)
        (Contains-append_right (rows_as true h.equalities) (rows_as false h.inequalities) (inequality c)
        (given_has false h.inequalities c k))

    wide : length c ≡ suc p.dims
    wide = given_width p (inr h) (inequality c) has

    holds : (x : List ℤ) → IsPoint p.dims x → pos 0 ≤ℤ product c x
    holds x i = all x i (con_none x) (inequality c) has

    low : pos 0 ≤ℤ entry c 0
    low = subst (λ (z : ℤ). pos 0 ≤ℤ z) (at_origin p.dims c) (holds (positivity p.dims) (origin_is_point p.dims))

    divides : (j : ℕ) → unsigned_abs (entry c 0) ∣ unsigned_abs (entry c j)
    divides zero = dvd_refl (unsigned_abs (entry c 0))
    divides (suc j) = subst (λ (z : ℤ). unsigned_abs (entry c 0) ∣ unsigned_abs z)
        (sym (level_row p.dims c wide holds j)) (dvd-zero (unsigned_abs (entry c 0)))

    one : (z : ℤ) → pos 0 ≤ℤ z → unsigned_abs z ≡ 1 → z ≡ pos 1
    one z h e = omega (arith, ints, h, e)

    same : (j : ℕ) → entry c j ≡ entry (positivity p.dims) j
    same zero = one (entry c 0) low
        (h.constraints_canonical.lowest c (h.shown c k).0 (unsigned_abs (entry c 0)) divides)
    same (suc j) = level_row p.dims c wide holds j ∙ sym (entry_zeros p.dims j)

no_members : {A : Type 0} (xs : List A) → ((x : A) → Contains xs x → ⊥) → xs ≡ []
no_members [] n = refl
no_members (x ∷ xs) n = absurd (n x (contains_head x xs))

pub universal : (p : Polyhedron) → IsPolyhedron p → IsUniverse p → p.rows ≡ []
universal p (inl none) u = absurd (falsity_is_empty p.dims p.rows none.0 (positivity p.dims) (origin_is_point p.dims)
    (u.0 (positivity p.dims) (origin_is_point p.dims) (con_none (positivity p.dims))))
universal p (inr h) u =
    h.rows_are
    ∙ ap (λ (es : List (List ℤ)). rows_as true es ++ rows_as false h.inequalities)
    (no_members h.equalities (no_equality p h u.0))
    ∙ ap (λ (is : List (List ℤ)). rows_as false is) (no_members h.inequalities (no_inequality p h u.0))

pub without_rows : (p : Polyhedron) → p.rows ≡ [] → IsUniverse p
without_rows p e = (
  λ x i c. subst (λ (l : List LinearRow). Con l x) (sym e) c,
  λ x i c. con_none x,
)

-- ---- a bound of each form if there are points alone
most_value : List ℤ → List LinearRow → ℕ
most_value form [] = 0
most_value form (g ∷ gs) = unsigned_abs (product form g.row) + most_value form gs

value_at_most : (form : List ℤ) (list : List LinearRow) (g : LinearRow) → Contains list g →
    product form g.row ≤ℤ pos (most_value form list)
unfolding most_value
value_at_most form [] g k = absurd (contains_none g k)
value_at_most form (f ∷ list) g k = elim (contains_cases f g list k) [
  | inl e ↦ subst (λ (t : LinearRow). product form t.row ≤ℤ
      pos (unsigned_abs (product form f.row) + most_value form list)) e
      (own (product form f.row) (most_value form list))
  | inr m ↦ later (product form g.row) (unsigned_abs (product form f.row)) (most_value form list)
      (value_at_most form list g m)
]
  where
    own : (z : ℤ) (n : ℕ) → z ≤ℤ pos (unsigned_abs z + n)
    own z n = omega (arith, ints)

    later : (z : ℤ) (m n : ℕ) → z ≤ℤ pos n → z ≤ℤ pos (m + n)
    later z m n h = omega (arith, ints, h)

-- at most m times the divisor
bound_row : ℕ → List ℤ → ℤ → List ℤ
bound_row n form m = blend m (negsuc 0) (positivity n) form

bound_product : (n : ℕ) (form : List ℤ) (m : ℤ) (x : List ℤ) → length form ≡ suc n →
    product (bound_row n form m) x ≡ (m *ℤ entry x 0) +ℤ (negsuc 0 *ℤ product form x)
unfolding bound_row
bound_product n form m x e =
    blend_product m (negsuc 0) (positivity n) form x (ap suc (zeros_length n) ∙ sym e)
    ∙ ap (λ (z : ℤ). (m *ℤ z) +ℤ (negsuc 0 *ℤ product form x)) (positivity_product n x)

least_there : (m d f : ℤ) → pos 0 ≤ℤ m → pos 0 <ℤ d → f ≤ℤ m → pos 0 ≤ℤ ((m *ℤ d) +ℤ (negsuc 0 *ℤ f))
least_there m d f h up most =
    let e : m *ℤ (d +ℤ negsuc 0) ≡ (m *ℤ d) +ℤ (negsuc 0 *ℤ m) =
    ring (v m ⊗ (v d ⊕ v (negsuc 0))) (v m ⊗ v d ⊕ v (negsuc 0) ⊗ v m) (omega arith) in
    more (m *ℤ d) m f (subst (λ (y : ℤ). pos 0 ≤ℤ y) e (mul_nonnegative m (d +ℤ negsuc 0) h (less d up))) most
  where
    less : (d : ℤ) → pos 0 <ℤ d → pos 0 ≤ℤ (d +ℤ negsuc 0)
    less d h = omega (arith, ints, h)

    more : (t m f : ℤ) → pos 0 ≤ℤ (t +ℤ (negsuc 0 *ℤ m)) → f ≤ℤ m → pos 0 ≤ℤ (t +ℤ (negsuc 0 *ℤ f))
    more t m f h k = omega (arith, ints, h, k)

as_at_most : (m d f : ℤ) → pos 0 ≤ℤ ((m *ℤ d) +ℤ (negsuc 0 *ℤ f)) → (f *ℤ pos 1) ≤ℤ (m *ℤ d)
as_at_most m d f h = turned (m *ℤ d) f h
  where
    turned : (t f : ℤ) → pos 0 ≤ℤ (t +ℤ (negsuc 0 *ℤ f)) → (f *ℤ pos 1) ≤ℤ t
    turned t f h = omega (arith, ints, h)

as_nonneg : (m d f : ℤ) → (f *ℤ pos 1) ≤ℤ (m *ℤ d) → pos 0 ≤ℤ ((m *ℤ d) +ℤ (negsuc 0 *ℤ f))
as_nonneg m d f h = turned (m *ℤ d) f h
  where
    turned : (t f : ℤ) → (f *ℤ pos 1) ≤ℤ t → pos 0 ≤ℤ (t +ℤ (negsuc 0 *ℤ f))
    turned t f h = omega (arith, ints, h)

pub points_bound : (p : Polyhedron) → IsPolyhedron p →
    ((g : LinearRow) → Contains p.generators g → pos 0 <ℤ entry g.row 0) → IsBounded p
points_bound p (inl none) points form e = record {
  most = pos 0;
  is_most = λ x i c. absurd (falsity_is_empty p.dims p.rows none.0 x i c);
}
points_bound p (inr h) points form e = record {
  most = most;
  is_most = λ x i c. as_at_most most (entry x 0) (product form x)
      (subst (λ (z : ℤ). pos 0 ≤ℤ z) (bound_product p.dims form most x e)
      (generated_nonneg (bound_row p.dims form most) (system_of p.generators) (entry x)
      (λ t k. subst (λ (z : ℤ). pos 0 ≤ℤ z) (sym (bound_product p.dims form most t e))
      (on_rows t (system_from p.generators t k)))
      (gen_generated p.generators (entry x) ((con_gen p (inr h)).0 x i c))));
}
  where
    most : ℤ
    most = pos (most_value form p.generators)

    no_line : (g : LinearRow) → Contains p.generators g → g.equal ≡ true → ⊥
    no_line g k l = elim (generators_are_generators p (inr h) g k) [
      | inl point ↦ (let z : true ≡ false = sym l ∙ point.0 in cc)
      | inr level ↦ zero_above (entry g.row 0) (points g k) level
    ]
      where
        zero_above : (z : ℤ) → pos 0 <ℤ z → z ≡ pos 0 → ⊥
        zero_above z h e = omega (arith, ints, h, e)

    on_rows : (t : List ℤ) → FromGiven p.generators t → pos 0 ≤ℤ ((most *ℤ entry t 0) +ℤ (negsuc 0 *ℤ product form t))
    on_rows t f = elim f.sign [
      | inl s ↦ subst (λ (r : List ℤ). pos 0 ≤ℤ ((most *ℤ entry r 0) +ℤ (negsuc 0 *ℤ product form r))) (sym s)
          (least_there most (entry f.given.row 0) (product form f.given.row) (omega (arith, ints))
          (points f.given f.has) (value_at_most form p.generators f.given f.has))
      | inr s ↦ absurd (no_line f.given f.has s.0)
    ]

-- ---- a ray or a line as a form grows along itself
square : (z : ℤ) → pos 0 ≤ℤ (z *ℤ z)
square z = elim (cases_sign z) [
  | inl up ↦ mul_nonnegative z z up up
  | inr down ↦ subst (λ (y : ℤ). pos 0 ≤ℤ y) (ring (⊖ (v z) ⊗ ⊖ (v z)) (v z ⊗ v z) (omega arith))
      (mul_nonnegative (neg_ℤ z) (neg_ℤ z) (turned z down) (turned z down))
]
  where
    turned : (z : ℤ) → z <ℤ pos 0 → pos 0 ≤ℤ neg_ℤ z
    turned z h = omega (arith, ints, h)

square_zero : (z : ℤ) → (z *ℤ z) ≤ℤ pos 0 → z ≡ pos 0
square_zero (pos zero) h = refl
square_zero (pos (suc k)) h = absurd (contrary (pos (suc k) *ℤ pos (suc k)) (times_positive (pos (suc k)) (pos (suc k)) (omega (arith, ints)) (omega (arith, ints))) h)
  where
    contrary : (y : ℤ) → pos 0 <ℤ y → y ≤ℤ pos 0 → ⊥
    contrary y h k = omega (arith, ints, h, k)
square_zero (negsuc k) h = absurd (contrary (negsuc k *ℤ negsuc k) (subst (λ (y : ℤ). pos 0 <ℤ y)
    (ring (⊖ (v (negsuc k)) ⊗ ⊖ (v (negsuc k))) (v (negsuc k) ⊗ v (negsuc k)) (omega arith))
    (times_positive (neg_ℤ (negsuc k)) (neg_ℤ (negsuc k)) (omega (arith, ints)) (omega (arith, ints)))) h)
  where
    contrary : (y : ℤ) → pos 0 <ℤ y → y ≤ℤ pos 0 → ⊥
    contrary y h k = omega (arith, ints, h, k)

self_product : (r : List ℤ) → pos 0 ≤ℤ product r r
self_product [] = omega (arith, ints)
self_product (c ∷ cs) = add_nonnegative (c *ℤ c) (product cs cs) (square c) (self_product cs)

self_zero : (r : List ℤ) → product r r ≤ℤ pos 0 → (j : ℕ) → entry r j ≡ pos 0
self_zero [] h j = refl
self_zero (c ∷ cs) h zero = square_zero c (left (c *ℤ c) (product cs cs) (self_product cs) h)
  where
    left : (a b : ℤ) → pos 0 ≤ℤ b → (a +ℤ b) ≤ℤ pos 0 → a ≤ℤ pos 0
    left a b k h = omega (arith, ints, k, h)
self_zero (c ∷ cs) h (suc j) = self_zero cs (right (c *ℤ c) (product cs cs) (square c) h) j
  where
    right : (a b : ℤ) → pos 0 ≤ℤ a → (a +ℤ b) ≤ℤ pos 0 → b ≤ℤ pos 0
    right a b k h = omega (arith, ints, k, h)

-- no generator is a row of zeros
zero_generator : (p : Polyhedron) (h : HasPoint p) (g : LinearRow) → Contains p.generators g →
    ((j : ℕ) → entry g.row j ≡ pos 0) → ⊥
zero_generator p h g k zero_row = elim (Contains-append_cases (rows_as false h.points ++ rows_as false h.rays)
    (rows_as true h.lines) g (subst (λ (l : List LinearRow). Contains l g) h.generators_are k)) [
      | inl a ↦ elim (Contains-append_cases (rows_as false h.points) (rows_as false h.rays) g a) [
        | inl b ↦ zero_above (entry g.row 0) (h.divisors g.row (given_from false h.points g b).1) (zero_row 0)
        | inr b ↦ two_one (h.generators_canonical.lowest g.row
            (Contains-append_right h.points h.rays g.row (given_from false h.rays g b).1) 2
            (λ j. subst (λ (z : ℤ). 2 ∣ unsigned_abs z) (sym (zero_row j)) (dvd-zero 2)))
      ]
      | inr a ↦ zero_above (entry g.row (pivot g.row)) (echelon_positive h.lines h.generators_canonical.pivots
          h.generators_canonical.echelon g.row (given_from true h.lines g a).1) (zero_row (pivot g.row))
    ]
  where
    zero_above : (z : ℤ) → pos 0 <ℤ z → z ≡ pos 0 → ⊥
    zero_above z h e = omega (arith, ints, h, e)

    two_one : (let n : ℕ = 2 in n) ≡ 1 → ⊥
    two_one e = omega (arith, e)

pub bounds_points : (p : Polyhedron) → IsPolyhedron p → IsBounded p → (g : LinearRow) → Contains p.generators g →
    pos 0 <ℤ entry g.row 0
bounds_points p (inl none) bounds g k =
    absurd (contains_none g (subst (λ (l : List LinearRow). Contains l g) none.1 k))
bounds_points p (inr h) bounds g k = elim (generators_are_generators p (inr h) g k) [
  | inl point ↦ point.1
  | inr level ↦ absurd (zero_generator p h g k (self_zero g.row (low (bounds g.row wide) level)))
]
  where
    m : Contains (system_of p.generators) g.row
    m = system_has p.generators g k

    wide : length g.row ≡ suc p.dims
    wide = (has_vertex p h).widths g.row m

    level_low : (t f d : ℤ) → d ≡ pos 0 → pos 0 ≤ℤ ((t *ℤ d) +ℤ (negsuc 0 *ℤ f)) → f ≤ℤ pos 0
    level_low t f d e h =
        let z = subst (λ (y : ℤ). pos 0 ≤ℤ ((t *ℤ y) +ℤ (negsuc 0 *ℤ f))) e h in
        let w = subst (λ (y : ℤ). pos 0 ≤ℤ y)
        (ring (v t ⊗ v (pos 0) ⊕ v (negsuc 0) ⊗ v f) (⊖ (v f)) (omega arith)) z in
        omega (arith, ints, w)

    low : HasBound p g.row → entry g.row 0 ≡ pos 0 → product g.row g.row ≤ℤ pos 0
    low b e = level_low b.most (product g.row g.row) (entry g.row 0) e
        (subst (λ (z : ℤ). pos 0 ≤ℤ z) (bound_product p.dims g.row b.most g.row wide)
        (valid_on_rows p.dims p.generators (has_vertex p h) (bound_row p.dims g.row b.most)
        (λ y i gen. subst (λ (z : ℤ). pos 0 ≤ℤ z) (sym (bound_product p.dims g.row b.most y wide))
        (as_nonneg b.most (entry y 0) (product g.row y) (b.is_most y i ((con_gen p (inr h)).1 y i gen))))
        g.row m))

-- ---- as the code states it
given_no : (rows : List (List ℤ)) (kinds : List ConKind) → kinds ≡ [] → rows_by_kind is_equality rows kinds ≡ []
given_no [] kinds e = refl
given_no (r ∷ rows) [] e = refl
given_no (r ∷ rows) (x ∷ kinds) e = cc

no_given : (rows : List (List ℤ)) (kinds : List ConKind) → length kinds ≡ length rows →
    rows_by_kind is_equality rows kinds ≡ [] → kinds ≡ []
no_given [] [] n e = refl
no_given [] (x ∷ kinds) n e = absurd (omega (arith, n))
no_given (r ∷ rows) [] n e = refl
no_given (r ∷ rows) (x ∷ kinds) n e = cc

pub universe_told : (p : Polyhedron) (list : LinearSystem ConKind) (kinds : List ConKind) (b : Bool) → IsPolyhedron p →
    constraints list ≡ p.rows → kinds ≡ list.kinds → length kinds ≡ length list.rows → b ≡ (length kinds == 0) →
    IsTrue b ↔ IsUniverse p
universe_told p list kinds b h e ek n is = (
  λ t. without_rows p (sym e ∙ given_no list.rows list.kinds (sym ek ∙ none_of kinds (length kinds) b refl is t)),
  λ u. is ∙ ap (λ (l : List ConKind). length l == 0)
      (no_given list.rows kinds n (ap (rows_by_kind is_equality list.rows) ek ∙ e ∙ universal p h u)),
)

-- kinds that fit are points exactly if the divisors are above 0
points_above : (rows : List (List ℤ)) (kinds : List GenKind) → FitKinds rows kinds → All (λ k. k ≡ Point) kinds →
    (g : LinearRow) → Contains (rows_by_kind is_line rows kinds) g → pos 0 <ℤ entry g.row 0
points_above [] kinds fits all g k = absurd (contains_none g k)
points_above (r ∷ rows) [] fits all g k = absurd (contains_none g k)
points_above (r ∷ rows) (x ∷ kinds) fits all g k =
    elim (contains_cases (let t : LinearRow = record { row = r; equal = is_line x } in t) g (rows_by_kind is_line rows kinds) k) [
      | inl e ↦ subst (λ (t : LinearRow). pos 0 <ℤ entry t.row 0) e
          (subst (λ (y : GenKind). FitsKind y r) (All-contains (λ y. y ≡ Point) (x ∷ kinds) x all (contains_head x kinds)) fits.0)
      | inr m ↦ points_above rows kinds fits.1
          (all_from (λ y. y ≡ Point) kinds (λ y i. All-contains (λ z. z ≡ Point) (x ∷ kinds) y all (contains_tail x y kinds i))) g m
    ]

above_points : (rows : List (List ℤ)) (kinds : List GenKind) → length kinds ≡ length rows → FitKinds rows kinds →
    ((g : LinearRow) → Contains (rows_by_kind is_line rows kinds) g → pos 0 <ℤ entry g.row 0) →
    (k : GenKind) → Contains kinds k → k ≡ Point
above_points [] [] n fits above k i = absurd (contains_none k i)
above_points [] (x ∷ kinds) n fits above k i = absurd (omega (arith, n))
above_points (r ∷ rows) [] n fits above k i = absurd (contains_none k i)
above_points (r ∷ rows) (x ∷ kinds) n fits above k i = elim (contains_cases x k kinds i) [
  | inl e ↦ sym e ∙ of_kind x fits.0 (above (record { row = r; equal = is_line x })
      (contains_head (let t : LinearRow = record { row = r; equal = is_line x } in t) (rows_by_kind is_line rows kinds)))
  | inr m ↦ above_points rows kinds (omega (arith, n)) fits.1
      (λ g j. above g (contains_tail (let t : LinearRow = record { row = r; equal = is_line x } in t) g
      (rows_by_kind is_line rows kinds) j)) k m
]
  where
    zero_above : (z : ℤ) → pos 0 <ℤ z → z ≡ pos 0 → ⊥
    zero_above z h e = omega (arith, ints, h, e)

    of_kind : (y : GenKind) → FitsKind y r → pos 0 <ℤ entry r 0 → y ≡ Point
    of_kind Point fits up = refl
    of_kind Ray fits up = absurd (zero_above (entry r 0) up fits)
    of_kind Line fits up = absurd (zero_above (entry r 0) up fits)

pub bounded_told : (p : Polyhedron) (list : LinearSystem GenKind) (kinds : List GenKind) (b : Bool) → IsPolyhedron p →
    generators list ≡ p.generators → kinds ≡ list.kinds → length kinds ≡ length list.rows →
    FitKinds list.rows list.kinds → IsTrue b ↔ All (λ k. k ≡ Point) kinds → IsTrue b ↔ IsBounded p
bounded_told p list kinds b h e ek n fits is = (
  λ t. points_bound p h (λ g k. points_above list.rows list.kinds fits
      (subst (All (λ k. k ≡ Point)) ek (is.0 t)) g (subst (λ (l : List LinearRow). Contains l g) (sym e) k)),
  λ u. is.1 (all_from (λ k. k ≡ Point) kinds (λ k i. above_points list.rows list.kinds
      (ap length (sym ek) ∙ n) fits
      (λ g j. bounds_points p h u g (subst (λ (l : List LinearRow). Contains l g) e j)) k
      (subst (λ (ks : List GenKind). Contains ks k) ek i))),
)
