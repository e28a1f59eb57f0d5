-- Each facet of the polyhedron of some rows stands beside one of them (by Farkas 1902, over a dual description of the rows, which
-- exists by Minkowski 1896).
use Rattle.std.proofs.Common.{List, [], ap, arith, inl, inr, length, neg_ℤ, negsuc, pos, refl, subst, suc, sym, zero, ℕ, ℤ, ◌*ℤ◌, ◌++◌, ◌+ℤ◌, ◌<ℤ◌, ◌<◌, ◌∙◌, ◌∷◌, ◌≡◌, ◌≢◌, ◌≤ℤ◌, ◌⊎◌}
use Rattle.std.proofs.{lemmas.Int.ints, lemmas.List.Elements.Contains-append_left}
use Rattle.std.specs.List.{Contains}
use Rattle.lra_poly_widening.specs.Crates.lra_linear_spec.Polyhedra.{HasPoint, IsPolyhedronOf, Polyhedron, positivity}
use Rattle.lra_poly_widening.specs.Crates.lra_linear_spec.Vectors.{behind_zero, entry, product, sum_of, zeros}
use Rattle.lra_poly_widening.specs.Crates.{lra_linear_spec.Cones.Generated, lra_linear_spec.Cones.Solves, lra_linear_spec.Cones.both_ways, lra_linear_spec.Descriptions.Con}
use Rattle.lra_poly_widening.specs.Crates.{lra_linear_spec.Descriptions.LinearRow, lra_linear_spec.Descriptions.system_of, lra_linear_spec.LowestTerms.IsPrimitive, lra_linear_spec.Points.IsPoint}
use Rattle.lra_poly_widening.proofs.Crates.lra_linear_spec.CanonicalForms.{on_lines, ray_extreme}
use Rattle.lra_poly_widening.proofs.Crates.lra_linear_spec.Combinations.{generated_divided, generated_plus, generated_same, generated_times, generated_zero}
use Rattle.lra_poly_widening.proofs.Crates.lra_linear_spec.Descriptions.{con_solves, solves_con, system_from, system_has}
use Rattle.lra_poly_widening.proofs.Crates.lra_linear_spec.LinearMaps.{generated_right, generated_through, sum_generated}
use Rattle.lra_poly_widening.proofs.Crates.lra_linear_spec.Membership.{contains_cases, contains_head, contains_none, contains_tail}
use Rattle.lra_poly_widening.proofs.Crates.lra_linear_spec.OneSpelling.{columns_of, cone_solved, far, gone, gone_divisor, gone_product, positivity_product, rows_hold, some_member}
use Rattle.lra_poly_widening.proofs.Crates.lra_linear_spec.Products.{blend_length, negated_dot, negated_length, product_comm, row_same, dot_first}
use Rattle.lra_poly_widening.proofs.Crates.lra_linear_spec.Ring.{mul_nonnegative, ring, v, ⊖, ◌⊕◌, ◌⊗◌}
use Rattle.lra_poly_widening.proofs.Crates.lra_linear_spec.Signs.{add_nonnegative, cancel_same, not_both, times_positive}
use Rattle.lra_poly_widening.proofs.Crates.{lra_canonical.Solutions.description_exists, lra_linear_spec.Lines.entry_zeros, lra_linear_spec.Lines.zeros_length, lra_linear_spec.LowestTerms.primitive_at}
use Rattle.lra_poly_widening.proofs.Crates.{lra_linear_spec.LowestTerms.same_multiple, lra_linear_spec.Saturation.Beside, lra_linear_spec.Saturation.IsExtreme, lra_linear_spec.Spans.all_zero}
use Rattle.lra_poly_widening.proofs.{Dimension.pivot_row, Faces.IsAbove, Faces.above_generated, Faces.beside_back, Faces.con, Faces.equality_flat, Faces.facet_not_flat, Faces.gen, Faces.line_flat}

-- ---- a dual description of each list of rows of one width
behind_from : (n : ℕ) (rows : List (List ℤ)) → ((t : List ℤ) → Contains rows t → length t ≡ n) → (t : List ℤ) → Contains (behind_zero rows) t → length t ≡ suc n
behind_from n [] h t k = absurd (contains_none t k)
behind_from n (r ∷ rows) h t k = elim (contains_cases (pos 0 ∷ r) t (behind_zero rows) k) [
  | inl e ↦ ap length (sym e) ∙ ap suc (h r (contains_head r rows))
  | inr d ↦ behind_from n rows (λ s i. h s (contains_tail r s rows i)) t d
]

-- ---- an extreme ray is a multiple, that isn't 0, of a row of each list that generates it, up to a line
on_line : (lines : List (List ℤ)) (r t : List ℤ) (b : Beside lines r t) → b.other ≡ 0 → Generated lines (entry t)
on_line lines r t b e =
    generated_divided lines b.times (entry t) b.positive (generated_same lines b.line (λ j. pos b.times *ℤ entry t j)
    (λ j. ring (v (b.line j)) (v (pos 0) ⊗ v (entry r j) ⊕ v (b.line j)) (omega arith) ∙ ap (λ (n : ℕ). (pos n *ℤ entry r j) +ℤ b.line j) (sym e) ∙ sym (b.is_beside j)) b.on_line)

abbrev Found : List (List ℤ) → List ℤ → List (List ℤ) → Type 0
Found lines r rows = (t : List ℤ) × Contains rows t × ((b : Beside lines r t) × (0 < b.other))

strong_found : (cone lines : List (List ℤ)) (r : List ℤ) → IsExtreme cone lines r → ((u : ℕ → ℤ) → Generated lines u → Generated cone u) →
    (rows : List (List ℤ)) → ((t : List ℤ) → Contains rows t → Generated cone (entry t)) → (fs : List ℕ) (l : ℕ → ℤ) → Generated lines l → (k : ℕ) → 0 < k →
    ((j : ℕ) → pos k *ℤ entry r j ≡ sum_of fs rows j +ℤ l j) → Found lines r rows
strong_found cone lines r x sub rows h [] l g k p e = absurd (x.apart (generated_divided lines k (entry r) p
    (generated_same lines l (λ j. pos k *ℤ entry r j) (λ j. ring (v (l j)) (v (pos 0) ⊕ v (l j)) (omega arith) ∙ sym (e j)) g)))
strong_found cone lines r x sub [] h (f ∷ fs) l g k p e = absurd (x.apart (generated_divided lines k (entry r) p
    (generated_same lines l (λ j. pos k *ℤ entry r j) (λ j. ring (v (l j)) (v (pos 0) ⊕ v (l j)) (omega arith) ∙ sym (e j)) g)))
strong_found cone lines r x sub (t ∷ rows) h (zero ∷ fs) l g k p e =
    let i = strong_found cone lines r x sub rows (λ y m. h y (contains_tail t y rows m)) fs l g k p
    (λ j. e j ∙ ring ((v (pos 0) ⊗ v (entry t j) ⊕ v (sum_of fs rows j)) ⊕ v (l j)) (v (sum_of fs rows j) ⊕ v (l j)) (omega arith)) in
    (i.0, contains_tail t i.0 rows i.1, i.2)
strong_found cone lines r x sub (t ∷ rows) h (suc f ∷ fs) l g k p e =
    let s : ℕ → ℤ = sum_of fs rows in
    let rest : Generated cone (λ j. s j +ℤ l j) = generated_plus cone s l (generated_through cone rows s (λ y m. h y (contains_tail t y rows m)) (sum_generated rows fs)) (sub l g) in
    let gt : Generated cone (entry t) = h t (contains_head t rows) in
    let y : ℕ → ℤ = λ j. (pos f *ℤ entry t j) +ℤ (s j +ℤ l j) in
    let gy : Generated cone y = generated_plus cone (λ j. pos f *ℤ entry t j) (λ j. s j +ℤ l j) (generated_times cone f (entry t) gt) rest in
    let b : Beside lines r t = x.splits k t y gt gy (λ j. ring (v (entry t j) ⊕ (v (pos f) ⊗ v (entry t j) ⊕ (v (s j) ⊕ v (l j)))) ((v (pos (suc f)) ⊗ v (entry t j) ⊕ v (s j)) ⊕ v (l j))
    (omega arith) ∙ sym (e j)) in
    by_other b b.other refl (λ q. strong_found cone lines r x sub rows (λ y m. h y (contains_tail t y rows m)) fs (λ j. (pos (suc f) *ℤ entry t j) +ℤ l j)
    (generated_plus lines (λ j. pos (suc f) *ℤ entry t j) l (generated_times lines (suc f) (entry t) (on_line lines r t b q)) g) k p
    (λ j. e j ∙ ring ((v (pos (suc f)) ⊗ v (entry t j) ⊕ v (sum_of fs rows j)) ⊕ v (l j)) (v (sum_of fs rows j) ⊕ (v (pos (suc f)) ⊗ v (entry t j) ⊕ v (l j))) (omega arith)))
  where
    by_other : (b : Beside lines r t) (n : ℕ) → b.other ≡ n → (b.other ≡ 0 → Found lines r rows) → Found lines r (t ∷ rows)
    by_other b (suc n) q again = (t, contains_head t rows, (b, omega (arith, q)))
    by_other b zero q again = let i = again q in (i.0, contains_tail t i.0 rows i.1, i.2)

-- ---- the positivity row stands beside no other facet

-- no equality leads in column 0
pub no_pivot_first : (p : Polyhedron) (h : HasPoint p) → ¬ (Contains h.constraints_canonical.pivots 0)
no_pivot_first p h k =
    let f = pivot_row h.equalities h.constraints_canonical.pivots h.constraints_canonical.echelon 0 k in
    let b = some_member h.points h.some_point in
    let flat = equality_flat p h f.0 f.1 b.0 (Contains-append_left (h.points ++ h.rays) (both_ways h.lines) b.0 (Contains-append_left h.points h.rays b.0 b.1)) in
    not_both (entry f.0 0 *ℤ entry b.0 0) (times_positive (entry f.0 0) (entry b.0 0) f.2.here (h.divisors b.0 b.1))
    (sym (dot_first f.0 (entry b.0) (λ j l. f.2.before j (l, inr refl))) ∙ flat)

-- rows of a canonical list that stand beside one another are the same
pub beside_same : (p : Polyhedron) (h : HasPoint p) (s t : List ℤ) (b : Beside (both_ways h.equalities) s t) → Contains h.facets s → length t ≡ suc p.dims → IsPrimitive t →
    ((q : ℕ) → Contains h.constraints_canonical.pivots q → entry t q ≡ pos 0) → t ≡ s
beside_same p h s t b k lt primitive zeros =
    let c = h.constraints_canonical in
    let ls : length s ≡ suc p.dims = h.dual.system_widths s (Contains-append_left h.facets (both_ways h.equalities) s k) in
    let zero_at : (q : ℕ) → Contains c.pivots q → b.line q ≡ pos 0 = λ q i.
    ring (v (b.line q)) ((v (pos b.other) ⊗ v (entry s q) ⊕ v (b.line q)) ⊕ ⊖ (v (pos b.other) ⊗ v (entry s q))) (omega arith) ∙
    ap (λ z. z +ℤ neg_ℤ (pos b.other *ℤ entry s q)) (sym (b.is_beside q)) ∙
    ap (λ z. (pos b.times *ℤ z) +ℤ neg_ℤ (pos b.other *ℤ entry s q)) (zeros q i) ∙
    ap (λ z. (pos b.times *ℤ pos 0) +ℤ neg_ℤ (pos b.other *ℤ z)) (c.reduced s k q i) ∙
    ring (v (pos b.times) ⊗ v (pos 0) ⊕ ⊖ (v (pos b.other) ⊗ v (pos 0))) (v (pos 0)) (omega arith) in
    let flat : (j : ℕ) → b.line j ≡ pos 0 = all_zero h.equalities c.pivots c.echelon b.line (on_lines h.equalities b.line b.on_line) zero_at in
    let multiples : (j : ℕ) → pos b.times *ℤ entry t j ≡ pos b.other *ℤ entry s j = λ j. b.is_beside j ∙ ap (λ z. (pos b.other *ℤ entry s j) +ℤ z) (flat j) ∙
    ring (v (pos b.other) ⊗ v (entry s j) ⊕ v (pos 0)) (v (pos b.other) ⊗ v (entry s j)) (omega arith) in
    let mn : b.times ≡ b.other = same_multiple b.times b.other t s primitive (c.lowest s k) multiples in
    row_same t s (lt ∙ sym ls) (λ j. cancel_same b.times (entry t j) (entry s j) b.positive (multiples j ∙ ap (λ (n : ℕ). pos n *ℤ entry s j) (sym mn)))

positivity_beside : (p : Polyhedron) (h : HasPoint p) (s : List ℤ) → Contains h.facets s → Beside (both_ways h.equalities) s (positivity p.dims) → positivity p.dims ≡ s
positivity_beside p h s k b = beside_same p h s (positivity p.dims) b k (ap suc (zeros_length p.dims)) (primitive_at (positivity p.dims) 0 refl) zeros
  where
    zeros : (q : ℕ) → Contains h.constraints_canonical.pivots q → entry (positivity p.dims) q ≡ pos 0
    zeros zero i = absurd (no_pivot_first p h i)
    zeros (suc q) i = entry_zeros p.dims q

-- ---- the rows of a polyhedron
-- what is valid on all its points is at least 0 on each vector that solves the rows and the positivity row
solution_above : (r : Polyhedron) (k : HasPoint r) (rows : List LinearRow) → IsPolyhedronOf r.dims (Con rows) r → (c : List ℤ) → Contains (con r k) c → (g : List ℤ) → length g ≡ suc r.dims →
    Solves (positivity r.dims ∷ system_of rows) (entry g) → pos 0 ≤ℤ product c g
solution_above r k rows made c m g lg s = by_column (above_zero (entry g 0) (subst (λ z. pos 0 ≤ℤ z) (positivity_product r.dims g)
    (s (positivity r.dims) (contains_head (positivity r.dims) (system_of rows)))))
  where
    above_zero : (z : ℤ) → pos 0 ≤ℤ z → (pos 0 <ℤ z) ⊎ (z ≡ pos 0)
    above_zero (pos zero) h = inr refl
    above_zero (pos (suc n)) h = inl (omega (arith, ints))
    above_zero (negsuc n) h = absurd (omega (arith, ints, h))

    at_point : (x : List ℤ) → IsPoint r.dims x → Solves (system_of rows) (entry x) → pos 0 ≤ℤ product c x
    at_point x is_point h = cone_solved r k x is_point (made.points.0 x is_point (solves_con rows x h)) c m

    solves_rows : Solves (system_of rows) (entry g)
    solves_rows t i = s t (contains_tail (positivity r.dims) t (system_of rows) i)

    by_column : (pos 0 <ℤ entry g 0) ⊎ (entry g 0 ≡ pos 0) → pos 0 ≤ℤ product c g
    by_column (inl d) = at_point g (record { width = lg; divisor = d }) solves_rows
    by_column (inr z) =
        let b = some_member k.points k.some_point in
        let in_gen : Contains (gen r k) b.0 = Contains-append_left (k.points ++ k.rays) (both_ways k.lines) b.0 (Contains-append_left k.points k.rays b.0 b.1) in
        let lb : length b.0 ≡ suc r.dims = k.dual.row_widths b.0 in_gen in
        let is_point : IsPoint r.dims b.0 = record { width = lb; divisor = k.divisors b.0 b.1 } in
        let there : Solves (system_of rows) (entry b.0) = con_solves rows b.0 (made.points.1 b.0 is_point (rows_hold r k b.0 (k.dual.meets b.0 in_gen))) in
        let same : length b.0 ≡ length g = lb ∙ sym lg in
        far (product c b.0) (product c g) (λ n. subst (λ y. pos 0 ≤ℤ y) (gone_product c b.0 g n same)
        (at_point (gone b.0 g n) (record { width = blend_length (pos 1) (pos n) b.0 g same ∙ lb; divisor = subst (λ y. pos 0 <ℤ y) (sym (gone_divisor b.0 g n same z)) (k.divisors b.0 b.1) })
        (λ t i. subst (λ y. pos 0 ≤ℤ y) (sym (gone_product t b.0 g n same)) (add_nonnegative (product t b.0) (pos n *ℤ product t g) (there t i)
        (mul_nonnegative (pos n) (product t g) (omega (arith, ints)) (solves_rows t i))))))

-- each row is valid on the polyhedron
system_above : (r : Polyhedron) (k : HasPoint r) (rows : List LinearRow) → IsPolyhedronOf r.dims (Con rows) r → (t : List ℤ) → Contains (system_of rows) t → IsAbove (gen r k) t
system_above r k rows made t i g m = elim (columns g m) [
  | inl d ↦ con_solves rows g (at g m d) t i
  | inr z ↦
      let b = some_member k.points k.some_point in
      let in_gen : Contains (gen r k) b.0 = Contains-append_left (k.points ++ k.rays) (both_ways k.lines) b.0 (Contains-append_left k.points k.rays b.0 b.1) in
      let lb : length b.0 ≡ suc r.dims = k.dual.row_widths b.0 in_gen in
      let same : length b.0 ≡ length g = lb ∙ sym (k.dual.row_widths g m) in
      far (product t b.0) (product t g) (λ n. subst (λ y. pos 0 ≤ℤ y) (gone_product t b.0 g n same)
      (con_solves rows (gone b.0 g n) (made.points.1 (gone b.0 g n)
      (record { width = blend_length (pos 1) (pos n) b.0 g same ∙ lb; divisor = subst (λ y. pos 0 <ℤ y) (sym (gone_divisor b.0 g n same z)) (k.divisors b.0 b.1) })
      (rows_hold r k (gone b.0 g n) (λ c j. subst (λ y. pos 0 ≤ℤ y) (sym (gone_product c b.0 g n same)) (add_nonnegative (product c b.0) (pos n *ℤ product c g) (k.dual.meets b.0 in_gen c j)
      (mul_nonnegative (pos n) (product c g) (omega (arith, ints)) (k.dual.meets g m c j)))))) t i))
]
  where
    columns : (g : List ℤ) → Contains (gen r k) g → (pos 0 <ℤ entry g 0) ⊎ (entry g 0 ≡ pos 0)
    columns = columns_of r k

    at : (g : List ℤ) → Contains (gen r k) g → pos 0 <ℤ entry g 0 → Con rows g
    at g m d = made.points.1 g (record { width = k.dual.row_widths g m; divisor = d }) (rows_hold r k g (k.dual.meets g m))

-- a facet that isn't the positivity row stands beside one of the rows
pub facet_row : (r : Polyhedron) (k : HasPoint r) (rows : List LinearRow) → IsPolyhedronOf r.dims (Con rows) r → ((g : LinearRow) → Contains rows g → length g.row ≡ suc r.dims) →
    (f : List ℤ) → Contains k.facets f → f ≢ positivity r.dims →
    (g : LinearRow) × Contains rows g × ((b : Beside (both_ways k.equalities) f g.row) × (0 < b.other))
facet_row r k rows made widths f m other =
    let n = suc r.dims in
    let system = positivity r.dims ∷ system_of rows in
    let d = description_exists n system all_widths in
    let in_con : Contains (con r k) f = Contains-append_left k.facets (both_ways k.equalities) f m in
    let lf : length f ≡ n = k.dual.system_widths f in_con in
    let gf : Generated system (entry f) = d.1.consequences f lf
    (λ g i. subst (λ z. pos 0 ≤ℤ z) (product_comm f g) (solution_above r k rows made f in_con g (d.1.row_widths g i) (d.1.meets g i))) in
    let x = strong_found (con r k) (both_ways k.equalities) f (ray_extreme k.equalities k.facets f k.constraints_canonical m)
    (λ u g. generated_right k.facets (both_ways k.equalities) u g) system
    (λ t i. above_generated r k t (all_widths t i) (system_valid t i)) gf.factors (λ j. pos 0) (generated_zero (both_ways k.equalities)) gf.multiple gf.positive
    (λ j. gf.is_sum j ∙ ring (v (sum_of gf.factors system j)) (v (sum_of gf.factors system j) ⊕ v (pos 0)) (omega arith)) in
    elim (contains_cases (positivity r.dims) x.0 (system_of rows) x.1) [
      | inl e ↦ absurd (other (sym (positivity_beside r k f m (subst (Beside (both_ways k.equalities) f) (sym e) x.2.0))))
      | inr i ↦
          let g = system_from rows x.0 i in
          elim g.sign [
            | inl e ↦ (g.given, g.has, moved x.0 g.given.row e x.2)
            | inr e ↦ absurd (facet_not_flat r k f m (λ t j.
                beside_back (both_ways k.equalities) f x.0 x.2.0 x.2.1 t (line_flat r k x.2.0.line x.2.0.on_line t j)
                (between (product x.0 t) (product g.given.row t) (ap (λ (y : List ℤ). product y t) e.1 ∙ negated_dot g.given.row (entry t))
                (system_above r k rows made x.0 i t j) (system_above r k rows made g.given.row (system_has rows g.given g.has) t j))))
          ]
    ]
  where
    all_widths : (c : List ℤ) → Contains (positivity r.dims ∷ system_of rows) c → length c ≡ suc r.dims
    all_widths c i = elim (contains_cases (positivity r.dims) c (system_of rows) i) [
      | inl e ↦ ap length (sym e) ∙ ap suc (zeros_length r.dims)
      | inr j ↦ let g = system_from rows c j in elim g.sign [
        | inl e ↦ ap length e ∙ widths g.given g.has
        | inr e ↦ ap length e.1 ∙ negated_length g.given.row ∙ widths g.given g.has
      ]
    ]

    system_valid : (t : List ℤ) → Contains (positivity r.dims ∷ system_of rows) t → IsAbove (gen r k) t
    system_valid t i g j = elim (contains_cases (positivity r.dims) t (system_of rows) i) [
      | inl e ↦ subst (λ (y : List ℤ). pos 0 ≤ℤ product y g) e (subst (λ z. pos 0 ≤ℤ z) (sym (positivity_product r.dims g)) (first_column (columns_of r k g j)))
      | inr m ↦ system_above r k rows made t m g j
    ]
      where
        first_column : (pos 0 <ℤ entry g 0) ⊎ (entry g 0 ≡ pos 0) → pos 0 ≤ℤ entry g 0
        first_column (inl d) = omega (arith, ints, d)
        first_column (inr z) = omega (arith, ints, z)

    moved : (t s : List ℤ) → t ≡ s → ((b : Beside (both_ways k.equalities) f t) × (0 < b.other)) → (b : Beside (both_ways k.equalities) f s) × (0 < b.other)
    moved t s e b = subst (λ (y : List ℤ). (b : Beside (both_ways k.equalities) f y) × (0 < b.other)) e b

    between : (z y : ℤ) → z ≡ neg_ℤ y → pos 0 ≤ℤ z → pos 0 ≤ℤ y → z ≡ pos 0
    between z y e h k = omega (arith, ints, e, h, k)
