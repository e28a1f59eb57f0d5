-- One spelling: the canonical lists of a polyhedron are those of each polyhedron with the same points, whatever made them. If
-- there is a point p, a ray r is a direction in which p + k r stays in the set for each k, so the points alone determine the cone of
-- points and rays, and its canonical descriptions are unique.
use Rattle.std.proofs.Common.{Bool, List, [], ap, arith, false, inl, inr, length, neg_ℤ, negsuc, pos, refl, subst, suc, sym, true, zero, ℕ, ℤ, ◌*ℤ◌, ◌*◌, ◌++◌, ◌+ℤ◌, ◌<ℤ◌, ◌<◌, ◌∙◌, ◌∷◌, ◌≡◌, ◌≢◌}
use Rattle.std.proofs.{Common.◌≤ℤ◌, Common.◌⊎◌, lemmas.Int.ints, lemmas.List.Elements.Contains-append_cases, lemmas.List.Elements.Contains-append_left, lemmas.List.Elements.Contains-append_right}
use Rattle.std.specs.List.{Contains}
use borrow.Author.Differences.{up}
use Rattle.lra_linear_spec.specs.{Cones.AreDual, Cones.Generated, Cones.Solves, Cones.all_rows, Cones.both_ways, Descriptions.Con, Descriptions.LinearRow, Descriptions.HoldsWith, Descriptions.rows_as}
use Rattle.lra_linear_spec.specs.{Points.IsPoint, Points.IsWithin, Points.SameSet, Polyhedra.HasPoint, Polyhedra.IsPolyhedron, Polyhedra.IsWithoutPoint, Polyhedra.Polyhedron, Polyhedra.falsity}
use Rattle.lra_linear_spec.specs.{Polyhedra.positivity, RowOrder.inequality_cmp, RowOrder.row_cmp, Vectors.blend, Vectors.dot, Vectors.entry, Vectors.negated, Vectors.product, Vectors.zeros}
use Rattle.lra_linear_spec.proofs.Signs.{add_nonnegative, between_opposites, not_both, opposite_of_zero, zero_at_least}
use Rattle.lra_linear_spec.proofs.{CanonicalForms.one_spelling, Descriptions.dual_flipped, LinearMaps.generated_nonneg, LinearMaps.generated_through, Lines.in_lines, Lines.in_lines_negated}
use Rattle.lra_linear_spec.proofs.{Lines.signed_from, Lines.signed_zero, Membership.contains_cases, Membership.contains_head, Membership.contains_none, Membership.contains_tail}
use Rattle.lra_linear_spec.proofs.{Membership.same_ascending, Products.blend_length, Products.dot_linear, Products.dot_same, Products.entry_blend, Products.negated_dot, Products.product_comm}
use Rattle.lra_linear_spec.proofs.{Ring.mul_nonnegative, Ring.ring, Ring.v, Ring.⊖, Ring.◌⊕◌, Ring.◌⊗◌, RowOrder.inequality_cmp_total, RowOrder.never_both, RowOrder.row_cmp_total}

-- ---- rows of one kind
pub given_from : (b : Bool) (rows : List (List ℤ)) (g : LinearRow) → Contains (rows_as b rows) g → (g.equal ≡ b) × Contains rows g.row
given_from b [] g k = absurd (contains_none g k)
given_from b (r ∷ rows) g k = elim (contains_cases (let x : LinearRow = record { row = r; equal = b } in x) g (rows_as b rows) k) [
  | inl e ↦ (sym (ap (λ y. y.equal) e), subst (λ y. Contains (r ∷ rows) y.row) e (contains_head r rows))
  | inr d ↦ let i = given_from b rows g d in (i.0, contains_tail r g.row rows i.1)
]

pub given_has : (b : Bool) (rows : List (List ℤ)) (r : List ℤ) → Contains rows r → Contains (rows_as b rows) (record { row = r; equal = b })
given_has b [] r k = absurd (contains_none r k)
given_has b (x ∷ rows) r k = elim (contains_cases x r rows k) [
  | inl e ↦ subst (λ y. Contains (rows_as b (x ∷ rows)) (record { row = y; equal = b })) e (contains_head (let g : LinearRow = record { row = x; equal = b } in g) (rows_as b rows))
  | inr d ↦ contains_tail (let g : LinearRow = record { row = x; equal = b } in g) (let g : LinearRow = record { row = r; equal = b } in g) (rows_as b rows) (given_has b rows r d)
]

-- ---- the positivity row holds at each point
pub dot_zeros : (n : ℕ) (u : ℕ → ℤ) → dot (zeros n) u ≡ pos 0
dot_zeros zero u = refl
dot_zeros (suc n) u = ap (λ z. (pos 0 *ℤ u 0) +ℤ z) (dot_zeros n (λ j. u (suc j))) ∙ ring (v (pos 0) ⊗ v (u 0) ⊕ v (pos 0)) (v (pos 0)) (omega arith)

-- the product of the positivity row is the divisor
pub positivity_product : (n : ℕ) (x : List ℤ) → product (positivity n) x ≡ entry x 0
positivity_product n x = ap (λ z. (pos 1 *ℤ entry x 0) +ℤ z) (dot_zeros n (λ j. entry x (suc j))) ∙ ring (v (pos 1) ⊗ v (entry x 0) ⊕ v (pos 0)) (v (entry x 0)) (omega arith)

-- that of the row -1 is its opposite
falsity_product : (n : ℕ) (x : List ℤ) → product (falsity n) x ≡ neg_ℤ (entry x 0)
falsity_product n x = ap (λ z. (negsuc 0 *ℤ entry x 0) +ℤ z) (dot_zeros n (λ j. entry x (suc j))) ∙ ring (v (negsuc 0) ⊗ v (entry x 0) ⊕ v (pos 0)) (⊖ (v (entry x 0))) (omega arith)

-- so -1 >= 0 holds at no point
pub falsity_never : (n : ℕ) (x : List ℤ) → IsPoint n x → ¬ (pos 0 ≤ℤ product (falsity n) x)
falsity_never n x p h = below (entry x 0) (product (falsity n) x) p.divisor (falsity_product n x) h
  where
    below : (d z : ℤ) → pos 0 <ℤ d → z ≡ neg_ℤ d → pos 0 ≤ℤ z → ⊥
    below d z h e k = omega (arith, ints, h, e, k)

-- ---- a direction in which one can go for ever
pub far : (a b : ℤ) → ((k : ℕ) → pos 0 ≤ℤ (a +ℤ (pos k *ℤ b))) → pos 0 ≤ℤ b
far a (pos n) h = omega (arith, ints)
far (pos m) (negsuc n) h = absurd (below m n (h (suc m)))
  where
    smaller : (m n : ℕ) → m < suc m * suc n
    smaller m n = grind arith

    below : (m n : ℕ) → pos 0 ≤ℤ (pos m +ℤ (pos (suc m) *ℤ negsuc n)) → ⊥
    below m n h = omega (arith, ints, smaller m n, h)
far (negsuc m) (negsuc n) h = absurd (let k = h 0 in omega (arith, ints, k))

-- b + k t
abbrev pub gone : List ℤ → List ℤ → ℕ → List ℤ
gone b t k = blend (pos 1) (pos k) b t

-- its entries, products and divisor
pub gone_entry : (b t : List ℤ) (k : ℕ) → length b ≡ length t → (j : ℕ) → entry (gone b t k) j ≡ (pos 1 *ℤ entry b j) +ℤ (pos k *ℤ entry t j)
gone_entry b t k e j = entry_blend (pos 1) (pos k) b t e j

pub gone_product : (c b t : List ℤ) (k : ℕ) → length b ≡ length t → product c (gone b t k) ≡ product c b +ℤ (pos k *ℤ product c t)
gone_product c b t k e =
    dot_same c (entry (gone b t k)) (λ j. (pos 1 *ℤ entry b j) +ℤ (pos k *ℤ entry t j)) (gone_entry b t k e) ∙
    dot_linear c (pos 1) (pos k) (entry b) (entry t) ∙ ring (v (pos 1) ⊗ v (product c b) ⊕ v (pos k) ⊗ v (product c t)) (v (product c b) ⊕ v (pos k) ⊗ v (product c t)) (omega arith)

pub gone_divisor : (b t : List ℤ) (k : ℕ) → length b ≡ length t → entry t 0 ≡ pos 0 → entry (gone b t k) 0 ≡ entry b 0
gone_divisor b t k e z =
    gone_entry b t k e 0 ∙ ap (λ y. (pos 1 *ℤ entry b 0) +ℤ (pos k *ℤ y)) z ∙ ring (v (pos 1) ⊗ v (entry b 0) ⊕ v (pos k) ⊗ v (pos 0)) (v (entry b 0)) (omega arith)

-- if each point that solves the one system solves the other, so does each row of the one's description
abbrev Points : ℕ → List (List ℤ) → List (List ℤ) → Type 0
Points n system other = (x : List ℤ) → IsPoint n x → Solves system (entry x) → Solves other (entry x)

-- a direction of the one is one of the other
direction_solves : (n : ℕ) (system rows other : List (List ℤ)) → AreDual (suc n) system rows → Points n system other →
    (b t : List ℤ) → Contains rows b → pos 0 <ℤ entry b 0 → Contains rows t → entry t 0 ≡ pos 0 → Solves other (entry t)
direction_solves n system rows other d points b t kb h kt z c i =
    far (product c b) (product c t)
    (λ k. subst (λ y. pos 0 ≤ℤ y) (gone_product c b t k same) (points (gone b t k)
    (record { width = blend_length (pos 1) (pos k) b t same ∙ d.row_widths b kb; divisor = subst (λ y. pos 0 <ℤ y) (sym (gone_divisor b t k same z)) h })
    (λ s m. subst (λ y. pos 0 ≤ℤ y) (sym (gone_product s b t k same)) (add_nonnegative (product s b) (pos k *ℤ product s t) (d.meets b kb s m)
    (mul_nonnegative (pos k) (product s t) (omega (arith, ints)) (d.meets t kt s m))))
    c i))
  where
    same : length b ≡ length t
    same = d.row_widths b kb ∙ sym (d.row_widths t kt)

-- the rows of the one's description lie in the other's cone
rows_solve : (n : ℕ) (system rows other : List (List ℤ)) → AreDual (suc n) system rows → Points n system other →
    (b : List ℤ) → Contains rows b → pos 0 <ℤ entry b 0 → ((t : List ℤ) → Contains rows t → (pos 0 <ℤ entry t 0) ⊎ (entry t 0 ≡ pos 0)) → (t : List ℤ) → Contains rows t → Solves other (entry t)
rows_solve n system rows other d points b kb h columns t k = elim (columns t k) [
  | inl p ↦ points t (record { width = d.row_widths t k; divisor = p }) (d.meets t k)
  | inr z ↦ direction_solves n system rows other d points b t kb h k z
]

-- two lists that generate the same describe the same system
pub dual_same_cone : (w : ℕ) (system rows other : List (List ℤ)) → AreDual w system rows → ((t : List ℤ) → Contains other t → length t ≡ w) →
    ((t : List ℤ) → Contains rows t → Generated other (entry t)) → ((t : List ℤ) → Contains other t → Generated rows (entry t)) → AreDual w system other
dual_same_cone w system rows other d widths there back = record {
  system_widths = d.system_widths;
  row_widths = widths;
  solutions = λ u l s. generated_through other rows (entry u) there (d.solutions u l s);
  consequences = λ c l s. d.consequences c l (λ t k. subst (λ y. pos 0 ≤ℤ y) (product_comm c t)
      (generated_nonneg c other (entry t) (λ o m. subst (λ y. pos 0 ≤ℤ y) (product_comm o c) (s o m)) (there t k)));
  meets = λ r k c m. generated_nonneg c rows (entry r) (λ t i. d.meets t i c m) (back r k);
}

-- ---- the points of a polyhedron are those of its cone
-- the points of the cone are those of the constraints
pub rows_hold : (p : Polyhedron) (h : HasPoint p) (x : List ℤ) → Solves (all_rows h.equalities h.facets) (entry x) → Con p.rows x
rows_hold p h x s g k = elim (Contains-append_cases (rows_as true h.equalities) (rows_as false h.inequalities) g (subst (λ l. Contains l g) h.rows_are k)) [
  | inl e ↦
      let f = given_from true h.equalities g e in
      subst (λ b. HoldsWith b (product g.row x)) (sym f.0)
      (between_opposites (product g.row x) (dot (negated g.row) (entry x)) (negated_dot g.row (entry x))
      (s g.row (Contains-append_right h.facets (both_ways h.equalities) g.row (in_lines h.equalities g.row f.1)))
      (s (negated g.row) (Contains-append_right h.facets (both_ways h.equalities) (negated g.row) (in_lines_negated h.equalities g.row f.1))))
  | inr i ↦
      let f = given_from false h.inequalities g i in
      subst (λ b. HoldsWith b (product g.row x)) (sym f.0) (s g.row (Contains-append_left h.facets (both_ways h.equalities) g.row (h.shown g.row f.1).0))
]

-- and the other way round
pub cone_solved : (p : Polyhedron) (h : HasPoint p) (x : List ℤ) → IsPoint p.dims x → Con p.rows x → Solves (all_rows h.equalities h.facets) (entry x)
cone_solved p h x is_point c r k = elim (Contains-append_cases h.facets (both_ways h.equalities) r k) [
  | inl f ↦ elim (h.all_shown r f) [
    | inl e ↦ subst (λ y. pos 0 ≤ℤ product y x) (sym e) (positive (entry x 0) (product (positivity p.dims) x) (positivity_product p.dims x) is_point.divisor)
    | inr i ↦ c (record { row = r; equal = false })
        (subst (λ l. Contains l (record { row = r; equal = false })) (sym h.rows_are) (Contains-append_right (rows_as true h.equalities) (rows_as false h.inequalities)
        (record { row = r; equal = false }) (given_has false h.inequalities r i)))
  ]
  | inr b ↦
      let s = signed_from h.equalities r b in
      let e : product s.line x ≡ pos 0 = c (record { row = s.line; equal = true })
      (subst (λ l. Contains l (record { row = s.line; equal = true })) (sym h.rows_are) (Contains-append_left (rows_as true h.equalities) (rows_as false h.inequalities)
      (record { row = s.line; equal = true }) (given_has true h.equalities s.line s.has))) in
      elim s.sign [
        | inl q ↦ subst (λ y. pos 0 ≤ℤ product y x) (sym q) (zero_at_least (product s.line x) e)
        | inr q ↦ subst (λ y. pos 0 ≤ℤ product y x) (sym q) (opposite_of_zero (product s.line x) (dot (negated s.line) (entry x)) (negated_dot s.line (entry x)) e)
      ]
]
  where
    positive : (d z : ℤ) → z ≡ d → pos 0 <ℤ d → pos 0 ≤ℤ z
    positive d z e h = omega (arith, ints, e, h)

-- column 0 of a generator
pub columns_of : (p : Polyhedron) (h : HasPoint p) (t : List ℤ) → Contains (all_rows h.lines (h.points ++ h.rays)) t → (pos 0 <ℤ entry t 0) ⊎ (entry t 0 ≡ pos 0)
columns_of p h t k = elim (Contains-append_cases (h.points ++ h.rays) (both_ways h.lines) t k) [
  | inl r ↦ elim (Contains-append_cases h.points h.rays t r) [ inl i ↦ inl (h.divisors t i) | inr i ↦ inr (h.directions t (inl i)) ]
  | inr b ↦ let s = signed_from h.lines t b in inr (signed_zero s.line t s.sign 0 (h.directions s.line (inr s.has)))
]

pub some_member : (xs : List (List ℤ)) → xs ≢ [] → (x : List ℤ) × Contains xs x
some_member [] n = absurd (n refl)
some_member (x ∷ xs) n = (x, contains_head x xs)

-- ---- the theorem
made_of : (d e : ℕ) (rows rows' generators generators' : List LinearRow) → d ≡ e → rows ≡ rows' → generators ≡ generators' →
    (let p : Polyhedron = record { dims = d; rows = rows; generators = generators } in p) ≡ record { dims = e; rows = rows'; generators = generators' }
made_of d e rows rows' generators generators' h k l =
    ap (λ n. record { dims = n; rows = rows; generators = generators }) h ∙ ap (λ x. record { dims = e; rows = x; generators = generators }) k ∙
    ap (λ x. record { dims = e; rows = rows'; generators = x }) l

-- of two lists with the same members, all of the first part above 0 in column 0 and all of the second 0 there, the first parts have the
-- same members
first_part : (points rays points' rays' : List (List ℤ)) → ((r : List ℤ) → Contains points r → pos 0 <ℤ entry r 0) → ((r : List ℤ) → Contains rays' r → entry r 0 ≡ pos 0) →
    ((r : List ℤ) → Contains (points ++ rays) r → Contains (points' ++ rays') r) → (r : List ℤ) → Contains points r → Contains points' r
first_part points rays points' rays' up flat same r k = elim (Contains-append_cases points' rays' r (same r (Contains-append_left points rays r k))) [
  | inl i ↦ i
  | inr i ↦ absurd (not_both (entry r 0) (up r k) (flat r i))
]

second_part : (points rays points' rays' : List (List ℤ)) → ((r : List ℤ) → Contains points' r → pos 0 <ℤ entry r 0) → ((r : List ℤ) → Contains rays r → entry r 0 ≡ pos 0) →
    ((r : List ℤ) → Contains (points ++ rays) r → Contains (points' ++ rays') r) → (r : List ℤ) → Contains rays r → Contains rays' r
second_part points rays points' rays' up flat same r k = elim (Contains-append_cases points' rays' r (same r (Contains-append_right points rays r k))) [
  | inl i ↦ absurd (not_both (entry r 0) (up r i) (flat r k))
  | inr i ↦ i
]

-- if both have a point
with_points : (p q : Polyhedron) → HasPoint p → HasPoint q → q.dims ≡ p.dims → SameSet p.dims (Con p.rows) (Con q.rows) → p ≡ q
with_points p q h k e same =
    let sp = all_rows h.equalities h.facets in
    let gp = all_rows h.lines (h.points ++ h.rays) in
    let sq = all_rows k.equalities k.facets in
    let gq = all_rows k.lines (k.points ++ k.rays) in
    let dq : AreDual (suc p.dims) sq gq = subst (λ (n : ℕ). AreDual (suc n) sq gq) e k.dual in
    let there : Points p.dims sp sq = λ x is_point s. cone_solved q k x (subst (λ (n : ℕ). IsPoint n x) (sym e) is_point) (same.0 x is_point (rows_hold p h x s)) in
    let back : Points p.dims sq sp = λ x is_point s. cone_solved p h x is_point (same.1 x is_point (rows_hold q k x s)) in
    let bp = some_member h.points h.some_point in
    let bq = some_member k.points k.some_point in
    let in_gp : Contains gp bp.0 = Contains-append_left (h.points ++ h.rays) (both_ways h.lines) bp.0 (Contains-append_left h.points h.rays bp.0 bp.1) in
    let in_gq : Contains gq bq.0 = Contains-append_left (k.points ++ k.rays) (both_ways k.lines) bq.0 (Contains-append_left k.points k.rays bq.0 bq.1) in
    let to_q : (t : List ℤ) → Contains gp t → Generated gq (entry t) = λ t i. dq.solutions t (h.dual.row_widths t i)
    (rows_solve p.dims sp gp sq h.dual there bp.0 in_gp (h.divisors bp.0 bp.1) (columns_of p h) t i) in
    let to_p : (t : List ℤ) → Contains gq t → Generated gp (entry t) = λ t i. h.dual.solutions t (dq.row_widths t i)
    (rows_solve p.dims sq gq sp dq back bq.0 in_gq (k.divisors bq.0 bq.1) (columns_of q k) t i) in
    let d : AreDual (suc p.dims) sp gq = dual_same_cone (suc p.dims) sp gp gq h.dual dq.row_widths to_q to_p in
    let g = one_spelling (suc p.dims) sp h.lines (h.points ++ h.rays) k.lines (k.points ++ k.rays) h.dual d h.generators_canonical k.generators_canonical in
    let c = one_spelling (suc p.dims) gq h.equalities h.facets k.equalities k.facets (dual_flipped (suc p.dims) sp gq d)
    (dual_flipped (suc p.dims) sq gq dq) h.constraints_canonical k.constraints_canonical in
    let positive : positivity q.dims ≡ positivity p.dims = ap positivity e in
    let inequalities : h.inequalities ≡ k.inequalities = same_ascending inequality_cmp (never_both inequality_cmp inequality_cmp_total) h.inequalities k.inequalities h.inequalities_ascend
    k.inequalities_ascend (λ r. (
      λ i. elim (k.all_shown r ((c.1 r).0 (h.shown r i).0)) [ inl x ↦ absurd ((h.shown r i).1 (x ∙ positive)) | inr x ↦ x ],
      λ i. elim (h.all_shown r ((c.1 r).1 (k.shown r i).0)) [ inl x ↦ absurd ((k.shown r i).1 (x ∙ sym positive)) | inr x ↦ x ],
    )) in
    let points : h.points ≡ k.points = same_ascending row_cmp (never_both row_cmp row_cmp_total) h.points k.points h.points_ascend k.points_ascend (λ r. (
      first_part h.points h.rays k.points k.rays h.divisors (λ t i. k.directions t (inl i)) (λ t. (g.1 t).0) r,
      first_part k.points k.rays h.points h.rays k.divisors (λ t i. h.directions t (inl i)) (λ t. (g.1 t).1) r,
    )) in
    let rays : h.rays ≡ k.rays = same_ascending row_cmp (never_both row_cmp row_cmp_total) h.rays k.rays h.rays_ascend k.rays_ascend (λ r. (
      second_part h.points h.rays k.points k.rays k.divisors (λ t i. h.directions t (inl i)) (λ t. (g.1 t).0) r,
      second_part k.points k.rays h.points h.rays h.divisors (λ t i. k.directions t (inl i)) (λ t. (g.1 t).1) r,
    )) in
    let rows : p.rows ≡ q.rows =
    h.rows_are ∙ ap (λ x. rows_as true x ++ rows_as false h.inequalities) c.0 ∙ ap (λ x. rows_as true k.equalities ++ rows_as false x) inequalities ∙ sym k.rows_are in
    let generators : p.generators ≡ q.generators =
    h.generators_are ∙ ap (λ x. rows_as false x ++ rows_as false h.rays ++ rows_as true h.lines) points ∙ ap (λ x. rows_as false k.points ++ rows_as false x ++ rows_as true h.lines) rays ∙
    ap (λ x. rows_as false k.points ++ rows_as false k.rays ++ rows_as true x) g.0 ∙ sym k.generators_are in
    made_of p.dims q.dims p.rows q.rows p.generators q.generators (sym e) rows generators

-- no point on the one side, a point on the other
one_sided : (p q : Polyhedron) → IsWithoutPoint p → HasPoint q → q.dims ≡ p.dims → IsWithin p.dims (Con q.rows) (Con p.rows) → ⊥
one_sided p q none h e within =
    let b = some_member h.points h.some_point in
    let i = Contains-append_left (h.points ++ h.rays) (both_ways h.lines) b.0 (Contains-append_left h.points h.rays b.0 b.1) in
    let is_point : IsPoint p.dims b.0 = record { width = h.dual.row_widths b.0 i ∙ ap suc e; divisor = h.divisors b.0 b.1 } in
    let holds = within b.0 is_point (rows_hold q h b.0 (h.dual.meets b.0 i)) in
    falsity_never p.dims b.0 is_point (holds (record { row = falsity p.dims; equal = false })
    (subst (λ l. Contains l (record { row = falsity p.dims; equal = false })) (sym none.0) (contains_head (let g : LinearRow = record { row = falsity p.dims; equal = false } in g) [])))

-- polyhedra with the same points have equal lists of constraints and of generators
pub same_points_same_lists : (p q : Polyhedron) → IsPolyhedron p → IsPolyhedron q → q.dims ≡ p.dims → SameSet p.dims (Con p.rows) (Con q.rows) → p ≡ q
same_points_same_lists p q (inl h) (inl k) e same =
    made_of p.dims q.dims p.rows q.rows p.generators q.generators (sym e)
    (h.0 ∙ ap (λ n. record { row = falsity n; equal = false } ∷ []) (sym e) ∙ sym k.0) (h.1 ∙ sym k.1)
same_points_same_lists p q (inl h) (inr k) e same = absurd (one_sided p q h k e same.1)
same_points_same_lists p q (inr h) (inl k) e same =
    absurd (one_sided q p k h (sym e) (λ x is_point c. same.0 x (subst (λ (n : ℕ). IsPoint n x) e is_point) c))
same_points_same_lists p q (inr h) (inr k) e same = with_points p q h k e same
