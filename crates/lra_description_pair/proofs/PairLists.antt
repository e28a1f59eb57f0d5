-- Canonical constraints and canonical generators of one cone are a polyhedron's.
use Rattle.std.proofs.Common.{◌≡◌, ◌≢◌, ◌≤◌, ℕ, suc, Bool, true, false, List, [], ◌∷◌, ◌++◌, length, drop, refl, ap, sym, ◌∙◌, subst, arith, pos, ℤ, neg_ℤ, ◌<ℤ◌, ◌≤ℤ◌, inl, inr}
use Rattle.std.proofs.{lemmas.Int.ints, lemmas.List.Elements.Contains-append_left, lemmas.List.Elements.Contains-append_right}
use Rattle.std.specs.List.{Contains, All}
use Rattle.lra_description_pair.specs.Crates.lra_linear_spec.Cones.{AreDual, Generated, both_ways, all_rows}
use Rattle.lra_description_pair.specs.Crates.lra_linear_spec.Descriptions.{LinearRow, AreGenerators, Con, Gen, inequality, rows_as, system_of}
use Rattle.lra_description_pair.specs.Crates.lra_linear_spec.Polyhedra.{Polyhedron, HasPoint, IsPolyhedron, IsPolyhedronOf, IsWithoutPoint, positivity, falsity}
use Rattle.lra_description_pair.specs.Crates.lra_linear_spec.Vectors.{entry, dot, product, negated}
use Rattle.lra_description_pair.specs.Crates.lra_systems.LinearSystems.{LinearSystem, constraints, generators, rows_by_kind, FitKinds}
use Rattle.lra_description_pair.specs.Crates.{lra_linear_spec.Canonical.IsCanonical, lra_linear_spec.Canonical.IsCanonicalOf, lra_linear_spec.ConeStrain.row_limit, lra_linear_spec.Kinds.is_equality}
use Rattle.lra_description_pair.specs.Crates.{lra_linear_spec.Kinds.is_line, lra_linear_spec.LowestTerms.IsPrimitive, lra_linear_spec.OperationStrain.unit_row, lra_linear_spec.Points.PointSet}
use Rattle.lra_description_pair.specs.Crates.{lra_linear_spec.Points.IsPoint, lra_linear_spec.Points.SameSet, lra_linear_spec.Points.IsEmptySet, lra_linear_spec.Representable.KeepsLimit}
use Rattle.lra_description_pair.specs.Crates.{lra_linear_spec.declared.ConKind.ConKind, lra_linear_spec.declared.ConKind.TheVariants.Ge, lra_linear_spec.declared.GenKind.GenKind}
use Rattle.lra_description_pair.proofs.Crates.lra_linear_spec.Descriptions.{con_none, dual_flipped, system_from, gen_generated}
use Rattle.lra_description_pair.proofs.Crates.lra_linear_spec.Membership.{contains_head, contains_none, each_one, split_one}
use Rattle.lra_description_pair.proofs.Crates.lra_linear_spec.OneSpelling.{dual_same_cone, falsity_never, positivity_product}
use Rattle.lra_description_pair.proofs.Crates.{lra_linear_spec.Combinations.generated_row, lra_linear_spec.LinearMaps.separated, lra_linear_spec.LinearMaps.generated_nonneg}
use Rattle.lra_description_pair.proofs.Crates.{lra_linear_spec.Lines.in_lines, lra_linear_spec.Lines.zeros_length, lra_linear_spec.LowestTerms.primitive_at, lra_linear_spec.Polyhedra.con_gen}
use Rattle.lra_description_pair.proofs.Crates.{lra_linear_spec.Products.dot_minus, lra_linear_spec.Products.entry_negated, lra_linear_spec.Products.negated_dot, lra_linear_spec.Signs.opposite_of_zero}
use Rattle.lra_description_pair.proofs.GeneratorLists.{at_least_zero, generators_shown, listed_counted, listed_generators, listed_have, flat_rows, nothing_generated, same_points}
use Rattle.lra_description_pair.proofs.{ConstraintLists.listed_facets, ConstraintLists.listed_hold, ConstraintLists.nothing_is, ConstraintLists.same_constraints, OwnRows.all_width}
use Rattle.lra_cone.specs.Cones.{ConeContent, IsCone}
use Rattle.lra_descriptions.specs.ShownLists.{HasGenerators, AreGeneratorsOf, HasConstraints, ListsGenerators, ShowsGenerators, ShowsConstraints}
use Rattle.lra_description_pair.specs.OwnLists.{IsOwnList, IsPositive}

-- ---- both lists
-- the two lists, of descriptions that are dual
both_lists : (p : Polyhedron) (system : List (List ℤ)) (g : HasGenerators p.dims system p.generators) (c : HasConstraints p.dims (all_rows g.lines (g.points ++ g.rays)) p.rows) →
    (h : HasPoint p) × (h.facets ≡ c.facets) × (length (h.points ++ h.rays) ≡ length (g.points ++ g.rays))
both_lists p system g c = (
  record {
    equalities = c.equalities;
    inequalities = c.inequalities;
    rows_are = c.are;
    points = g.points;
    rays = g.rays;
    lines = g.lines;
    generators_are = g.are;
    facets = c.facets;
    shown = c.shown;
    all_shown = c.all_shown;
    dual = dual_flipped (suc p.dims) (all_rows g.lines (g.points ++ g.rays)) (all_rows c.equalities c.facets) c.dual;
    constraints_canonical = c.canonical;
    generators_canonical = g.canonical;
    inequalities_ascend = c.inequalities_ascend;
    points_ascend = g.points_ascend;
    rays_ascend = g.rays_ascend;
    divisors = g.divisors;
    directions = g.directions;
    some_point = g.some_point;
  },
  refl,
  refl,
)

pub has_point : (p : Polyhedron) (system : List (List ℤ)) (g : HasGenerators p.dims system p.generators) → HasConstraints p.dims (all_rows g.lines (g.points ++ g.rays)) p.rows → HasPoint p
has_point p system g c = (both_lists p system g c).0

-- few of each
pub few_lists : (p : Polyhedron) (system : List (List ℤ)) (g : HasGenerators p.dims system p.generators) (c : HasConstraints p.dims (all_rows g.lines (g.points ++ g.rays)) p.rows) (a b : ℕ) →
    length c.facets ≡ a → length (g.points ++ g.rays) ≡ b → a ≤ row_limit → b ≤ row_limit → KeepsLimit p
few_lists p system g c a b e f few less =
    let h = both_lists p system g c in
    let facets = ap length h.1 in
    let rays = h.2 in
    inr (h.0, at_most (length h.0.facets) a (facets ∙ e) few, at_most (length (h.0.points ++ h.0.rays)) b (rays ∙ f) less)
  where
    at_most : (x y : ℕ) → x ≡ y → y ≤ row_limit → x ≤ row_limit
    at_most x y same less = subst (λ (z : ℕ). z ≤ row_limit) (sym same) less

-- another description of what a system generates is dual to the same rows
pub own_dual : (w : ℕ) (system rows lines rays : List (List ℤ)) → AreDual w system rows → IsCanonicalOf w system lines rays → AreDual w rows (all_rows lines rays)
own_dual w system rows lines rays d o =
    dual_same_cone w rows system (all_rows lines rays) (dual_flipped w system rows d) o.widths (λ t m. (o.same (entry t)).0 (generated_row system t m))
    (λ t m. (o.same (entry t)).1 (generated_row (all_rows lines rays) t m))

-- the points of a pair are those of the constraints that it was made from
pub same_set : (n : ℕ) (rows : List LinearRow) (p : Polyhedron) → p.dims ≡ n → IsPolyhedron p → SameSet n (Con rows) (Gen p.generators) → IsPolyhedronOf n (Con rows) p
same_set n rows p d k same =
    let shown : SameSet n (Con p.rows) (Gen p.generators) = subst (λ (m : ℕ). SameSet m (Con p.rows) (Gen p.generators)) d (con_gen p k) in
    record { dimensions = d; canonical = k; points = ((λ x i h. shown.1 x i (same.0 x i h)), (λ x i h. same.1 x i (shown.0 x i h))) }

-- ---- of constraints
-- with some generator
pub pair_of_rows : (cone : ConeContent) (n : ℕ) (kept : List LinearRow) (eqs facets : List (List ℤ)) (rows : LinearSystem ConKind) (list : LinearSystem GenKind) → IsCone cone → cone.dims ≡ n →
    cone.taken ≡ inequality (positivity n) ∷ kept → IsOwnList cone eqs facets → ShowsConstraints n eqs facets rows →
    HasGenerators n (system_of (inequality (positivity n) ∷ kept)) (generators list) → IsPolyhedron (record { dims = n; rows = constraints rows; generators = generators list })
pair_of_rows cone n kept eqs facets rows list k d t own shown g =
    let system = system_of (inequality (positivity n) ∷ kept) in
    let o : IsCanonicalOf (suc n) system eqs facets = subst (λ (m : ℕ). IsCanonicalOf (suc m) system eqs facets) d
    (subst (λ (l : List LinearRow). IsCanonicalOf (suc cone.dims) (system_of l) eqs facets) t own) in
    let x = all_rows g.lines (g.points ++ g.rays) in
    inr (has_point (record { dims = n; rows = constraints rows; generators = generators list }) system g
    (listed_hold n x eqs facets rows (own_dual (suc n) system x eqs facets g.dual o) o.canonical shown))

-- a list with a point isn't empty
given_some : (points : List (List ℤ)) (rays lines : List LinearRow) → points ≢ [] → rows_as false points ++ rays ++ lines ≡ [] → ⊥
given_some [] rays lines n e = n refl
given_some (x ∷ points) rays lines n e = cc

-- if no generator is shown there is no point
pub none_shown : (cone : ConeContent) (n : ℕ) (kept : List LinearRow) (list : LinearSystem GenKind) → IsCone cone → cone.dims ≡ n → cone.taken ≡ inequality (positivity n) ∷ kept →
    ShowsGenerators cone.lines cone.rays list → list.rows ≡ [] → IsEmptySet n (Con kept)
none_shown cone n kept list k d t shown e = elim (generators_shown cone n kept list k d t shown).0 [
  | inl x ↦ x.1
  | inr g ↦ absurd (given_some g.points (rows_as false g.rays) (rows_as true g.lines) g.some_point (sym g.are ∙ ap (λ (x : List (List ℤ)). rows_by_kind is_line x list.kinds) e))
]

-- the empty lists are those of each set without a point
pub empty_pair : (n : ℕ) (P : PointSet) (p : Polyhedron) → p.dims ≡ n → p.rows ≡ inequality (falsity n) ∷ [] → p.generators ≡ [] → IsEmptySet n P → IsPolyhedronOf n P p
empty_pair n P p d er eg none =
    let k : IsPolyhedron p = inl (er ∙ ap (λ (m : ℕ). inequality (falsity m) ∷ []) (sym d), eg) in
    record {
      dimensions = d;
      canonical = k;
      points = (
        (λ x i h. absurd (none x i h)),
        (λ x i h. absurd
            (falsity_never n x i (h (inequality (falsity n)) (subst (λ (l : List LinearRow). Contains l (inequality (falsity n))) (sym er) (contains_head (inequality (falsity n)) []))))),
      );
    }

pub some_shown : (cone : ConeContent) (n : ℕ) (kept : List LinearRow) (list : LinearSystem GenKind) → IsCone cone → cone.dims ≡ n → cone.taken ≡ inequality (positivity n) ∷ kept →
    ShowsGenerators cone.lines cone.rays list → list.rows ≢ [] → HasGenerators n (system_of (inequality (positivity n) ∷ kept)) (generators list)
some_shown cone n kept list k d t shown some = elim (generators_shown cone n kept list k d t shown).0 [
  | inl x ↦ elim shown [
    | inl y ↦ absurd (some y.0)
    | inr h ↦ absurd (given_some h.points (rows_as false h.directions) (rows_as true cone.lines) h.some_point (sym (listed_generators cone.lines cone.rays list h) ∙ x.0))
  ]
  | inr g ↦ g
]

-- as many points and rays as the cone has rays
counted_lists : (cone : ConeContent) (n : ℕ) (kept : List LinearRow) (list : LinearSystem GenKind) → IsCone cone → cone.dims ≡ n → cone.taken ≡ inequality (positivity n) ∷ kept →
    ListsGenerators cone.lines cone.rays list →
    (g : HasGenerators n (system_of (inequality (positivity n) ∷ kept)) (generators list)) × (length (g.points ++ g.rays) ≡ length cone.rays)
counted_lists cone n kept list k d t h =
    let e : cone.taken ≡ inequality (positivity cone.dims) ∷ kept = t ∙ ap (λ (m : ℕ). inequality (positivity m) ∷ kept) (sym d) in
    let x = listed_counted cone.dims (system_of cone.taken) cone.lines cone.rays list k.dual k.canonical (at_least_zero cone kept k e) h in
    subst (λ (m : ℕ). (g : HasGenerators m (system_of (inequality (positivity m) ∷ kept)) (generators list)) × (length (g.points ++ g.rays) ≡ length cone.rays)) d
    (subst (λ (l : List LinearRow). (g : HasGenerators cone.dims (system_of l) (generators list)) × (length (g.points ++ g.rays) ≡ length cone.rays)) e
    (x.0, x.2))

pub rows_limit : (cone : ConeContent) (n : ℕ) (kept : List LinearRow) (eqs facets : List (List ℤ)) (rows : LinearSystem ConKind) (list : LinearSystem GenKind) → IsCone cone → cone.dims ≡ n →
    cone.taken ≡ inequality (positivity n) ∷ kept → IsOwnList cone eqs facets → ShowsConstraints n eqs facets rows → ShowsGenerators cone.lines cone.rays list → list.rows ≢ [] →
    length facets ≤ row_limit → KeepsLimit (record { dims = n; rows = constraints rows; generators = generators list })
rows_limit cone n kept eqs facets rows list k d t own shown (inl y) some few = absurd (some y.0)
rows_limit cone n kept eqs facets rows list k d t own shown (inr h) some few =
    let system = system_of (inequality (positivity n) ∷ kept) in
    let o : IsCanonicalOf (suc n) system eqs facets = subst (λ (m : ℕ). IsCanonicalOf (suc m) system eqs facets) d
    (subst (λ (l : List LinearRow). IsCanonicalOf (suc cone.dims) (system_of l) eqs facets) t own) in
    let g = counted_lists cone n kept list k d t h in
    let x = all_rows g.0.lines (g.0.points ++ g.0.rays) in
    let c = listed_facets n x eqs facets rows (own_dual (suc n) system x eqs facets g.0.dual o) o.canonical shown in
    few_lists (record { dims = n; rows = constraints rows; generators = generators list }) system g.0 c.0 (length facets) (length cone.rays) (ap length c.1) g.1 few k.few

-- ---- all points
one_positive : (n : ℕ) → product (positivity n) (positivity n) ≡ pos 1
one_positive n = positivity_product n (positivity n)

pub canonical_positivity : (n : ℕ) → IsCanonical [] (positivity n ∷ [])
canonical_positivity n = record {
  pivots = [];
  echelon = tt;
  reduced = λ r k q m. absurd (contains_none q m);
  lowest = λ r k. each_one IsPrimitive (positivity n) (primitive_at (positivity n) 0 refl) r k;
  needed = λ front r back e. split_one (λ rest x. ¬ (Generated (all_rows [] rest) (entry x))) (positivity n)
      (separated (negated (positivity n)) [] (entry (positivity n)) (λ t m. absurd (contains_none t m))
      (below (dot (negated (positivity n)) (entry (positivity n))) (negated_dot (positivity n) (entry (positivity n)) ∙ ap neg_ℤ (one_positive n)))) front r back e;
  pointed = λ r k. each_one (λ x. ¬ (Generated (positivity n ∷ []) (λ j. neg_ℤ (entry x j)))) (positivity n)
      (separated (positivity n) (positivity n ∷ []) (λ j. neg_ℤ (entry (positivity n) j))
      (λ t m. each_one (λ x. pos 0 ≤ℤ dot (positivity n) (entry x)) (positivity n) (subst (λ z. pos 0 ≤ℤ z) (sym (one_positive n)) (omega (arith, ints))) t m)
      (below (dot (positivity n) (λ j. neg_ℤ (entry (positivity n) j))) (dot_minus (positivity n) (entry (positivity n)) ∙ ap neg_ℤ (one_positive n)))) r k;
}
  where
    below : (z : ℤ) → z ≡ neg_ℤ (pos 1) → z <ℤ pos 0
    below z e = omega (arith, ints, e)

pub origin : (n : ℕ) → IsPoint n (positivity n)
origin n = record { width = ap suc (zeros_length n); divisor = omega (arith, ints) }

nothing_else : (p : Polyhedron) → p.rows ≡ [] → (g : HasGenerators p.dims (positivity p.dims ∷ []) p.generators) →
    (c : HasConstraints p.dims (all_rows g.lines (g.points ++ g.rays)) p.rows) × (length c.facets ≡ 1)
nothing_else p er g = (
  record {
    equalities = [];
    inequalities = [];
    facets = positivity p.dims ∷ [];
    are = er;
    shown = λ r m. absurd (contains_none r m);
    all_shown = λ r m. inl (each_one (λ x. x ≡ positivity p.dims) (positivity p.dims) refl r m);
    dual = dual_flipped (suc p.dims) (positivity p.dims ∷ []) (all_rows g.lines (g.points ++ g.rays)) g.dual;
    canonical = canonical_positivity p.dims;
    inequalities_ascend = tt;
  },
  refl,
)

pub universe_pair : (cone : ConeContent) (n : ℕ) (list : LinearSystem GenKind) (p : Polyhedron) → IsCone cone → cone.dims ≡ n → cone.taken ≡ inequality (positivity n) ∷ [] →
    ShowsGenerators cone.lines cone.rays list → p.dims ≡ n → p.rows ≡ [] → p.generators ≡ generators list → IsPolyhedronOf n (Con []) p
universe_pair cone n list p k d t shown dp er eg =
    let a : AreGeneratorsOf n [] p.generators = subst (AreGeneratorsOf n []) (sym eg) (generators_shown cone n [] list k d t shown).0 in
    same_set n [] p dp (elim a [
      | inl x ↦ absurd (x.1 (positivity n) (origin n) (con_none (positivity n)))
      | inr g ↦ subst (λ (m : ℕ). (h : HasGenerators m (positivity m ∷ []) p.generators) → IsPolyhedron p) dp (λ h. inr (has_point p (positivity p.dims ∷ []) h (nothing_else p er h).0)) g
    ]) (same_points n [] p.generators a)

pub universe_limit : (cone : ConeContent) (n : ℕ) (list : LinearSystem GenKind) (p : Polyhedron) → IsCone cone → cone.dims ≡ n → cone.taken ≡ inequality (positivity n) ∷ [] →
    ShowsGenerators cone.lines cone.rays list → p.dims ≡ n → p.rows ≡ [] → p.generators ≡ generators list → KeepsLimit p
universe_limit cone n list p k d t (inl y) dp er eg =
    absurd (none_shown cone n [] list k d t (inl y) y.0 (positivity n) (origin n) (con_none (positivity n)))
universe_limit cone n list p k d t (inr y) dp er eg =
    let g = subst (λ (l : List LinearRow). (g : HasGenerators n (positivity n ∷ []) l) × (length (g.points ++ g.rays) ≡ length cone.rays)) (sym eg)
    (counted_lists cone n [] list k d t y) in
    subst (λ (m : ℕ). ((g : HasGenerators m (positivity m ∷ []) p.generators) × (length (g.points ++ g.rays) ≡ length cone.rays)) → KeepsLimit p) dp
    (λ g. let c = nothing_else p er g.0 in
    few_lists p (positivity p.dims ∷ []) g.0 c.0 1 (length cone.rays) c.1 g.1 (omega arith) k.few) g

-- ---- of constraints
pub rows_pair : (cone : ConeContent) (n : ℕ) (kept : List LinearRow) (eqs facets : List (List ℤ)) (rows : LinearSystem ConKind) (list : LinearSystem GenKind) → IsCone cone → cone.dims ≡ n →
    cone.taken ≡ inequality (positivity n) ∷ kept → IsOwnList cone eqs facets → ShowsConstraints n eqs facets rows →
    ShowsGenerators cone.lines cone.rays list → list.rows ≢ [] → IsPolyhedronOf n (Con kept) (record { dims = n; rows = constraints rows; generators = generators list })
rows_pair cone n kept eqs facets rows list k d t own shown listed some =
    let g = some_shown cone n kept list k d t listed some in
    let p : Polyhedron = record { dims = n; rows = constraints rows; generators = generators list } in
    same_set n kept p refl (pair_of_rows cone n kept eqs facets rows list k d t own shown g) (same_points n kept (generators list) (inr g))

-- ---- of generators
-- column 0 of what generators generate isn't below 0
given_columns : (n : ℕ) (taken : List LinearRow) → AreGenerators taken → (t : List ℤ) → Contains (system_of taken) t → pos 0 ≤ℤ entry t 0
given_columns n taken f t m =
    let x = system_from taken t m in
    elim x.sign [
      | inl e ↦ subst (λ (y : List ℤ). pos 0 ≤ℤ entry y 0) (sym e) (elim (f x.given x.has) [ inl p ↦ above (entry x.given.row 0) p.1 | inr z ↦ zero_is (entry x.given.row 0) z ])
      | inr e ↦ elim (f x.given x.has) [
        | inl p ↦ absurd (never x.given.equal e.0 p.0)
        | inr z ↦ opposite_of_zero (entry x.given.row 0) (entry t 0) (ap (λ (y : List ℤ). entry y 0) e.1 ∙ entry_negated x.given.row 0) z
      ]
    ]
  where
    above : (z : ℤ) → pos 0 <ℤ z → pos 0 ≤ℤ z
    above z h = omega (arith, ints, h)

    zero_is : (z : ℤ) → z ≡ pos 0 → pos 0 ≤ℤ z
    zero_is z e = omega (arith, ints, e)

    never : (b : Bool) → b ≡ true → b ≡ false → ⊥
    never true e f = cc
    never false e f = cc

own_columns : (n : ℕ) (taken : List LinearRow) (lines rays : List (List ℤ)) → AreGenerators taken → IsCanonicalOf (suc n) (system_of taken) lines rays → (t : List ℤ) →
    Contains (all_rows lines rays) t →
    pos 0 ≤ℤ entry t 0
own_columns n taken lines rays f o t m =
    subst (λ z. pos 0 ≤ℤ z) (positivity_product n t)
    (generated_nonneg (positivity n) (system_of taken) (entry t) (λ s i. subst (λ z. pos 0 ≤ℤ z) (sym (positivity_product n s)) (given_columns n taken f s i))
    ((o.same (entry t)).1 (generated_row (all_rows lines rays) t m)))

pub generators_pair : (cone : ConeContent) (n : ℕ) (lines rays : List (List ℤ)) (rows : LinearSystem ConKind) (list : LinearSystem GenKind) → IsCone cone → cone.dims ≡ n → AreGenerators cone.taken →
    ¬ (IsEmptySet n (Gen cone.taken)) → IsOwnList cone lines rays → ShowsConstraints n cone.lines cone.rays rows → ShowsGenerators lines rays list →
    IsPolyhedronOf n (Gen cone.taken) (record { dims = n; rows = constraints rows; generators = generators list }) × FitKinds list.rows list.kinds
generators_pair cone n lines rays rows list k d f some own shown (inl x) = absurd (some (λ q point gen. nothing_generated n (all_rows lines rays) q point
    (flat_rows lines rays (own_columns n cone.taken lines rays f o) x.2) ((o.same (entry q)).0 (gen_generated cone.taken (entry q) gen))))
  where
    o : IsCanonicalOf (suc n) (system_of cone.taken) lines rays
    o = subst (λ (m : ℕ). IsCanonicalOf (suc m) (system_of cone.taken) lines rays) d own
generators_pair cone n lines rays rows list k d f some own shown (inr h) =
    let p : Polyhedron = record { dims = n; rows = constraints rows; generators = generators list } in
    let eqs = all_rows cone.lines cone.rays in
    let dual : AreDual (suc n) (system_of cone.taken) eqs = subst (λ (m : ℕ). AreDual (suc m) (system_of cone.taken) eqs) d k.dual in
    let o : IsCanonicalOf (suc n) (system_of cone.taken) lines rays = subst (λ (m : ℕ). IsCanonicalOf (suc m) (system_of cone.taken) lines rays) d own in
    let back : AreDual (suc n) eqs (all_rows lines rays) = own_dual (suc n) (system_of cone.taken) eqs lines rays dual o in
    let g = listed_have n eqs lines rays list back o.canonical (own_columns n cone.taken lines rays f o) h in
    let c = listed_hold n (all_rows g.0.lines (g.0.points ++ g.0.rays)) cone.lines cone.rays rows (dual_flipped (suc n) eqs (all_rows g.0.lines (g.0.points ++ g.0.rays)) g.0.dual) k.canonical shown in
    let same = same_constraints n cone.taken (constraints rows) (inr (some, listed_hold n (system_of cone.taken) cone.lines cone.rays rows dual k.canonical shown)) in (
      record { dimensions = refl; canonical = inr (has_point p eqs g.0 c); points = (same.1, same.0) },
      g.1,
    )

pub generators_limit : (cone : ConeContent) (n : ℕ) (lines rays : List (List ℤ)) (rows : LinearSystem ConKind) (list : LinearSystem GenKind) → IsCone cone → cone.dims ≡ n → AreGenerators cone.taken →
    ¬ (IsEmptySet n (Gen cone.taken)) → IsOwnList cone lines rays → ShowsConstraints n cone.lines cone.rays rows → ShowsGenerators lines rays list → length rays ≤ row_limit →
    KeepsLimit (record { dims = n; rows = constraints rows; generators = generators list })
generators_limit cone n lines rays rows list k d f some own shown (inl x) few = absurd (some (λ q point gen. nothing_generated n (all_rows lines rays) q point
    (flat_rows lines rays (own_columns n cone.taken lines rays f o) x.2) ((o.same (entry q)).0 (gen_generated cone.taken (entry q) gen))))
  where
    o : IsCanonicalOf (suc n) (system_of cone.taken) lines rays
    o = subst (λ (m : ℕ). IsCanonicalOf (suc m) (system_of cone.taken) lines rays) d own
generators_limit cone n lines rays rows list k d f some own shown (inr h) few =
    let eqs = all_rows cone.lines cone.rays in
    let dual : AreDual (suc n) (system_of cone.taken) eqs = subst (λ (m : ℕ). AreDual (suc m) (system_of cone.taken) eqs) d k.dual in
    let o : IsCanonicalOf (suc n) (system_of cone.taken) lines rays = subst (λ (m : ℕ). IsCanonicalOf (suc m) (system_of cone.taken) lines rays) d own in
    let back : AreDual (suc n) eqs (all_rows lines rays) = own_dual (suc n) (system_of cone.taken) eqs lines rays dual o in
    let g = listed_counted n eqs lines rays list back o.canonical (own_columns n cone.taken lines rays f o) h in
    let c = listed_facets n (all_rows g.0.lines (g.0.points ++ g.0.rays)) cone.lines cone.rays rows
    (dual_flipped (suc n) eqs (all_rows g.0.lines (g.0.points ++ g.0.rays)) g.0.dual) k.canonical shown in
    few_lists (record { dims = n; rows = constraints rows; generators = generators list }) eqs g.0 c.0 (length cone.rays) (length rays) (ap length c.1) g.2 k.few few

-- ---- as the code puts the pairs together
seen_lists : (P : List (List ℤ) → List (List ℤ) → Type 0) (lines rays seen_lines seen_rays : List (List ℤ)) → seen_lines ≡ lines → seen_rays ≡ rays → P seen_lines seen_rays → P lines rays
seen_lists P lines rays seen_lines seen_rays el er h = subst (λ (x : List (List ℤ)). P x rays) el (subst (λ (x : List (List ℤ)). P seen_lines x) er h)

-- a list with this pair of descriptions, of n dimensions
abbrev pub IsMade : ℕ → PointSet → LinearSystem ConKind → LinearSystem GenKind → Type 0
IsMade n P rows list = IsPolyhedronOf n P (record { dims = rows.dims; rows = constraints rows; generators = generators list }) × (list.dims ≡ rows.dims) × FitKinds list.rows list.kinds
    × KeepsLimit (record { dims = rows.dims; rows = constraints rows; generators = generators list })

with_dims : (n : ℕ) (P : PointSet) (rows : LinearSystem ConKind) (list : LinearSystem GenKind) → rows.dims ≡ n → list.dims ≡ n →
    IsPolyhedronOf n P (record { dims = n; rows = constraints rows; generators = generators list }) → FitKinds list.rows list.kinds →
    KeepsLimit (record { dims = n; rows = constraints rows; generators = generators list }) → IsMade n P rows list
with_dims n P rows list d e h f l = (
  subst (λ (m : ℕ). IsPolyhedronOf n P (record { dims = m; rows = constraints rows; generators = generators list })) (sym d) h,
  e ∙ sym d,
  f,
  subst (λ (m : ℕ). KeepsLimit (record { dims = m; rows = constraints rows; generators = generators list })) (sym d) l,
)

pub empty_lists : (n : ℕ) (rows : LinearSystem ConKind) (list : LinearSystem GenKind) → rows.dims ≡ n → rows.rows ≡ negated (unit_row n 0) ∷ [] → rows.kinds ≡ Ge ∷ [] → list.dims ≡ n →
    list.rows ≡ [] →
    IsPolyhedron (record { dims = rows.dims; rows = constraints rows; generators = generators list }) × (list.dims ≡ rows.dims) × FitKinds list.rows list.kinds
    × KeepsLimit (record { dims = rows.dims; rows = constraints rows; generators = generators list })
empty_lists n rows list d er ek e el =
    let none : IsWithoutPoint (record { dims = rows.dims; rows = constraints rows; generators = generators list }) =
    (nothing_is n rows er ek ∙ ap (λ (m : ℕ). inequality (falsity m) ∷ []) (sym d), ap (λ (x : List (List ℤ)). rows_by_kind is_line x list.kinds) el) in (
      inl none,
      e ∙ sym d,
      subst (λ (x : List (List ℤ)). FitKinds x list.kinds) (sym el) tt,
      inl none,
    )

pub universe_made : (cone : ConeContent) (n : ℕ) (lines rays : List (List ℤ)) (rows : LinearSystem ConKind) (list : LinearSystem GenKind) → IsCone cone → cone.dims ≡ n →
    cone.taken ≡ inequality (positivity n) ∷ [] →
    lines ≡ cone.lines → rays ≡ cone.rays → ShowsGenerators lines rays list → rows.dims ≡ n → rows.rows ≡ [] → list.dims ≡ n → IsMade n (Con []) rows list
universe_made cone n lines rays rows list k d t el er shown dr rr dl =
    let s = seen_lists (λ x y. ShowsGenerators x y list) cone.lines cone.rays lines rays el er shown in
    let p : Polyhedron = record { dims = rows.dims; rows = constraints rows; generators = generators list } in (
      universe_pair cone n list p k d t s dr (ap (λ (x : List (List ℤ)). rows_by_kind is_equality x rows.kinds) rr) refl,
      dl ∙ sym dr,
      (generators_shown cone n [] list k d t s).1,
      universe_limit cone n list p k d t s dr (ap (λ (x : List (List ℤ)). rows_by_kind is_equality x rows.kinds) rr) refl,
    )

pub rows_made : (cone : ConeContent) (n : ℕ) (lines rays seen_eqs seen_facets eqs facets : List (List ℤ)) (rows : LinearSystem ConKind) (list : LinearSystem GenKind) → IsCone cone → cone.dims ≡ n →
    IsPositive n cone.taken → IsOwnList cone eqs facets → lines ≡ cone.lines → rays ≡ cone.rays → ShowsGenerators lines rays list → seen_eqs ≡ eqs → seen_facets ≡ facets →
    ShowsConstraints n seen_eqs seen_facets rows →
    list.rows ≢ [] → rows.dims ≡ n → list.dims ≡ n → length facets ≤ row_limit → IsMade n (Con (drop 1 cone.taken)) rows list
rows_made cone n lines rays seen_eqs seen_facets eqs facets rows list k d t own el er shown ee ef listed some dr dl few =
    let s = seen_lists (λ x y. ShowsGenerators x y list) cone.lines cone.rays lines rays el er shown in
    let c = seen_lists (λ x y. ShowsConstraints n x y rows) eqs facets seen_eqs seen_facets ee ef listed in
    subst (λ (l : List LinearRow). IsMade n (Con l) rows list) (sym (ap (drop 1) t.1))
    (with_dims n (Con t.0) rows list dr dl (rows_pair cone n t.0 eqs facets rows list k d t.1 own c s some) (generators_shown cone n t.0 list k d t.1 s).1
    (rows_limit cone n t.0 eqs facets rows list k d t.1 own c s some few))

pub none_made : (cone : ConeContent) (n : ℕ) (lines rays : List (List ℤ)) (list : LinearSystem GenKind) (p : Polyhedron) → IsCone cone → cone.dims ≡ n → IsPositive n cone.taken → lines ≡ cone.lines →
    rays ≡ cone.rays → ShowsGenerators lines rays list → list.rows ≡ [] → p.dims ≡ n → p.rows ≡ inequality (falsity n) ∷ [] → p.generators ≡ [] → IsPolyhedronOf n (Con (drop 1 cone.taken)) p
none_made cone n lines rays list p k d t el er shown none dp rp gp =
    let s = seen_lists (λ x y. ShowsGenerators x y list) cone.lines cone.rays lines rays el er shown in
    subst (λ (l : List LinearRow). IsPolyhedronOf n (Con l) p) (sym (ap (drop 1) t.1)) (empty_pair n (Con t.0) p dp rp gp (none_shown cone n t.0 list k d t.1 s none))

pub generators_made : (cone : ConeContent) (n : ℕ) (seen_eqs seen_facets seen_lines seen_rays lines rays : List (List ℤ)) (rows : LinearSystem ConKind) (list : LinearSystem GenKind) → IsCone cone →
    cone.dims ≡ n →
    AreGenerators cone.taken → ¬ (IsEmptySet n (Gen cone.taken)) → IsOwnList cone lines rays → seen_eqs ≡ cone.lines → seen_facets ≡ cone.rays → ShowsConstraints n seen_eqs seen_facets rows →
    seen_lines ≡ lines → seen_rays ≡ rays → ShowsGenerators seen_lines seen_rays list → rows.dims ≡ n → list.dims ≡ n → length rays ≤ row_limit → IsMade n (Gen cone.taken) rows list
generators_made cone n seen_eqs seen_facets seen_lines seen_rays lines rays rows list k d f some own ee ef listed el er shown dr dl few =
    let c = seen_lists (λ x y. ShowsConstraints n x y rows) cone.lines cone.rays seen_eqs seen_facets ee ef listed in
    let s = seen_lists (λ x y. ShowsGenerators x y list) lines rays seen_lines seen_rays el er shown in
    let x = generators_pair cone n lines rays rows list k d f some own c s in
    with_dims n (Gen cone.taken) rows list dr dl x.0 x.1 (generators_limit cone n lines rays rows list k d f some own c s few)

pub own_lines_width : (s : ConeContent) (n : ℕ) (lines rays seen : List (List ℤ)) → IsOwnList s lines rays → s.dims ≡ n → seen ≡ lines → All (λ r. length r ≡ suc n) seen
own_lines_width s n lines rays seen o d e = all_width (suc n) seen (λ r m. o.widths r
    (Contains-append_right rays (both_ways lines) r (in_lines lines r (subst (λ (l : List (List ℤ)). Contains l r) e m))) ∙ ap suc d)

pub own_rays_width : (s : ConeContent) (n : ℕ) (lines rays seen : List (List ℤ)) → IsOwnList s lines rays → s.dims ≡ n → seen ≡ rays → All (λ r. length r ≡ suc n) seen
own_rays_width s n lines rays seen o d e = all_width (suc n) seen (λ r m. o.widths r (Contains-append_left rays (both_ways lines) r (subst (λ (l : List (List ℤ)). Contains l r) e m)) ∙ ap suc d)
