-- The generators that are shown of a cone are the canonical ones of its rows.
use Rattle.std.proofs.Common.{◌≡◌, ℕ, suc, ◌+◌, true, false, List, [], ◌∷◌, ◌++◌, length, replicate, refl, ap, sym, ◌∙◌, subst, arith, pos, ℤ, neg_ℤ, ◌<ℤ◌, ◌≤ℤ◌, inl, inr, ◌⊎◌}
use Rattle.std.proofs.lemmas.List.Elements.{Contains-append_cases, Contains-append_left, Contains-append_right}
use Rattle.std.proofs.{lemmas.Int.ints, lemmas.List.length-append, lemmas.List.length-replicate}
use Rattle.std.specs.List.{Contains}
use Rattle.lra_description_pair.specs.Crates.lra_linear_spec.Cones.{Generated, both_ways, all_rows, AreDual}
use Rattle.lra_description_pair.specs.Crates.lra_linear_spec.Descriptions.{LinearRow, Con, Gen, inequality, rows_as, system_of}
use Rattle.lra_description_pair.specs.Crates.lra_linear_spec.Points.{IsPoint, SameSet, IsEmptySet}
use Rattle.lra_description_pair.specs.Crates.lra_linear_spec.Vectors.{entry, dot, product, negated}
use Rattle.lra_description_pair.specs.Crates.lra_linear_spec.declared.GenKind.TheVariants.{Point, Ray, Line}
use Rattle.lra_description_pair.specs.Crates.lra_systems.LinearSystems.{LinearSystem, generators, rows_by_kind, FitKinds}
use Rattle.lra_description_pair.specs.Crates.{lra_canonical.declared.order.Order.TheVariants.Generators, lra_linear_spec.Canonical.IsCanonical, lra_linear_spec.Kinds.is_line}
use Rattle.lra_description_pair.specs.Crates.{lra_linear_spec.Polyhedra.positivity, lra_linear_spec.Polyhedra.falsity, lra_linear_spec.declared.GenKind.GenKind}
use Rattle.lra_description_pair.proofs.Crates.lra_linear_spec.Descriptions.{con_solves, con_cons, con_tail, dual_same_points}
use Rattle.lra_description_pair.proofs.Crates.lra_linear_spec.Lines.{signed_from, signed_zero, in_lines, in_lines_negated}
use Rattle.lra_description_pair.proofs.Crates.{lra_canonical.Orders.ascends, lra_linear_spec.LinearMaps.generated_nonneg, lra_linear_spec.Membership.contains_head}
use Rattle.lra_description_pair.proofs.Crates.{lra_linear_spec.Membership.contains_none, lra_linear_spec.OneSpelling.positivity_product, lra_linear_spec.OneSpelling.falsity_never}
use Rattle.lra_description_pair.proofs.Crates.{lra_linear_spec.Polyhedra.con_gen, lra_linear_spec.Products.entry_negated, lra_linear_spec.Products.negated_dot, lra_linear_spec.Signs.between_opposites}
use Rattle.lra_cone.specs.Cones.{ConeContent, IsCone}
use Rattle.lra_descriptions.specs.ShownLists.{points_of, ListsGenerators, ShowsGenerators, HasGenerators, AreGeneratorsOf}
use Rattle.lra_cone.proofs.Reordered.{dual_again, canonical_again}
use Rattle.lra_description_pair.proofs.PartedRays.{InParts, in_parts, parts_once, once_left, once_right}
use Rattle.lra_descriptions.proofs.Parted.{parted, directions_from}
use Rattle.lra_descriptions.proofs.SeveralKinds.{system_append, system_rays, system_lines, given_append, given_same, fit_append, fit_same}

-- ---- points, then rays, then lines
as_many : {K : Type 0} (xs ys : List (List ℤ)) (j k : K) → length (xs ++ ys) ≡ length (replicate (length xs) j ++ replicate (length ys) k)
as_many xs ys j k =
    length-append xs ys ∙ ap (λ (n : ℕ). n + length ys) (sym (length-replicate (length xs) j)) ∙ ap (λ (n : ℕ). length (replicate (length xs) j) + n) (sym (length-replicate (length ys) k)) ∙
    sym (length-append (replicate (length xs) j) (replicate (length ys) k))

pub listed_generators : (lines rays : List (List ℤ)) (list : LinearSystem GenKind) (h : ListsGenerators lines rays list) →
    generators list ≡ rows_as false h.points ++ rows_as false h.directions ++ rows_as true lines
listed_generators lines rays list h =
    let ps = replicate (length h.points) Point in
    let rs = replicate (length h.directions) Ray in
    let ls = replicate (length lines) Line in
    ap (λ (x : List (List ℤ)). rows_by_kind is_line x list.kinds) h.rows_are ∙ ap (rows_by_kind is_line ((h.points ++ h.directions) ++ lines)) h.kinds_are ∙
    given_append is_line (h.points ++ h.directions) lines (ps ++ rs) ls (as_many h.points h.directions Point Ray) ∙
    ap (λ (x : List LinearRow). x ++ rows_by_kind is_line lines ls)
    (given_append is_line h.points h.directions ps rs (sym (length-replicate (length h.points) Point)) ∙
    ap (λ (x : List LinearRow). x ++ rows_by_kind is_line h.directions rs) (given_same is_line h.points Point)
    ∙ ap (λ (x : List LinearRow). rows_as false h.points ++ x) (given_same is_line h.directions Ray)) ∙
    ap (λ (x : List LinearRow). (rows_as false h.points ++ rows_as false h.directions) ++ x) (given_same is_line lines Line)

listed_fit : (lines rays : List (List ℤ)) (list : LinearSystem GenKind) (h : ListsGenerators lines rays list) → ((r : List ℤ) → Contains h.points r → pos 0 <ℤ entry r 0) →
    ((r : List ℤ) → Contains h.directions r ⊎ Contains lines r → entry r 0 ≡ pos 0) → FitKinds list.rows list.kinds
listed_fit lines rays list h above flat =
    let ps = replicate (length h.points) Point in
    let rs = replicate (length h.directions) Ray in
    let ls = replicate (length lines) Line in
    subst (λ (x : List (List ℤ)). FitKinds x list.kinds) (sym h.rows_are) (subst (FitKinds ((h.points ++ h.directions) ++ lines)) (sym h.kinds_are)
    (fit_append (h.points ++ h.directions) lines (ps ++ rs) ls (as_many h.points h.directions Point Ray)
    (fit_append h.points h.directions ps rs (sym (length-replicate (length h.points) Point)) (fit_same h.points Point above) (fit_same h.directions Ray (λ r m. flat r (inl m))))
    (fit_same lines Line (λ r m. flat r (inr m)))))

-- ---- column 0 of a cone with the positivity row
pub at_least_zero : (s : ConeContent) (kept : List LinearRow) → IsCone s → s.taken ≡ inequality (positivity s.dims) ∷ kept → (t : List ℤ) → Contains (all_rows s.lines s.rays) t → pos 0 ≤ℤ entry t 0
at_least_zero s kept k e t m =
    subst (λ z. pos 0 ≤ℤ z) (positivity_product s.dims t)
    (k.dual.meets t m (positivity s.dims) (subst (λ (l : List LinearRow). Contains (system_of l) (positivity s.dims)) (sym e) (contains_head (positivity s.dims) (system_of kept))))

flat_line : (lines rays : List (List ℤ)) → ((t : List ℤ) → Contains (all_rows lines rays) t → pos 0 ≤ℤ entry t 0) → (l : List ℤ) → Contains lines l → entry l 0 ≡ pos 0
flat_line lines rays nonneg l m =
    between_opposites (entry l 0) (entry (negated l) 0) (entry_negated l 0) (nonneg l (Contains-append_right rays (both_ways lines) l (in_lines lines l m)))
    (nonneg (negated l) (Contains-append_right rays (both_ways lines) (negated l) (in_lines_negated lines l m)))

pub zero_between : (z : ℤ) → pos 0 ≤ℤ z → z ≤ℤ pos 0 → z ≡ pos 0
zero_between z h k = omega (arith, ints, h, k)

-- rows that are 0 in column 0 generate no point
pub nothing_generated : (n : ℕ) (rows : List (List ℤ)) (x : List ℤ) → IsPoint n x → ((t : List ℤ) → Contains rows t → entry t 0 ≡ pos 0) → Generated rows (entry x) → ⊥
nothing_generated n rows x point flat g =
    let c = negated (positivity n) in
    let value : (t : List ℤ) → dot c (entry t) ≡ neg_ℤ (entry t 0) = λ t. negated_dot (positivity n) (entry t) ∙ ap neg_ℤ (positivity_product n t) in
    never (entry x 0) (dot c (entry x)) point.divisor (value x) (generated_nonneg c rows (entry x) (λ t m. opposite (entry t 0) (dot c (entry t)) (flat t m) (value t)) g)
  where
    opposite : (z y : ℤ) → z ≡ pos 0 → y ≡ neg_ℤ z → pos 0 ≤ℤ y
    opposite z y h e = omega (arith, ints, h, e)

    never : (z y : ℤ) → pos 0 <ℤ z → y ≡ neg_ℤ z → pos 0 ≤ℤ y → ⊥
    never z y h e p = omega (arith, ints, h, e, p)

-- the positivity row holds at each point
pub at_points : (n : ℕ) (x : List ℤ) → IsPoint n x → pos 0 ≤ℤ product (positivity n) x
at_points n x point = subst (λ z. pos 0 ≤ℤ z) (sym (positivity_product n x)) (nonneg (entry x 0) point.divisor)
  where
    nonneg : (z : ℤ) → pos 0 <ℤ z → pos 0 ≤ℤ z
    nonneg z h = omega (arith, ints, h)

-- if no ray is above 0 in column 0, all is 0 there
pub flat_rows : (lines rays : List (List ℤ)) → ((t : List ℤ) → Contains (all_rows lines rays) t → pos 0 ≤ℤ entry t 0) → points_of rays ≡ [] → (t : List ℤ) → Contains (all_rows lines rays) t →
    entry t 0 ≡ pos 0
flat_rows lines rays nonneg none t m = elim (Contains-append_cases rays (both_ways lines) t m) [
  | inl i ↦ elim (parted rays t i) [
    | inl p ↦ absurd (contains_none t (subst (λ (l : List (List ℤ)). Contains l t) none p))
    | inr d ↦ zero_between (entry t 0) (nonneg t m) (directions_from rays t d).1
  ]
  | inr i ↦ let x = signed_from lines t i in signed_zero x.line t x.sign 0 (flat_line lines rays nonneg x.line x.has)
]

-- then there is no point
no_points : (s : ConeContent) (kept : List LinearRow) → IsCone s → s.taken ≡ inequality (positivity s.dims) ∷ kept → points_of s.rays ≡ [] →
    IsEmptySet s.dims (Con kept)
no_points s kept k e none x point con =
    let n = s.dims in
    let holds : Con (inequality (positivity n) ∷ kept) x = con_cons (inequality (positivity n)) kept x (at_points n x point) con in
    nothing_generated n (all_rows s.lines s.rays) x point (flat_rows s.lines s.rays (at_least_zero s kept k e) none)
    (k.dual.solutions x point.width (con_solves s.taken x (subst (λ (l : List LinearRow). Con l x) (sym e) holds)))

-- ---- the list that is shown
-- of any canonical description of which no row is below 0 in column 0
pub listed_counted : (n : ℕ) (system lines rays : List (List ℤ)) (list : LinearSystem GenKind) → AreDual (suc n) system (all_rows lines rays) → IsCanonical lines rays →
    ((t : List ℤ) → Contains (all_rows lines rays) t → pos 0 ≤ℤ entry t 0) → ListsGenerators lines rays list →
    (g : HasGenerators n system (generators list)) × FitKinds list.rows list.kinds × (length (g.points ++ g.rays) ≡ length rays)
listed_counted n system lines rays list dual canonical nonneg h =
    let parts : InParts rays h.points h.directions = in_parts rays h.points h.directions h.points_are h.directions_are in
    let once = parts_once lines rays h.points h.directions canonical parts in
    let flat : (r : List ℤ) → Contains h.directions r ⊎ Contains lines r → entry r 0 ≡ pos 0 = λ r m. elim m [
      | inl i ↦ let o = parts.others r i in zero_between (entry r 0) (nonneg r (Contains-append_left rays (both_ways lines) r o.0)) o.1
      | inr i ↦ flat_line lines rays nonneg r i
    ] in (
      record {
        points = h.points;
        rays = h.directions;
        lines = lines;
        are = listed_generators lines rays list h;
        dual = dual_again (suc n) system lines rays (h.points ++ h.directions) parts.to parts.from dual;
        canonical = canonical_again lines rays (h.points ++ h.directions) parts.to parts.from once canonical;
        points_ascend = ascends Generators h.points tt (once_left h.points h.directions once) h.points_sorted;
        rays_ascend = ascends Generators h.directions tt (once_right h.points h.directions once) h.directions_sorted;
        divisors = parts.above;
        directions = flat;
        some_point = h.some_point;
      },
      listed_fit lines rays list h parts.above flat,
      parts.many,
    )

pub listed_have : (n : ℕ) (system lines rays : List (List ℤ)) (list : LinearSystem GenKind) → AreDual (suc n) system (all_rows lines rays) →
    IsCanonical lines rays →
    ((t : List ℤ) → Contains (all_rows lines rays) t → pos 0 ≤ℤ entry t 0) → ListsGenerators lines rays list →
    HasGenerators n system (generators list) × FitKinds list.rows list.kinds
listed_have n system lines rays list dual canonical nonneg h = let x = listed_counted n system lines rays list dual canonical nonneg h in (x.0, x.1)

pub generators_shown : (s : ConeContent) (n : ℕ) (kept : List LinearRow) (list : LinearSystem GenKind) → IsCone s → s.dims ≡ n → s.taken ≡ inequality (positivity n) ∷ kept →
    ShowsGenerators s.lines s.rays list →
    AreGeneratorsOf n kept (generators list) × FitKinds list.rows list.kinds
generators_shown s n kept list k d t shown = subst (λ (m : ℕ). AreGeneratorsOf m kept (generators list) × FitKinds list.rows list.kinds) d
    (here (t ∙ ap (λ (m : ℕ). inequality (positivity m) ∷ kept) (sym d)) shown)
  where
    here : s.taken ≡ inequality (positivity s.dims) ∷ kept → ShowsGenerators s.lines s.rays list → AreGeneratorsOf s.dims kept (generators list) × FitKinds list.rows list.kinds
    here e (inl h) = (
      inl (ap (λ (x : List (List ℤ)). rows_by_kind is_line x list.kinds) h.0, no_points s kept k e h.2),
      subst (λ (x : List (List ℤ)). FitKinds x list.kinds) (sym h.0) tt,
    )
    here e (inr h) =
        let x = listed_have s.dims (system_of s.taken) s.lines s.rays list k.dual k.canonical (at_least_zero s kept k e) h in
        (inr (subst (λ (l : List LinearRow). HasGenerators s.dims (system_of l) (generators list)) e x.0), x.1)

-- ---- the same points
pub system_of_generators : (n : ℕ) (system : List (List ℤ)) (list : List LinearRow) (h : HasGenerators n system list) → system_of list ≡ all_rows h.lines (h.points ++ h.rays)
system_of_generators n system list h =
    ap system_of h.are ∙ system_append (rows_as false h.points ++ rows_as false h.rays) (rows_as true h.lines) ∙
    ap (λ (x : List (List ℤ)). x ++ system_of (rows_as true h.lines)) (system_append (rows_as false h.points) (rows_as false h.rays) ∙
    ap (λ (x : List (List ℤ)). x ++ system_of (rows_as false h.rays)) (system_rays h.points) ∙ ap (λ (x : List (List ℤ)). h.points ++ x) (system_rays h.rays)) ∙
    ap (λ (x : List (List ℤ)). (h.points ++ h.rays) ++ x) (system_lines h.lines)

pub same_points : (n : ℕ) (rows list : List LinearRow) → AreGeneratorsOf n rows list → SameSet n (Con rows) (Gen list)
same_points n rows list (inl h) = (
  λ x point con. absurd (h.1 x point con),
  λ x point gen. absurd (nothing x point (subst (λ (l : List LinearRow). Gen l x) h.0 gen)),
)
  where
    nothing : (x : List ℤ) → IsPoint n x → Gen [] x → ⊥
    nothing x point gen = falsity_never n x point
        ((con_gen (record { dims = n; rows = inequality (falsity n) ∷ []; generators = [] }) (inl (refl, refl))).1 x point gen (inequality (falsity n)) (contains_head (inequality (falsity n)) []))
same_points n rows list (inr h) =
    let first = inequality (positivity n) in
    let dual : AreDual (suc n) (system_of (first ∷ rows)) (system_of list) = subst (AreDual (suc n) (system_of (first ∷ rows)))
    (sym (system_of_generators n (system_of (first ∷ rows)) list h)) h.dual in
    let same = dual_same_points n (first ∷ rows) list dual in (
      λ x point con. same.0 x point (con_cons first rows x (at_points n x point) con),
      λ x point gen. con_tail first rows x (same.1 x point gen),
    )

-- as the code states it
pub generated : (cone start : ConeContent) (n dims : ℕ) (kept : List LinearRow) (lines rays : List (List ℤ)) (list : LinearSystem GenKind) → IsCone cone → dims ≡ n → cone.dims ≡ start.dims →
    start.dims ≡ dims →
    start.taken ≡ inequality (positivity dims) ∷ [] → cone.taken ≡ start.taken ++ kept →
    lines ≡ cone.lines → rays ≡ cone.rays → ShowsGenerators lines rays list → AreGeneratorsOf n kept (generators list) × FitKinds list.rows list.kinds
generated cone start n dims kept lines rays list k en ec es et taken el er shown =
    generators_shown cone n kept list k (ec ∙ es ∙ en) (taken ∙ ap (λ (l : List LinearRow). l ++ kept) (et ∙ ap (λ (m : ℕ). inequality (positivity m) ∷ []) en))
    (subst (λ (x : List (List ℤ)). ShowsGenerators x cone.rays list) el (subst (λ (x : List (List ℤ)). ShowsGenerators lines x list) er shown))
