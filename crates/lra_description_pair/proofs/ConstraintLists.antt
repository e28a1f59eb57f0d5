-- The constraints that are shown of a cone are the canonical ones of its rows, which are generators.
use Rattle.std.proofs.Common.{◌≡◌, ◌≢◌, ℕ, suc, ◌≤◌, Bool, true, false, List, [], ◌∷◌, ◌++◌, length, replicate, map, refl, ap, sym, ◌∙◌, subst, arith, pos, negsuc, ℤ, neg_ℤ, ◌<ℤ◌, ◌≤ℤ◌, inl, inr, ◌⊎◌}
use Rattle.std.proofs.Common.{zero, ◌↔◌, Result, Ok, Err, IfOk}
use Rattle.std.proofs.lemmas.List.Elements.{Contains-append_cases, Contains-append_left, Contains-append_right}
use Rattle.std.proofs.{lemmas.Int.ints, lemmas.List.length-replicate, lemmas.List.Sorted.Contains-permutation, lemmas.List.Sorted.IsPermutation-sym, lemmas.List.Sorted.length_permutation}
use Rattle.std.specs.List.{Contains}
use Rattle.lra_description_pair.specs.Crates.lra_linear_spec.Cones.{both_ways, all_rows, AreDual}
use Rattle.lra_description_pair.specs.Crates.lra_linear_spec.Descriptions.{LinearRow, Con, Gen, inequality, rows_as, system_of, HoldsWith}
use Rattle.lra_description_pair.specs.Crates.lra_linear_spec.Points.{IsWithin, SameSet, IsEmptySet}
use Rattle.lra_description_pair.specs.Crates.lra_linear_spec.Vectors.{entry, dot, product, negated, zeros}
use Rattle.lra_description_pair.specs.Crates.lra_linear_spec.declared.ConKind.TheVariants.{Ge, Eq}
use Rattle.lra_description_pair.specs.Crates.lra_linear_spec.declared.GenKind.TheVariants.{Point, Ray, Line}
use Rattle.lra_description_pair.specs.Crates.lra_systems.LinearSystems.{LinearSystem, generators, constraints, rows_by_kind, FitsKind, FitKinds}
use Rattle.lra_description_pair.specs.Crates.{lra_canonical.declared.order.Order.TheVariants.Inequalities, lra_linear_spec.Canonical.IsCanonical, lra_linear_spec.Kinds.is_equality}
use Rattle.lra_description_pair.specs.Crates.{lra_linear_spec.Kinds.is_line, lra_linear_spec.OperationStrain.unit_row, lra_linear_spec.Polyhedra.positivity, lra_linear_spec.Polyhedra.falsity}
use Rattle.lra_description_pair.specs.Crates.{lra_linear_spec.Strain.Loss, lra_linear_spec.Strain.Strains, lra_linear_spec.declared.ConKind.ConKind, lra_linear_spec.declared.GenKind.GenKind}
use Rattle.lra_description_pair.proofs.Crates.lra_linear_spec.Descriptions.{system_from, system_has, gen_generated, generated_gen, dual_same_points, dual_flipped}
use Rattle.lra_description_pair.proofs.Crates.lra_linear_spec.Membership.{contains_head, contains_tail, contains_none, contains_cases}
use Rattle.lra_description_pair.proofs.Crates.lra_linear_spec.OneSpelling.{given_from, falsity_never, given_has}
use Rattle.lra_description_pair.proofs.Crates.{lra_canonical.Orders.ascends, lra_linear_spec.CanonicalForms.no_repeat, lra_linear_spec.Combinations.generated_row}
use Rattle.lra_description_pair.proofs.Crates.{lra_linear_spec.LinearMaps.generated_nonneg, lra_linear_spec.Lines.signed_zero, lra_linear_spec.Products.negated_dot}
use Rattle.lra_description_pair.proofs.Crates.{lra_linear_spec.Products.dot_negated, lra_linear_spec.Signs.between_opposites, lra_linear_spec.Signs.opposite_of_zero}
use Rattle.lra_cone.specs.{Cones.ConeContent, Cones.IsCone, Conversions.IsConversion, Losses.IfLost}
use Rattle.lra_descriptions.specs.ShownLists.{without, ShowsConstraints, HasConstraints, AreConstraintsOf, dual_kind, IsSeenValid, IsValid, ShowsValid}
use Rattle.lra_cone.proofs.RayCase.{system_same}
use Rattle.lra_description_pair.proofs.{GeneratorLists.nothing_generated, GeneratorLists.at_points, PartedRays.once_too, PartedRays.without_once}
use Rattle.lra_descriptions.proofs.Parted.{without_from, without_has}
use Rattle.lra_descriptions.proofs.SeveralKinds.{dual_given, system_append, system_rays, system_lines, given_append, given_same}

-- ---- the list
pub listed_constraints : (n : ℕ) (lines rays : List (List ℤ)) (list : LinearSystem ConKind) (h : ShowsConstraints n lines rays list) →
    constraints list ≡ rows_as true lines ++ rows_as false h.inequalities
listed_constraints n lines rays list h =
    let es = replicate (length lines) Eq in
    let gs = replicate (length h.inequalities) Ge in
    ap (λ (x : List (List ℤ)). rows_by_kind is_equality x list.kinds) h.rows_are ∙ ap (rows_by_kind is_equality (lines ++ h.inequalities)) h.kinds_are ∙
    given_append is_equality lines h.inequalities es gs (sym (length-replicate (length lines) Eq)) ∙
    ap (λ (x : List LinearRow). x ++ rows_by_kind is_equality h.inequalities gs) (given_same is_equality lines Eq) ∙
    ap (λ (x : List LinearRow). rows_as true lines ++ x) (given_same is_equality h.inequalities Ge)

shown_from : (n : ℕ) (lines rays : List (List ℤ)) (list : LinearSystem ConKind) (h : ShowsConstraints n lines rays list) (r : List ℤ) → Contains h.inequalities r → Contains rays r × (r ≢ positivity n)
shown_from n lines rays list h r m =
    without_from (positivity n) rays r (Contains-permutation h.inequalities (without (positivity n) rays) r (IsPermutation-sym (without (positivity n) rays) h.inequalities h.inequalities_are) m)

-- of any canonical description
pub listed_facets : (n : ℕ) (system lines rays : List (List ℤ)) (list : LinearSystem ConKind) → AreDual (suc n) system (all_rows lines rays) → IsCanonical lines rays →
    ShowsConstraints n lines rays list →
    (c : HasConstraints n system (constraints list)) × (c.facets ≡ rays)
listed_facets n system lines rays list dual canonical h =
    let others = without (positivity n) rays in
    let from : (r : List ℤ) → Contains h.inequalities r → Contains others r = λ r m. Contains-permutation h.inequalities others r (IsPermutation-sym others h.inequalities h.inequalities_are) m in
    let to : (r : List ℤ) → Contains others r → Contains h.inequalities r = λ r m. Contains-permutation others h.inequalities r h.inequalities_are m in (
      record {
        equalities = lines;
        inequalities = h.inequalities;
        facets = rays;
        are = listed_constraints n lines rays list h;
        shown = shown_from n lines rays list h;
        all_shown = λ r m. elim (without_has (positivity n) rays r m) [ inl e ↦ inl e | inr i ↦ inr (to r i) ];
        dual = dual;
        canonical = canonical;
        inequalities_ascend = ascends Inequalities h.inequalities tt
            (once_too others h.inequalities (without_once (positivity n) rays (no_repeat lines rays canonical)) to from
            (at_most_same (length h.inequalities) (length others) (length_permutation others h.inequalities h.inequalities_are))) h.sorted;
      },
      refl,
    )
  where
    at_most_same : (a b : ℕ) → a ≡ b → a ≤ b
    at_most_same a b e = omega (arith, e)

pub listed_hold : (n : ℕ) (system lines rays : List (List ℤ)) (list : LinearSystem ConKind) → AreDual (suc n) system (all_rows lines rays) → IsCanonical lines rays →
    ShowsConstraints n lines rays list →
    HasConstraints n system (constraints list)
listed_hold n system lines rays list dual canonical h = (listed_facets n system lines rays list dual canonical h).0

pub constraints_shown : (s : ConeContent) (n : ℕ) (given : List LinearRow) (list : LinearSystem ConKind) → IsCone s → s.dims ≡ n → s.taken ≡ given → ShowsConstraints n s.lines s.rays list →
    HasConstraints n (system_of given) (constraints list)
constraints_shown s n given list k d t h =
    listed_hold n (system_of given) s.lines s.rays list (subst (λ (m : ℕ). AreDual (suc m) (system_of given) (all_rows s.lines s.rays)) d
    (subst (λ (l : List LinearRow). AreDual (suc s.dims) (system_of l) (all_rows s.lines s.rays)) t k.dual)) k.canonical h

-- ---- the same points
system_whole : (lines rays : List (List ℤ)) → system_of (rows_as true lines ++ rows_as false rays) ≡ both_ways lines ++ rays
system_whole lines rays = system_append (rows_as true lines) (rows_as false rays) ∙ ap (λ (x : List (List ℤ)). x ++ system_of (rows_as false rays)) (system_lines lines) ∙
    ap (λ (x : List (List ℤ)). both_ways lines ++ x) (system_rays rays)

swapped : (xs ys : List (List ℤ)) (t : List ℤ) → Contains (xs ++ ys) t → Contains (ys ++ xs) t
swapped xs ys t m = elim (Contains-append_cases xs ys t m) [ inl i ↦ Contains-append_right ys xs t i | inr i ↦ Contains-append_left ys xs t i ]

pub whole_dual : (n : ℕ) (generators : List LinearRow) (rows : List LinearRow) (h : HasConstraints n (system_of generators) rows) →
    AreDual (suc n) (system_of (rows_as true h.equalities ++ rows_as false h.facets)) (system_of generators)
whole_dual n generators rows h =
    subst (λ (x : List (List ℤ)). AreDual (suc n) x (system_of generators)) (sym (system_whole h.equalities h.facets))
    (system_same (suc n) (all_rows h.equalities h.facets) (both_ways h.equalities ++ h.facets) (system_of generators) (swapped h.facets (both_ways h.equalities))
    (swapped (both_ways h.equalities) h.facets)
    (dual_flipped (suc n) (system_of generators) (all_rows h.equalities h.facets) h.dual))

-- the positivity row, which isn't shown, holds at each point
pub shown_points : (n : ℕ) (system : List (List ℤ)) (rows : List LinearRow) (h : HasConstraints n system rows) → SameSet n (Con rows) (Con (rows_as true h.equalities ++ rows_as false h.facets))
shown_points n system rows h = (
  (λ x point con g m. elim (Contains-append_cases (rows_as true h.equalities) (rows_as false h.facets) g m) [
    | inl i ↦ con g (subst (λ (l : List LinearRow). Contains l g) (sym h.are) (Contains-append_left (rows_as true h.equalities) (rows_as false h.inequalities) g i))
    | inr i ↦
        let f = given_from false h.facets g i in
        elim (h.all_shown g.row f.1) [
          | inl e ↦ subst (λ b. HoldsWith b (product g.row x)) (sym f.0) (subst (λ (r : List ℤ). pos 0 ≤ℤ product r x) (sym e) (at_points n x point))
          | inr j ↦ subst (λ b. HoldsWith b (product g.row x)) (sym f.0) (con (record { row = g.row; equal = false })
              (subst (λ (l : List LinearRow). Contains l (record { row = g.row; equal = false })) (sym h.are)
              (Contains-append_right (rows_as true h.equalities) (rows_as false h.inequalities) (record { row = g.row; equal = false }) (given_has false h.inequalities g.row j))))
        ]
  ]),
  (λ x point con g m. elim (Contains-append_cases (rows_as true h.equalities) (rows_as false h.inequalities) g (subst (λ (l : List LinearRow). Contains l g) h.are m)) [
    | inl i ↦ con g (Contains-append_left (rows_as true h.equalities) (rows_as false h.facets) g i)
    | inr i ↦
        let f = given_from false h.inequalities g i in
        subst (λ b. HoldsWith b (product g.row x)) (sym f.0) (con (record { row = g.row; equal = false })
        (Contains-append_right (rows_as true h.equalities) (rows_as false h.facets) (record { row = g.row; equal = false }) (given_has false h.facets g.row (h.shown g.row f.1).0)))
  ]),
)

pub same_constraints : (n : ℕ) (generators rows : List LinearRow) → AreConstraintsOf n generators rows → SameSet n (Con rows) (Gen generators)
same_constraints n generators rows (inl h) = (
  λ x point con. absurd (falsity_never n x point (con (inequality (falsity n)) (subst (λ (l : List LinearRow). Contains l (inequality (falsity n))) (sym h.0)
      (contains_head (inequality (falsity n)) [])))),
  λ x point gen. absurd (h.1 x point gen),
)
same_constraints n generators rows (inr x) =
    let h = x.1 in
    let whole = rows_as true h.equalities ++ rows_as false h.facets in
    let a = shown_points n (system_of generators) rows h in
    let b = dual_same_points n whole generators (whole_dual n generators rows h) in (
      λ x point con. b.0 x point (a.0 x point con),
      λ x point gen. a.1 x point (b.1 x point gen),
    )

-- ---- no point
negated_zeros : (n : ℕ) → negated (zeros n) ≡ zeros n
negated_zeros zero = refl
negated_zeros (suc n) = ap (λ (x : List ℤ). pos 0 ∷ x) (negated_zeros n)

pub nothing_is : (n : ℕ) (list : LinearSystem ConKind) → list.rows ≡ negated (unit_row n 0) ∷ [] → list.kinds ≡ Ge ∷ [] → constraints list ≡ inequality (falsity n) ∷ []
nothing_is n list er ek =
    ap (λ (x : List (List ℤ)). rows_by_kind is_equality x list.kinds) er ∙ ap (rows_by_kind is_equality (negated (unit_row n 0) ∷ [])) ek ∙
    ap (λ (x : List ℤ). inequality (negsuc 0 ∷ x) ∷ []) (negated_zeros n)

flat_kinds : (rows : List (List ℤ)) (kinds : List GenKind) → FitKinds rows kinds → ¬ (Contains kinds Point) → (g : LinearRow) → Contains (rows_by_kind is_line rows kinds) g → entry g.row 0 ≡ pos 0
flat_kinds [] kinds f n g m = absurd (contains_none g m)
flat_kinds (r ∷ rows) [] f n g m = absurd (contains_none g m)
flat_kinds (r ∷ rows) (k ∷ kinds) f n g m = elim (contains_cases (let x : LinearRow = record { row = r; equal = is_line k } in x) g (rows_by_kind is_line rows kinds) m) [
  | inl e ↦ subst (λ (y : LinearRow). entry y.row 0 ≡ pos 0) e (here k f.0 (λ e. n (subst (λ (q : GenKind). Contains (q ∷ kinds) Point) (sym e) (contains_head Point kinds))))
  | inr i ↦ flat_kinds rows kinds f.1 (λ i. n (contains_tail k Point kinds i)) g i
]
  where
    here : (k : GenKind) → FitsKind k r → (k ≡ Point → ⊥) → entry r 0 ≡ pos 0
    here Point f n = absurd (n refl)
    here Ray f n = f
    here Line f n = f

pub no_point_given : (n : ℕ) (given : LinearSystem GenKind) → FitKinds given.rows given.kinds → ¬ (Contains given.kinds Point) →
    IsEmptySet n (Gen (generators given))
no_point_given n given f none x point gen =
    nothing_generated n (system_of (generators given)) x point
    (λ t m. let g = system_from (generators given) t m in signed_zero g.given.row t (either g.sign) 0 (flat_kinds given.rows given.kinds f none g.given g.has))
    (gen_generated (generators given) (entry x) gen)
  where
    either : {A B C : Type 0} → A ⊎ (B × C) → A ⊎ C
    either (inl a) = inl a
    either (inr b) = inr b.1

-- ---- after a loss: what is valid on each generator holds at each of their points
valid_at : (given : List LinearRow) (equal : Bool) (r x : List ℤ) → IsValid equal r given → Gen given x → HoldsWith equal (product r x)
valid_at given true r x valid gen =
    let g = gen_generated given (entry x) gen in
    between_opposites (product r x) (dot (negated r) (entry x)) (negated_dot r (entry x))
    (generated_nonneg r (system_of given) (entry x) (λ t m. zero_nonneg (product r t) (at t m)) g)
    (generated_nonneg (negated r) (system_of given) (entry x) (λ t m. opposite_of_zero (product r t) (dot (negated r) (entry t)) (negated_dot r (entry t)) (at t m)) g)
  where
    zero_nonneg : (z : ℤ) → z ≡ pos 0 → pos 0 ≤ℤ z
    zero_nonneg z e = omega (arith, ints, e)

    at : (t : List ℤ) → Contains (system_of given) t → product r t ≡ pos 0
    at t m = let f = system_from given t m in elim f.sign [
      | inl e ↦ ap (product r) e ∙ (valid f.given f.has).0
      | inr e ↦ ap (product r) e.1 ∙ dot_negated r f.given.row ∙ ap neg_ℤ (valid f.given f.has).0
    ]
valid_at given false r x valid gen = generated_nonneg r (system_of given) (entry x) at (gen_generated given (entry x) gen)
  where
    at : (t : List ℤ) → Contains (system_of given) t → pos 0 ≤ℤ product r t
    at t m = let f = system_from given t m in elim f.sign [
      | inl e ↦ subst (λ (y : List ℤ). pos 0 ≤ℤ product r y) (sym e) (valid f.given f.has).0
      | inr e ↦ opposite_of_zero (product r f.given.row) (product r t) (ap (product r) e.1 ∙ dot_negated r f.given.row) (subst (λ b. HoldsWith b (product r f.given.row)) e.0 (valid f.given f.has).1)
    ]

-- a list of those that are seen to be valid
module _ {E : Type 0} (n : ℕ) (cone_lines cone_rays lines rays : List (List ℤ)) (given : List LinearRow) (el : lines ≡ cone_lines) (er : rays ≡ cone_rays) where
  pub shows_valid : (width : ℕ) (shown_lines shown_rays valid_lines valid_rays : List (List ℤ)) (result : Result (LinearSystem ConKind) E) → width ≡ n → shown_lines ≡ valid_lines →
      shown_rays ≡ valid_rays →
      ((r : List ℤ) → (Contains valid_lines r ↔ (Contains lines r × IsSeenValid true r given))) → ((r : List ℤ) → (Contains valid_rays r ↔ (Contains rays r × IsSeenValid false r given))) →
      IfOk result (ShowsConstraints width shown_lines shown_rays) → IfOk result (ShowsValid n cone_lines cone_rays given)
  shows_valid width shown_lines shown_rays valid_lines valid_rays (Err e) ew sl sr hl hr shown = tt
  shows_valid width shown_lines shown_rays valid_lines valid_rays (Ok list) ew sl sr hl hr shown = record {
    lines = valid_lines;
    rays = valid_rays;
    shown = subst (λ (y : List (List ℤ)). ShowsConstraints n valid_lines y list) sr (subst (λ (y : List (List ℤ)). ShowsConstraints n y shown_rays list) sl
        (subst (λ (k : ℕ). ShowsConstraints k shown_lines shown_rays list) ew shown));
    lines_valid = subst (λ (y : List (List ℤ)). (r : List ℤ) → (Contains valid_lines r ↔ (Contains y r × IsSeenValid true r given))) el hl;
    rays_valid = subst (λ (y : List (List ℤ)). (r : List ℤ) → (Contains valid_rays r ↔ (Contains y r × IsSeenValid false r given))) er hr;
  }

-- what is seen to be valid is so
seen_valid : (b : Bool) (r : List ℤ) (given : List LinearRow) → IsSeenValid b r given → IsValid b r given
seen_valid b r given s g m = let v = s g m in (v.1, v.2)

pub valid_within : (n : ℕ) (cone : ConeContent) (given : List LinearRow) (list : LinearSystem ConKind) → ShowsValid n cone.lines cone.rays given list → IsWithin n (Gen given) (Con (constraints list))
valid_within n cone given list h x point gen g m = elim (Contains-append_cases (rows_as true h.lines) (rows_as false h.shown.inequalities) g
    (subst (λ (l : List LinearRow). Contains l g) (listed_constraints n h.lines h.rays list h.shown) m)) [
      | inl i ↦ let f = given_from true h.lines g i in subst (λ b. HoldsWith b (product g.row x)) (sym f.0)
          (valid_at given true g.row x (seen_valid true g.row given ((h.lines_valid g.row).0 f.1).1) gen)
      | inr i ↦ let f = given_from false h.shown.inequalities g i in subst (λ b. HoldsWith b (product g.row x)) (sym f.0)
          (valid_at given false g.row x (seen_valid false g.row given ((h.rays_valid g.row).0 (shown_from n h.lines h.rays list h.shown g.row f.1).0).1) gen)
    ]

-- ---- what the code gives back
point_among : (rows : List (List ℤ)) (kinds : List GenKind) → length kinds ≡ length rows → FitKinds rows kinds → Contains kinds Point → (g : LinearRow) × Contains (rows_by_kind is_line rows kinds) g ×
    (pos 0 <ℤ entry g.row 0)
point_among [] [] n f m = absurd (contains_none Point m)
point_among [] (k ∷ kinds) n f m = absurd (omega (arith, n))
point_among (r ∷ rows) [] n f m = absurd (omega (arith, n))
point_among (r ∷ rows) (k ∷ kinds) n f m = here k f.0 (point_cases (contains_cases k Point kinds m) (λ i. point_among rows kinds (omega (arith, n)) f.1 i))
  where
    point_cases : (k ≡ Point) ⊎ Contains kinds Point → (Contains kinds Point → (g : LinearRow) × Contains (rows_by_kind is_line rows kinds) g × (pos 0 <ℤ entry g.row 0)) → (k ≡ Point) ⊎
        ((g : LinearRow) × Contains (rows_by_kind is_line rows kinds) g × (pos 0 <ℤ entry g.row 0))
    point_cases (inl e) later = inl e
    point_cases (inr i) later = inr (later i)

    first : (k : GenKind) → FitsKind k r → k ≡ Point → pos 0 <ℤ entry r 0
    first k f e = subst (λ (q : GenKind). FitsKind q r) e f

    here : (k : GenKind) → FitsKind k r → (k ≡ Point) ⊎ ((g : LinearRow) × Contains (rows_by_kind is_line rows kinds) g × (pos 0 <ℤ entry g.row 0)) →
        (g : LinearRow) ×
        Contains (record { row = r; equal = is_line k } ∷ rows_by_kind is_line rows kinds) g × (pos 0 <ℤ entry g.row 0)
    here k f (inl e) = (record { row = r; equal = is_line k }, contains_head (let g : LinearRow = record { row = r; equal = is_line k } in g) (rows_by_kind is_line rows kinds), first k f e)
    here k f (inr x) = (x.0, contains_tail (let g : LinearRow = record { row = r; equal = is_line k } in g) x.0 (rows_by_kind is_line rows kinds) x.1, x.2)

-- a point among the generators is one of their points
pub some_point : (n : ℕ) (given : LinearSystem GenKind) → length given.kinds ≡ length given.rows → FitKinds given.rows given.kinds →
    Contains given.kinds Point →
    ((t : List ℤ) → Contains (system_of (generators given)) t → length t ≡ suc n) → ¬ (IsEmptySet n (Gen (generators given)))
some_point n given many f m widths none =
    let x = point_among given.rows given.kinds many f m in
    let has = system_has (generators given) x.0 x.1 in
    none x.0.row (record { width = widths x.0.row has; divisor = x.2 }) (generated_gen (generators given) (entry x.0.row) (generated_row (system_of (generators given)) x.0.row has))

pub record Constrained (n : ℕ) (given rows : List LinearRow) (losses : List Loss) : Type 0 where
  pub exact : losses ≡ [] → SameSet n (Con rows) (Gen given)
  pub within : IsWithin n (Gen given) (Con rows)
  pub strain : IfLost (Strains (suc n) given) losses
  pub canonical : losses ≡ [] → AreConstraintsOf n given rows

pub nothing_constrained : (n : ℕ) (given : LinearSystem GenKind) (list : LinearSystem ConKind) (losses : List Loss) → FitKinds given.rows given.kinds → ¬ (Contains given.kinds Point) →
    list.rows ≡ negated (unit_row n 0) ∷ [] → list.kinds ≡ Ge ∷ [] → losses ≡ [] → Constrained n (generators given) (constraints list) losses
nothing_constrained n given list losses f none er ek el =
    let a : AreConstraintsOf n (generators given) (constraints list) = inl (nothing_is n list er ek, no_point_given n given f none) in
    let same = same_constraints n (generators given) (constraints list) a in
    record { exact = λ _. same; within = same.1; strain = subst (IfLost (Strains (suc n) (generators given))) (sym el) tt; canonical = λ _. a }

pub constrained : (n : ℕ) (given : LinearSystem GenKind) (rows list : LinearSystem ConKind) (cone : ConeContent) (kept : List LinearRow) (losses : List Loss) → length given.kinds ≡ length given.rows →
    FitKinds given.rows given.kinds → Contains given.kinds Point →
    rows.rows ≡ given.rows → rows.kinds ≡ map dual_kind given.kinds → rows.dims ≡ n → cone.dims ≡ n → IsConversion [] (constraints rows) kept cone losses →
    IsCone cone →
    (losses ≡ [] → ShowsConstraints rows.dims cone.lines cone.rays list) → (losses ≢ [] → ShowsValid rows.dims cone.lines cone.rays (constraints rows) list) →
    Constrained n (generators given) (constraints list) losses
constrained n given rows list cone kept losses many f m er ek ed is_n c k shown valid =
    let all : constraints rows ≡ generators given =
    ap (λ (x : List (List ℤ)). rows_by_kind is_equality x rows.kinds) er ∙ ap (rows_by_kind is_equality given.rows) ek ∙ dual_given given.rows given.kinds in
    let canonical : losses ≡ [] → AreConstraintsOf n (generators given) (constraints list) = λ none.
    let taken : cone.taken ≡ generators given = c.taken ∙ c.whole none ∙ all in
    let h = constraints_shown cone n (generators given) list k is_n taken (subst (λ (i : ℕ). ShowsConstraints i cone.lines cone.rays list) ed (shown none)) in
    inr (some_point n given many f m h.dual.system_widths, h) in
    record {
      exact = λ none. same_constraints n (generators given) (constraints list) (canonical none);
      within = by_losses losses refl canonical valid all ed;
      strain = subst (λ (l : List LinearRow). IfLost (Strains (suc n) l) losses) all (subst (λ (i : ℕ). IfLost (Strains (suc i) (constraints rows)) losses) is_n c.strain);
      canonical = canonical;
    }
  where
    by_losses : (l : List Loss) → losses ≡ l → (losses ≡ [] → AreConstraintsOf n (generators given) (constraints list)) →
        (losses ≢ [] → ShowsValid rows.dims cone.lines cone.rays (constraints rows) list) →
        constraints rows ≡ generators given → rows.dims ≡ n → IsWithin n (Gen (generators given)) (Con (constraints list))
    by_losses [] e canonical valid all d = (same_constraints n (generators given) (constraints list) (canonical e)).1
    by_losses (x ∷ l) e canonical valid all d =
        valid_within n cone (generators given) list (subst (λ (g : List LinearRow). ShowsValid n cone.lines cone.rays g list) all
        (subst (λ (i : ℕ). ShowsValid i cone.lines cone.rays (constraints rows) list) d (valid (λ z. some_loss x l (sym e ∙ z)))))
      where
        some_loss : (x : Loss) (l : List Loss) → x ∷ l ≡ [] → ⊥
        some_loss x l e = cc
