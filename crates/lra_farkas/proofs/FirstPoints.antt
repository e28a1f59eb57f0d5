-- The first generator of a polyhedron with a point is a point; of the polyhedron of all multipliers, it shows the claim.
use Rattle.std.proofs.Common.{◌≡◌, ◌≢◌, ◌⊎◌, ℕ, suc, ◌<◌, ◌≤◌, ℤ, true, false, List, [], ◌∷◌, ◌++◌, length, drop, Some, Result, refl, ap, sym, ◌∙◌, subst, arith, inl, inr}
use Rattle.std.proofs.{lemmas.List.Elements.All-contains, lemmas.List.Elements.Contains-append_left, lemmas.Option.same_Some, lemmas.Option.none-some, lemmas.Result.err_from_is_err_and}
use Rattle.std.specs.{List.All, List.Contains, Prelude.slice_get, Prelude.IfErr, Result.IsErrAnd}
use Rattle.lra_farkas.specs.Crates.lra_linear_spec.Descriptions.{LinearRow, generator, rows_as, Con}
use Rattle.lra_farkas.specs.Crates.lra_linear_spec.Kinds.{is_equality, is_line}
use Rattle.lra_farkas.specs.Crates.lra_linear_spec.Polyhedra.{Polyhedron, HasPoint, IsPolyhedron, IsPolyhedronOf}
use Rattle.lra_farkas.specs.Crates.{lra_linear_spec.Cones.both_ways, lra_linear_spec.OperationStrain.FromRowsStrains, lra_linear_spec.Points.IsPoint, lra_linear_spec.Points.IsEmptySet}
use Rattle.lra_farkas.specs.Crates.{lra_linear_spec.Strain.Loss, lra_linear_spec.Vectors.entry, lra_linear_spec.declared.ConKind.ConKind, lra_linear_spec.declared.GenKind.GenKind}
use Rattle.lra_farkas.proofs.Crates.lra_linear_spec.Membership.{contains_none, contains_head, contains_tail, contains_cases}
use Rattle.lra_farkas.proofs.Crates.lra_linear_spec.Polyhedra.{con_gen, cone_gen}
use Rattle.lra_farkas.proofs.Crates.{lra_duality.PolyhedronLemmas.falsity_is_empty, lra_duality.SaturationLemmas.given_length, lra_linear_spec.Combinations.generated_row}
use Rattle.lra_systems.specs.LinearSystems.{LinearSystem, rows_by_kind, generators, constraints}
use Rattle.lra_poly.specs.Outcomes.{IfExact, IfFlagged, IsOfRows}
use Rattle.lra_poly.specs.{declared.outcome.Outcome.Outcome, declared.outcome.Outcome.TheVariants.Exact, declared.outcome.Outcome.TheVariants.Flagged}
use Rattle.lra_multipliers.specs.Multipliers.{Multipliers, IsFarkasCertificate, IsCheckWide, IsAnswer, yes}
use Rattle.lra_multipliers.specs.{MultiplierViews.answer_view, declared.columns.Answer.Answer, declared.columns.Answer.TheVariants.Yes, declared.columns.Answer.TheVariants.No}
use Rattle.lra_farkas.specs.declared.first.MultipliersFailure.TheVariants.{NotImplied, Strained, Memory}
use Rattle.lra_farkas.specs.{FirstMultipliers.AreFirst, FirstMultipliers.IsMultipliersFailure, FirstMultipliers.MultipliersStrain, MultiplierRows.multiplier_dims, MultiplierRows.multiplier_rows}
use Rattle.lra_farkas.specs.{MultiplierRows.point_of, MultiplierRows.AreAsWide, RowsByKinds.HasNoFirst, declared.first.MultipliersFailure.MultipliersFailure}
use Rattle.lra_farkas.proofs.ShownPoints.{points_show}

-- ---- the first generator
pub record FirstPoint (p : Polyhedron) : Type 0 where
  pub row : List ℤ
  pub first : slice_get p.generators 0 ≡ Some (generator row)
  pub is_point : IsPoint p.dims row
  pub meets : Con p.rows row

first_listed_point : (points rays lines : List (List ℤ)) → points ≢ [] →
    (x : List ℤ) × (slice_get (rows_as false points ++ rows_as false rays ++ rows_as true lines) 0 ≡ Some (generator x)) × Contains points x
first_listed_point [] rays lines n = absurd (n refl)
first_listed_point (x ∷ points) rays lines n = (x, refl, contains_head x points)

first_point : (p : Polyhedron) → HasPoint p → FirstPoint p
first_point p h =
    let f = first_listed_point h.points h.rays h.lines h.some_point in
    let member : Contains (h.points ++ h.rays) f.0 = Contains-append_left h.points h.rays f.0 f.2 in
    let has = Contains-append_left (h.points ++ h.rays) (both_ways h.lines) f.0 member in
    let is_point : IsPoint p.dims f.0 = record { width = h.dual.row_widths f.0 has; divisor = h.divisors f.0 f.2 } in
    record {
      row = f.0;
      first = ap (λ (gs : List LinearRow). slice_get gs 0) h.generators_are ∙ f.1;
      is_point = is_point;
      meets = (con_gen p (inr h)).1 f.0 is_point (cone_gen p h f.0 (generated_row ((h.points ++ h.rays) ++ both_ways h.lines) f.0 has));
    }

-- if there is a first generator, or a point
none_first : (g : LinearRow) (gs : List LinearRow) → gs ≡ [] → slice_get gs 0 ≡ Some g → ⊥
none_first g gs e f = none-some g (sym (ap (λ (x : List LinearRow). slice_get x 0) e) ∙ f)

first_where_given : (p : Polyhedron) (g : LinearRow) → IsPolyhedron p → slice_get p.generators 0 ≡ Some g → FirstPoint p
first_where_given p g (inl none) e = absurd (none_first g p.generators none.1 e)
first_where_given p g (inr h) e = first_point p h

first_where_some : (p : Polyhedron) → IsPolyhedron p → ¬ (IsEmptySet p.dims (Con p.rows)) → FirstPoint p
first_where_some p (inl none) some = absurd (some (falsity_is_empty p.dims p.rows none.0))
first_where_some p (inr h) some = first_point p h

-- ---- as it is listed
some_given : (rows : List (List ℤ)) (kinds : List GenKind) (g : LinearRow) → slice_get (rows_by_kind is_line rows kinds) 0 ≡ Some g → 0 < length rows
some_given [] kinds g e = absurd (none-some g e)
some_given (r ∷ rows) kinds g e = omega arith

pub some_rows : (p : Polyhedron) (list : LinearSystem GenKind) → IsPolyhedron p → ¬ (IsEmptySet p.dims (Con p.rows)) → generators list ≡ p.generators →
    0 < length list.rows
some_rows p list h some e =
    let f = first_where_some p h some in
    some_given list.rows list.kinds (generator f.row) (ap (λ (gs : List LinearRow). slice_get gs 0) e ∙ f.first)

row_given : (rows : List (List ℤ)) (kinds : List GenKind) (row : List ℤ) (kind : GenKind) → slice_get rows 0 ≡ Some row → slice_get kinds 0 ≡ Some kind →
    slice_get (rows_by_kind is_line rows kinds) 0 ≡ Some (record { row = row; equal = is_line kind })
row_given [] kinds row kind er ek = absurd (none-some row er)
row_given (r ∷ rows) [] row kind er ek = absurd (none-some kind ek)
row_given (r ∷ rows) (k ∷ kinds) row kind er ek =
    ap (λ (x : List ℤ). Some (let g : LinearRow = record { row = x; equal = is_line k } in g)) (same_Some r row er) ∙
    ap (λ (x : GenKind). Some (let g : LinearRow = record { row = row; equal = is_line x } in g)) (same_Some k kind ek)

split_row : (r ls : List ℤ) (d c : ℤ) → 2 ≤ length r → d ≡ entry r 0 → c ≡ entry r 1 → ls ≡ drop 2 r → r ≡ d ∷ c ∷ ls
split_row [] ls d c h ed ec el = absurd (omega (arith, h))
split_row (x ∷ []) ls d c h ed ec el = absurd (omega (arith, h))
split_row (x ∷ y ∷ r) ls d c h ed ec el =
    ap (λ (z : ℤ). z ∷ y ∷ r) (sym ed) ∙ ap (λ (z : ℤ). d ∷ z ∷ r) (sym ec) ∙ ap (λ (zs : List ℤ). d ∷ c ∷ zs) (sym el)

pub first_listed : (p : Polyhedron) (list : LinearSystem GenKind) (row ls : List ℤ) (kind : GenKind) (d c : ℤ) → IsPolyhedron p →
    ¬ (IsEmptySet p.dims (Con p.rows)) →
    generators list ≡ p.generators → slice_get list.rows 0 ≡ Some row → slice_get list.kinds 0 ≡ Some kind → 2 ≤ length row →
    d ≡ entry row 0 → c ≡ entry row 1 → ls ≡ drop 2 row → slice_get p.generators 0 ≡ Some (generator (d ∷ c ∷ ls))
first_listed p list row ls kind d c h some e er ek long ed ec el =
    let f = first_where_some p h some in
    let seen : Some (let g : LinearRow = record { row = row; equal = is_line kind } in g) ≡ Some (generator f.row) =
    sym (row_given list.rows list.kinds row kind er ek) ∙ ap (λ (gs : List LinearRow). slice_get gs 0) e ∙ f.first in
    let same = same_Some (let g : LinearRow = record { row = row; equal = is_line kind } in g) (generator f.row) seen in
    f.first ∙ ap (λ (x : List ℤ). Some (generator x)) (sym (ap (λ (g : LinearRow). g.row) same) ∙ split_row row ls d c long ed ec el)

-- ---- conversions
pub convert_none : (n : ℕ) (rows : List LinearRow) (p : Polyhedron) (o : Outcome) → IsOfRows n rows p o → IsEmptySet p.dims (Con p.rows) →
    IsEmptySet n (Con rows)
convert_none n rows p o b e x i c = e x (subst (λ (k : ℕ). IsPoint k x) (sym b.dims) i) (b.within x i c)

pub convert_exact : (n : ℕ) (rows : List LinearRow) (p : Polyhedron) (o : Outcome) → IsOfRows n rows p o → o ≡ Exact → IsPolyhedronOf n (Con rows) p
convert_exact n rows p o b e = subst (IfExact (IsPolyhedronOf n (Con rows) p)) e b.exact

pub convert_strained : (n : ℕ) (rows : List LinearRow) (p : Polyhedron) (o : Outcome) → IsOfRows n rows p o → ¬ (o ≡ Exact) →
    (loss : Loss) × FromRowsStrains n rows loss
convert_strained n rows p o b apart = by o apart b.flagged
  where
    by : (x : Outcome) → ¬ (x ≡ Exact) → IfFlagged (FromRowsStrains n rows) x → (loss : Loss) × FromRowsStrains n rows loss
    by Exact a f = absurd (a refl)
    by (Flagged loss) a f = (loss, f)

-- ---- the first multipliers
pub are_first : (n : ℕ) (rows : List LinearRow) (p : Polyhedron) (premises : List LinearRow) (claim : List ℤ) (m : Multipliers) →
    IsPolyhedronOf n (Con rows) p →
    n ≡ multiplier_dims premises → rows ≡ multiplier_rows premises claim → slice_get p.generators 0 ≡ Some (generator (point_of m)) → AreFirst premises claim m
are_first n rows p premises claim m is en er first = record {
  polyhedron = p;
  is = subst (λ (k : ℕ). IsPolyhedronOf k (Con (multiplier_rows premises claim)) p) en (subst (λ (gs : List LinearRow). IsPolyhedronOf n (Con gs) p) er is);
  first = first;
}

module _ (premises : List LinearRow) (claim : List ℤ) (m : Multipliers) (a : AreFirst premises claim m) where
  at_first : FirstPoint a.polyhedron
  at_first = first_where_given a.polyhedron (generator (point_of m)) a.is.canonical a.first

  same_row : at_first.row ≡ point_of m
  same_row = ap (λ (g : LinearRow). g.row) (same_Some (generator at_first.row) (generator (point_of m)) (sym at_first.first ∙ a.first))

  first_is_point : IsPoint (multiplier_dims premises) (point_of m)
  first_is_point = subst (IsPoint (multiplier_dims premises)) same_row (subst (λ (k : ℕ). IsPoint k at_first.row) a.is.dimensions at_first.is_point)

  pub first_many : length m.factors ≡ length premises
  first_many = let w : suc (suc (length m.factors)) ≡ suc (suc (length premises)) = first_is_point.width in omega (arith, w)

  pub first_shows : AreAsWide premises claim → IsFarkasCertificate premises claim m
  first_shows wide = (points_show premises claim m wide).0 (record {
    is_point = first_is_point;
    meets = a.is.points.1 (point_of m) first_is_point (subst (Con a.polyhedron.rows) same_row at_first.meets);
  })

  -- if nothing passes, the check's answer is that they do
  pub first_answer : (x : Answer) → AreAsWide premises claim → IsAnswer premises claim m (answer_view x) → (x ≡ Yes) ⊎ (x ≡ No) →
      IsAnswer premises claim m yes
  first_answer x wide told is = elim is [
    | inl e ↦ subst (λ (a : Answer). IsAnswer premises claim m (answer_view a)) e told
    | inr e ↦
        let told_no : IsAnswer premises claim m (answer_view No) = subst (λ (a : Answer). IsAnswer premises claim m (answer_view a)) e told in
        (told_no.0, first_shows wide)
  ]

  pub first_strained : IsCheckWide premises claim m → MultipliersStrain premises claim
  first_strained w = inr (m, a, w)

-- the premises of a list are as wide as its claim
row_kept : (rows : List (List ℤ)) (kinds : List ConKind) (g : LinearRow) → Contains (rows_by_kind is_equality rows kinds) g → Contains rows g.row
row_kept [] kinds g k = absurd (contains_none g k)
row_kept (r ∷ rows) [] g k = absurd (contains_none g k)
row_kept (r ∷ rows) (x ∷ kinds) g k =
    elim (contains_cases (let f : LinearRow = record { row = r; equal = is_equality x } in f) g (rows_by_kind is_equality rows kinds) k) [
      | inl e ↦ subst (Contains (r ∷ rows)) (ap (λ (f : LinearRow). f.row) e) (contains_head r rows)
      | inr d ↦ contains_tail r g.row rows (row_kept rows kinds g d)
    ]

pub as_wide : (s : LinearSystem ConKind) (rows : List (List ℤ)) (claim : List ℤ) → rows ≡ s.rows → All (λ r. length r ≡ suc s.dims) rows →
    length claim ≡ suc s.dims →
    AreAsWide (constraints s) claim
as_wide s rows claim e widths width = record {
  some = omega (arith, width);
  each = λ g k.
      All-contains (λ (r : List ℤ). length r ≡ suc s.dims) rows g.row widths
      (subst (λ (x : List (List ℤ)). Contains x g.row) (sym e) (row_kept s.rows s.kinds g k)) ∙
      sym width;
}

pub as_many : (s : LinearSystem ConKind) (factors : List ℤ) → length s.kinds ≡ length s.rows → length factors ≡ length (constraints s) →
    length factors ≡ length s.rows
as_many s factors n e = e ∙ given_length is_equality s.rows s.kinds n

-- why there is no first point, as it is stated of multipliers
pub no_first_fails : (n : ℕ) (rows premises : List LinearRow) (claim : List ℤ) (e : MultipliersFailure) → n ≡ multiplier_dims premises →
    rows ≡ multiplier_rows premises claim →
    HasNoFirst n rows e → IsMultipliersFailure premises claim e
no_first_fails n rows premises claim e en er h =
    by e (subst (λ (k : ℕ). HasNoFirst k (multiplier_rows premises claim) e) en
    (subst (λ (gs : List LinearRow). HasNoFirst n gs e) er h))
  where
    by : (x : MultipliersFailure) → HasNoFirst (multiplier_dims premises) (multiplier_rows premises claim) x → IsMultipliersFailure premises claim x
    by NotImplied f = f
    by Strained f = inl f
    by Memory f = tt

-- an exit by the error of a call
pub exit_fails : {X : Type 0} (P : MultipliersFailure → Type 0) (x : Result X MultipliersFailure) (e : MultipliersFailure) → IsErrAnd x (λ y. y ≡ e) → P e →
    IfErr x P
exit_fails P x e is h = let p = err_from_is_err_and x is in rw (p.1, p.2) h
