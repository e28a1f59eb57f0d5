-- A polyhedron is shown by its canonical lists: as wide as it has dimensions, with the same points by rows and by
-- generators, and given by its text.
use Rattle.std.proofs.Common.{◌≡◌, ◌≢◌, ◌∙◌, ◌<◌, ◌⊎◌, ℕ, zero, suc, ℤ, pos, negsuc, ◌<ℤ◌, Bool, true, false, List, [], ◌∷◌, ◌++◌, length, map, inl, inr, refl, sym, ap, subst, arith, append_assoc}
use Rattle.std.proofs.lemmas.List.Elements.{All-head, All-tail, Contains-append_left, Contains-append_right}
use Rattle.std.proofs.{lemmas.Int.ints, lemmas.List.map-append}
use Rattle.std.specs.List.{All, AllByRecursion, Contains}
use Rattle.lra_report_build.specs.Crates.lra_linear_spec.Descriptions.{LinearRow, rows_as, HoldsWith, Con}
use Rattle.lra_report_build.specs.Crates.lra_linear_spec.Polyhedra.{Polyhedron, IsPolyhedron, HasPoint, falsity}
use Rattle.lra_report_build.specs.Crates.lra_linear_spec.declared.GenKind.TheVariants.{Point, Ray, Line}
use Rattle.lra_report_build.specs.Crates.lra_systems.LinearSystems.{LinearSystem, rows_by_kind, constraints, generators, FitsKind, FitKinds}
use Rattle.lra_report_build.specs.Crates.{lra_linear_spec.Cones.all_rows, lra_linear_spec.Cones.both_ways, lra_linear_spec.Echelon.HasPivot, lra_linear_spec.Echelon.IsEchelon}
use Rattle.lra_report_build.specs.Crates.{lra_linear_spec.Kinds.constraint_kind, lra_linear_spec.Kinds.is_equality, lra_linear_spec.Kinds.is_line, lra_linear_spec.Points.IsPoint}
use Rattle.lra_report_build.specs.Crates.{lra_linear_spec.Range.InRange, lra_linear_spec.Vectors.entry, lra_linear_spec.Vectors.product, lra_linear_spec.declared.ConKind.ConKind}
use Rattle.lra_report_build.specs.Crates.{lra_linear_spec.declared.ConKind.TheVariants.Ge, lra_linear_spec.declared.ConKind.TheVariants.Eq, lra_linear_spec.declared.GenKind.GenKind}
use Rattle.lra_report_build.proofs.Crates.lra_linear_spec.Combinations.{generated_row}
use Rattle.lra_report_build.proofs.Crates.lra_linear_spec.Membership.{contains_none, contains_head, contains_tail, contains_cases}
use Rattle.lra_report_build.proofs.Crates.lra_linear_spec.OneSpelling.{falsity_never, given_has, some_member}
use Rattle.lra_report_build.proofs.Crates.lra_linear_spec.Polyhedra.{con_gen, cone_gen, generators_are_generators}
use Rattle.lra_poly_domain.proofs.PartLemmas.{kind_back}
use Rattle.lra_row_text.specs.ShownDescriptions.{generator_kind, shown_constraint, shown_generator}
use Rattle.lra_row_text.specs.{Lists.shown_rows, Lists.shown_generators, Part.ReportGenerator, Part.Part, Rows.ReportRow, Rows.RowHolds, Shown.report_row, Shown.report_generator}
use Rattle.lra_report.specs.{Report.Invariant, Spelled.IsSpelledRow, Spelled.IsSpelledGenerator, Spelled.IsSpelledPart}
use Rattle.lra_report.proofs.CanonicalLists.{spelled_equality, spelled_inequality, spelled_point, spelled_ray, spelled_line}
use Rattle.lra_report.proofs.Every.{every_append}
use Rattle.lra_report.specs.Parts as parts
use Rattle.lra_report_build.specs.Polyhedra.{part_if_any, shown_polyhedron, ShowsPolyhedron, polyhedron_of}
use Rattle.lra_report_build.proofs.{RowsHold.row_holds, RowsHold.row_held, SamePoints.as_row, SamePoints.within_con, SamePoints.con_within, SamePoints.generated_gen, SamePoints.gen_generated}

-- ---- the lists of a report are those of the polyhedron
pub rows_again : (rows : List (List ℤ)) (kinds : List ConKind) → shown_rows rows kinds ≡ map shown_constraint (rows_by_kind is_equality rows kinds)
rows_again [] kinds = refl
rows_again (r ∷ rows) [] = refl
rows_again (r ∷ rows) (k ∷ kinds) =
    ap (λ (q : ConKind). report_row r q ∷ shown_rows rows kinds) (sym (kind_back k)) ∙ ap (λ rest. report_row r (constraint_kind (is_equality k)) ∷ rest)
    (rows_again rows kinds)

point_again : (z : ℤ) → pos 0 <ℤ z → Point ≡ generator_kind false z
point_again (pos zero) h = absurd (omega (arith, ints, h))
point_again (pos (suc n)) h = refl
point_again (negsuc n) h = absurd (omega (arith, ints, h))

generator_again : (k : GenKind) (r : List ℤ) → FitsKind k r → k ≡ generator_kind (is_line k) (entry r 0)
generator_again Point r h = point_again (entry r 0) h
generator_again Ray r h = ap (generator_kind false) (sym h)
generator_again Line r h = refl

pub generators_again : (rows : List (List ℤ)) (kinds : List GenKind) → FitKinds rows kinds → shown_generators rows kinds ≡ map shown_generator
    (rows_by_kind is_line rows kinds)
generators_again [] kinds h = refl
generators_again (r ∷ rows) [] h = refl
generators_again (r ∷ rows) (k ∷ kinds) h =
    ap (λ (q : GenKind). report_generator r q ∷ shown_generators rows kinds) (generator_again k r h.0)
    ∙ ap (λ rest. report_generator r (generator_kind (is_line k) (entry r 0)) ∷ rest) (generators_again rows kinds h.1)

-- ---- what holds of the rows of a list holds of its members
pub members : {K : Type 0} (equal : K → Bool) (P : List ℤ → Type 0) (rows : List (List ℤ)) (kinds : List K) → All P rows → (g : LinearRow) → Contains
    (rows_by_kind equal rows kinds) g → P g.row
members equal P [] kinds h g k = absurd (contains_none g k)
members equal P (r ∷ rows) [] h g k = absurd (contains_none g k)
members equal P (r ∷ rows) (q ∷ kinds) h g k = elim (contains_cases (let x : LinearRow = record { row = r; equal = equal q } in x) g (rows_by_kind equal rows kinds) k) [
  | inl e ↦ subst (λ (x : LinearRow). P x.row) e (All-head P r rows h)
  | inr d ↦ members equal P rows kinds (All-tail P r rows h) g d
]

pub each_of : {A : Type 0} (P : A → Type 0) (xs : List A) → All P xs → AllByRecursion P xs
each_of P [] h = tt
each_of P (x ∷ xs) h = (All-head P x xs h, each_of P xs (All-tail P x xs h))

-- ---- widths
row_wide : (n : ℕ) (row : List ℤ) (k : ConKind) → length row ≡ suc n → length (report_row row k).coefficients ≡ n
row_wide n [] k e = absurd (omega (arith, e))
row_wide n (c ∷ cs) k e = omega (arith, e)

rows_wide : (n : ℕ) (rows : List LinearRow) → ((g : LinearRow) → Contains rows g → length g.row ≡ suc n) →
    AllByRecursion (λ (r : ReportRow). length r.coefficients ≡ n)
    (map shown_constraint rows)
rows_wide n [] h = tt
rows_wide n (g ∷ rows) h = (row_wide n g.row (constraint_kind g.equal) (h g (contains_head g rows)), rows_wide n rows (λ x k. h x (contains_tail g x rows k)))

generator_wide : (n : ℕ) (row : List ℤ) (k : GenKind) → length row ≡ suc n → length (report_generator row k).numbers ≡ n
generator_wide n [] k e = absurd (omega (arith, e))
generator_wide n (c ∷ cs) k e = omega (arith, e)

generators_wide : (n : ℕ) (gs : List LinearRow) → ((g : LinearRow) → Contains gs g → length g.row ≡ suc n) →
    AllByRecursion (λ (g : ReportGenerator). length g.numbers ≡ n)
    (map shown_generator gs)
generators_wide n [] h = tt
generators_wide n (g ∷ gs) h =
    (generator_wide n g.row (generator_kind g.equal (entry g.row 0)) (h g (contains_head g gs)), generators_wide n gs (λ x k. h x (contains_tail g x gs k)))

-- ---- texts
-- a fact on each row that is shown
shown_each : (P : ReportRow → Type 0) (b : Bool) (rows : List (List ℤ)) → ((r : List ℤ) → Contains rows r → P (report_row r (constraint_kind b))) →
    AllByRecursion P
    (map shown_constraint (rows_as b rows))
shown_each P b [] h = tt
shown_each P b (r ∷ rows) h = (h r (contains_head r rows), shown_each P b rows (λ x k. h x (contains_tail r x rows k)))

shown_each_generator : (P : ReportGenerator → Type 0) (b : Bool) (rows : List (List ℤ)) →
    ((r : List ℤ) → Contains rows r → P (shown_generator (record { row = r; equal = b })))
    → AllByRecursion P (map shown_generator (rows_as b rows))
shown_each_generator P b [] h = tt
shown_each_generator P b (r ∷ rows) h = (h r (contains_head r rows), shown_each_generator P b rows (λ x k. h x (contains_tail r x rows k)))

leads_of : (rows : List (List ℤ)) (ps : List ℕ) → IsEchelon rows ps → (r : List ℤ) → Contains rows r → (p : ℕ) × HasPivot r p
leads_of [] ps e r k = absurd (contains_none r k)
leads_of (x ∷ rows) [] e r k = absurd e
leads_of (x ∷ rows) (p ∷ ps) e r k = elim (contains_cases x r rows k) [ inl s ↦ (p, subst (λ z. HasPivot z p) s e.0) | inr d ↦ leads_of rows ps e.4 r d ]

-- each number of the rows is in the range
abbrev AreSmall : List LinearRow → Type 0
AreSmall list = (g : LinearRow) → Contains list g → AllByRecursion InRange g.row

rows_spelled : (p : Polyhedron) → HasPoint p → AreSmall p.rows → AllByRecursion IsSpelledRow (map shown_constraint p.rows)
rows_spelled p h small =
    let es = rows_as true h.equalities in
    let is = rows_as false h.inequalities in
    let small' : AreSmall (es ++ is) = subst AreSmall h.rows_are small in
    let first = shown_each IsSpelledRow true h.equalities (λ r k.
    let (q, leads) = leads_of h.equalities h.constraints_canonical.pivots h.constraints_canonical.echelon r k in
    spelled_equality r q leads (small' (record { row = r; equal = true })
    (Contains-append_left es is (record { row = r; equal = true }) (given_has true h.equalities r k)))) in
    let second = shown_each IsSpelledRow false h.inequalities (λ r k.
    spelled_inequality r (small' (record { row = r; equal = false }) (Contains-append_right es is (record { row = r; equal = false })
    (given_has false h.inequalities r k)))) in
    subst (λ (rows : List LinearRow). AllByRecursion IsSpelledRow (map shown_constraint rows)) (sym h.rows_are)
    (subst (AllByRecursion IsSpelledRow) (sym (map-append shown_constraint es is))
    (every_append IsSpelledRow (map shown_constraint es) (map shown_constraint is) first second))

-- of three lists
each_of_three : (P : ReportGenerator → Type 0) (xs ys zs : List LinearRow) → AllByRecursion P (map shown_generator xs) →
    AllByRecursion P (map shown_generator ys) →
    AllByRecursion P (map shown_generator zs)
    → AllByRecursion P (map shown_generator (xs ++ ys ++ zs))
each_of_three P xs ys zs a b c =
    let ab = subst (AllByRecursion P) (sym (map-append shown_generator xs ys)) (every_append P (map shown_generator xs) (map shown_generator ys) a b) in
    subst (AllByRecursion P) (sym (map-append shown_generator (xs ++ ys) zs)) (every_append P (map shown_generator (xs ++ ys)) (map shown_generator zs) ab c)

generators_spelled : (p : Polyhedron) → HasPoint p → AreSmall p.generators → AllByRecursion IsSpelledGenerator (map shown_generator p.generators)
generators_spelled p h small =
    let points = rows_as false h.points in
    let rays = rows_as false h.rays in
    let lines = rows_as true h.lines in
    let small' : AreSmall (points ++ rays ++ lines) = subst AreSmall h.generators_are small in
    let of_points = shown_each_generator IsSpelledGenerator false h.points (λ r k.
    let above = h.divisors r k in
    let g : LinearRow = record { row = r; equal = false } in
    subst (λ (q : GenKind). IsSpelledGenerator (report_generator r q)) (point_again (entry r 0) above)
    (spelled_point r above (h.generators_canonical.lowest r (Contains-append_left h.points h.rays r k))
    (small' g (Contains-append_left (points ++ rays) lines g (Contains-append_left points rays g (given_has false h.points r k)))))) in
    let of_rays = shown_each_generator IsSpelledGenerator false h.rays (λ r k.
    let flat = h.directions r (inl k) in
    let g : LinearRow = record { row = r; equal = false } in
    subst (λ (q : GenKind). IsSpelledGenerator (report_generator r q)) (ap (generator_kind false) (sym flat))
    (spelled_ray r flat (small' g (Contains-append_left (points ++ rays) lines g (Contains-append_right points rays g (given_has false h.rays r k)))))) in
    let of_lines = shown_each_generator IsSpelledGenerator true h.lines (λ r k.
    let g : LinearRow = record { row = r; equal = true } in
    spelled_line r (h.directions r (inr k)) (small' g (Contains-append_right (points ++ rays) lines g (given_has true h.lines r k)))) in
    subst (λ (gs : List LinearRow). AllByRecursion IsSpelledGenerator (map shown_generator gs)) (sym h.generators_are)
    (each_of_three IsSpelledGenerator points rays lines of_points of_rays of_lines)

-- ---- points
divide : (gs : List ReportGenerator) → AllByRecursion IsSpelledGenerator gs → AllByRecursion (λ (g : ReportGenerator). parts.DividesAs g.kind g.divisor) gs
divide [] h = tt
divide (g ∷ gs) h = (h.0.divides, divide gs h.1)

abbrev pub part_of : Polyhedron → Part
part_of p = record { rows = map shown_constraint p.rows; generators = map shown_generator p.generators }

pub row_is_point : (n : ℕ) (x : parts.RationalPoint) → parts.IsReportPoint n x → IsPoint n (as_row x)
row_is_point n x i = record { width = ap suc i.width; divisor = omega (arith, ints, i.divides) }

same_points : (p : Polyhedron) → IsPolyhedron p → parts.HasSamePoints p.dims (part_of p)
same_points p is x i =
    let are = generators_are_generators p is in
    let same = con_gen p is in
    let point = row_is_point p.dims x i in (
      λ within. gen_generated p.generators are x (same.0 (as_row x) point (within_con p.rows x within)),
      λ generated. con_within p.rows x (same.1 (as_row x) point (generated_gen p.generators are x generated)),
    )

-- a point of the list is one
point_there : (p : Polyhedron) (h : HasPoint p) (row : List ℤ) → Contains h.points row → length row ≡ suc p.dims → pos 0 <ℤ entry row 0 → Con p.rows row
    → parts.PartHasPoint p.dims (part_of p)
point_there p h [] k long above con = absurd (omega (arith, long))
point_there p h (negsuc d ∷ zs) k long above con = absurd (omega (arith, ints, above))
point_there p h (pos d ∷ zs) k long above con = (
  record { divisor = d; numerators = zs },
  record { width = omega (arith, long); divides = omega (arith, ints, above) },
  con_within p.rows (record { divisor = d; numerators = zs }) con,
)

pub has_point : (p : Polyhedron) → HasPoint p → parts.PartHasPoint p.dims (part_of p)
has_point p h =
    let (r, k) = some_member h.points h.some_point in
    let member = Contains-append_left h.points h.rays r k in
    let above = h.divisors r k in
    let in_all = Contains-append_left (h.points ++ h.rays) (both_ways h.lines) r member in
    let long = h.dual.row_widths r in_all in
    let point : IsPoint p.dims r = record { width = long; divisor = above } in
    let generated = cone_gen p h r (generated_row (all_rows h.lines (h.points ++ h.rays)) r in_all) in
    point_there p h r k long above ((con_gen p (inr h)).1 r point generated)

-- ---- stores
each_holds : (rows : List LinearRow) (s : List ℤ) → Con rows (pos 1 ∷ s) → AllByRecursion (λ (r : ReportRow). RowHolds r s) (map shown_constraint rows)
each_holds [] s h = tt
each_holds (g ∷ rows) s h = (one g.row g.equal (h g (contains_head g rows)), each_holds rows s (λ x k. h x (contains_tail g x rows k)))
  where
    one : (row : List ℤ) (b : Bool) → HoldsWith b (product row (pos 1 ∷ s)) → RowHolds (report_row row (constraint_kind b)) s
    one row true h = row_holds row Eq s h
    one row false h = row_holds row Ge s h

each_held : (rows : List LinearRow) (s : List ℤ) → AllByRecursion (λ (r : ReportRow). RowHolds r s) (map shown_constraint rows) → Con rows (pos 1 ∷ s)
each_held [] s h g i = absurd (contains_none g i)
each_held (x ∷ rows) s h g i = elim (contains_cases x g rows i) [
  | inl e ↦ subst (λ (y : LinearRow). HoldsWith y.equal (product y.row (pos 1 ∷ s))) e (one x.row x.equal h.0)
  | inr d ↦ each_held rows s h.1 g d
]
  where
    one : (row : List ℤ) (b : Bool) → RowHolds (report_row row (constraint_kind b)) s → HoldsWith b (product row (pos 1 ∷ s))
    one row true h = row_held row Eq s h
    one row false h = row_held row Ge s h

one_held : (rows : List LinearRow) (s : List ℤ) → AllByRecursion (λ (r : ReportRow). RowHolds r s) (map shown_constraint rows) ⊎ ⊥ → Con rows (pos 1 ∷ s)
one_held rows s (inl h) = each_held rows s h
one_held rows s (inr h) = absurd h

store_point : (n : ℕ) (s : List ℤ) → length s ≡ n → IsPoint n (pos 1 ∷ s)
store_point n s long = record { width = ap suc long; divisor = omega (arith, ints) }

-- ---- the state
any_part : (part : Part) (points : List (List ℤ)) (further : List LinearRow) → points ≢ [] → part_if_any (rows_as false points ++ further) part ≡ part ∷ []
any_part part [] further some = absurd (some refl)
any_part part (r ∷ points) further some = refl

pub no_part : (p : Polyhedron) → p.generators ≡ [] → shown_polyhedron p ≡ []
no_part p none = ap (λ (gs : List LinearRow). part_if_any gs (part_of p)) none

pub one_part : (p : Polyhedron) → HasPoint p → (part : Part) → part_if_any p.generators part ≡ part ∷ []
one_part p h part =
    ap (λ (gs : List LinearRow). part_if_any gs part) (h.generators_are ∙ append_assoc (rows_as false h.points) (rows_as false h.rays) (rows_as true h.lines))
    ∙ any_part part h.points (rows_as false h.rays ++ rows_as true h.lines) h.some_point

-- rows and generators have a column more than there are dimensions
abbrev AreWide : ℕ → List LinearRow → Type 0
AreWide n list = (g : LinearRow) → Contains list g → length g.row ≡ suc n

pub told : (p : Polyhedron) → IsPolyhedron p → AreWide p.dims p.rows → AreWide p.dims p.generators → AreSmall p.generators → ShowsPolyhedron p
    (shown_polyhedron p)
told p (inl none) wide_rows wide_generators small =
    subst (ShowsPolyhedron p) (sym (no_part p none.1))
    (record {
      wide = tt;
      tell = tt;
      holds = λ s long c.
          let never : LinearRow = record { row = falsity p.dims; equal = false } in
          absurd (falsity_never p.dims (pos 1 ∷ s) (store_point p.dims s long) (c never (subst (λ l. Contains l never) (sym none.0) (contains_head never []))));
      only = λ s long h. absurd h;
    })
told p (inr h) wide_rows wide_generators small =
    subst (ShowsPolyhedron p) (sym (one_part p h (part_of p)))
    (record {
      wide = ((rows_wide p.dims p.rows wide_rows, generators_wide p.dims p.generators wide_generators), tt);
      tell = ((divide (map shown_generator p.generators) (generators_spelled p h small), same_points p (inr h), has_point p h), tt);
      holds = λ s long c. inl (each_holds p.rows s c);
      only = λ s long h. one_held p.rows s h;
    })

pub spelled : (p : Polyhedron) → IsPolyhedron p → AreSmall p.rows → AreSmall p.generators → AllByRecursion IsSpelledPart (shown_polyhedron p)
spelled p (inl none) small_rows small =
    subst (AllByRecursion IsSpelledPart) (sym (no_part p none.1)) tt
spelled p (inr h) small_rows small =
    subst (AllByRecursion IsSpelledPart) (sym (one_part p h (part_of p)))
    (record { rows = rows_spelled p h small_rows; generators = generators_spelled p h small }, tt)

-- ---- two lists
any_listed : (rows : List (List ℤ)) (kinds : List GenKind) (part : Part) → length kinds ≡ length rows → 0 < length kinds → part_if_any
    (rows_by_kind is_line rows kinds) part ≡ part ∷ []
any_listed [] [] part long some = absurd (omega (arith, some))
any_listed [] (k ∷ kinds) part long some = absurd (omega (arith, long))
any_listed (r ∷ rows) [] part long some = absurd (omega (arith, some))
any_listed (r ∷ rows) (k ∷ kinds) part long some = refl

none_listed : (rows : List (List ℤ)) (kinds : List GenKind) (part : Part) → length kinds ≡ 0 → [] ≡ part_if_any (rows_by_kind is_line rows kinds) part
none_listed [] kinds part none = refl
none_listed (r ∷ rows) [] part none = refl
none_listed (r ∷ rows) (k ∷ kinds) part none = absurd (omega (arith, none))

pub none_shown : (rows : LinearSystem ConKind) (gens : LinearSystem GenKind) → length gens.kinds ≡ 0 → [] ≡ shown_polyhedron (polyhedron_of rows gens)
none_shown rows gens none = none_listed gens.rows gens.kinds (part_of (polyhedron_of rows gens)) none

pub some_shown : (rows : LinearSystem ConKind) (gens : LinearSystem GenKind) (part : Part) → FitKinds gens.rows gens.kinds →
    length gens.kinds ≡ length gens.rows → 0 <
    length gens.kinds
    → part.rows ≡ shown_rows rows.rows rows.kinds → part.generators ≡ shown_generators gens.rows gens.kinds → part ∷ [] ≡ shown_polyhedron
    (polyhedron_of rows gens)
some_shown rows gens part fit long some of_rows of_generators =
    let is : part ≡ part_of (polyhedron_of rows gens) =
    ap (λ (rs : List ReportRow). record { rows = rs; generators = part.generators }) (of_rows ∙ rows_again rows.rows rows.kinds)
    ∙ ap (λ (gs : List ReportGenerator). record { rows = map shown_constraint (constraints rows); generators = gs })
    (of_generators ∙ generators_again gens.rows gens.kinds fit) in
    ap (λ (p : Part). p ∷ []) is ∙ sym (any_listed gens.rows gens.kinds (part_of (polyhedron_of rows gens)) long some)

-- what is said of the polyhedron's state, of one that is the same
module _ (rows : LinearSystem ConKind) (gens : LinearSystem GenKind) (is : IsPolyhedron (polyhedron_of rows gens)) (same : gens.dims ≡ rows.dims)
    (wide_rows : All (λ (r : List ℤ). length r ≡ suc rows.dims) rows.rows) (wide_generators : All (λ (r : List ℤ). length r ≡ suc gens.dims) gens.rows)
    (small_rows : All (All InRange) rows.rows) (small_generators : All (All InRange) gens.rows) where
  rows_small : AreSmall (constraints rows)
  rows_small = members is_equality (AllByRecursion InRange) rows.rows rows.kinds (λ k d h. each_of InRange _ (small_rows k d h))

  generators_small : AreSmall (generators gens)
  generators_small = members is_line (AllByRecursion InRange) gens.rows gens.kinds (λ k d h. each_of InRange _ (small_generators k d h))

  pub told_so : (state : Invariant) → state ≡ shown_polyhedron (polyhedron_of rows gens) → ShowsPolyhedron (polyhedron_of rows gens) state
  told_so state e =
      subst (ShowsPolyhedron (polyhedron_of rows gens)) (sym e)
      (told (polyhedron_of rows gens) is (members is_equality (λ (r : List ℤ). length r ≡ suc rows.dims) rows.rows rows.kinds wide_rows)
      (subst (λ (n : ℕ). AreWide n (generators gens)) same (members is_line (λ (r : List ℤ). length r ≡ suc gens.dims) gens.rows gens.kinds wide_generators))
      generators_small)

  pub spelled_so : (state : Invariant) → state ≡ shown_polyhedron (polyhedron_of rows gens) → AllByRecursion IsSpelledPart state
  spelled_so state e = subst (AllByRecursion IsSpelledPart) (sym e) (spelled (polyhedron_of rows gens) is rows_small generators_small)
