-- The inequalities of a list with the rows of the matrix that say where they are tight.
use Rattle.std.proofs.Common.{◌≡◌, ◌≢◌, ◌↔◌, ℕ, zero, suc, ◌+◌, ◌<◌, ◌≤◌, ◌&&◌, Bool, true, false, List, [], ◌∷◌, ◌++◌, length, get_or, map, ap, refl, sym, ◌∙◌, subst, ℤ, pos, arith, IsTrue}
use Rattle.std.proofs.lemmas.List.{get_or-map, length-map, length-append}
use Rattle.std.specs.{List.Contains, Ordering.int_eq}
use Rattle.lra_duality.specs.Crates.lra_linear_spec.Descriptions.{LinearRow, inequality, lines_of, rays_of, system_of}
use Rattle.lra_duality.specs.Crates.lra_linear_spec.Polyhedra.{HasPoint, IsPolyhedron, Polyhedron, positivity}
use Rattle.lra_duality.specs.Crates.lra_linear_spec.Vectors.{entry, product}
use Rattle.lra_duality.specs.Crates.lra_systems.LinearSystems.{LinearSystem, constraints, generators, rows_by_kind}
use Rattle.lra_duality.specs.Crates.{lra_bits.Matrix.Matrix, lra_bits.TruthValues.both, lra_bits.TruthValues.IsSubset, lra_linear_spec.ConeStrain.row_limit, lra_linear_spec.Kinds.is_equality}
use Rattle.lra_duality.specs.Crates.{lra_linear_spec.declared.ConKind.ConKind, lra_linear_spec.declared.ConKind.TheVariants.Ge, lra_linear_spec.declared.GenKind.GenKind}
use Rattle.lra_duality.proofs.Crates.{lra_linear_spec.Products.product_comm, lra_linear_spec.Saturation.TightToo, lra_systems.FirstMembers.front}
use Rattle.lra_cone.specs.Cones.{IsCone, ConeContent, cone_saturation as by_rays, saturation_rows, tight_values}
use Rattle.lra_descriptions.specs.ShownLists.{dual_kind}
use Rattle.lra_descriptions.proofs.SeveralKinds.{dual_given}
use Rattle.lra_cone.proofs.TightRows.{rows_append, subset_from, subset_said}
use Rattle.lra_duality.specs.Saturations.{IsCovered, IsCoveredAt, saturated, saturation_of}
use Rattle.lra_duality.proofs.{KeptCones.fewer_rays, KeptCones.with_some, KeptFacets.alone_cone, KeptFacets.covered_cone, SaturationLemmas.given_length, StartLemmas.rays_more, StartLemmas.rays_same}

-- ---- tight rows by values
values_are : (generators : List LinearRow) (r : List ℤ) → saturated generators r ≡ tight_values generators r
values_are [] r = refl
values_are (g ∷ generators) r =
    ap (λ (z : ℤ). int_eq z (pos 0) ∷ saturated generators r) (product_comm r g.row) ∙ ap (λ (l : List Bool). int_eq (product g.row r) (pos 0) ∷ l) (values_are generators r)

both_once : (b : Bool) → (b && b) ≡ b
both_once true = refl
both_once false = refl

both_same : (values : List Bool) → both values values ≡ values
both_same [] = refl
both_same (b ∷ values) = ap (λ (x : Bool). x ∷ both values values) (both_once b) ∙ ap (λ (l : List Bool). b ∷ l) (both_same values)

values_said : (generators : List LinearRow) (u r : List ℤ) → IsSubset (saturated generators u) (saturated generators r) → TightToo (system_of generators) (entry u) (entry r)
values_said generators u r h s m e =
    subset_said generators u u r
    (subst (λ (l : List Bool). IsSubset l (tight_values generators r)) (sym (both_same (tight_values generators u)))
    (subst (λ (l : List Bool). IsSubset (tight_values generators u) l) (values_are generators r) (subst (λ (l : List Bool). IsSubset l (saturated generators r)) (values_are generators u) h)))
    s m e e

values_from : (generators : List LinearRow) (u r : List ℤ) → TightToo (system_of generators) (entry u) (entry r) → IsSubset (saturated generators u) (saturated generators r)
values_from generators u r tight =
    subst (λ (l : List Bool). IsSubset l (saturated generators r)) (sym (values_are generators u))
    (subst (λ (l : List Bool). IsSubset (tight_values generators u) l) (sym (values_are generators r))
    (subst (λ (l : List Bool). IsSubset l (tight_values generators r)) (both_same (tight_values generators u)) (subset_from generators u u r (λ s m e f. tight s m e))))

-- ---- the constraint at a place
given_at : {K : Type 0} (equal : K → Bool) (rows : List (List ℤ)) (kinds : List K) (i : ℕ) (k : K) (d : LinearRow) → length kinds ≡ length rows →
    i < length rows →
    get_or (rows_by_kind equal rows kinds) i d ≡ record { row = get_or rows i []; equal = equal (get_or kinds i k) }
given_at equal [] kinds i k d n h = absurd (omega (arith, h))
given_at equal (x ∷ rows) [] i k d n h = absurd (omega (arith, n))
given_at equal (x ∷ rows) (kind ∷ kinds) zero k d n h = refl
given_at equal (x ∷ rows) (kind ∷ kinds) (suc i) k d n h = given_at equal rows kinds i k d (omega (arith, n)) (omega (arith, h))

row_values : (given generators : List LinearRow) (m : Matrix) (i : ℕ) (d : LinearRow) → m ≡ saturation_of given generators → i < length given →
    get_or m.rows i [] ≡ saturated generators (get_or given i d).row
row_values given generators m i d e h =
    ap (λ (x : Matrix). get_or x.rows i []) e ∙ get_or-map (λ (r : LinearRow). saturated generators r.row) given i d [] h

pub values_at : {K : Type 0} (equal : K → Bool) (rows : List (List ℤ)) (kinds : List K) (generators : List LinearRow) (m : Matrix) (i : ℕ) (k : K) → length kinds ≡ length rows → i < length rows →
    m ≡ saturation_of (rows_by_kind equal rows kinds) generators → get_or m.rows i [] ≡ saturated generators (get_or rows i [])
values_at equal rows kinds generators m i k n h e =
    let d : LinearRow = record { row = []; equal = false } in
    let l = given_length equal rows kinds n in
    row_values (rows_by_kind equal rows kinds) generators m i d e (omega (arith, l, h)) ∙ ap (λ (g : LinearRow). saturated generators g.row) (given_at equal rows kinds i k d n h)

-- ---- which generators the inequalities are tight at, one after the other
pub tight_more : {K : Type 0} (equal : K → Bool) (generators : List LinearRow) (rows : List (List ℤ)) (kinds : List K) (i : ℕ) (r : List ℤ) (k : K) (line : Bool) (bits : List Bool)
    (m old new : Matrix) →
    length kinds ≡ length rows → i < length rows → r ≡ get_or rows i r → r ≡ get_or rows i [] → line ≡ equal (get_or kinds i k) → line ≡ false → bits ≡ get_or m.rows i [] →
    m ≡ saturation_of (rows_by_kind equal rows kinds) generators → new ≡ record old { rows = old.rows ++ bits ∷ [] } →
    old ≡ by_rays generators (rays_of (front equal rows kinds i)) → new ≡ by_rays generators (rays_of (front equal rows kinds (i + 1)))
tight_more equal generators rows kinds i r k line bits m old new n h er ed el l eb em en eo =
    let rays = rays_of (front equal rows kinds i) in
    let values : bits ≡ tight_values generators r = eb ∙ values_at equal rows kinds generators m i k n h em ∙ ap (saturated generators) (sym ed) ∙ values_are generators r in
    en ∙ ap (λ (x : Matrix). record x { rows = x.rows ++ bits ∷ [] }) eo ∙
    ap (λ (b : List Bool). record { width = length generators; rows = saturation_rows generators rays ++ b ∷ [] }) values ∙
    ap (λ (x : List (List Bool)). record { width = length generators; rows = x }) (sym (rows_append generators rays (r ∷ []))) ∙
    ap (by_rays generators) (sym (rays_more equal rows kinds i r k line n h er el l))

pub tight_left : {K : Type 0} (equal : K → Bool) (generators : List LinearRow) (rows : List (List ℤ)) (kinds : List K) (i : ℕ) (r : List ℤ) (k : K) (line : Bool) (old : Matrix) →
    length kinds ≡ length rows → i < length rows → r ≡ get_or rows i r → line ≡ equal (get_or kinds i k) → line ≡ true → old ≡ by_rays generators (rays_of (front equal rows kinds i)) →
    old ≡ by_rays generators (rays_of (front equal rows kinds (i + 1)))
tight_left equal generators rows kinds i r k line old n h er el l eo = eo ∙ ap (by_rays generators) (sym (rays_same equal rows kinds i r k line n h er el l))

pub tight_none : (given generators : List LinearRow) (m start : Matrix) (width : ℕ) → m ≡ saturation_of given generators → width ≡ m.width → start ≡ record { width = width; rows = [] } →
    start ≡ by_rays generators []
tight_none given generators m start width em ew es = es ∙ ap (λ (w : ℕ). (let x : Matrix = record { width = w; rows = [] } in x)) (ew ∙ ap (λ (x : Matrix). x.width) em)

-- ---- covered or not
pub covered_no : (kinds : List ConKind) (rows : List (List Bool)) (values : List Bool) (place : ℕ) (equal : Bool) → equal ≡ is_equality (get_or kinds place Ge) → equal ≡ true →
    IsTrue false ↔ IsCoveredAt kinds rows values place
covered_no kinds rows values place equal e t = (
  λ y. let no : false ≡ true = y in cc,
  λ c. absurd (let no : true ≡ false = sym t ∙ e ∙ c.inequality in cc),
)

pub covered_yes : (kinds : List ConKind) (rows : List (List Bool)) (values row : List Bool) (place : ℕ) (equal b : Bool) → equal ≡ is_equality (get_or kinds place Ge) → equal ≡ false →
    row ≡ get_or rows place [] → IsTrue b ↔ IsSubset values row → IsTrue b ↔ IsCoveredAt kinds rows values place
covered_yes kinds rows values row place equal b e f er both = (
  λ y. record { inequality = sym e ∙ f; tight = subst (IsSubset values) er (both.0 y) },
  λ c. both.1 (subst (IsSubset values) (sym er) c.tight),
)

-- what it means
covered_by : (list : LinearSystem ConKind) (generators : List LinearRow) (m : Matrix) (u : List ℤ) → length list.kinds ≡ length list.rows → m ≡ saturation_of (constraints list) generators →
    IsCovered list.kinds m.rows (saturated generators u) → (r : List ℤ) × Contains (constraints list) (inequality r) × TightToo (system_of generators) (entry u) (entry r)
covered_by list generators m u n e c =
    let i = c.place in
    let h : i < length list.rows = let inside = c.inside in omega (arith, n, inside) in
    let l = given_length is_equality list.rows list.kinds n in
    let r = get_or list.rows i [] in
    let same : get_or (constraints list) i (inequality r) ≡ inequality r = given_at is_equality list.rows list.kinds i Ge (inequality r) n h ∙
    ap (λ (b : Bool). (let g : LinearRow = record { row = r; equal = b } in g)) c.by.inequality in (
      r,
      (i, omega (arith, l, h), same),
      values_said generators u r (subst (IsSubset (saturated generators u)) (values_at is_equality list.rows list.kinds generators m i Ge n h e) c.by.tight),
    )

alone_from : (list : LinearSystem ConKind) (generators : List LinearRow) (m : Matrix) (u : List ℤ) → length list.kinds ≡ length list.rows → m ≡ saturation_of (constraints list) generators →
    ¬ (IsCovered list.kinds m.rows (saturated generators u)) → (r : List ℤ) → Contains (constraints list) (inequality r) → ¬ (TightToo (system_of generators) (entry u) (entry r))
alone_from list generators m u n e alone r k tight =
    let i = k.0 in
    let l = given_length is_equality list.rows list.kinds n in
    let inside = k.1 in
    let h : i < length list.rows = omega (arith, l, inside) in
    let at : inequality r ≡ record { row = get_or list.rows i []; equal = is_equality (get_or list.kinds i Ge) } = sym k.2 ∙ given_at is_equality list.rows list.kinds i Ge (inequality r) n h in
    alone (record {
      place = i;
      inside = omega (arith, n, h);
      by = record {
        inequality = sym (ap (λ (x : LinearRow). x.equal) at);
        tight = subst (IsSubset (saturated generators u)) (sym (values_at is_equality list.rows list.kinds generators m i Ge n h e))
            (values_from generators u (get_or list.rows i []) (subst (λ (x : List ℤ). TightToo (system_of generators) (entry u) (entry x)) (ap (λ (x : LinearRow). x.row) at) tight));
      };
    })

-- ---- as the code states it
pub seen : (n : ℕ) (rows given : List LinearRow) (taken : LinearSystem ConKind) (lines rays others : List (List ℤ)) → taken.dims ≡ n → constraints taken ≡ given → lines ≡ lines_of rows →
    rays ≡ others →
    IsCone (record { dims = n; taken = given; lines = lines_of rows; rays = others }) → IsCone (record { dims = taken.dims; taken = constraints taken; lines = lines; rays = rays })
seen n rows given taken lines rays others ed et el er k =
    let same : (let s : ConeContent = record { dims = n; taken = given; lines = lines_of rows; rays = others } in s)
    ≡ record { dims = taken.dims; taken = constraints taken; lines = lines; rays = rays } =
    ap (λ (m : ℕ). (let s : ConeContent = record { dims = m; taken = given; lines = lines_of rows; rays = others } in s)) (sym ed) ∙
    ap (λ (t : List LinearRow). (let s : ConeContent = record { dims = taken.dims; taken = t; lines = lines_of rows; rays = others } in s)) (sym et) ∙
    ap (λ (l : List (List ℤ)). (let s : ConeContent = record { dims = taken.dims; taken = constraints taken; lines = l; rays = others } in s)) (sym el) ∙
    ap (λ (l : List (List ℤ)). (let s : ConeContent = record { dims = taken.dims; taken = constraints taken; lines = lines; rays = l } in s)) (sym er) in
    subst IsCone same k

-- the generators as rows
pub taken_generators : (given : LinearSystem GenKind) (taken : LinearSystem ConKind) → taken.rows ≡ given.rows → taken.kinds ≡ map dual_kind given.kinds → constraints taken ≡ generators given
taken_generators given taken er ek = ap (λ (y : List (List ℤ)). rows_by_kind is_equality y taken.kinds) er ∙ ap (rows_by_kind is_equality given.rows) ek ∙ dual_given given.rows given.kinds

-- what the code has at hand
pub record AtHand (list : LinearSystem ConKind) (given : List LinearRow) (rays : List (List ℤ)) (m : Matrix) (positive : List ℤ) (values : List Bool) : Type 0
  where
    pub polyhedron : IsPolyhedron (record { dims = list.dims; rows = constraints list; generators = given })
    pub some : given ≢ []
    pub many : length list.kinds ≡ length list.rows
    pub few : length list.rows + 1 ≤ row_limit
    pub rays_are : rays ≡ rays_of (constraints list)
    pub saturation : m ≡ saturation_of (constraints list) given
    pub is_positive : positive ≡ positivity list.dims
    pub told : values ≡ saturated given positive

few_rays : (list : LinearSystem ConKind) → length list.kinds ≡ length list.rows → length list.rows + 1 ≤ row_limit → length (rays_of (constraints list)) + 1 ≤ row_limit
few_rays list n few =
    let l = given_length is_equality list.rows list.kinds n in
    let r = fewer_rays (constraints list) in
    omega (arith, l, r, few)

pub covered_start : (list : LinearSystem ConKind) (given : List LinearRow) (rays : List (List ℤ)) (m : Matrix) (positive : List ℤ) (values : List Bool) → AtHand list given rays m positive values →
    IsCovered list.kinds m.rows values → IsCone (record { dims = list.dims; taken = given; lines = lines_of (constraints list); rays = rays })
covered_start list given rays m positive values a c =
    let p : Polyhedron = record { dims = list.dims; rows = constraints list; generators = given } in
    let h : HasPoint p = with_some p a.polyhedron a.some in
    let told : values ≡ saturated given (positivity list.dims) = a.told ∙ ap (saturated given) a.is_positive in
    let x = covered_by list given m (positivity list.dims) a.many a.saturation (subst (IsCovered list.kinds m.rows) told c) in
    let few : length (rays_of (constraints list)) ≤ row_limit = let f = few_rays list a.many a.few in omega (arith, f) in
    subst (λ (l : List (List ℤ)). IsCone (record { dims = list.dims; taken = given; lines = lines_of (constraints list); rays = l })) (sym a.rays_are) (covered_cone p h x.0 x.1 x.2 few)

pub alone_start : (list : LinearSystem ConKind) (given : List LinearRow) (rays after : List (List ℤ)) (m : Matrix) (positive : List ℤ) (values : List Bool) → AtHand list given rays m positive values →
    ¬ (IsCovered list.kinds m.rows values) → after ≡ rays ++ positive ∷ [] → IsCone (record { dims = list.dims; taken = given; lines = lines_of (constraints list); rays = after })
alone_start list given rays after m positive values a never ea =
    let p : Polyhedron = record { dims = list.dims; rows = constraints list; generators = given } in
    let h : HasPoint p = with_some p a.polyhedron a.some in
    let told : values ≡ saturated given (positivity list.dims) = a.told ∙ ap (saturated given) a.is_positive in
    let alone = alone_from list given m (positivity list.dims) a.many a.saturation (λ c. never (subst (IsCovered list.kinds m.rows) (sym told) c)) in
    let few : length (rays_of (constraints list) ++ positivity list.dims ∷ []) ≤ row_limit =
    let f = few_rays list a.many a.few in let e = length-append (rays_of (constraints list)) (positivity list.dims ∷ []) in omega (arith, f, e) in
    let same : after ≡ rays_of (constraints list) ++ positivity list.dims ∷ [] = ea ∙ ap (λ (l : List (List ℤ)). l ++ positive ∷ []) a.rays_are ∙
    ap (λ (x : List ℤ). rays_of (constraints list) ++ x ∷ []) a.is_positive in
    subst (λ (l : List (List ℤ)). IsCone (record { dims = list.dims; taken = given; lines = lines_of (constraints list); rays = l })) (sym same) (alone_cone p h alone few)

-- the matrices
pub covered_matrix : (given : List LinearRow) (rays shown : List (List ℤ)) (m : Matrix) → rays ≡ shown → m ≡ by_rays given shown → m ≡ by_rays given rays
covered_matrix given rays shown m er e = e ∙ ap (by_rays given) (sym er)

pub alone_matrix : (given : List LinearRow) (rays shown after : List (List ℤ)) (m new : Matrix) (positive : List ℤ) (values : List Bool) → rays ≡ shown → m ≡ by_rays given shown →
    after ≡ rays ++ positive ∷ [] → values ≡ saturated given positive → new ≡ record m { rows = m.rows ++ values ∷ [] } → new ≡ by_rays given after
alone_matrix given rays shown after m new positive values er e ea ev en =
    en ∙ ap (λ (x : Matrix). record x { rows = x.rows ++ values ∷ [] }) e ∙
    ap (λ (b : List Bool). record { width = length given; rows = saturation_rows given shown ++ b ∷ [] }) (ev ∙ values_are given positive) ∙
    ap (λ (x : List (List Bool)). record { width = length given; rows = x }) (sym (rows_append given shown (positive ∷ []))) ∙
    ap (by_rays given) (sym (ea ∙ ap (λ (l : List (List ℤ)). l ++ positive ∷ []) er))

-- the sizes
pub matrix_rows : (list : LinearSystem ConKind) (given : List LinearRow) (m : Matrix) → length list.kinds ≡ length list.rows → m ≡ saturation_of (constraints list) given →
    length m.rows ≡ length list.rows
matrix_rows list given m n e =
    ap (λ (x : Matrix). length x.rows) e ∙ length-map (constraints list) (λ (s : LinearRow). saturated given s.row) ∙ given_length is_equality list.rows list.kinds n

pub values_width : (given : List LinearRow) (r : List ℤ) (values : List Bool) (m : Matrix) → values ≡ saturated given r → m.width ≡ length given → length values ≡ m.width
values_width given r values m ev em = ap length ev ∙ length-map given (λ (g : LinearRow). int_eq (product r g.row) (pos 0)) ∙ sym em

-- whether it is covered, of the kinds as listed
pub covered_so : (kinds also : List ConKind) (rows : List (List Bool)) (values : List Bool) (b : Bool) → kinds ≡ also → IsTrue b ↔ IsCovered kinds rows values → b ≡ true → IsCovered also rows values
covered_so kinds also rows values b e both t = subst (λ (k : List ConKind). IsCovered k rows values) e (both.0 t)

pub uncovered_so : (kinds also : List ConKind) (rows : List (List Bool)) (values : List Bool) (b : Bool) → kinds ≡ also → IsTrue b ↔ IsCovered kinds rows values → b ≡ false →
    ¬ (IsCovered also rows values)
uncovered_so kinds also rows values b e both f c =
    let yes : b ≡ true = both.1 (subst (λ (k : List ConKind). IsCovered k rows values) (sym e) c) in
    absurd (let no : true ≡ false = sym yes ∙ f in cc)
