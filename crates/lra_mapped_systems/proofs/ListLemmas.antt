-- Lists of generators, each mapped, or with a line after them.
use Rattle.std.proofs.Common.{◌≡◌, ℕ, zero, suc, ◌+◌, ◌<◌, ◌≤◌, get_or, List, [], ◌∷◌, ◌++◌, length, map, take, ap, refl, sym, ◌∙◌, subst, ℤ, pos, ◌<ℤ◌, add-one, arith}
use Rattle.std.proofs.{Math.Seq.take-suc, lemmas.List.map-append, lemmas.List.take_all}
use Rattle.std.specs.List.{Contains}
use Rattle.lra_mapped_systems.specs.Crates.lra_linear_spec.declared.GenKind.TheVariants.{Line, Point, Ray}
use Rattle.lra_mapped_systems.specs.Crates.{lra_linear_spec.Descriptions.LinearRow, lra_linear_spec.Descriptions.line, lra_linear_spec.Kinds.is_line, lra_linear_spec.OperationStrain.unit_row}
use Rattle.lra_mapped_systems.specs.Crates.{lra_linear_spec.Vectors.cleared, lra_linear_spec.Vectors.entry, lra_linear_spec.Vectors.zeros, lra_linear_spec.declared.GenKind.GenKind}
use Rattle.lra_mapped_systems.proofs.Crates.lra_descriptions.SeveralKinds.{fit_append, given_append}
use Rattle.lra_mapped_systems.proofs.Crates.{lra_linear_spec.Lines.entry_zeros, lra_linear_spec.Membership.contains_head, lra_linear_spec.Membership.contains_tail, lra_linear_spec.UnitRows.unit_other}
use Rattle.lra_systems.specs.LinearSystems.{FitKinds, FitsKind, LinearSystem, generators, rows_by_kind}
use Rattle.lra_mapped_systems.proofs.Sums.{mapped_by}

-- ---- mapped row by row
mapped_given : (f : List ℤ → List ℤ) (rows : List (List ℤ)) (kinds : List GenKind) →
    rows_by_kind is_line (map f rows) kinds ≡ mapped_by f (rows_by_kind is_line rows kinds)
mapped_given f [] kinds = refl
mapped_given f (r ∷ rows) [] = refl
mapped_given f (r ∷ rows) (k ∷ kinds) = ap (λ (l : List LinearRow).
    (let g : LinearRow = record { row = f r; equal = is_line k } in g) ∷ l) (mapped_given f rows kinds)

kind_fits : (k : GenKind) (r t : List ℤ) → entry t 0 ≡ entry r 0 → FitsKind k r → FitsKind k t
kind_fits Point r t e h = subst (λ (z : ℤ). pos 0 <ℤ z) (sym e) h
kind_fits Ray r t e h = e ∙ h
kind_fits Line r t e h = e ∙ h

mapped_fit : (f : List ℤ → List ℤ) (rows : List (List ℤ)) (kinds : List GenKind) →
    ((r : List ℤ) → Contains rows r → entry (f r) 0 ≡ entry r 0) → FitKinds rows kinds → FitKinds (map f rows) kinds
mapped_fit f [] kinds e h = h
mapped_fit f (r ∷ rows) [] e h = h
mapped_fit f (r ∷ rows) (k ∷ kinds) e h = (
  kind_fits k r (f r) (e r (contains_head r rows)) h.0,
  mapped_fit f rows kinds (λ t m. e t (contains_tail r t rows m)) h.1,
)

-- one more row
take_next : {A : Type 0} (rows : List A) (i : ℕ) (r : A) → i < length rows → r ≡ get_or rows i r →
    take (suc i) rows ≡ take i rows ++ r ∷ []
take_next [] i r k e = absurd (omega (arith, k))
take_next (x ∷ rows) zero r k e = ap (λ y. y ∷ []) (sym e)
take_next (x ∷ rows) (suc i) r k e = ap (λ l. x ∷ l) (take_next rows i r (omega (arith, k)) e)

pub mapped_more : (f : List ℤ → List ℤ) (rows all more : List (List ℤ)) (i : ℕ) (r t : List ℤ) →
    all ≡ map f (take i rows) → i < length rows → r ≡ get_or rows i r → t ≡ f r → more ≡ all ++ t ∷ [] →
    more ≡ map f (take (i + 1) rows)
mapped_more f rows all more i r t ea k er et em =
    em ∙ ap (λ (l : List (List ℤ)). l ++ t ∷ []) ea ∙ ap (λ (y : List ℤ). map f (take i rows) ++ y ∷ []) et ∙
    sym (map-append f (take i rows) (r ∷ []))
    ∙ ap (map f) (sym (take_next rows i r k er)) ∙ ap (λ (j : ℕ). map f (take j rows)) (sym (add-one i))

pub kinds_more : (kinds all more : List GenKind) (i : ℕ) → all ≡ take i kinds → i < length kinds →
    more ≡ all ++ get_or kinds i Point ∷ [] → more ≡ take (i + 1) kinds
kinds_more kinds all more i ea k em =
    em ∙ ap (λ (l : List GenKind). l ++ get_or kinds i Point ∷ []) ea ∙ sym (take-suc kinds i Point k) ∙
    ap (λ (j : ℕ). take j kinds) (sym (add-one i))

-- as the code states it
pub mapped_listed : (f : List ℤ → List ℤ) (list all : LinearSystem GenKind) (rows : List (List ℤ)) (kinds : List GenKind)
    (i : ℕ) → all.rows ≡ map f (take i rows) → all.kinds ≡ take i kinds →
    rows ≡ list.rows → kinds ≡ list.kinds → length rows ≤ i → length kinds ≡ length list.rows →
    generators all ≡ mapped_by f (generators list)
mapped_listed f list all rows kinds i ar ak er ek h n =
    let x : length rows ≡ length list.rows = ap length er in
    ap (λ (l : List (List ℤ)). rows_by_kind is_line l all.kinds) (ar ∙ ap (map f) (take_all i rows h ∙ er)) ∙
    ap (rows_by_kind is_line (map f list.rows)) (ak ∙ take_all i kinds (omega (arith, x, n, h)) ∙ ek) ∙
    mapped_given f list.rows list.kinds

pub mapped_kinds : (f : List ℤ → List ℤ) (list all : LinearSystem GenKind) (rows : List (List ℤ)) (kinds : List GenKind)
    (i : ℕ) → all.rows ≡ map f (take i rows) → all.kinds ≡ take i kinds →
    rows ≡ list.rows → kinds ≡ list.kinds → length rows ≤ i → length kinds ≡ length list.rows →
    ((r : List ℤ) → Contains list.rows r → entry (f r) 0 ≡ entry r 0) → FitKinds list.rows list.kinds →
    FitKinds all.rows all.kinds
mapped_kinds f list all rows kinds i ar ak er ek h n e fit =
    let x : length rows ≡ length list.rows = ap length er in
    subst (λ (l : List (List ℤ)). FitKinds l all.kinds) (sym (ar ∙ ap (map f) (take_all i rows h ∙ er)))
    (subst (FitKinds (map f list.rows)) (sym (ak ∙ take_all i kinds (omega (arith, x, n, h)) ∙ ek))
    (mapped_fit f list.rows list.kinds e fit))

-- ---- with a line
pub line_added : (list all more : LinearSystem GenKind) (row u : List ℤ) → all ≡ list → more.rows ≡ all.rows ++ row ∷ [] →
    more.kinds ≡ all.kinds ++ Line ∷ [] → row ≡ u →
    length list.kinds ≡ length list.rows → generators more ≡ generators list ++ line u ∷ []
line_added list all more row u ea mr mk er m =
    ap (λ (l : List (List ℤ)). rows_by_kind is_line l more.kinds) (mr ∙ ap (λ (s : LinearSystem GenKind). s.rows ++ row ∷ []) ea)
    ∙ ap (rows_by_kind is_line (list.rows ++ row ∷ [])) (mk ∙ ap (λ (s : LinearSystem GenKind). s.kinds ++ Line ∷ []) ea)
    ∙ given_append is_line list.rows (row ∷ []) list.kinds (Line ∷ []) (sym m)
    ∙ ap (λ (y : List ℤ). generators list ++ line y ∷ []) er

pub line_fits : (list all more : LinearSystem GenKind) (row u : List ℤ) → all ≡ list → more.rows ≡ all.rows ++ row ∷ [] →
    more.kinds ≡ all.kinds ++ Line ∷ [] → row ≡ u →
    length list.kinds ≡ length list.rows → FitKinds list.rows list.kinds → entry u 0 ≡ pos 0 →
    FitKinds more.rows more.kinds
line_fits list all more row u ea mr mk er m fit level =
    subst (λ (l : List (List ℤ)). FitKinds l more.kinds) (sym (mr ∙ ap (λ (s : LinearSystem GenKind). s.rows ++ row ∷ []) ea))
    (subst (FitKinds (list.rows ++ row ∷ [])) (sym (mk ∙ ap (λ (s : LinearSystem GenKind). s.kinds ++ Line ∷ []) ea))
    (fit_append list.rows (row ∷ []) list.kinds (Line ∷ []) (sym m) fit
    (ap (λ (y : List ℤ). entry y 0) er ∙ level, tt)))

pub line_seen : (all list given : List LinearRow) (n m k : ℕ) → all ≡ list ++ line (unit_row m k) ∷ [] → list ≡ given →
    m ≡ n → all ≡ given ++ line (unit_row n k) ∷ []
line_seen all list given n m k e el em = e ∙ ap (λ (l : List LinearRow). l ++ line (unit_row m k) ∷ []) el ∙
    ap (λ (j : ℕ). given ++ line (unit_row j k) ∷ []) em

pub unit_seen : (n m x : ℕ) (row : List ℤ) → row ≡ unit_row m (x + 1) → m ≡ n → row ≡ unit_row n (suc x)
unit_seen n m x row e em = e ∙ ap (unit_row m) (add-one x) ∙ ap (λ (j : ℕ). unit_row j (suc x)) em

-- ---- column 0
pub short_divisor : (n : ℕ) (r : List ℤ) → entry (take (suc n) r) 0 ≡ entry r 0
short_divisor n [] = refl
short_divisor n (x ∷ r) = refl

pub longer_entry : (k : ℕ) (r : List ℤ) (j : ℕ) → entry (r ++ zeros k) j ≡ entry r j
longer_entry k [] j = entry_zeros k j
longer_entry k (x ∷ r) zero = refl
longer_entry k (x ∷ r) (suc j) = longer_entry k r j

pub unit_level : (n x : ℕ) → entry (unit_row n (suc x)) 0 ≡ pos 0
unit_level n x = unit_other n (suc x) 0 (λ e. omega (arith, e))

pub direction_level : (r : List ℤ) → entry (cleared 0 r) 0 ≡ pos 0
direction_level [] = refl
direction_level (x ∷ r) = refl
