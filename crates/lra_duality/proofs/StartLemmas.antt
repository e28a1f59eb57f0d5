-- Generators parted into lines and others, and the columns of a matrix of tight rows.
use Rattle.std.proofs.Common.{◌≡◌, ◌≢◌, IsTrue, ℕ, suc, ◌+◌, ◌<◌, ◌≤◌, add-one, Bool, true, false, cond, List, [], ◌∷◌, ◌++◌, length, take, drop, get_or, map, ap, refl, sym, ◌∙◌, subst, ℤ, pos, arith}
use Rattle.std.proofs.lemmas.List.{append-nil, ext_get_or, length-map, take_all, get_or-map}
use Rattle.std.specs.Ordering.{int_eq}
use Rattle.lra_duality.specs.Crates.lra_linear_spec.Descriptions.{LinearRow, inequality, lines_of, rays_of}
use Rattle.lra_duality.specs.Crates.lra_linear_spec.Vectors.{entry, product}
use Rattle.lra_duality.specs.Crates.{lra_bits.Matrix.Matrix, lra_bits.TruthValues.value_at, lra_double_description.Steps.IsFilled, lra_linear_spec.ConeStrain.row_limit, lra_linear_spec.Kinds.is_line}
use Rattle.lra_duality.specs.Crates.{lra_linear_spec.Polyhedra.positivity, lra_linear_spec.declared.GenKind.GenKind, lra_systems.Dimensions.too_many_dimensions, lra_systems.LinearSystems.rows_by_kind}
use Rattle.lra_duality.proofs.Crates.lra_linear_spec.OneSpelling.{positivity_product}
use Rattle.lra_duality.proofs.Crates.lra_systems.FirstMembers.{front, front_length, given_more, given_split, member}
use Rattle.lra_cone.specs.Cones.{cone_saturation as by_rays, saturation_rows, tight_values}
use Rattle.lra_duality.specs.{Incremental.MayGoOn, Incremental.MayTurn, Saturations.column, Saturations.saturated, Saturations.saturation_of}
use Rattle.lra_duality.proofs.SaturationLemmas.{given_length}

-- ---- lines and others
parted : {K : Type 0} (equal : K → Bool) (f : List LinearRow → List (List ℤ)) → ((xs : List LinearRow) (g : LinearRow) → f (xs ++ g ∷ []) ≡ f xs ++ f (g ∷ [])) →
    (rows : List (List ℤ)) (kinds : List K)
    (i : ℕ) (r : List ℤ) (k : K) → length kinds ≡ length rows → i < length rows → r ≡ get_or rows i r →
    f (front equal rows kinds (i + 1)) ≡ f (front equal rows kinds i) ++ f (member equal kinds i r k ∷ [])
parted equal f appends rows kinds i r k n h e =
    ap (λ (j : ℕ). f (front equal rows kinds j)) (add-one i) ∙ ap f (given_more equal rows kinds i r k n h e) ∙
    appends (front equal rows kinds i) (member equal kinds i r k)

lines_push : (xs : List LinearRow) (g : LinearRow) → lines_of (xs ++ g ∷ []) ≡ lines_of xs ++ lines_of (g ∷ [])
lines_push [] g = refl
lines_push (x ∷ xs) g = by_kind x.equal (lines_push xs g)
  where
    by_kind : (b : Bool) → lines_of (xs ++ g ∷ []) ≡ lines_of xs ++ lines_of (g ∷ []) →
        cond b (x.row ∷ lines_of (xs ++ g ∷ [])) (lines_of (xs ++ g ∷ [])) ≡ cond b (x.row ∷ lines_of xs) (lines_of xs) ++ lines_of (g ∷ [])
    by_kind true e = ap (λ l. x.row ∷ l) e
    by_kind false e = e

rays_push : (xs : List LinearRow) (g : LinearRow) → rays_of (xs ++ g ∷ []) ≡ rays_of xs ++ rays_of (g ∷ [])
rays_push [] g = refl
rays_push (x ∷ xs) g = by_kind x.equal (rays_push xs g)
  where
    by_kind : (b : Bool) → rays_of (xs ++ g ∷ []) ≡ rays_of xs ++ rays_of (g ∷ []) →
        cond b (rays_of (xs ++ g ∷ [])) (x.row ∷ rays_of (xs ++ g ∷ [])) ≡ cond b (rays_of xs) (x.row ∷ rays_of xs) ++ rays_of (g ∷ [])
    by_kind true e = e
    by_kind false e = ap (λ l. x.row ∷ l) e

kept_of : (b also : Bool) (r : List ℤ) → b ≡ also → also ≡ true → cond b (r ∷ []) [] ≡ r ∷ []
kept_of true also r e t = refl
kept_of false also r e t = cc

none_of : (b also : Bool) (r : List ℤ) → b ≡ also → also ≡ false → cond b (r ∷ []) [] ≡ []
none_of true also r e t = cc
none_of false also r e t = refl

other_of : (b also : Bool) (r : List ℤ) → b ≡ also → also ≡ false → cond b [] (r ∷ []) ≡ r ∷ []
other_of true also r e t = cc
other_of false also r e t = refl

no_other : (b also : Bool) (r : List ℤ) → b ≡ also → also ≡ true → cond b [] (r ∷ []) ≡ []
no_other true also r e t = refl
no_other false also r e t = cc

pub line_more : {K : Type 0} (equal : K → Bool) (rows : List (List ℤ)) (kinds : List K) (i : ℕ) (r t : List ℤ) (k : K) (line : Bool) (items new : List (List ℤ)) → length kinds ≡ length rows →
    i < length rows →
    r ≡ get_or rows i r → line ≡ equal (get_or kinds i k) → line ≡ true → t ≡ r → new ≡ items ++ t ∷ [] → items ≡ lines_of (front equal rows kinds i) →
    new ≡ lines_of (front equal rows kinds (i + 1))
line_more equal rows kinds i r t k line items new n h e el l et en ei =
    en ∙ ap (λ (x : List (List ℤ)). x ++ t ∷ []) ei ∙ ap (λ (y : List ℤ). lines_of (front equal rows kinds i) ++ y ∷ []) et ∙
    ap (λ (x : List (List ℤ)). lines_of (front equal rows kinds i) ++ x) (sym (kept_of (equal (get_or kinds i k)) line r (sym el) l)) ∙
    sym (parted equal lines_of lines_push rows kinds i r k n h e)

pub line_left : {K : Type 0} (equal : K → Bool) (rows : List (List ℤ)) (kinds : List K) (i : ℕ) (r : List ℤ) (k : K) (line : Bool) (items : List (List ℤ)) → length kinds ≡ length rows →
    i < length rows →
    r ≡ get_or rows i r → line ≡ equal (get_or kinds i k) → line ≡ false → items ≡ lines_of (front equal rows kinds i) →
    items ≡ lines_of (front equal rows kinds (i + 1))
line_left equal rows kinds i r k line items n h e el l ei =
    ei ∙ sym (append-nil (lines_of (front equal rows kinds i))) ∙
    ap (λ (x : List (List ℤ)). lines_of (front equal rows kinds i) ++ x) (sym (none_of (equal (get_or kinds i k)) line r (sym el) l)) ∙
    sym (parted equal lines_of lines_push rows kinds i r k n h e)

pub rays_more : {K : Type 0} (equal : K → Bool) (rows : List (List ℤ)) (kinds : List K) (i : ℕ) (r : List ℤ) (k : K) (line : Bool) → length kinds ≡ length rows → i < length rows →
    r ≡ get_or rows i r →
    line ≡ equal (get_or kinds i k) → line ≡ false → rays_of (front equal rows kinds (i + 1)) ≡ rays_of (front equal rows kinds i) ++ r ∷ []
rays_more equal rows kinds i r k line n h e el l =
    parted equal rays_of rays_push rows kinds i r k n h e ∙
    ap (λ (x : List (List ℤ)). rays_of (front equal rows kinds i) ++ x) (other_of (equal (get_or kinds i k)) line r (sym el) l)

pub rays_same : {K : Type 0} (equal : K → Bool) (rows : List (List ℤ)) (kinds : List K) (i : ℕ) (r : List ℤ) (k : K) (line : Bool) → length kinds ≡ length rows → i < length rows →
    r ≡ get_or rows i r →
    line ≡ equal (get_or kinds i k) → line ≡ true → rays_of (front equal rows kinds (i + 1)) ≡ rays_of (front equal rows kinds i)
rays_same equal rows kinds i r k line n h e el l =
    parted equal rays_of rays_push rows kinds i r k n h e ∙
    ap (λ (x : List (List ℤ)). rays_of (front equal rows kinds i) ++ x) (no_other (equal (get_or kinds i k)) line r (sym el) l) ∙
    append-nil (rays_of (front equal rows kinds i))

pub ray_more : {K : Type 0} (equal : K → Bool) (rows : List (List ℤ)) (kinds : List K) (i : ℕ) (r t : List ℤ) (k : K) (line : Bool) (items new : List (List ℤ)) → length kinds ≡ length rows →
    i < length rows →
    r ≡ get_or rows i r → line ≡ equal (get_or kinds i k) → line ≡ false → t ≡ r → new ≡ items ++ t ∷ [] → items ≡ rays_of (front equal rows kinds i) →
    new ≡ rays_of (front equal rows kinds (i + 1))
ray_more equal rows kinds i r t k line items new n h e el l et en ei =
    en ∙ ap (λ (x : List (List ℤ)). x ++ t ∷ []) ei ∙ ap (λ (y : List ℤ). rays_of (front equal rows kinds i) ++ y ∷ []) et ∙
    sym (rays_more equal rows kinds i r k line n h e el l)

pub ray_left : {K : Type 0} (equal : K → Bool) (rows : List (List ℤ)) (kinds : List K) (i : ℕ) (r : List ℤ) (k : K) (line : Bool) (items : List (List ℤ)) → length kinds ≡ length rows →
    i < length rows →
    r ≡ get_or rows i r → line ≡ equal (get_or kinds i k) → line ≡ true → items ≡ rays_of (front equal rows kinds i) →
    items ≡ rays_of (front equal rows kinds (i + 1))
ray_left equal rows kinds i r k line items n h e el l ei = ei ∙ sym (rays_same equal rows kinds i r k line n h e el l)

-- once all are seen
pub seen_all : {K : Type 0} (equal : K → Bool) (P : List LinearRow → Type 0) (rows listed : List (List ℤ)) (kinds also : List K) (i : ℕ) → rows ≡ listed → kinds ≡ also → length kinds ≡ length listed →
    length rows ≤ i →
    P (front equal rows kinds i) → P (rows_by_kind equal listed also)
seen_all {K = K} equal P rows listed kinds also i er ek n h x =
    let many : length kinds ≤ i = let m = ap length er in omega (arith, m, n, h) in
    subst (λ (l : List (List ℤ)). P (rows_by_kind equal l also)) er (subst (λ (l : List K). P (rows_by_kind equal rows l)) ek
    (subst (λ (l : List K). P (rows_by_kind equal rows l)) (take_all i kinds many) (subst (λ (l : List (List ℤ)). P (rows_by_kind equal l (take i kinds))) (take_all i rows h) x)))

-- ---- the column of a generator
value_split : (f : LinearRow → Bool) (xs : List LinearRow) (g : LinearRow) (ys : List LinearRow) → value_at (map f (xs ++ g ∷ ys)) (length xs) ≡ f g
value_split f [] g ys = refl
value_split f (x ∷ xs) g ys = value_split f xs g ys

column_split : (rows xs : List LinearRow) (g : LinearRow) (ys : List LinearRow) →
    column (saturation_of rows (xs ++ g ∷ ys)) (length xs) ≡ tight_values rows g.row
column_split [] xs g ys = refl
column_split (s ∷ rows) xs g ys =
    ap (λ (b : Bool). b ∷ column (saturation_of rows (xs ++ g ∷ ys)) (length xs)) (value_split (λ x. int_eq (product s.row x.row) (pos 0)) xs g ys) ∙
    ap (λ (l : List Bool). int_eq (product s.row g.row) (pos 0) ∷ l) (column_split rows xs g ys)

column_values : (given : List LinearRow) (rows : List (List ℤ)) (kinds : List GenKind) (i : ℕ) (r : List ℤ) (k : GenKind) (m : Matrix) → length kinds ≡ length rows → i < length rows →
    r ≡ get_or rows i r → m ≡ saturation_of given (rows_by_kind is_line rows kinds) → column m i ≡ tight_values given r
column_values given rows kinds i r k m n h e em =
    let xs = front is_line rows kinds i in
    let g = member is_line kinds i r k in
    let ys = rows_by_kind is_line (drop (suc i) rows) (drop (suc i) kinds) in
    ap (λ (x : Matrix). column x i) (em ∙ ap (saturation_of given) (given_split is_line rows kinds i r k n h e)) ∙
    subst (λ (j : ℕ). column (saturation_of given (xs ++ g ∷ ys)) j ≡ tight_values given r) (front_length is_line rows kinds i n h) (column_split given xs g ys)

-- ---- the values of one generator
pub at_first : (m : Matrix) (place k : ℕ) (first b : Bool) → k ≡ 0 → b ≡ first → b ≡ value_at (first ∷ column m place) k
at_first m place k first b e f = f ∙ ap (value_at (first ∷ column m place)) (sym e)

pub at_later : (m : Matrix) (place k j : ℕ) (first b : Bool) → k ≡ suc j → k ≤ length m.rows → b ≡ value_at (get_or m.rows j []) place → b ≡ value_at (first ∷ column m place) k
at_later m place k j first b e h f =
    f ∙ sym (get_or-map (λ bits. value_at bits place) m.rows j [] false (omega (arith, e, h))) ∙ ap (value_at (first ∷ column m place)) (sym e)

pub all_values : (m : Matrix) (place width k : ℕ) (first : Bool) (bits : List Bool) → width ≡ suc (length m.rows) → width ≤ k → IsFilled (value_at (first ∷ column m place)) width k bits →
    bits ≡ first ∷ column m place
all_values m place width k first bits e h f =
    let l : length (first ∷ column m place) ≡ width = ap suc (length-map m.rows (λ bits. value_at bits place)) ∙ sym e in
    ext_get_or false bits (first ∷ column m place) (f.0 ∙ sym l) (λ j i. f.1 j (omega (arith, i, h, f.0)))

-- ---- the matrix by points and rays
saturation_push : (taken : List LinearRow) (rays : List (List ℤ)) (r : List ℤ) → saturation_rows taken (rays ++ r ∷ []) ≡ saturation_rows taken rays ++ tight_values taken r ∷ []
saturation_push taken [] r = refl
saturation_push taken (x ∷ rays) r = ap (λ (l : List (List Bool)). tight_values taken x ∷ l) (saturation_push taken rays r)

first_value : (n : ℕ) (r : List ℤ) (b : Bool) → b ≡ int_eq (entry r 0) (pos 0) → b ≡ int_eq (product (positivity n) r) (pos 0)
first_value n r b e = e ∙ ap (λ (y : ℤ). int_eq y (pos 0)) (sym (positivity_product n r))

pub matrix_more : (n : ℕ) (given : List LinearRow) (rows : List (List ℤ)) (kinds : List GenKind) (i : ℕ) (r : List ℤ) (k : GenKind) (line first : Bool) (bits : List Bool) (m old new : Matrix) →
    length kinds ≡ length rows → i < length rows → r ≡ get_or rows i r → line ≡ is_line (get_or kinds i k) → line ≡ false → first ≡ int_eq (entry r 0) (pos 0) →
    bits ≡ first ∷ column m i → m ≡ saturation_of given (rows_by_kind is_line rows kinds) → new ≡ record old { rows = old.rows ++ bits ∷ [] } →
    old ≡ by_rays (inequality (positivity n) ∷ given) (rays_of (front is_line rows kinds i)) →
    new ≡ by_rays (inequality (positivity n) ∷ given) (rays_of (front is_line rows kinds (i + 1)))
matrix_more n given rows kinds i r k line first bits m old new nk h e el l ef eb em en eo =
    let taken = inequality (positivity n) ∷ given in
    let rays = rays_of (front is_line rows kinds i) in
    let values : bits ≡ tight_values taken r = eb ∙ ap (λ (b : Bool). b ∷ column m i) (first_value n r first ef) ∙
    ap (λ (x : List Bool). int_eq (product (positivity n) r) (pos 0) ∷ x) (column_values given rows kinds i r k m nk h e em) in
    en ∙ ap (λ (x : Matrix). record x { rows = x.rows ++ bits ∷ [] }) eo ∙
    ap (λ (b : List Bool). record { width = length taken; rows = saturation_rows taken rays ++ b ∷ [] }) values ∙
    ap (λ (x : List (List Bool)). record { width = length taken; rows = x }) (sym (saturation_push taken rays r)) ∙
    ap (by_rays taken) (sym (rays_more is_line rows kinds i r k line nk h e el l))

pub matrix_left : (taken : List LinearRow) (rows : List (List ℤ)) (kinds : List GenKind) (i : ℕ) (r : List ℤ) (k : GenKind) (line : Bool) (old : Matrix) → length kinds ≡ length rows →
    i < length rows →
    r ≡ get_or rows i r → line ≡ is_line (get_or kinds i k) → line ≡ true → old ≡ by_rays taken (rays_of (front is_line rows kinds i)) →
    old ≡ by_rays taken (rays_of (front is_line rows kinds (i + 1)))
matrix_left taken rows kinds i r k line old n h e el l eo = eo ∙ ap (by_rays taken) (sym (rays_same is_line rows kinds i r k line n h e el l))

-- no ray is seen yet
pub matrix_none : (first : LinearRow) (given generators : List LinearRow) (m start : Matrix) (width : ℕ) → m ≡ saturation_of given generators → width ≡ suc (length m.rows) →
    start ≡ record { width = width; rows = [] } → start ≡ by_rays (first ∷ given) []
matrix_none first given generators m start width em ew es =
    es ∙ ap (λ (w : ℕ). (let x : Matrix = record { width = w; rows = [] } in x)) (ew ∙ ap suc (ap (λ (x : Matrix). length x.rows) em ∙ length-map given (λ s. saturated generators s.row)))

-- ---- as the code states it
pub matrix_width : (equal : GenKind → Bool) (given : List LinearRow) (rows seen : List (List ℤ)) (kinds also : List GenKind) (m : Matrix) → seen ≡ rows → also ≡ kinds →
    length also ≡ length rows → m ≡ saturation_of given (rows_by_kind equal rows kinds) → m.width ≡ length rows
matrix_width equal given rows seen kinds also m er ek n e = ap (λ (x : Matrix). x.width) e ∙ given_length equal rows kinds (ap length (sym ek) ∙ n)

pub start_matrix : (n d : ℕ) (rows generators taken : List LinearRow) (rays : List (List ℤ)) (m : Matrix) → d ≡ n → taken ≡ inequality (positivity n) ∷ rows → rays ≡ rays_of generators →
    m ≡ by_rays (inequality (positivity d) ∷ rows) (rays_of generators) → m ≡ by_rays taken rays
start_matrix n d rows generators taken rays m ed et er e =
    e ∙ ap (λ (k : ℕ). by_rays (inequality (positivity k) ∷ rows) (rays_of generators)) ed
    ∙ ap (λ (t : List LinearRow). by_rays t (rays_of generators)) (sym et) ∙
    ap (by_rays taken) (sym er)

pub some_given : {K : Type 0} (equal : K → Bool) (rows seen : List (List ℤ)) (kinds also : List K) → seen ≡ rows → also ≡ kinds → length also ≡ length rows → 0 < length seen →
    rows_by_kind equal rows kinds ≢ []
some_given equal rows seen kinds also er ek n h e =
    let l = given_length equal rows kinds (ap length (sym ek) ∙ n) in
    let z = ap length e in
    let s = ap length er in
    absurd (omega (arith, l, z, s, h))

pub few_given : {K : Type 0} (equal : K → Bool) (rows seen : List (List ℤ)) (kinds also : List K) (most : ℕ) → seen ≡ rows → also ≡ kinds → length also ≡ length rows → length seen ≤ most →
    length (rows_by_kind equal rows kinds) ≤ most
few_given equal rows seen kinds also most er ek n h =
    let l = given_length equal rows kinds (ap length (sym ek) ∙ n) in
    let s = ap length er in
    omega (arith, l, s, h)

pub given_count : {K : Type 0} (equal : K → Bool) (rows seen : List (List ℤ)) (kinds also : List K) → seen ≡ rows → also ≡ kinds → length also ≡ length rows →
    length seen ≡ length (rows_by_kind equal rows kinds)
given_count equal rows seen kinds also er ek n = ap length er ∙ sym (given_length equal rows kinds (ap length (sym ek) ∙ n))

-- ---- whether they make a cone
never : (b : Bool) → b ≡ false → IsTrue b → ⊥
never b f t = cc

pub fitting : (n count : ℕ) (given : List LinearRow) → n < too_many_dimensions → 0 < count → count ≤ row_limit → count ≡ length given → MayGoOn n given
fitting n count given small some few e = record { small = small; some = subst (λ (i : ℕ). 0 < i) e some; few = subst (λ (i : ℕ). i ≤ row_limit) e few }

pub not_fitting : (n count : ℕ) (given : List LinearRow) (b : Bool) → (n < too_many_dimensions → 0 < count → count ≤ row_limit → IsTrue b) → b ≡ false → count ≡ length given →
    ¬ (MayGoOn n given)
not_fitting n count given b fits f e m =
    never b f (fits m.small (subst (λ (i : ℕ). 0 < i) (sym e) m.some) (subst (λ (i : ℕ). i ≤ row_limit) (sym e) m.few))

pub not_turning : (n : ℕ) (rows given : List LinearRow) → ¬ (MayGoOn n given) → ¬ (MayTurn n rows given)
not_turning n rows given fails m = fails m.on

pub no_room : (n count : ℕ) (rows given : List LinearRow) (b : Bool) → (count + 1 ≤ row_limit → IsTrue b) → b ≡ false → count ≡ length rows → ¬ (MayTurn n rows given)
no_room n count rows given b leaves f e m = never b f (leaves (subst (λ (i : ℕ). i + 1 ≤ row_limit) (sym e) m.room))
