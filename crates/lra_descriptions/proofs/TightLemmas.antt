-- Matrices that say which rows are tight at which others: turned, and put in the order of lists.
use Rattle.std.proofs.Common.{◌≡◌, ◌∙◌, ℕ, ◌<◌, ◌+◌, ℤ, pos, Bool, true, false, List, [], ◌∷◌, ◌++◌, ap, arith, get_or, length, map, refl, replicate, suc, sym}
use Rattle.std.proofs.lemmas.Bool.Decides.{Decides-int_eq}
use Rattle.std.proofs.lemmas.List.{append-nil, ext_get_or, get_or-map, get_or_append_left, length-append, length-map}
use Rattle.std.specs.{List.All, List.Contains, Ordering.int_eq}
use Rattle.lra_descriptions.specs.Crates.lra_linear_spec.Kinds.{is_equality, is_line}
use Rattle.lra_descriptions.specs.Crates.{lra_bits.Matrix.Matrix, lra_bits.Transposed.AreColumns, lra_bits.TruthValues.value_at, lra_linear_spec.Descriptions.LinearRow}
use Rattle.lra_descriptions.specs.Crates.{lra_linear_spec.Vectors.product, lra_linear_spec.declared.ConKind.ConKind, lra_linear_spec.declared.GenKind.GenKind}
use Rattle.lra_descriptions.proofs.Crates.{lra_linear_spec.Membership.contains_head, lra_linear_spec.Membership.contains_tail, lra_linear_spec.Products.product_comm}
use Rattle.lra_systems.specs.LinearSystems.{LinearSystem, constraints, generators, rows_by_kind}
use Rattle.lra_descriptions.specs.Tightness.{GoesWith, TellsFirst, saturated, saturation_of, tight_at, tight_matrix}

-- ---- one row
tight_value : (columns : List (List ℤ)) (r : List ℤ) (j : ℕ) → j < length columns → value_at (tight_at columns r) j ≡ int_eq (product r (get_or columns j []))
    (pos 0)
tight_value columns r j h = get_or-map (λ c. int_eq (product r c) (pos 0)) columns j [] false h

tight_length : (columns : List (List ℤ)) (r : List ℤ) → length (tight_at columns r) ≡ length columns
tight_length columns r = length-map columns (λ c. int_eq (product r c) (pos 0))

matrix_row : (columns rows : List (List ℤ)) (k : ℕ) → k < length rows → get_or (map (tight_at columns) rows) k [] ≡ tight_at columns (get_or rows k [])
matrix_row columns rows k h = get_or-map (tight_at columns) rows k [] [] h

-- a row that vanishes at each of the columns
all_tight : (columns : List (List ℤ)) (r : List ℤ) → ((c : List ℤ) → Contains columns c → product r c ≡ pos 0) → tight_at columns r ≡ replicate
    (length columns) true
all_tight [] r h = refl
all_tight (x ∷ columns) r h =
    ap (λ (b : Bool). b ∷ tight_at columns r) ((Decides-int_eq (product r x) (pos 0)).1 (h x (contains_head x columns))) ∙
    ap (λ (l : List Bool). true ∷ l) (all_tight columns r (λ c m. h c (contains_tail x c columns m)))

-- values that say where a row vanishes
same_value : (b : Bool) (z : ℤ) → (b ≡ true → z ≡ pos 0) × (z ≡ pos 0 → b ≡ true) → b ≡ int_eq z (pos 0)
same_value true z h = sym ((Decides-int_eq z (pos 0)).1 (h.0 refl))
same_value false z h = go (int_eq z (pos 0)) refl
  where
    go : (b : Bool) → int_eq z (pos 0) ≡ b → false ≡ int_eq z (pos 0)
    go false e = sym e
    go true e = h.1 ((Decides-int_eq z (pos 0)).0 e) ∙ sym e

pub tight_values_are : (columns : List (List ℤ)) (r : List ℤ) (bits : List Bool) → length bits ≡ length columns →
    ((j : ℕ) → j < length columns → (value_at bits j ≡ true → product r (get_or columns j []) ≡ pos 0) ×
    (product r (get_or columns j []) ≡ pos 0 → value_at bits j ≡ true)) →
    bits ≡ tight_at columns r
tight_values_are columns r bits n h = ext_get_or false bits (tight_at columns r) (n ∙ sym (tight_length columns r)) (λ j m.
    let l : j < length columns = omega (arith, m, n) in
    same_value (value_at bits j) (product r (get_or columns j [])) (h j l) ∙ sym (tight_value columns r j l))

-- ---- the matrix turned
pub turned_tight : (columns rows : List (List ℤ)) (m t : Matrix) → m ≡ tight_matrix columns rows → AreColumns m m.width t → All (λ r. length r ≡ t.width)
    t.rows → t ≡ tight_matrix rows columns
turned_tight columns rows m t em turned wide =
    let w : m.width ≡ length columns = ap (λ (x : Matrix). x.width) em in
    let h : length m.rows ≡ length rows = ap (λ (x : Matrix). length x.rows) em ∙ length-map rows (tight_at columns) in
    let many : length t.rows ≡ length columns = turned.height ∙ w in
    let row : (c : ℕ) → c < length columns → get_or t.rows c [] ≡ tight_at rows (get_or columns c []) = λ c l.
    let n : length (get_or t.rows c []) ≡ length rows = wide c [] (omega (arith, l, many)) ∙ turned.width ∙ h in
    ext_get_or false (get_or t.rows c []) (tight_at rows (get_or columns c [])) (n ∙ sym (tight_length rows (get_or columns c []))) (λ k i.
    let inside : k < length rows = omega (arith, i, n) in
    turned.each c k (omega (arith, l, w)) ∙ ap (λ (x : Matrix). value_at (get_or x.rows k []) c) em ∙ ap (λ (b : List Bool). value_at b c)
    (matrix_row columns rows k inside) ∙
    tight_value columns (get_or rows k []) c l ∙ ap (λ z. int_eq z (pos 0)) (product_comm (get_or rows k []) (get_or columns c [])) ∙
    sym (tight_value rows (get_or columns c []) k inside)) in
    let all : t.rows ≡ map (tight_at rows) columns = ext_get_or [] t.rows (map (tight_at rows) columns) (many ∙ sym (length-map columns (tight_at rows)))
    (λ c i. let l : c < length columns = omega (arith, i, many) in row c l ∙ sym (matrix_row rows columns c l)) in
    ap (λ (n : ℕ). (let x : Matrix = record { width = n; rows = t.rows } in x)) (turned.width ∙ h) ∙ ap
    (λ (l : List (List Bool)). (let x : Matrix = record { width = length rows; rows = l } in x)) all

-- ---- in the order of a list
tells_first : (columns rays behind : List (List ℤ)) (m : Matrix) → m ≡ tight_matrix columns (rays ++ behind) → TellsFirst (tight_at columns) rays m
tells_first columns rays behind m e i h =
    ap (λ (x : Matrix). get_or x.rows i []) e ∙ matrix_row columns (rays ++ behind) i (omega (arith, h, length-append rays behind)) ∙
    ap (tight_at columns) (get_or_append_left rays behind [] i h)

-- where the lines vanish at each of the columns
pub goes_on : (columns lines rays behind : List (List ℤ)) (old : Matrix) (rows : List (List ℤ)) (new : Matrix) → old ≡ tight_matrix columns (rays ++ behind) →
    ((l c : List ℤ) → Contains lines l → Contains columns c → product l c ≡ pos 0) → GoesWith lines rays old rows new → new ≡ tight_matrix columns rows
goes_on columns lines rays behind old rows new e zero goes =
    let w : old.width ≡ length columns = ap (λ (x : Matrix). x.width) e in
    goes (tight_at columns) (tells_first columns rays behind old e) (λ l m. all_tight columns l (λ c k. zero l c m k) ∙ ap (λ (n : ℕ). replicate n true)
    (sym w)) ∙
    ap (λ (n : ℕ). (let x : Matrix = record { width = n; rows = map (tight_at columns) rows } in x)) w

pub goes_all : (columns lines rays : List (List ℤ)) (old : Matrix) (rows : List (List ℤ)) (new : Matrix) → old ≡ tight_matrix columns rays →
    ((l c : List ℤ) → Contains lines l → Contains columns c → product l c ≡ pos 0) → GoesWith lines rays old rows new → new ≡ tight_matrix columns rows
goes_all columns lines rays old rows new e zero goes =
    goes_on columns lines rays [] old rows new (e ∙ ap (tight_matrix columns) (sym (append-nil rays))) zero goes

-- ---- of both lists of a polyhedron
given_tight : {K : Type 0} (equal : K → Bool) (rows : List (List ℤ)) (kinds : List K) (r : List ℤ) → length kinds ≡ length rows → tight_at rows r ≡ saturated
    (rows_by_kind equal rows kinds) r
given_tight equal [] kinds r n = refl
given_tight equal (x ∷ rows) [] r n = absurd (omega (arith, n))
given_tight equal (x ∷ rows) (k ∷ kinds) r n = ap (λ (l : List Bool). int_eq (product r x) (pos 0) ∷ l) (given_tight equal rows kinds r (omega (arith, n)))

given_many : {K : Type 0} (equal : K → Bool) (rows : List (List ℤ)) (kinds : List K) → length kinds ≡ length rows → length rows ≡ length
    (rows_by_kind equal rows kinds)
given_many equal [] kinds n = refl
given_many equal (x ∷ rows) [] n = absurd (omega (arith, n))
given_many equal (x ∷ rows) (k ∷ kinds) n = ap suc (given_many equal rows kinds (omega (arith, n)))

rows_tight : {K : Type 0} (equal : K → Bool) (generators : List LinearRow) (columns : List (List ℤ)) (rows : List (List ℤ)) (kinds : List K) → length kinds ≡
    length rows →
    ((r : List ℤ) → tight_at columns r ≡ saturated generators r) → map (tight_at columns) rows ≡ map (λ (s : LinearRow). saturated generators s.row)
    (rows_by_kind equal rows kinds)
rows_tight equal generators columns [] kinds n h = refl
rows_tight equal generators columns (x ∷ rows) [] n h = absurd (omega (arith, n))
rows_tight equal generators columns (x ∷ rows) (k ∷ kinds) n h =
    ap (λ (b : List Bool). b ∷ map (tight_at columns) rows) (h x) ∙
    ap (λ (l : List (List Bool)). saturated generators x ∷ l) (rows_tight equal generators columns rows kinds (omega (arith, n)) h)

pub known_saturation : (rows : LinearSystem ConKind) (list : LinearSystem GenKind) (m : Matrix) → length rows.kinds ≡ length rows.rows →
    length list.kinds ≡ length
    list.rows →
    m ≡ tight_matrix list.rows rows.rows → m ≡ saturation_of (constraints rows) (generators list)
known_saturation rows list m nr ng e =
    e ∙ ap (λ (n : ℕ). (let x : Matrix = record { width = n; rows = map (tight_at list.rows) rows.rows } in x)) (given_many is_line list.rows list.kinds ng) ∙
    ap (λ (l : List (List Bool)). (let x : Matrix = record { width = length (generators list); rows = l } in x))
    (rows_tight is_equality (generators list) list.rows rows.rows rows.kinds nr (λ r. given_tight is_line list.rows list.kinds r ng))
