-- Lists with their kinds, one after the other.
use Rattle.std.proofs.Common.{◌≡◌, ℕ, Bool, List, [], ◌∷◌, ◌++◌, length, ap, sym, ◌∙◌, subst, arith, ℤ, take, ◌≤◌}
use Rattle.std.proofs.lemmas.List.{take_all}
use Rattle.lra_duality.specs.Crates.lra_systems.LinearSystems.{LinearSystem, constraints, rows_by_kind, FitKinds}
use Rattle.lra_duality.specs.Crates.{lra_linear_spec.Descriptions.LinearRow, lra_linear_spec.Kinds.is_equality, lra_linear_spec.declared.ConKind.ConKind, lra_linear_spec.declared.GenKind.GenKind}
use Rattle.lra_descriptions.proofs.SeveralKinds.{fit_append, given_append}

-- as the code states it
pub joined_given : {K : Type 0} (equal : K → Bool) (first second all : LinearSystem K) (rows : List (List ℤ)) (kinds : List K) (i : ℕ) → all.rows ≡ first.rows ++ take i rows →
    all.kinds ≡ first.kinds ++ take i kinds → rows ≡ second.rows → kinds ≡ second.kinds → length rows ≤ i → length kinds ≡ length second.rows → length first.kinds ≡ length first.rows →
    rows_by_kind equal all.rows all.kinds ≡ rows_by_kind equal first.rows first.kinds ++ rows_by_kind equal second.rows second.kinds
joined_given {K = K} equal first second all rows kinds i ar ak er ek h n m =
    let many : length kinds ≤ i = let x = ap length er in omega (arith, x, n, h) in
    ap (λ (l : List (List ℤ)). rows_by_kind equal l all.kinds) (ar ∙ ap (λ (l : List (List ℤ)). first.rows ++ l) (take_all i rows h ∙ er))
    ∙ ap (rows_by_kind equal (first.rows ++ second.rows)) (ak ∙ ap (λ (l : List K). first.kinds ++ l) (take_all i kinds many ∙ ek))
    ∙ given_append equal first.rows second.rows first.kinds second.kinds (sym m)

pub joined_kinds : (first second all : LinearSystem GenKind) (rows : List (List ℤ)) (kinds : List GenKind) (i : ℕ) → all.rows ≡ first.rows ++ take i rows →
    all.kinds ≡ first.kinds ++ take i kinds → rows ≡ second.rows → kinds ≡ second.kinds → length rows ≤ i → length kinds ≡ length second.rows → length first.kinds ≡ length first.rows →
    FitKinds first.rows first.kinds → FitKinds second.rows second.kinds → FitKinds all.rows all.kinds
joined_kinds first second all rows kinds i ar ak er ek h n m f s =
    let many : length kinds ≤ i = let x = ap length er in omega (arith, x, n, h) in
    subst (λ (l : List (List ℤ)). FitKinds l all.kinds) (sym (ar ∙ ap (λ (l : List (List ℤ)). first.rows ++ l) (take_all i rows h ∙ er)))
    (subst (FitKinds (first.rows ++ second.rows)) (sym (ak ∙ ap (λ (l : List GenKind). first.kinds ++ l) (take_all i kinds many ∙ ek)))
    (fit_append first.rows second.rows first.kinds second.kinds (sym m) f s))

pub row_added : (list all more : LinearSystem ConKind) (row r : List ℤ) (kind : ConKind) → all ≡ list → more.rows ≡ all.rows ++ row ∷ [] → more.kinds ≡ all.kinds ++ kind ∷ [] → row ≡ r →
    length list.kinds ≡ length list.rows → constraints more ≡ constraints list ++ record { row = r; equal = is_equality kind } ∷ []
row_added list all more row r kind ea mr mk er m =
    ap (λ (l : List (List ℤ)). rows_by_kind is_equality l more.kinds) (mr ∙ ap (λ (s : LinearSystem ConKind). s.rows ++ row ∷ []) ea)
    ∙ ap (rows_by_kind is_equality (list.rows ++ row ∷ [])) (mk ∙ ap (λ (s : LinearSystem ConKind). s.kinds ++ kind ∷ []) ea)
    ∙ given_append is_equality list.rows (row ∷ []) list.kinds (kind ∷ []) (sym m)
    ∙ ap (λ (y : List ℤ). constraints list ++ (let g : LinearRow = record { row = y; equal = is_equality kind } in g) ∷ []) er
