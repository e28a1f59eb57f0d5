-- Which constraints of a pair are tight at which generators: the matrix of the own list, turned to the lists that are shown.
use Rattle.std.proofs.Common.{◌≡◌, ◌∙◌, ◌≤◌, ℕ, ℤ, suc, pos, ◌≤ℤ◌, false, List, [], ◌∷◌, ◌++◌, ap, arith, inl, inr, length, replicate, subst, sym}
use Rattle.std.proofs.lemmas.List.Elements.{Contains-append_cases, Contains-append_left, Contains-append_right}
use Rattle.std.proofs.{lemmas.List.length-map, lemmas.List.Sorted.Contains-permutation, lemmas.List.Sorted.IsPermutation-sym}
use Rattle.std.specs.{List.All, List.Contains, Prelude.Result, Prelude.Ok, Prelude.Err, Prelude.IfOk, Prelude.Bool}
use Rattle.lra_description_pair.specs.Crates.lra_systems.LinearSystems.{LinearSystem, constraints, generators}
use Rattle.lra_description_pair.specs.Crates.{lra_bits.Matrix.Matrix, lra_bits.Transposed.AreColumns, lra_linear_spec.Cones.AreDual, lra_linear_spec.Cones.all_rows, lra_linear_spec.Cones.both_ways}
use Rattle.lra_description_pair.specs.Crates.{lra_linear_spec.Descriptions.system_of, lra_linear_spec.Polyhedra.positivity, lra_linear_spec.Vectors.entry, lra_linear_spec.Vectors.negated}
use Rattle.lra_description_pair.specs.Crates.{lra_linear_spec.Vectors.product, lra_linear_spec.declared.ConKind.ConKind, lra_linear_spec.declared.GenKind.GenKind}
use Rattle.lra_description_pair.proofs.Crates.{lra_linear_spec.Lines.in_lines, lra_linear_spec.Lines.in_lines_negated, lra_linear_spec.Membership.contains_none, lra_linear_spec.Products.negated_dot}
use Rattle.lra_description_pair.proofs.Crates.{lra_linear_spec.Products.product_comm, lra_linear_spec.Signs.between_opposites}
use Rattle.lra_cone.specs.Cones.{ConeContent, IsCone}
use Rattle.lra_descriptions.specs.ShownLists.{ShowsConstraints, ShowsGenerators, directions_of, points_of, without}
use Rattle.lra_descriptions.specs.Tightness.{GoesWith, saturation_of, tight_at, tight_matrix}
use Rattle.lra_descriptions.proofs.{Parted.directions_from, Parted.points_from, Parted.without_from, TightLemmas.goes_all, TightLemmas.goes_on, TightLemmas.known_saturation, TightLemmas.turned_tight}
use Rattle.lra_description_pair.specs.OwnLists.{IsOwnList, TurnsTo, columns_of}
use Rattle.lra_description_pair.proofs.PairLists.{own_dual}

-- ---- lines vanish on the other side
duals : (s : ConeContent) (lines rays : List (List ℤ)) → IsCone s → IsOwnList s lines rays →
    AreDual (suc s.dims) (all_rows s.lines s.rays) (all_rows lines rays)
duals s lines rays k own = own_dual (suc s.dims) (system_of s.taken) (all_rows s.lines s.rays) lines rays k.dual own

-- the cone's lines on the own list
pub cone_zero : (s : ConeContent) (lines rays : List (List ℤ)) → IsCone s → IsOwnList s lines rays → (l r : List ℤ) → Contains s.lines l → Contains
    (all_rows lines rays) r → product l r ≡ pos 0
cone_zero s lines rays k own l r m n =
    let d = duals s lines rays k own in
    between_opposites (product l r) (product (negated l) r) (negated_dot l (entry r))
    (d.meets r n l (Contains-append_right s.rays (both_ways s.lines) l (in_lines s.lines l m)))
    (d.meets r n (negated l) (Contains-append_right s.rays (both_ways s.lines) (negated l) (in_lines_negated s.lines l m)))

-- the own lines on the cone
pub own_zero : (s : ConeContent) (lines rays : List (List ℤ)) → IsCone s → IsOwnList s lines rays → (l c : List ℤ) → Contains lines l →
    Contains (columns_of s) c →
    product l c ≡ pos 0
own_zero s lines rays k own l c m n =
    let d = duals s lines rays k own in
    let here : Contains (all_rows s.lines s.rays) c = elim (Contains-append_cases s.rays s.lines c n) [
      | inl i ↦ Contains-append_left s.rays (both_ways s.lines) c i
      | inr i ↦ Contains-append_right s.rays (both_ways s.lines) c (in_lines s.lines c i)
    ] in
    between_opposites (product l c) (product (negated l) c) (negated_dot l (entry c))
    (subst (λ z. pos 0 ≤ℤ z) (product_comm c l) (d.meets l (Contains-append_right rays (both_ways lines) l (in_lines lines l m)) c here))
    (subst (λ z. pos 0 ≤ℤ z) (product_comm c (negated l)) (d.meets (negated l)
    (Contains-append_right rays (both_ways lines) (negated l) (in_lines_negated lines l m)) c here))

-- ---- what is shown is among the lines and rays
pub constraints_among : (n : ℕ) (lines rays : List (List ℤ)) (list : LinearSystem ConKind) → ShowsConstraints n lines rays list → (r : List ℤ) →
    Contains list.rows r
    → Contains (all_rows lines rays) r
constraints_among n lines rays list h r m = elim (Contains-append_cases lines h.inequalities r (subst (λ (l : List (List ℤ)). Contains l r) h.rows_are m)) [
  | inl i ↦ Contains-append_right rays (both_ways lines) r (in_lines lines r i)
  | inr i ↦ Contains-append_left rays (both_ways lines) r (without_from (positivity n) rays r
      (Contains-permutation h.inequalities (without (positivity n) rays) r (IsPermutation-sym (without (positivity n) rays) h.inequalities h.inequalities_are)
      i)).0
]

pub generators_among : (lines rays : List (List ℤ)) (list : LinearSystem GenKind) → ShowsGenerators lines rays list → (r : List ℤ) → Contains list.rows r →
    Contains
    (all_rows lines rays) r
generators_among lines rays list (inl h) r m = absurd (contains_none r (subst (λ (l : List (List ℤ)). Contains l r) h.0 m))
generators_among lines rays list (inr h) r m = elim (Contains-append_cases (h.points ++ h.directions) lines r
    (subst (λ (l : List (List ℤ)). Contains l r) h.rows_are m)) [
      | inl i ↦ Contains-append_left rays (both_ways lines) r (elim (Contains-append_cases h.points h.directions r i) [
        | inl p ↦ (points_from rays r (Contains-permutation h.points (points_of rays) r (IsPermutation-sym (points_of rays) h.points h.points_are) p)).0
        | inr d ↦ (directions_from rays r (Contains-permutation h.directions (directions_of rays) r
            (IsPermutation-sym (directions_of rays) h.directions h.directions_are) d)).0
      ])
      | inr i ↦ Contains-append_right rays (both_ways lines) r (in_lines lines r i)
    ]

-- ---- the own list in order
pub enough_rows : (columns rays seen : List (List ℤ)) (m : Matrix) → m ≡ tight_matrix columns rays → seen ≡ rays → length seen ≤ length m.rows
enough_rows columns rays seen m e es =
    let n = ap (λ (x : Matrix). length x.rows) e ∙ length-map rays (tight_at columns) in
    let k = ap length es in
    omega (arith, n, k)

pub own_known : (s : ConeContent) (lines rays seen_lines seen_rays : List (List ℤ)) (old : Matrix) (rows : List (List ℤ)) (new : Matrix) → IsCone s →
    IsOwnList s
    lines rays →
    seen_lines ≡ lines → seen_rays ≡ rays → old ≡ tight_matrix (columns_of s) rays → GoesWith seen_lines seen_rays old rows new → new ≡ tight_matrix
    (columns_of s) rows
own_known s lines rays seen_lines seen_rays old rows new k own el er eo goes =
    goes_all (columns_of s) lines rays old rows new eo (own_zero s lines rays k own)
    (subst (λ (l : List (List ℤ)). GoesWith l rays old rows new) el (subst (λ (l : List (List ℤ)). GoesWith seen_lines l old rows new) er goes))

-- ---- what the cone shows
pub shows_turned : {X E : Type 0} (list : X → List (List ℤ)) (matrix : X → Matrix) (s : ConeContent) (m t : Matrix) (lines rays : List (List ℤ))
    (result : Result X E) → lines ≡ s.lines → rays ≡ s.rays →
    AreColumns m m.width t → All (λ r. length r ≡ t.width) t.rows → IfOk result (λ x. GoesWith lines rays t (list x) (matrix x)) → IfOk result
    (λ x. TurnsTo s m (list x) (matrix x))
shows_turned list matrix s m t lines rays (Err e) el er turned wide goes = tt
shows_turned list matrix s m t lines rays (Ok x) el er turned wide goes = λ rows e zero.
    goes_on rows s.lines s.rays s.lines t (list x) (matrix x) (turned_tight (columns_of s) rows m t e turned wide) zero
    (subst (λ (l : List (List ℤ)). GoesWith l s.rays t (list x) (matrix x)) el (subst (λ (l : List (List ℤ)). GoesWith lines l t (list x) (matrix x)) er goes))

pub shows_seen : {X E : Type 0} (P : List (List ℤ) → List (List ℤ) → X → Type 0) (s : ConeContent) (lines rays : List (List ℤ)) (result : Result X E) → lines ≡
    s.lines → rays ≡ s.rays →
    IfOk result (P lines rays) → IfOk result (P s.lines s.rays)
shows_seen {X = X} P s lines rays result el er h =
    subst (λ (l : List (List ℤ)). IfOk result (P l s.rays)) el (subst (λ (l : List (List ℤ)). IfOk result (P lines l)) er h)

-- the lists as the code sees them
pub own_list_seen : (n : ℕ) (lines rays seen_lines seen_rays : List (List ℤ)) (list : LinearSystem ConKind) → seen_lines ≡ lines → seen_rays ≡ rays →
    ShowsConstraints n seen_lines seen_rays list →
    ShowsConstraints n lines rays list
own_list_seen n lines rays seen_lines seen_rays list el er h =
    subst (λ (l : List (List ℤ)). ShowsConstraints n l rays list) el (subst (λ (l : List (List ℤ)). ShowsConstraints n seen_lines l list) er h)

pub own_generators_seen : (lines rays seen_lines seen_rays : List (List ℤ)) (list : LinearSystem GenKind) → seen_lines ≡ lines → seen_rays ≡ rays →
    ShowsGenerators
    seen_lines seen_rays list →
    ShowsGenerators lines rays list
own_generators_seen lines rays seen_lines seen_rays list el er h =
    subst (λ (l : List (List ℤ)). ShowsGenerators l rays list) el (subst (λ (l : List (List ℤ)). ShowsGenerators seen_lines l list) er h)

-- ---- both lists
-- of rows: the own list is that of the constraints, and the cone shows the generators
pub rows_known : (s : ConeContent) (n : ℕ) (lines rays : List (List ℤ)) (rows : LinearSystem ConKind) (list : LinearSystem GenKind)
    (of_own of_cone turned : Matrix) → IsCone s →
    IsOwnList s lines rays →
    ShowsConstraints n lines rays rows → of_own ≡ tight_matrix (columns_of s) rows.rows → TurnsTo s of_own list.rows of_cone → AreColumns of_cone of_cone.width
    turned →
    All (λ r. length r ≡ turned.width) turned.rows → length rows.kinds ≡ length rows.rows → length list.kinds ≡ length list.rows → turned ≡ saturation_of
    (constraints rows) (generators list)
rows_known s n lines rays rows list of_own of_cone turned k own shown eo turns columns wide nr ng =
    let now : of_cone ≡ tight_matrix rows.rows list.rows = turns rows.rows eo
    (λ l r m i. cone_zero s lines rays k own l r m (constraints_among n lines rays rows shown r i)) in
    known_saturation rows list turned nr ng (turned_tight rows.rows list.rows of_cone turned now columns wide)

-- of generators: the own list is that of the generators, and the cone shows the constraints
pub generators_known : (s : ConeContent) (lines rays : List (List ℤ)) (rows : LinearSystem ConKind) (list : LinearSystem GenKind) (of_own of_cone : Matrix) →
    IsCone s →
    IsOwnList s lines rays →
    ShowsGenerators lines rays list → of_own ≡ tight_matrix (columns_of s) list.rows → TurnsTo s of_own rows.rows of_cone → length rows.kinds ≡ length
    rows.rows →
    length list.kinds ≡ length list.rows → of_cone ≡ saturation_of (constraints rows) (generators list)
generators_known s lines rays rows list of_own of_cone k own shown eo turns nr ng =
    known_saturation rows list of_cone nr ng (turns list.rows eo (λ l r m i. cone_zero s lines rays k own l r m (generators_among lines rays list shown r i)))

-- without a constraint
pub none_known : (rows : LinearSystem ConKind) (list : LinearSystem GenKind) (w : ℕ) (m : Matrix) → rows.rows ≡ [] → rows.kinds ≡ [] →
    length list.kinds ≡ length list.rows
    → w ≡ length list.rows →
    m ≡ record { width = w; rows = [] } → m ≡ saturation_of (constraints rows) (generators list)
none_known rows list w m er ek ng ew e =
    known_saturation rows list m (ap length ek ∙ sym (ap length er)) ng
    (e ∙ ap (λ (n : ℕ). (let x : Matrix = record { width = n; rows = [] } in x)) ew ∙ ap (tight_matrix list.rows) (sym er))

-- without a generator, of one constraint
pub nothing_known : (rows : LinearSystem ConKind) (list : LinearSystem GenKind) (r : List ℤ) (k : ConKind) (bits : List Bool) (start m : Matrix) →
    rows.rows ≡ r ∷ [] →
    rows.kinds ≡ k ∷ [] →
    list.rows ≡ [] → list.kinds ≡ [] → bits ≡ replicate 0 false → start ≡ record { width = 0; rows = [] } → m ≡ record start { rows = start.rows ++ bits ∷ [] }
    →
    m ≡ saturation_of (constraints rows) (generators list)
nothing_known rows list r k bits start m er ek eg ekg eb es em =
    known_saturation rows list m (ap length ek ∙ sym (ap length er)) (ap length ekg ∙ sym (ap length eg))
    (em ∙ ap (λ (x : Matrix). record x { rows = x.rows ++ bits ∷ [] }) es ∙ ap (λ (b : List Bool). (let x : Matrix = record { width = 0; rows = b ∷ [] } in x))
    eb ∙
    ap (tight_matrix []) (sym er) ∙ ap (λ (l : List (List ℤ)). tight_matrix l rows.rows) (sym eg))
