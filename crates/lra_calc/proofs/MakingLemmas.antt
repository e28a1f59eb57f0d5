-- What a line makes: systems of rows of one width, with their kinds, and polyhedra of them, flagged or not.
use Rattle.std.proofs.Common.{◌≡◌, ◌<◌, ◌+◌, get_or, drop, ℕ, suc, ℤ, pos, Bool, true, false, cond, nat_eq, List, [], ◌∷◌, ◌++◌, length, map, refl, ap, sym, ◌∙◌, subst, arith, append_assoc, Option}
use Rattle.std.proofs.{Common.Some, Common.None, lemmas.Bool.Decides.nat_tests, lemmas.List.Elements.All-nil, lemmas.List.Elements.All-cons}
use Rattle.std.specs.List.{All}
use Rattle.lra_calc.specs.Crates.lra_systems.LinearSystems.{LinearSystem, rows_by_kind, FitsKind, FitKinds}
use Rattle.lra_calc.specs.Crates.{lra_linear_spec.Descriptions.LinearRow, lra_linear_spec.Kinds.is_line, lra_linear_spec.Points.PointSet, lra_linear_spec.Polyhedra.Polyhedron}
use Rattle.lra_calc.specs.Crates.{lra_linear_spec.Representable.IsRepresentable, lra_linear_spec.Strain.Loss, lra_linear_spec.declared.GenKind.GenKind, lra_poly.Outcomes.Becomes}
use Rattle.lra_calc.specs.Crates.{lra_poly.declared.outcome.Outcome.Outcome, lra_poly.declared.outcome.Outcome.TheVariants.Exact, lra_poly.declared.outcome.Outcome.TheVariants.Flagged}
use Rattle.lra_calc.specs.Crates.lra_linear_spec.declared.GenKind.TheVariants as gen
use Rattle.lra_script.specs.LineForms as form
use Rattle.lra_script.specs.{Views.constraint_of, Views.generator_view, Views.IsDivided, declared.rows.Constraint.Constraint, declared.rows.Generator.Generator}
use Rattle.lra_script.proofs.AllOf.{rest_at}
use Rattle.lra_calc.specs.{MadeSets.IsMadeOf, Views.is_flagged}
use Rattle.lra_calc.specs.Script as script

-- ---- widths
not_found : (b : Bool) (f : script.Fault) (o : Option script.Fault) → cond b o (Some f) ≡ None → (b ≡ true) × (o ≡ None)
not_found true f o e = (refl, e)
not_found false f o e = cc

same_width : (n needed : ℕ) → nat_eq n needed ≡ true → n ≡ needed
same_width n needed h = grind (arith, nat_tests)

pub all_wide : (n : ℕ) (rows : List Constraint) → script.wrong_row n (map constraint_of rows) ≡ None → All (λ c. length c.row ≡ suc n) rows
all_wide n [] e = All-nil (λ (c : Constraint). length c.row ≡ suc n)
all_wide n (c ∷ cs) e =
    let p = not_found (nat_eq (length c.row) (suc n)) (script.WrongDimension (length c.row) (suc n)) (script.wrong_row n (map constraint_of cs)) e in
    All-cons (λ (c : Constraint). length c.row ≡ suc n) c cs (same_width (length c.row) (suc n) p.0) (all_wide n cs p.1)

-- with as many numbers as the kind needs
abbrev pub IsWide : ℕ → Generator → Type 0
IsWide n g = length g.numbers ≡ script.numbers_needed n g.kind

pub all_generators_wide : (n : ℕ) (gs : List Generator) → script.wrong_generator n (map generator_view gs) ≡ None → All (IsWide n) gs
all_generators_wide n [] e = All-nil (IsWide n)
all_generators_wide n (g ∷ gs) e =
    let needed = script.numbers_needed n g.kind in
    let p = not_found (nat_eq (length g.numbers) needed) (script.WrongDimension (length g.numbers) needed) (script.wrong_generator n (map generator_view gs)) e in
    All-cons (IsWide n) g gs (same_width (length g.numbers) needed p.0) (all_generators_wide n gs p.1)

-- ---- systems
given_by-append : {K : Type 0} (equal : K → Bool) (rows : List (List ℤ)) (kinds : List K) (row : List ℤ) (kind : K) → length rows ≡ length kinds
    → rows_by_kind equal (rows ++ row ∷ []) (kinds ++ kind ∷ []) ≡ rows_by_kind equal rows kinds ++ record { row = row; equal = equal kind } ∷ []
given_by-append equal [] [] row kind e = refl
given_by-append equal [] (k ∷ ks) row kind e = cc
given_by-append equal (r ∷ rs) [] row kind e = cc
given_by-append equal (r ∷ rs) (k ∷ ks) row kind e = ap (λ (gs : List LinearRow). record { row = r; equal = equal k } ∷ gs) (given_by-append equal rs ks row kind (cc))

pub made_later : {K : Type 0} (equal : K → Bool) (s t : LinearSystem K) (row : List ℤ) (kind : K) (rest all : List LinearRow) → length s.rows ≡ length s.kinds → t.rows ≡ s.rows ++ row ∷ [] →
    t.kinds ≡ s.kinds ++ kind ∷ []
    → rows_by_kind equal s.rows s.kinds ++ record { row = row; equal = equal kind } ∷ rest ≡ all → rows_by_kind equal t.rows t.kinds ++ rest ≡ all
made_later equal s t row kind rest all same rows kinds before =
    let g : LinearRow = record { row = row; equal = equal kind } in
    let pushed : rows_by_kind equal t.rows t.kinds ≡ rows_by_kind equal s.rows s.kinds ++ g ∷ [] =
    ap (λ (rs : List (List ℤ)). rows_by_kind equal rs t.kinds) rows ∙ ap (rows_by_kind equal (s.rows ++ row ∷ [])) kinds ∙ given_by-append equal s.rows s.kinds row kind same in
    ap (λ (gs : List LinearRow). gs ++ rest) pushed ∙ append_assoc (rows_by_kind equal s.rows s.kinds) (g ∷ []) rest ∙ before

pub all_tail : {X : Type 0} (P : X → Type 0) (x : X) (xs : List X) → All P (x ∷ xs) → All P xs
all_tail P x xs a = λ k d h. a (suc k) d (omega arith)

-- ---- a generator's row
-- a row of n + 1 columns, with column 0 as its kind asks
pub row_fits : (n : ℕ) (kind : GenKind) (numbers row : List ℤ) → form.row_of_written kind numbers ≡ record { row = row; equal = is_line kind } → length numbers ≡ script.numbers_needed n kind →
    IsDivided kind numbers
    → (length row ≡ suc n) × FitsKind kind row
row_fits n gen.Point [] row e w d = cc
row_fits n gen.Point (z ∷ zs) row e w d =
    let same : (z ∷ zs) ≡ row = ap (λ (g : LinearRow). g.row) e in
    (ap (λ (r : List ℤ). length r) (sym same) ∙ w, subst (λ (r : List ℤ). FitsKind gen.Point r) same d)
row_fits n gen.Ray numbers row e w d =
    let same : (pos 0 ∷ numbers) ≡ row = ap (λ (g : LinearRow). g.row) e in
    (ap (λ (r : List ℤ). length r) (sym same) ∙ ap suc w, subst (λ (r : List ℤ). FitsKind gen.Ray r) same refl)
row_fits n gen.Line numbers row e w d =
    let same : (pos 0 ∷ numbers) ≡ row = ap (λ (g : LinearRow). g.row) e in
    (ap (λ (r : List ℤ). length r) (sym same) ∙ ap suc w, subst (λ (r : List ℤ). FitsKind gen.Line r) same refl)

fit-append : (rows : List (List ℤ)) (kinds : List GenKind) (row : List ℤ) (kind : GenKind) → length rows ≡ length kinds → FitKinds rows kinds → FitsKind kind row →
    FitKinds (rows ++ row ∷ []) (kinds ++ kind ∷ [])
fit-append [] [] row kind e fit f = (f, tt)
fit-append [] (k ∷ ks) row kind e fit f = cc
fit-append (r ∷ rs) [] row kind e fit f = cc
fit-append (r ∷ rs) (k ∷ ks) row kind e fit f = (fit.0, fit-append rs ks row kind (cc) fit.1 f)

pub fit_later : (s t : LinearSystem GenKind) (row : List ℤ) (kind : GenKind) → length s.rows ≡ length s.kinds → t.rows ≡ s.rows ++ row ∷ [] → t.kinds ≡ s.kinds ++ kind ∷ [] → FitKinds s.rows s.kinds →
    FitsKind kind row
    → FitKinds t.rows t.kinds
fit_later s t row kind same rows kinds fit f =
    subst (λ (ks : List GenKind). FitKinds t.rows ks) (sym kinds) (subst (λ (rs : List (List ℤ)). FitKinds rs (s.kinds ++ kind ∷ [])) (sym rows) (fit-append s.rows s.kinds row kind same fit f))

pub map_map : {A B C : Type 0} (f : B → C) (g : A → B) (xs : List A) → map (λ x. f (g x)) xs ≡ map f (map g xs)
map_map f g [] = refl
map_map {C = C} f g (x ∷ xs) = ap (λ (ys : List C). f (g x) ∷ ys) (map_map f g xs)

-- ---- elements of the lists that are gone through
wide_by : (n : ℕ) (x y : Constraint) → x ≡ y → length y.row ≡ suc n → length x.row ≡ suc n
wide_by n x y e h = ap (λ (c : Constraint). length c.row) e ∙ h

pub wide_here : (n : ℕ) (rows : List Constraint) (i : ℕ) (x : Constraint) → script.wrong_row n (map constraint_of rows) ≡ None → i < length rows → x ≡ get_or rows i x → length x.row ≡ suc n
wide_here n rows i x widths h e = wide_by n x (get_or rows i x) e (all_wide n rows widths i x h)

pub generator_fits : (n : ℕ) (gs : List Generator) (i : ℕ) (x : Generator) (row : List ℤ) → script.wrong_generator n (map generator_view gs) ≡ None → All (λ g. IsDivided g.kind g.numbers) gs →
    i < length gs →
    x ≡ get_or gs i x → form.row_of_generator (generator_view x) ≡ record { row = row; equal = is_line x.kind } → (length row ≡ suc n) × FitsKind x.kind row
generator_fits n gs i x row widths divided h e is =
    row_fits n x.kind x.numbers row is (subst (IsWide n) (sym e) (all_generators_wide n gs widths i x h)) (subst (λ (g : Generator). IsDivided g.kind g.numbers) (sym e) (divided i x h))

pub pushed_here : {K X : Type 0} (equal : K → Bool) (v : X → LinearRow) (s t : LinearSystem K) (row : List ℤ) (kind : K) (items : List X) (i : ℕ) (x : X) (all : List LinearRow) →
    length s.rows ≡ length s.kinds →
    t.rows ≡ s.rows ++ row ∷ [] → t.kinds ≡ s.kinds ++ kind ∷ [] → i < length items → x ≡ get_or items i x → v x ≡ record { row = row; equal = equal kind }
    → rows_by_kind equal s.rows s.kinds ++ map v (drop i items) ≡ all → rows_by_kind equal t.rows t.kinds ++ map v (drop (i + 1) items) ≡ all
pushed_here equal v s t row kind items i x all same rows kinds h e is before =
    made_later equal s t row kind (map v (drop (i + 1) items)) all same rows kinds
    (ap (λ (g : LinearRow). rows_by_kind equal s.rows s.kinds ++ g ∷ map v (drop (i + 1) items)) (sym is)
    ∙ ap (λ (gs : List LinearRow). rows_by_kind equal s.rows s.kinds ++ gs) (sym (rest_at v items i x x h e)) ∙ before)

-- ---- a polyhedron, flagged if something was lost
pub made_of : (n : ℕ) (P : PointSet) (Strains : Loss → Type 0) (p : Polyhedron) (outcome : Outcome) → IsRepresentable p → Becomes n P Strains p outcome →
    IsMadeOf n P Strains (is_flagged outcome) p
made_of n P Strains p Exact fine b = b.exact
made_of n P Strains p (Flagged loss) fine b = record { dimensions = b.dims; formed = fine; within = b.within; loss = loss; strains = b.flagged }

-- as the code states it
pub made_as_told : (n : ℕ) (P : PointSet) (Strains : Loss → Type 0) (p q : Polyhedron) (outcome : Outcome) (flagged : Bool) → q ≡ p → flagged ≡ is_flagged outcome → IsRepresentable p →
    Becomes n P Strains p outcome → IsMadeOf n P Strains flagged q
made_as_told n P Strains p q outcome flagged same tells fine b =
    subst (λ (x : Polyhedron). IsMadeOf n P Strains flagged x) (sym same)
    (subst (λ (b : Bool). IsMadeOf n P Strains b p) (sym tells) (made_of n P Strains p outcome fine b))
