-- The text of a polyhedron, by the texts of its lists of rows with their kinds; and the names of its variables.
use Rattle.std.proofs.Common.{◌≡◌, ◌<◌, ◌-◌, ◌+◌, ℕ, zero, suc, ℤ, pos, negsuc, Bool, false, List, [], ◌∷◌, ◌++◌, length, get_or, map, refl, ap, sym, ◌∙◌, subst, arith, append_assoc, nat_eq, ◌<ℤ◌}
use Rattle.std.proofs.lemmas.Int.{ints}
use Rattle.std.specs.{Fmt.decimal, List.flat_map, Prelude.codes}
use Rattle.lra_calc.specs.Crates.lra_systems.LinearSystems.{LinearSystem, rows_by_kind, constraints, generators, FitsKind, FitKinds}
use Rattle.lra_calc.specs.Crates.{lra_linear_spec.Descriptions.LinearRow, lra_linear_spec.Descriptions.line, lra_linear_spec.Kinds.is_equality, lra_linear_spec.Kinds.is_line}
use Rattle.lra_calc.specs.Crates.{lra_linear_spec.Polyhedra.Polyhedron, lra_linear_spec.Vectors.entry, lra_linear_spec.declared.ConKind.ConKind, lra_linear_spec.declared.GenKind.GenKind}
use Rattle.lra_calc.specs.Crates.lra_linear_spec.declared.ConKind.TheVariants as con
use Rattle.lra_calc.specs.Crates.lra_linear_spec.declared.GenKind.TheVariants as gen
use Rattle.lra_row_text.specs.ShownDescriptions.{generator_kind, shown_constraint, shown_generator}
use Rattle.lra_row_text.specs.Texts.{text_line, rows_text, generators_text, generator_text}
use Rattle.lra_row_text.specs.{Lines.generator_line, Lists.shown_rows, Lists.shown_generators, Part.ReportGenerator, Rows.ReportRow, Shown.report_row, Shown.report_generator}
use Rattle.lra_calc.specs.ShownSets.{variables_from, variables, empty_or, polyhedron_text, generator_at}

-- ---- lists
row_is : (r : List ℤ) (k : ConKind) → shown_constraint (record { row = r; equal = is_equality k }) ≡ report_row r k
row_is r con.Ge = refl
row_is r con.Eq = refl

rows_are : (rows : List (List ℤ)) (kinds : List ConKind) → map shown_constraint (rows_by_kind is_equality rows kinds) ≡ shown_rows rows kinds
rows_are [] kinds = refl
rows_are (r ∷ rows) [] = refl
rows_are (r ∷ rows) (k ∷ kinds) =
    ap (λ (x : ReportRow). x ∷ map shown_constraint (rows_by_kind is_equality rows kinds)) (row_is r k) ∙ ap (λ (xs : List ReportRow). report_row r k ∷ xs) (rows_are rows kinds)

point_at : (z : ℤ) → pos 0 <ℤ z → generator_kind false z ≡ gen.Point
point_at (pos zero) h = absurd (omega (arith, ints))
point_at (pos (suc n)) h = refl
point_at (negsuc n) h = absurd (omega (arith, ints, h))

kind_is : (r : List ℤ) (k : GenKind) → FitsKind k r → generator_kind (is_line k) (entry r 0) ≡ k
kind_is r gen.Point f = point_at (entry r 0) f
kind_is r gen.Ray f = ap (generator_kind false) f
kind_is r gen.Line f = refl

generators_are : (rows : List (List ℤ)) (kinds : List GenKind) → FitKinds rows kinds → map shown_generator (rows_by_kind is_line rows kinds) ≡ shown_generators rows kinds
generators_are [] kinds f = refl
generators_are (r ∷ rows) [] f = refl
generators_are (r ∷ rows) (k ∷ kinds) f =
    ap (λ (j : GenKind). report_generator r j ∷ map shown_generator (rows_by_kind is_line rows kinds)) (kind_is r k f.0) ∙
    ap (λ (xs : List ReportGenerator). report_generator r k ∷ xs) (generators_are rows kinds f.1)

-- ---- texts
pub no_point : (p : Polyhedron) (g : LinearSystem GenKind) → generators g ≡ p.generators → g.rows ≡ [] → polyhedron_text p ≡ text_line (codes "  empty")
no_point p g e none =
    let nothing : p.generators ≡ [] = sym e ∙ ap (λ (rs : List (List ℤ)). rows_by_kind is_line rs g.kinds) none in
    ap (λ (gs : List LinearRow). empty_or gs (generators_text (variables p.dims) (map shown_generator gs) (rows_text (variables p.dims) (map shown_constraint p.rows)))) nothing

some_point : (names : List (List ℕ)) (rows : List ℕ) (rs : List (List ℤ)) (ks : List GenKind) → 0 < length rs → length ks ≡ length rs → FitKinds rs ks
    → empty_or (rows_by_kind is_line rs ks) (generators_text names (map shown_generator (rows_by_kind is_line rs ks)) rows) ≡ rows ++ flat_map (generator_line names) (shown_generators rs ks)
some_point names rows [] ks h e f = absurd (omega arith)
some_point names rows (r ∷ rs) [] h e f = cc
some_point names rows (r ∷ rs) (k ∷ ks) h e f =
    ap (λ (xs : List ReportGenerator). rows ++ flat_map (generator_line names) xs) (generators_are (r ∷ rs) (k ∷ ks) f)

pub shown_whole : (p : Polyhedron) (c : LinearSystem ConKind) (g : LinearSystem GenKind) → constraints c ≡ p.rows → generators g ≡ p.generators → 0 < length g.rows → length g.kinds ≡ length g.rows →
    FitKinds g.rows g.kinds
    → polyhedron_text p ≡ rows_text (variables p.dims) (shown_rows c.rows c.kinds) ++ flat_map (generator_line (variables p.dims)) (shown_generators g.rows g.kinds)
shown_whole p c g rows gens some same fit =
    let names = variables p.dims in
    ap (λ (gs : List LinearRow). empty_or gs (generators_text names (map shown_generator gs) (rows_text names (map shown_constraint p.rows)))) (sym gens)
    ∙ some_point names (rows_text names (map shown_constraint p.rows)) g.rows g.kinds some same fit
    ∙ ap (λ (rs : List ReportRow). rows_text names rs ++ flat_map (generator_line names) (shown_generators g.rows g.kinds)) (ap (map shown_constraint) (sym rows) ∙ rows_are c.rows c.kinds)

pub some_rows : (b : Bool) (rs gs : List (List ℤ)) → b ≡ nat_eq (length rs) 0 → b ≡ false → rs ≡ gs → 0 < length gs
some_rows b [] gs e f same = let wrong : nat_eq 0 0 ≡ false = sym e ∙ f in cc
some_rows b (r ∷ rs) gs e f same = subst (λ (l : List (List ℤ)). 0 < length l) same (omega arith)

-- the rows are written after a text, then the generators
pub written : (p : Polyhedron) (c : LinearSystem ConKind) (g : LinearSystem GenKind) (rs : List (List ℤ)) (ks : List GenKind) (names : List (List ℕ)) (dims : ℕ) (old between new : List ℕ)
    → constraints c ≡ p.rows → generators g ≡ p.generators → FitKinds g.rows g.kinds → rs ≡ g.rows → ks ≡ g.kinds → length ks ≡ length g.rows → 0 < length g.rows → names ≡ variables dims →
    dims ≡ p.dims
    → between ≡ old ++ rows_text names (shown_rows c.rows c.kinds) → new ≡ between ++ flat_map (generator_line names) (shown_generators rs ks) → new ≡ old ++ polyhedron_text p
written p c g rs ks names dims old between new rows gens fit same_rows same_kinds same some named sized first last =
    let told = shown_whole p c g rows gens some (ap (λ (k : List GenKind). length k) (sym same_kinds) ∙ same) fit in
    let written_rows = rows_text names (shown_rows c.rows c.kinds) in
    last
    ∙ ap (λ (x : List (List ℤ)). between ++ flat_map (generator_line names) (shown_generators x ks)) same_rows
    ∙ ap (λ (x : List GenKind). between ++ flat_map (generator_line names) (shown_generators g.rows x)) same_kinds
    ∙ ap (λ (x : List ℕ). x ++ flat_map (generator_line names) (shown_generators g.rows g.kinds)) first
    ∙ append_assoc old written_rows (flat_map (generator_line names) (shown_generators g.rows g.kinds))
    ∙ ap (λ (ns : List (List ℕ)). old ++ (rows_text ns (shown_rows c.rows c.kinds) ++ flat_map (generator_line ns) (shown_generators g.rows g.kinds))) (named ∙ ap variables sized)
    ∙ ap (λ (x : List ℕ). old ++ x) (sym told)

-- ---- names
next_name : (first k : ℕ) (names more : List (List ℕ)) (name : List ℕ) (all : List (List ℕ)) → name ≡ codes "x" ++ decimal first → more ≡ names ++ name ∷ [] →
    names ++ variables_from first (suc k) ≡ all
    → more ++ variables_from (first + 1) k ≡ all
next_name first k names more name all is pushed before =
    ap (λ (ns : List (List ℕ)). ns ++ variables_from (first + 1) k) pushed ∙ append_assoc names (name ∷ []) (variables_from (first + 1) k)
    ∙ ap (λ (x : List ℕ). names ++ x ∷ variables_from (first + 1) k) is ∙ before

-- one name more: those so far, and those that are still to come
pub one_more : (n index : ℕ) (names more : List (List ℕ)) (name : List ℕ) (all : List (List ℕ)) → index < n → name ≡ codes "x" ++ decimal (index + 1) → more ≡ names ++ name ∷ []
    → names ++ variables_from (index + 1) (n - index) ≡ all → more ++ variables_from (index + 1 + 1) (n - (index + 1)) ≡ all
one_more n index names more name all h is pushed before =
    let left : n - index ≡ suc (n - (index + 1)) = omega arith in
    next_name (index + 1) (n - (index + 1)) names more name all is pushed (subst (λ (k : ℕ). names ++ variables_from (index + 1) k ≡ all) left before)

-- ---- a generator at a place
zip_rows : (rows : List (List ℤ)) (kinds : List GenKind) (i : ℕ) → i < length (rows_by_kind is_line rows kinds) → i < length rows
zip_rows [] kinds i h = absurd (omega arith)
zip_rows (x ∷ rows) [] i h = absurd (omega arith)
zip_rows (x ∷ rows) (y ∷ kinds) zero h = omega arith
zip_rows (x ∷ rows) (y ∷ kinds) (suc i) h = let k = zip_rows rows kinds i (omega arith) in omega arith

zip_kinds : (rows : List (List ℤ)) (kinds : List GenKind) (i : ℕ) → i < length (rows_by_kind is_line rows kinds) → i < length kinds
zip_kinds [] kinds i h = absurd (omega arith)
zip_kinds (x ∷ rows) [] i h = absurd (omega arith)
zip_kinds (x ∷ rows) (y ∷ kinds) zero h = omega arith
zip_kinds (x ∷ rows) (y ∷ kinds) (suc i) h = let k = zip_kinds rows kinds i (omega arith) in omega arith

zip_fits : (rows : List (List ℤ)) (kinds : List GenKind) (i : ℕ) (r : List ℤ) → i < length (rows_by_kind is_line rows kinds) → FitKinds rows kinds →
    FitsKind (get_or kinds i gen.Point) (get_or rows i r)
zip_fits [] kinds i r h f = absurd (omega arith)
zip_fits (x ∷ rows) [] i r h f = absurd (omega arith)
zip_fits (x ∷ rows) (y ∷ kinds) zero r h f = f.0
zip_fits (x ∷ rows) (y ∷ kinds) (suc i) r h f = zip_fits rows kinds i r (omega arith) f.1

zip_shown : (rows : List (List ℤ)) (kinds : List GenKind) (i : ℕ) (d : LinearRow) (r : List ℤ) → i < length (rows_by_kind is_line rows kinds) →
    FitKinds rows kinds
    → shown_generator (get_or (rows_by_kind is_line rows kinds) i d) ≡ report_generator (get_or rows i r) (get_or kinds i gen.Point)
zip_shown [] kinds i d r h f = absurd (omega arith)
zip_shown (x ∷ rows) [] i d r h f = absurd (omega arith)
zip_shown (x ∷ rows) (y ∷ kinds) zero d r h f = ap (λ (j : GenKind). report_generator x j) (kind_is x y f.0)
zip_shown (x ∷ rows) (y ∷ kinds) (suc i) d r h f = zip_shown rows kinds i d r (omega arith) f.1

count_as : (g : LinearSystem GenKind) (gs : List LinearRow) (i : ℕ) → generators g ≡ gs → i < length gs → i < length (rows_by_kind is_line g.rows g.kinds)
count_as g gs i e h = subst (λ (l : List LinearRow). i < length l) (sym e) h

pub row_there : (g : LinearSystem GenKind) (gs : List LinearRow) (rows : List (List ℤ)) (i : ℕ) → generators g ≡ gs → rows ≡ g.rows → i < length gs →
    i < length rows
row_there g gs rows i e same h = subst (λ (l : List (List ℤ)). i < length l) (sym same) (zip_rows g.rows g.kinds i (count_as g gs i e h))

pub kind_there : (g : LinearSystem GenKind) (gs : List LinearRow) (kinds : List GenKind) (i : ℕ) → generators g ≡ gs → kinds ≡ g.kinds → i < length gs →
    i < length kinds
kind_there g gs kinds i e same h = subst (λ (l : List GenKind). i < length l) (sym same) (zip_kinds g.rows g.kinds i (count_as g gs i e h))

pub fits_there : (g : LinearSystem GenKind) (gs : List LinearRow) (rows : List (List ℤ)) (kinds : List GenKind) (i : ℕ) (r : List ℤ) → generators g ≡ gs → rows ≡ g.rows → kinds ≡ g.kinds →
    FitKinds g.rows g.kinds →
    i < length gs → r ≡ get_or rows i r → FitsKind (get_or kinds i gen.Point) r
fits_there g gs rows kinds i r e same also f h is =
    subst (λ (x : List ℤ). FitsKind (get_or kinds i gen.Point) x) (sym (is ∙ ap (λ (l : List (List ℤ)). get_or l i r) same))
    (subst (λ (l : List GenKind). FitsKind (get_or l i gen.Point) (get_or g.rows i r)) (sym also) (zip_fits g.rows g.kinds i r (count_as g gs i e h) f))

-- the text of the generator, as the code states it
pub generator_told : (p : Polyhedron) (g : LinearSystem GenKind) (rows : List (List ℤ)) (kinds : List GenKind) (names : List (List ℕ)) (dims i : ℕ) (r : List ℤ) (text : List ℕ) →
    generators g ≡ p.generators →
    rows ≡ g.rows → kinds ≡ g.kinds → FitKinds g.rows g.kinds → i < length p.generators → r ≡ get_or rows i r → names ≡ variables dims → dims ≡ p.dims →
    text ≡ generator_text names (report_generator r (get_or kinds i gen.Point)) → text ≡ generator_at p i
generator_told p g rows kinds names dims i r text e same also f h is named sized told =
    told
    ∙ ap (λ (ns : List (List ℕ)). generator_text ns (report_generator r (get_or kinds i gen.Point))) (named ∙ ap variables sized)
    ∙ ap (λ (x : List ℤ). generator_text (variables p.dims) (report_generator x (get_or kinds i gen.Point))) (is ∙ ap (λ (l : List (List ℤ)). get_or l i r) same)
    ∙ ap (λ (l : List GenKind). generator_text (variables p.dims) (report_generator (get_or g.rows i r) (get_or l i gen.Point))) also
    ∙ ap (generator_text (variables p.dims)) (sym (zip_shown g.rows g.kinds i (line []) r (count_as g p.generators i e h) f))
    ∙ ap (λ (l : List LinearRow). generator_text (variables p.dims) (shown_generator (get_or l i (line [])))) e
