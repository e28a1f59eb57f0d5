-- Verdicts as they are listed, and what a report shows of values and verdicts.
use Rattle.std.proofs.Common.{◌≡◌, ◌∙◌, ◌<◌, ◌++◌, ℕ, suc, Bool, true, false, List, [], ◌∷◌, cond, map, refl, ap, ap₂, sym, subst, arith}
use Rattle.std.proofs.{lemmas.List.append-nil, lemmas.List.Elements.filter-append, lemmas.Option.slice_get-get_or, lemmas.Simd.map-map}
use Rattle.std.specs.{List.filter, List.flat_map, Prelude.Option, Prelude.Some, Prelude.option_map, Prelude.slice_get, Prelude.Contains, Prelude.◌&&◌}
use Rattle.lra_certify_source.specs.Crates.lra_report_build.AnalysisResults.{ReportedVerdict, reported_verdict, reported_from, reported_accesses, reported_of, reported_all}
use Rattle.lra_certify_source.specs.Crates.{lra_base.declared.refusals.Place.Place, lra_linear_spec.Descriptions.LinearRow, lra_linear_spec.Polyhedra.Polyhedron, lra_program.Assertions.IsAssertion}
use Rattle.lra_certify_source.specs.Crates.{lra_program.Sites.Site, lra_report_build.Polyhedra.part_if_any, lra_report_build.Polyhedra.shown_polyhedron, lra_row_text.Part.ReportGenerator}
use Rattle.lra_certify_source.specs.Crates.{lra_row_text.Rows.ReportRow, lra_row_text.ShownDescriptions.shown_constraint, lra_row_text.ShownDescriptions.shown_generator}
use Rattle.lra_certify_source.proofs.Crates.lra_linear_spec.Membership.{map_from, filter_from}
use Rattle.lra_report.specs.{Report.PointReport, Report.Verdict, Report.Report, declared.verdict_kinds.VerdictKind.TheVariants.Assertion}
use Rattle.lra_analyse_source.specs.Stages.{ReportsSolution}
use Rattle.lra_certify.specs.Certified.{AscendStrictly, AreListable}
use Rattle.lra_certify_source.specs.Assertions.{is_assertion, is_proved_assertion, proved_numbers}
use Rattle.lra_certify_source.specs.{Certified.rows_at, Certified.shown_state_rows, Certified.ReportShowsRows, Extraction.rows_if_any, Extraction.state_by, Extraction.proved_in}

-- ---- verdicts
abbrev InOrder : List (ℕ × Bool) → Type 0
InOrder vs = (i j : ℕ) (a b : ℕ × Bool) → i < j → slice_get vs i ≡ Some a → slice_get vs j ≡ Some b → a.0 < b.0

abbrev holds_there : ℕ × Bool → Bool
holds_there v = v.1

-- the proved ones among them
pub proved_there : (verdicts : List (ℕ × Bool)) (q : ℕ) → Contains (proved_in verdicts) q → Contains verdicts (q, true)
proved_there verdicts q k =
    let (v, among, number) = map_from (λ (v : ℕ × Bool). v.0) (filter holds_there verdicts) q k in
    let (there, holds) = filter_from holds_there verdicts v among in
    subst (λ (n : ℕ). Contains verdicts (n, true)) number (subst (λ (b : Bool). Contains verdicts (v.0, b)) holds there)

order_behind : (v : ℕ × Bool) (vs : List (ℕ × Bool)) → InOrder (v ∷ vs) → InOrder vs
order_behind v vs order = λ i j a b low first second. order (suc i) (suc j) a b (omega (arith, low)) first second

-- the first is below all others
least : (v : ℕ × Bool) (vs : List (ℕ × Bool)) → InOrder (v ∷ vs) → (w : ℕ × Bool) → Contains vs w → v.0 < w.0
least v vs order w (k, low, is) =
    order 0 (suc k) v w (omega arith) refl (slice_get-get_or vs k w low ∙ ap (λ (x : ℕ × Bool). Some x) is)

begins : (q : ℕ) (ps : List ℕ) → ((p : ℕ) → Contains ps p → q < p) → AscendStrictly ps → AscendStrictly (q ∷ ps)
begins q [] low ascend = tt
begins q (p ∷ ps) low ascend = (low p (0, omega arith, refl), ascend)

ascending : (vs : List (ℕ × Bool)) → InOrder vs → AscendStrictly (proved_in vs)
ascending [] order = tt
ascending (v ∷ vs) order = by v.1 refl (ascending vs (order_behind v vs order))
  where
    Kept : Bool → Type 0
    Kept b = AscendStrictly (map (λ (x : ℕ × Bool). x.0) (cond b (v ∷ filter holds_there vs) (filter holds_there vs)))

    by : (b : Bool) → v.1 ≡ b → AscendStrictly (proved_in vs) → Kept v.1
    by true e rest = subst Kept (sym e) (begins v.0 (proved_in vs) (λ p k. least v vs order (p, true) (proved_there vs p k)) rest)
    by false e rest = subst Kept (sym e) rest

-- they may be listed
pub listable : (sites : List Site) (verdicts : List (ℕ × Bool)) → InOrder verdicts → ((q : ℕ) (b : Bool) → Contains verdicts (q, b) → IsAssertion sites q)
    → AreListable sites (proved_in verdicts)
listable sites verdicts order asserts =
    record { ascend = ascending verdicts order; assert = λ q k. asserts q true (proved_there verdicts q k) }

-- ---- what a report shows
-- of the values
shown_one : (gs rows : List LinearRow) (generators : List ReportGenerator)
    → rows_at (part_if_any gs (record { rows = map shown_constraint rows; generators = generators })) ≡ option_map (map shown_constraint) (rows_if_any gs rows)
shown_one [] rows generators = refl
shown_one (g ∷ gs) rows generators = refl

shown_all : (values : List Polyhedron) → map rows_at (map shown_polyhedron values) ≡ map shown_state_rows (map state_by values)
shown_all [] = refl
shown_all (p ∷ ps) = ap₂ (λ (x : Option (List ReportRow)) (xs : List (Option (List ReportRow))). x ∷ xs) (shown_one p.generators p.rows (map shown_generator p.generators)) (shown_all ps)

-- of the verdicts
abbrev asserted_so : ReportedVerdict → Bool
asserted_so v = is_assertion v.0 && v.3

abbrev numbers_in : List ReportedVerdict → List ℕ
numbers_in vs = map (λ (v : ReportedVerdict). v.1) (filter asserted_so vs)

-- one more of them, if it is one of these
one_more : (b : Bool) (n : ℕ) (v : ReportedVerdict) (vs : List ReportedVerdict) (ns : List ℕ) → v.1 ≡ n → map (λ (x : ReportedVerdict). x.1) vs ≡ ns
    → map (λ (x : ReportedVerdict). x.1) (cond b (v ∷ vs) vs) ≡ cond b (n ∷ ns) ns
one_more true n v vs ns same e = ap₂ (λ (k : ℕ) (l : List ℕ). k ∷ l) same e
one_more false n v vs ns same e = e

split_map : {A : Type 0} (f : A → ℕ) (b : Bool) (x : A) (xs : List A) → map f (cond b (x ∷ xs) xs) ≡ cond b (f x ∷ map f xs) (map f xs)
split_map f true x xs = refl
split_map f false x xs = refl

numbers_told : (vs : List Verdict) → numbers_in (map reported_of vs) ≡ proved_numbers vs
numbers_told [] = refl
numbers_told (v ∷ vs) =
    one_more (is_proved_assertion v) v.number (reported_of v) (filter asserted_so (map reported_of vs)) (proved_numbers vs) refl (numbers_told vs)
    ∙ sym (split_map (λ (x : Verdict). x.number) (is_proved_assertion v) v (filter is_proved_assertion vs))

numbers_proved : (vs : List (ℕ × Bool)) → numbers_in (map (reported_verdict Assertion) vs) ≡ map suc (proved_in vs)
numbers_proved [] = refl
numbers_proved (v ∷ vs) =
    one_more v.1 (suc v.0) (reported_verdict Assertion v) (filter asserted_so (map (reported_verdict Assertion) vs)) (map suc (proved_in vs)) refl
    (numbers_proved vs)
    ∙ sym (map_split v.1 v (filter holds_there vs))
  where
    map_split : (b : Bool) (x : ℕ × Bool) (xs : List (ℕ × Bool))
        → map suc (map (λ (y : ℕ × Bool). y.0) (cond b (x ∷ xs) xs))
        ≡ cond b (suc x.0 ∷ map suc (map (λ (y : ℕ × Bool). y.0) xs)) (map suc (map (λ (y : ℕ × Bool). y.0) xs))
    map_split true x xs = refl
    map_split false x xs = refl

-- accesses are no assertions
told_none : (number n : ℕ) (js : List (Place × Bool)) → filter asserted_so (reported_from number n js) ≡ []
told_none number n [] = refl
told_none number n (j ∷ js) = told_none number (suc n) js

accesses_none : (inside : List (ℕ × List (Place × Bool))) → filter asserted_so (flat_map reported_accesses inside) ≡ []
accesses_none [] = refl
accesses_none (v ∷ vs) =
    filter-append asserted_so (reported_accesses v) (flat_map reported_accesses vs)
    ∙ ap₂ (λ (xs ys : List ReportedVerdict). xs ++ ys) (told_none (suc v.0) 0 v.1) (accesses_none vs)

numbers_all : (verdicts : List (ℕ × Bool)) (inside : List (ℕ × List (Place × Bool))) →
    numbers_in (reported_all verdicts [] inside) ≡ map suc (proved_in verdicts)
numbers_all verdicts inside =
    ap (map (λ (v : ReportedVerdict). v.1)) (filter-append asserted_so (map (reported_verdict Assertion) verdicts) (flat_map reported_accesses inside)
    ∙ ap (λ (l : List ReportedVerdict). filter asserted_so (map (reported_verdict Assertion) verdicts) ++ l) (accesses_none inside)
    ∙ append-nil (filter asserted_so (map (reported_verdict Assertion) verdicts)))
    ∙ numbers_proved verdicts

pub shows_rows : (values : List Polyhedron) (verdicts : List (ℕ × Bool)) (r : Report) → ReportsSolution shown_polyhedron false values verdicts r
    → ReportShowsRows r (map state_by values) (proved_in verdicts)
shows_rows values verdicts r tells = record {
  rows_are = sym (map-map rows_at (λ (p : PointReport). p.state) r.points) ∙ ap (map rows_at) tells.states ∙ shown_all values;
  proved_are = sym (numbers_told r.verdicts)
      ∙ ap numbers_in (tells.told ∙ ap (λ (f : List (ℕ × Bool)). reported_all verdicts f tells.inside) (tells.silent refl))
      ∙ numbers_all verdicts tells.inside;
}
