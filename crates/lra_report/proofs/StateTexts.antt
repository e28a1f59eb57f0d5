-- One text, one state.
use Rattle.std.proofs.Common.{◌≡◌, ◌≢◌, ℕ, nat_eq, false, List, [], ◌∷◌, ◌++◌, length, codes, if◌then◌else◌, refl, ap, sym, ◌∙◌, arith, append_assoc, append-nil}
use Rattle.std.proofs.{lemmas.Bool.eqb-false, lemmas.List.append_cancel_left}
use Rattle.std.specs.List.{AllByRecursion, flat_map}
use Rattle.lra_row_text.specs.Texts.{text_line, row_text, generator_text, rows_text, generators_text, part_text}
use Rattle.lra_row_text.specs.{Lines.row_line, Lines.generator_line, Part.ReportGenerator, Part.Part, Rows.ReportRow}
use Rattle.lra_report.specs.{Report.Invariant, ReportText.further_parts_text, ReportText.state_text, Spelled.IsSpelledRow, Spelled.IsSpelledGenerator, Spelled.IsReadablePart}
use Rattle.lra_report.proofs.{Fronts.AreShownNames, Fronts.rest_same, Fronts.both_same, GeneratorTexts.generator_same, RowTexts.row_same, RowTexts.row_not_true}
use Rattle.lra_report.proofs.GeneratorTexts.{value_pieces}

-- the first letter of a line of a state, after its two blanks; 0 elsewhere
abbrev pub letter : List ℕ → ℕ
letter [] = 0
letter (a ∷ []) = 0
letter (a ∷ (b ∷ [])) = 0
letter (a ∷ (b ∷ (c ∷ w))) = if nat_eq a 32 then c else 0

abbrev Names : Type 0
Names = List (List ℕ)

pub line_pieces : (a t r u : List ℕ) → (((a ++ t) ++ 10 ∷ []) ++ r) ++ u ≡ a ++ (t ++ (10 ∷ (r ++ u)))
line_pieces a t r u = simp append_assoc

abbrev AllWide : ℕ → List ReportRow → Type 0
AllWide n rs = AllByRecursion (λ (r : ReportRow). length r.coefficients ≡ n) rs

abbrev AllLong : ℕ → List ReportGenerator → Type 0
AllLong n gs = AllByRecursion (λ (g : ReportGenerator). length g.numbers ≡ n) gs

-- rows ---------------------------------------------------------------------------

rows_same : (ns : Names) (rs ss : List ReportRow) (u v : List ℕ) → AreShownNames ns → AllWide (length ns) rs → AllWide (length ns) ss → AllByRecursion IsSpelledRow rs →
    AllByRecursion IsSpelledRow ss →
    letter u ≢ 114 → letter v ≢ 114 → flat_map (row_line ns) rs ++ u ≡ flat_map (row_line ns) ss ++ v → (rs ≡ ss) × (u ≡ v)
rows_same ns [] [] u v hn wr ws hr hs lu lv e = (refl, e)
rows_same ns [] (s ∷ ss) u v hn wr ws hr hs lu lv e = absurd (lu (ap letter e))
rows_same ns (r ∷ rs) [] u v hn wr ws hr hs lu lv e = absurd (lv (ap letter (sym e)))
rows_same ns (r ∷ rs) (s ∷ ss) u v hn wr ws hr hs lu lv e =
    let here = append_cancel_left (codes "  row ") _ _ (sym (line_pieces (codes "  row ") (row_text ns r) (flat_map (row_line ns) rs) u) ∙ e ∙
    line_pieces (codes "  row ") (row_text ns s) (flat_map (row_line ns) ss) v) in
    let first = row_same ns r s (10 ∷ (flat_map (row_line ns) rs ++ u)) (10 ∷ (flat_map (row_line ns) ss ++ v)) hn wr.0 ws.0 hr.0 hs.0 refl refl here in
    let further = rows_same ns rs ss u v hn wr.1 ws.1 hr.1 hs.1 lu lv (rest_same first.1) in
    (both_same first.0 further.0, further.1)

not_true : (ns : Names) (r : ReportRow) (t u v : List ℕ) → AreShownNames ns → IsSpelledRow r → text_line (codes "  row true") ++ u ≡ (row_line ns r ++ t) ++ v →
    ⊥
not_true ns r t u v hn hr e = row_not_true ns r (10 ∷ (t ++ v)) u hn hr (sym (append_cancel_left (codes "  row ") (codes "true" ++ (10 ∷ u)) _ (e ∙ line_pieces (codes "  row ") (row_text ns r) t v)))

rows_text_same : (ns : Names) (rs ss : List ReportRow) (u v : List ℕ) → AreShownNames ns → AllWide (length ns) rs → AllWide (length ns) ss → AllByRecursion IsSpelledRow rs →
    AllByRecursion IsSpelledRow ss →
    letter u ≢ 114 → letter v ≢ 114 → rows_text ns rs ++ u ≡ rows_text ns ss ++ v → (rs ≡ ss) × (u ≡ v)
rows_text_same ns [] [] u v hn wr ws hr hs lu lv e = (refl, append_cancel_left (text_line (codes "  row true")) u v e)
rows_text_same ns [] (s ∷ ss) u v hn wr ws hr hs lu lv e = absurd (not_true ns s (flat_map (row_line ns) ss) u v hn hs.0 e)
rows_text_same ns (r ∷ rs) [] u v hn wr ws hr hs lu lv e = absurd (not_true ns r (flat_map (row_line ns) rs) v u hn hr.0 (sym e))
rows_text_same ns (r ∷ rs) (s ∷ ss) u v hn wr ws hr hs lu lv e = rows_same ns (r ∷ rs) (s ∷ ss) u v hn wr ws hr hs lu lv e

-- generators ---------------------------------------------------------------------

generators_same : (ns : Names) (gs hs : List ReportGenerator) (u v : List ℕ) → AllLong (length ns) gs → AllLong (length ns) hs → AllByRecursion IsSpelledGenerator gs →
    AllByRecursion IsSpelledGenerator hs →
    letter u ≢ 103 → letter v ≢ 103 → flat_map (generator_line ns) gs ++ u ≡ flat_map (generator_line ns) hs ++ v → (gs ≡ hs) × (u ≡ v)
generators_same ns [] [] u v wg wh sg sh lu lv e = (refl, e)
generators_same ns [] (h ∷ hs) u v wg wh sg sh lu lv e = absurd (lu (ap letter e))
generators_same ns (g ∷ gs) [] u v wg wh sg sh lu lv e = absurd (lv (ap letter (sym e)))
generators_same ns (g ∷ gs) (h ∷ hs) u v wg wh sg sh lu lv e =
    let here = append_cancel_left (codes "  gen ") _ _ (sym (line_pieces (codes "  gen ") (generator_text ns g) (flat_map (generator_line ns) gs) u) ∙ e ∙
    line_pieces (codes "  gen ") (generator_text ns h) (flat_map (generator_line ns) hs) v) in
    let first = generator_same ns g h (flat_map (generator_line ns) gs ++ u) (flat_map (generator_line ns) hs ++ v) wg.0 wh.0 sg.0 sh.0 here in
    let further = generators_same ns gs hs u v wg.1 wh.1 sg.1 sh.1 lu lv first.1 in
    (both_same first.0 further.0, further.1)

generators_are : (ns : Names) (gs : List ReportGenerator) (rows : List ℕ) → generators_text ns gs rows ≡ rows ++ flat_map (generator_line ns) gs
generators_are ns [] rows = sym (append-nil rows)
generators_are ns (g ∷ gs) rows = refl

-- parts --------------------------------------------------------------------------

-- neither a row nor a generator follows
record IsPast (u : List ℕ) : Type 0 where
  no_row : letter u ≢ 114
  no_generator : letter u ≢ 103

no_row_there : (ns : Names) (gs : List ReportGenerator) (u : List ℕ) → IsPast u → letter (flat_map (generator_line ns) gs ++ u) ≢ 114
no_row_there ns [] u h = h.no_row
no_row_there ns (g ∷ gs) u h = λ (e : (let n : ℕ = 103 in n) ≡ 114). omega (arith, e)

part_by : (rs ss : List ReportRow) (gs hs : List ReportGenerator) → rs ≡ ss → gs ≡ hs → (let x : Part = record { rows = rs; generators = gs } in x) ≡ record { rows = ss; generators = hs }
part_by rs ss gs hs p q = ap (λ x. record { rows = x; generators = gs }) p ∙ ap (λ x. record { rows = ss; generators = x }) q

part_pieces : (ns : Names) (p : Part) (u : List ℕ) → part_text ns p ++ u ≡ rows_text ns p.rows ++ (flat_map (generator_line ns) p.generators ++ u)
part_pieces ns p u = ap (λ t. t ++ u) (generators_are ns p.generators (rows_text ns p.rows)) ∙ append_assoc (rows_text ns p.rows) (flat_map (generator_line ns) p.generators) u

part_same : (ns : Names) (p q : Part) (u v : List ℕ) → AreShownNames ns → IsReadablePart (length ns) p → IsReadablePart (length ns) q → IsPast u → IsPast v →
    part_text ns p ++ u ≡ part_text ns q ++ v → (p ≡ q) × (u ≡ v)
part_same ns p q u v hn hp hq hu hv e =
    let rows = rows_text_same ns p.rows q.rows (flat_map (generator_line ns) p.generators ++ u) (flat_map (generator_line ns) q.generators ++ v) hn hp.0.0 hq.0.0 hp.1.rows hq.1.rows
    (no_row_there ns p.generators u hu) (no_row_there ns q.generators v hv) (sym (part_pieces ns p u) ∙ e ∙ part_pieces ns q v) in
    let generators = generators_same ns p.generators q.generators u v hp.0.1 hq.0.1 hp.1.generators hq.1.generators hu.no_generator hv.no_generator rows.1 in
    (part_by p.rows q.rows p.generators q.generators rows.0 generators.0, generators.1)

-- states -------------------------------------------------------------------------

no_letters : (a b : ℕ) → nat_eq a b ≡ false → a ≡ b → ⊥
no_letters a b h e = eqb-false a b h e

past_end : (u : List ℕ) → letter u ≡ 0 → IsPast u
past_end u h = record { no_row = λ e. no_letters 0 114 refl (sym h ∙ e); no_generator = λ e. no_letters 0 103 refl (sym h ∙ e) }

past_or : (t : List ℕ) → IsPast (text_line (codes "  or") ++ t)
past_or t = record { no_row = no_letters 111 114 refl; no_generator = no_letters 111 103 refl }

past_further : (ns : Names) (ps : List Part) (u : List ℕ) → letter u ≡ 0 → IsPast (further_parts_text ns ps ++ u)
past_further ns [] u h = past_end u h
past_further ns (p ∷ ps) u h = record { no_row = no_letters 111 114 refl; no_generator = no_letters 111 103 refl }

further_same : (ns : Names) (ps qs : List Part) (u v : List ℕ) → AreShownNames ns → AllByRecursion (IsReadablePart (length ns)) ps → AllByRecursion (IsReadablePart (length ns)) qs → letter u ≡ 0 →
    letter v ≡ 0 →
    further_parts_text ns ps ++ u ≡ further_parts_text ns qs ++ v → (ps ≡ qs) × (u ≡ v)
further_same ns [] [] u v hn hp hq lu lv e = (refl, e)
further_same ns [] (q ∷ qs) u v hn hp hq lu lv e = absurd (no_letters 0 111 refl (sym lu ∙ ap letter e))
further_same ns (p ∷ ps) [] u v hn hp hq lu lv e = absurd (no_letters 0 111 refl (sym lv ∙ ap letter (sym e)))
further_same ns (p ∷ ps) (q ∷ qs) u v hn hp hq lu lv e =
    let or = text_line (codes "  or") in
    let here = append_cancel_left or _ _ (sym (value_pieces or (part_text ns p) (further_parts_text ns ps) u) ∙ e ∙ value_pieces or (part_text ns q) (further_parts_text ns qs) v) in
    let first = part_same ns p q (further_parts_text ns ps ++ u) (further_parts_text ns qs ++ v) hn hp.0 hq.0 (past_further ns ps u lu) (past_further ns qs v lv) here in
    let further = further_same ns ps qs u v hn hp.1 hq.1 lu lv first.1 in
    (both_same first.0 further.0, further.1)

rows_letter : (ns : Names) (rs : List ReportRow) (gs : List ReportGenerator) (t : List ℕ) → letter (generators_text ns gs (rows_text ns rs) ++ t) ≡ 114
rows_letter ns [] [] t = refl
rows_letter ns [] (g ∷ gs) t = refl
rows_letter ns (r ∷ rs) [] t = refl
rows_letter ns (r ∷ rs) (g ∷ gs) t = refl

reached : (ns : Names) (p : Part) (t u v : List ℕ) → text_line (codes "  unreachable") ++ u ≡ (part_text ns p ++ t) ++ v → ⊥
reached ns p t u v e = no_letters 117 114 refl (ap letter (e ∙ append_assoc (part_text ns p) t v) ∙ rows_letter ns p.rows p.generators (t ++ v))

pub state_same : (ns : Names) (s t : Invariant) (u v : List ℕ) → AreShownNames ns → AllByRecursion (IsReadablePart (length ns)) s → AllByRecursion (IsReadablePart (length ns)) t → letter u ≡ 0 →
    letter v ≡ 0 →
    state_text ns s ++ u ≡ state_text ns t ++ v → (s ≡ t) × (u ≡ v)
state_same ns [] [] u v hn hp hq lu lv e = (refl, append_cancel_left (text_line (codes "  unreachable")) u v e)
state_same ns [] (q ∷ qs) u v hn hp hq lu lv e = absurd (reached ns q (further_parts_text ns qs) u v e)
state_same ns (p ∷ ps) [] u v hn hp hq lu lv e = absurd (reached ns p (further_parts_text ns ps) v u (sym e))
state_same ns (p ∷ ps) (q ∷ qs) u v hn hp hq lu lv e =
    let first = part_same ns p q (further_parts_text ns ps ++ u) (further_parts_text ns qs ++ v) hn hp.0 hq.0 (past_further ns ps u lu) (past_further ns qs v lv)
    (sym (append_assoc (part_text ns p) (further_parts_text ns ps) u) ∙ e ∙ append_assoc (part_text ns q) (further_parts_text ns qs) v) in
    let further = further_same ns ps qs u v hn hp.1 hq.1 lu lv first.1 in
    (both_same first.0 further.0, further.1)
