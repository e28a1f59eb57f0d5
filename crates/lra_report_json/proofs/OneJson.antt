-- One JSON text, one report.
use Rattle.std.proofs.Common.{◌≡◌, ℕ, suc, ◌<◌, ◌^◌, Bool, true, false, List, [], ◌∷◌, ◌++◌, length, map, codes, if◌then◌else◌, refl, ap, sym, ◌∙◌, subst, arith, append_assoc, Option, Some, None}
use Rattle.std.proofs.{Common.decimal, Common.◌||◌, lemmas.Bool.eqb-false, lemmas.List.append_cancel_left, lemmas.Slice.Eq.bytes_eq-Decides}
use Rattle.std.specs.{List.AllByRecursion, List.list_any, Prelude.fold, Str.bytes_eq}
use Rattle.json.specs.Print.{quoted}
use Rattle.serde_json.specs.{Data.Members, Data.string, Data.object, Data.member, Data.no_members, Data.put, View.items_of, Written.compact_text, Written.items_text, Written.members_text}
use Rattle.lra_options.specs.declared.options.Domain.TheVariants.{Poly, Box, Oct}
use Rattle.lra_options.specs.{declared.options.Domain.Domain, declared.options.Options.Options}
use Rattle.lra_report_json.specs.Crates.{lra_program.Sites.Site, lra_program.Sites.sites_of, lra_resolution_spec.LiveNames.live_names, lra_resolution_spec.LiveNames.globals_named}
use Rattle.lra_report_json.specs.Crates.{lra_resolution_spec.Resolve.resolve, lra_resolution_spec.ShownNames.shown_names, lra_syntax.Faults.Language, lra_syntax.Grammar.Spells}
use Rattle.lra_report_json.specs.Crates.{lra_syntax.Labels.Labelled, lra_syntax.Labels.labels_of, lra_syntax.Texts.Pieces, lra_syntax.Trees.FileTree}
use Rattle.lra_row_text.specs.{Part.ReportGenerator, Part.Part, Rows.ReportRow, Texts.row_text, Texts.generator_text}
use Rattle.lra_report.specs.Listing.{listed_point, Subject, subjects, listed_verdict, Lists, AreListed, AreJudged, AreParts, IsFlag}
use Rattle.lra_report.specs.Spelled.{IsSpelledRow, IsSpelledGenerator, IsReadablePart, IsReadablePoint, IsSmallFlag, AreWords}
use Rattle.lra_report.specs.VerdictKinds.{row_of, kinds, among_kinds, outcome_text}
use Rattle.lra_report.specs.{Parts.ShowsPart, Report.Invariant, Report.PointReport, Report.Verdict, Report.Report, ReportText.place_text, declared.verdict_kinds.VerdictKind.VerdictKind}
use Rattle.lra_report.proofs.{Fronts.AreShownNames, Fronts.first_same, Fronts.rest_same, Fronts.both_same, GeneratorTexts.generator_same, LiveWords.accepted_words, NameTexts.are_shown}
use Rattle.lra_report.proofs.{Numbers.IsShort, Numbers.decimal_same, OneText.report_by, Outcomes.outcome_told, RowTexts.row_same}
use Rattle.lra_report_json.specs.ReportJson.{list_of, options_data, is_under, under, with_verdicts, fixed_members, outcome_members, verdict_data, rows_data, generators_data, part_data, point_data}
use Rattle.lra_report_json.specs.{OneJson.OneSourceJson, ReportJson.flag_data, ReportJson.report_json}
use Rattle.lra_report_json.proofs.Members.{Apart, Alike, same_apart, numbers_apart, text_at, put_alike, object_same, put_there, put_elsewhere}
use Rattle.lra_report_json.proofs.{JsonPieces.quoted_same, JsonPieces.member_same, JsonPieces.list_same, Keyed.on, Keyed.judged_under, Keyed.listed_alike, Keyed.none_under, Keyed.told_by_keys}

all_both : {A : Type 0} (P Q : A → Type 0) (xs : List A) → AllByRecursion P xs → AllByRecursion Q xs → AllByRecursion (λ x. P x × Q x) xs
all_both P Q [] p q = tt
all_both P Q (x ∷ xs) p q = ((p.0, q.0), all_both P Q xs p.1 q.1)

-- parts --------------------------------------------------------------------------

abbrev GoodRow : ℕ → ReportRow → Type 0
GoodRow n r = (length r.coefficients ≡ n) × IsSpelledRow r

abbrev GoodGenerator : ℕ → ReportGenerator → Type 0
GoodGenerator n g = (length g.numbers ≡ n) × IsSpelledGenerator g

string_opens : (s u v : List ℕ) → compact_text (string s) ++ u ≡ 93 ∷ v → ⊥
string_opens s u v e = eqb-false 34 93 refl (first_same e)

row_told : (ns : List (List ℕ)) → AreShownNames ns → (r s : ReportRow) (u v : List ℕ) → GoodRow (length ns) r → GoodRow (length ns) s →
    compact_text (string (row_text ns r)) ++ u ≡ compact_text (string (row_text ns s)) ++ v → (r ≡ s) × (u ≡ v)
row_told ns hn r s u v gr gs e =
    let q = quoted_same (row_text ns r) (row_text ns s) u v e in
    ((row_same ns r s [] [] hn gr.0 gs.0 gr.1 gs.1 tt tt (ap (λ t. t ++ []) q.0)).0, q.1)

generator_told : (ns : List (List ℕ)) → AreShownNames ns → (g h : ReportGenerator) (u v : List ℕ) → GoodGenerator (length ns) g → GoodGenerator (length ns) h →
    compact_text (string (generator_text ns g)) ++ u ≡ compact_text (string (generator_text ns h)) ++ v → (g ≡ h) × (u ≡ v)
generator_told ns hn g h u v gg gh e =
    let q = quoted_same (generator_text ns g) (generator_text ns h) u v e in
    ((generator_same ns g h [] [] gg.0 gh.0 gg.1 gh.1 (ap (λ t. t ++ 10 ∷ []) q.0)).0, q.1)

rows_told : (ns : List (List ℕ)) → AreShownNames ns → (rs ss : List ReportRow) (u v : List ℕ) → AllByRecursion (GoodRow (length ns)) rs → AllByRecursion (GoodRow (length ns)) ss →
    compact_text (rows_data ns rs) ++ u ≡ compact_text (rows_data ns ss) ++ v → (rs ≡ ss) × (u ≡ v)
rows_told ns hn rs ss u v gr gs e = list_same (λ r. string (row_text ns r)) (GoodRow (length ns)) (row_told ns hn) (λ r. string_opens (row_text ns r)) rs ss u v gr gs e

generators_told : (ns : List (List ℕ)) → AreShownNames ns → (gs hs : List ReportGenerator) (u v : List ℕ) → AllByRecursion (GoodGenerator (length ns)) gs →
    AllByRecursion (GoodGenerator (length ns)) hs →
    compact_text (generators_data ns gs) ++ u ≡ compact_text (generators_data ns hs) ++ v → (gs ≡ hs) × (u ≡ v)
generators_told ns hn gs hs u v gg gh e = list_same (λ g. string (generator_text ns g)) (GoodGenerator (length ns)) (generator_told ns hn) (λ g. string_opens (generator_text ns g)) gs hs u v gg gh e

abbrev GoodPart : Domain → ℕ → Part → Type 0
GoodPart domain n part = IsReadablePart n part × ShowsPart domain n part

good_rows : (n : ℕ) (p : Part) → IsReadablePart n p → AllByRecursion (GoodRow n) p.rows
good_rows n p h = all_both (λ (r : ReportRow). length r.coefficients ≡ n) IsSpelledRow p.rows h.0.0 h.1.rows

good_generators : (n : ℕ) (p : Part) → IsReadablePart n p → AllByRecursion (GoodGenerator n) p.generators
good_generators n p h = all_both (λ (g : ReportGenerator). length g.numbers ≡ n) IsSpelledGenerator p.generators h.0.1 h.1.generators

part_by : (p q : Part) → p.rows ≡ q.rows → p.generators ≡ q.generators → p ≡ q
part_by p q r g = ap (λ x. record { rows = x; generators = p.generators }) r ∙ ap (λ x. record { rows = q.rows; generators = x }) g

-- of boxes and octagons
rows_alone_told : (ns : List (List ℕ)) → AreShownNames ns → (p q : Part) (u v : List ℕ) → IsReadablePart (length ns) p → IsReadablePart (length ns) q → p.generators ≡ [] → q.generators ≡ [] →
    compact_text (part_data Box ns p) ++ u ≡ compact_text (part_data Box ns q) ++ v → (p ≡ q) × (u ≡ v)
rows_alone_told ns hn p q u v gp gq np nq e =
    let end : List ℕ = 125 ∷ [] in
    let rows = rows_told ns hn p.rows q.rows (end ++ u) (end ++ v) (good_rows _ p gp) (good_rows _ q gq)
    (member_same (codes "rows") (compact_text (rows_data ns p.rows)) end (compact_text (rows_data ns q.rows)) end u v (rest_same e)) in
    (part_by p q rows.0 (np ∙ sym nq), rest_same rows.1)

part_told : (domain : Domain) (ns : List (List ℕ)) → AreShownNames ns → (p q : Part) (u v : List ℕ) → GoodPart domain (length ns) p → GoodPart domain (length ns) q →
    compact_text (part_data domain ns p) ++ u ≡ compact_text (part_data domain ns q) ++ v → (p ≡ q) × (u ≡ v)
part_told Box ns hn p q u v gp gq e = rows_alone_told ns hn p q u v gp.0 gq.0 gp.1 gq.1 e
part_told Oct ns hn p q u v gp gq e = rows_alone_told ns hn p q u v gp.0 gq.0 gp.1 gq.1 e
part_told Poly ns hn p q u v gp gq e =
    let end : List ℕ = 125 ∷ [] in
    let rows_p = members_text true (member (codes "rows") (rows_data ns p.rows) no_members) in
    let rows_q = members_text true (member (codes "rows") (rows_data ns q.rows) no_members) in
    let generators = generators_told ns hn p.generators q.generators (rows_p ++ u) (rows_q ++ v) (good_generators _ p gp.0) (good_generators _ q gq.0)
    (member_same (codes "generators") (compact_text (generators_data ns p.generators)) rows_p (compact_text (generators_data ns q.generators)) rows_q u v (rest_same e)) in
    let rows = rows_told ns hn p.rows q.rows (end ++ u) (end ++ v) (good_rows _ p gp.0) (good_rows _ q gq.0)
    (member_same (codes "rows") (compact_text (rows_data ns p.rows)) end (compact_text (rows_data ns q.rows)) end u v (rest_same generators.1)) in
    (part_by p q rows.0 generators.0, rest_same rows.1)

part_opens : (domain : Domain) (ns : List (List ℕ)) (p : Part) (u v : List ℕ) → compact_text (part_data domain ns p) ++ u ≡ 93 ∷ v → ⊥
part_opens Poly ns p u v e = eqb-false 123 93 refl (first_same e)
part_opens Box ns p u v e = eqb-false 123 93 refl (first_same e)
part_opens Oct ns p u v e = eqb-false 123 93 refl (first_same e)

-- points -------------------------------------------------------------------------

abbrev GoodInvariant : Domain → ℕ → Invariant → Type 0
GoodInvariant domain n state = AllByRecursion (GoodPart domain n) state

abbrev GoodPoint : Domain → PointReport → Type 0
GoodPoint domain p = GoodInvariant domain (length p.names) p.state

good_points : (o : Options) (ps : List PointReport) → AllByRecursion (AreParts o) ps → AllByRecursion IsReadablePoint ps → AllByRecursion (GoodPoint o.domain) ps
good_points o [] parts readable = tt
good_points o (p ∷ ps) parts readable =
    (all_both (IsReadablePart (length p.names)) (ShowsPart o.domain (length p.names)) p.state readable.0 parts.0.tell, good_points o ps parts.1 readable.1)

-- what comes after the parts of a point
abbrev after_parts : PointReport → Members
after_parts p = member (codes "path") (string p.path) (member (codes "place") (string (place_text p.place)) no_members)

state_told : (domain : Domain) (outside : List (List ℕ)) (ls : List Labelled) (number : ℕ) (site : Site) (s t : Invariant) (u v : List ℕ) → AreWords (live_names outside ls site) →
    GoodInvariant domain (length (shown_names (live_names outside ls site))) s → GoodInvariant domain (length (shown_names (live_names outside ls site))) t →
    compact_text (point_data domain (listed_point outside ls number site s)) ++ u ≡ compact_text (point_data domain (listed_point outside ls number site t)) ++ v → (s ≡ t) × (u ≡ v)
state_told domain outside ls number site s t u v hw gs gt e =
    let names = shown_names (live_names outside ls site) in
    let behind = members_text true (after_parts (listed_point outside ls number site s)) in
    let parts_s = compact_text (list_of (part_data domain names) s) in
    let parts_t = compact_text (list_of (part_data domain names) t) in
    let more_s = members_text true (member (codes "parts") (list_of (part_data domain names) s) (after_parts (listed_point outside ls number site s))) in
    let more_t = members_text true (member (codes "parts") (list_of (part_data domain names) t) (after_parts (listed_point outside ls number site t))) in
    let numbered = append_cancel_left (decimal number) (more_s ++ u) (more_t ++ v) (member_same (codes "number") (decimal number) more_s (decimal number) more_t u v (rest_same e)) in
    let told = list_same (part_data domain names) (GoodPart domain (length names)) (part_told domain names (are_shown (live_names outside ls site) hw)) (part_opens domain names) s t
    (behind ++ u) (behind ++ v) gs gt (member_same (codes "parts") parts_s behind parts_t behind u v (rest_same numbered)) in
    (told.0, append_cancel_left behind u v told.1)

-- the next item of a list of points or of verdicts
next_item : (later : Bool) (x y a b u v : List ℕ) → ((if later then 44 ∷ [] else []) ++ (x ++ a)) ++ u ≡ ((if later then 44 ∷ [] else []) ++ (y ++ b)) ++ v → x ++ (a ++ u) ≡ y ++ (b ++ v)
next_item true x y a b u v e = sym (append_assoc x a u) ∙ rest_same e ∙ append_assoc y b v
next_item false x y a b u v e = sym (append_assoc x a u) ∙ e ∙ append_assoc y b v

points_same : (domain : Domain) (outside : List (List ℕ)) (ls : List Labelled) (later : Bool) (number : ℕ) (sites : List Site) (ps qs : List PointReport) (u v : List ℕ) →
    AllByRecursion (λ s. AreWords (live_names outside ls s)) sites → AreListed outside ls number sites ps → AreListed outside ls number sites qs →
    AllByRecursion (GoodPoint domain) ps → AllByRecursion (GoodPoint domain) qs →
    items_text later (items_of (map (point_data domain) ps)) ++ u ≡ items_text later (items_of (map (point_data domain) qs)) ++ v → (ps ≡ qs) × (u ≡ v)
points_same domain outside ls later number [] [] [] u v hw lp lq gp gq e = (refl, rest_same e)
points_same domain outside ls later number [] [] (q ∷ qs) u v hw lp lq gp gq e = absurd lq
points_same domain outside ls later number [] (p ∷ ps) qs u v hw lp lq gp gq e = absurd lp
points_same domain outside ls later number (s ∷ sites) [] qs u v hw lp lq gp gq e = absurd lp
points_same domain outside ls later number (s ∷ sites) (p ∷ ps) [] u v hw lp lq gp gq e = absurd lq
points_same domain outside ls later number (s ∷ sites) (p ∷ ps) (q ∷ qs) u v hw lp lq gp gq e =
    let listed = listed_point outside ls number s in
    let text = λ (x : PointReport). compact_text (point_data domain x) in
    let more_p = items_text true (items_of (map (point_data domain) ps)) in
    let more_q = items_text true (items_of (map (point_data domain) qs)) in
    let here : text (listed p.state) ++ (more_p ++ u) ≡ text (listed q.state) ++ (more_q ++ v) =
    ap (λ x. text x ++ (more_p ++ u)) (sym lp.0) ∙ next_item later (text p) (text q) more_p more_q u v e ∙ ap (λ x. text x ++ (more_q ++ v)) lq.0 in
    let good_p = subst (λ (x : PointReport). GoodInvariant domain (length x.names) p.state) lp.0 gp.0 in
    let good_q = subst (λ (x : PointReport). GoodInvariant domain (length x.names) q.state) lq.0 gq.0 in
    let first = state_told domain outside ls number s p.state q.state (more_p ++ u) (more_q ++ v) hw.0 good_p good_q here in
    let further = points_same domain outside ls true (suc number) sites ps qs u v hw.1 lp.2 lq.2 gp.1 gq.1 first.1 in
    (both_same (lp.0 ∙ ap listed first.0 ∙ sym lq.0) further.0, further.1)

-- verdicts -----------------------------------------------------------------------

outcome_members_told : (ls : List Labelled) (x : Subject) (b c : Bool) (u v : List ℕ) →
    members_text false (outcome_members (listed_verdict ls x b)) ++ u ≡ members_text false (outcome_members (listed_verdict ls x c)) ++ v → (b ≡ c) × (u ≡ v)
outcome_members_told ls x b c u v e =
    let end : List ℕ = 125 ∷ [] in
    let told : Bool → List ℕ = outcome_text x.kind in
    let more = λ (y : Bool). members_text true (member (codes "verdict") (string (told y)) no_members) in
    let numbered = append_cancel_left (decimal x.number) (more b ++ u) (more c ++ v)
    (member_same (codes "point") (decimal x.number) (more b) (decimal x.number) (more c) u v e) in
    let word = quoted_same (told b) (told c) (end ++ u) (end ++ v) (member_same (codes "verdict") (quoted (told b)) end (quoted (told c)) end u v (rest_same numbered)) in
    (outcome_told x.kind b c word.0, rest_same word.1)

verdict_told : (ls : List Labelled) (x : Subject) (b c : Bool) (u v : List ℕ) →
    compact_text (verdict_data (listed_verdict ls x b)) ++ u ≡ compact_text (verdict_data (listed_verdict ls x c)) ++ v → (b ≡ c) × (u ≡ v)
verdict_told ls x b c u v e = go (row_of x.kind).own_place e
  where
    at : List ℕ
    at = place_text x.place

    members : Bool → Bool → Members
    members own y = if own then member (codes "place") (string at) (outcome_members (listed_verdict ls x y)) else outcome_members (listed_verdict ls x y)

    go : (own : Bool) → compact_text (object (members own b)) ++ u ≡ compact_text (object (members own c)) ++ v → (b ≡ c) × (u ≡ v)
    go false f = outcome_members_told ls x b c u v (rest_same f)
    go true f =
        let more = λ (y : Bool). members_text true (outcome_members (listed_verdict ls x y)) in
        outcome_members_told ls x b c u v (rest_same (append_cancel_left (quoted at) (more b ++ u) (more c ++ v)
        (member_same (codes "place") (quoted at) (more b) (quoted at) (more c) u v (rest_same f))))

verdicts_same : (ls : List Labelled) (later : Bool) (xs : List Subject) (vs ws : List Verdict) (u w : List ℕ) → AreJudged ls xs vs → AreJudged ls xs ws →
    items_text later (items_of (map verdict_data vs)) ++ u ≡ items_text later (items_of (map verdict_data ws)) ++ w → (vs ≡ ws) × (u ≡ w)
verdicts_same ls later [] [] [] u w lv lw e = (refl, rest_same e)
verdicts_same ls later [] [] (x ∷ ws) u w lv lw e = absurd lw
verdicts_same ls later [] (v ∷ vs) ws u w lv lw e = absurd lv
verdicts_same ls later (a ∷ xs) [] ws u w lv lw e = absurd lv
verdicts_same ls later (a ∷ xs) (v ∷ vs) [] u w lv lw e = absurd lw
verdicts_same ls later (a ∷ xs) (v ∷ vs) (x ∷ ws) u w lv lw e =
    let listed = listed_verdict ls a in
    let text = λ (y : Verdict). compact_text (verdict_data y) in
    let more_v = items_text true (items_of (map verdict_data vs)) in
    let more_x = items_text true (items_of (map verdict_data ws)) in
    let here : text (listed v.holds) ++ (more_v ++ u) ≡ text (listed x.holds) ++ (more_x ++ w) =
    ap (λ y. text y ++ (more_v ++ u)) (sym lv.0) ∙ next_item later (text v) (text x) more_v more_x u w e ∙ ap (λ y. text y ++ (more_x ++ w)) lw.0 in
    let first = verdict_told ls a v.holds x.holds (more_v ++ u) (more_x ++ w) here in
    let further = verdicts_same ls true xs vs ws u w lv.1 lw.1 first.1 in
    (both_same (lv.0 ∙ ap listed first.0 ∙ sym lw.0) further.0, further.1)

-- reports ------------------------------------------------------------------------

flags_apart : (f g : Option ℕ) → Apart (flag_data f) (flag_data g)
flags_apart None None = numbers_apart 0 0
flags_apart None (Some n) = numbers_apart 0 n
flags_apart (Some m) None = numbers_apart m 0
flags_apart (Some m) (Some n) = numbers_apart m n

small_short : (n : ℕ) → n < 2 ^ 64 → IsShort n
small_short n h = omega (arith, h)

zero_short : IsShort 0
zero_short = omega arith

one_number : (m n : ℕ) → IsShort m → IsShort n → decimal m ≡ decimal n → m ≡ n
one_number m n hm hn e = (decimal_same m n [] [] hm hn tt tt (ap (λ (t : List ℕ). t ++ []) e)).0

flag_same : (k l : ℕ) (f g : Option ℕ) → IsSmallFlag f → IsSmallFlag g → IsFlag k f → IsFlag l g
    → compact_text (flag_data f) ≡ compact_text (flag_data g) → f ≡ g
flag_same k l None None hf hg pf pg e = refl
flag_same k l (Some m) (Some n) hf hg pf pg e = ap Some (one_number m n (small_short m hf) (small_short n hg) e)
flag_same k l None (Some n) hf hg pf pg e = let same = one_number 0 n zero_short (small_short n hg) e in absurd (omega (arith, same, pg.0))
flag_same k l (Some m) None hf hg pf pg e = let same = one_number m 0 (small_short m hf) zero_short e in absurd (omega (arith, same, pf.0))

abbrev report_under : Options → Report → Report
report_under o r = record { options = o; flagged = r.flagged; points = r.points; verdicts = r.verdicts }

-- the members of a report under these options
abbrev members_of : Options → Report → Members
members_of o r = fold (with_verdicts (report_under o r)) (fixed_members (report_under o r)) kinds

abbrev HasKey : List ℕ → Bool → List VerdictKind → Type 0
HasKey key b ks = list_any (λ (k : VerdictKind). bytes_eq key (row_of k).key) ks ≡ b

-- a verdict that is listed stands under its kind's key
module _ (o : Options) (r : Report) (key : List ℕ) where
  -- a kind of another key
  past : (ms : Members) (kind : VerdictKind) → bytes_eq key (row_of kind).key ≡ false → text_at key (with_verdicts (report_under o r) ms kind) ≡ text_at key ms
  past ms kind other = go ((row_of kind).stands o (list_any (is_under (row_of kind).key) r.verdicts))
    where
      go : (b : Bool) → text_at key (if b then put (row_of kind).key (list_of verdict_data (under (row_of kind).key r.verdicts)) ms else ms) ≡ text_at key ms
      go true = put_elsewhere key (row_of kind).key (list_of verdict_data (under (row_of kind).key r.verdicts)) ms other
      go false = refl

  -- none has this key
  kept : (ks : List VerdictKind) (ms : Members) → HasKey key false ks → text_at key (fold (with_verdicts (report_under o r)) ms ks) ≡ text_at key ms
  kept [] ms none = refl
  kept (kind ∷ ks) ms none = go (bytes_eq key (row_of kind).key) refl none (λ e. kept ks (with_verdicts (report_under o r) ms kind) e)
    where
      go : (b : Bool) → bytes_eq key (row_of kind).key ≡ b → (b || list_any (λ (k : VerdictKind). bytes_eq key (row_of k).key) ks) ≡ false
          → (HasKey key false ks → text_at key (fold (with_verdicts (report_under o r)) (with_verdicts (report_under o r) ms kind) ks)
          ≡ text_at key (with_verdicts (report_under o r) ms kind))
          → text_at key (fold (with_verdicts (report_under o r)) (with_verdicts (report_under o r) ms kind) ks) ≡ text_at key ms
      go true is e later = cc
      go false is e later = later e ∙ past ms kind is

  module _ (some : list_any (is_under key) r.verdicts ≡ true) where
    -- a kind of this key
    met : (ms : Members) (kind : VerdictKind) → bytes_eq key (row_of kind).key ≡ true
        → text_at key (with_verdicts (report_under o r) ms kind) ≡ compact_text (list_of verdict_data (under key r.verdicts))
    met ms kind is =
        let same : key ≡ (row_of kind).key = (bytes_eq-Decides key (row_of kind).key).0 is in
        let listed : list_any (is_under (row_of kind).key) r.verdicts ≡ true = subst (λ (k : List ℕ). list_any (is_under k) r.verdicts ≡ true) same some in
        let stands : (row_of kind).stands o (list_any (is_under (row_of kind).key) r.verdicts) ≡ true =
        ap ((row_of kind).stands o) listed ∙ (row_of kind).tells o in
        ap (λ (b : Bool). text_at key (if b then put (row_of kind).key (list_of verdict_data (under (row_of kind).key r.verdicts)) ms else ms)) stands
        ∙ ap (λ (k : List ℕ). text_at key (put k (list_of verdict_data (under k r.verdicts)) ms)) (sym same)
        ∙ put_there key (list_of verdict_data (under key r.verdicts)) ms

    stays : (ks : List VerdictKind) (ms : Members) → text_at key ms ≡ compact_text (list_of verdict_data (under key r.verdicts))
        → text_at key (fold (with_verdicts (report_under o r)) ms ks) ≡ compact_text (list_of verdict_data (under key r.verdicts))
    stays [] ms there = there
    stays (kind ∷ ks) ms there = stays ks (with_verdicts (report_under o r) ms kind) (go (bytes_eq key (row_of kind).key) refl)
      where
        go : (b : Bool) → bytes_eq key (row_of kind).key ≡ b
            → text_at key (with_verdicts (report_under o r) ms kind) ≡ compact_text (list_of verdict_data (under key r.verdicts))
        go true is = met ms kind is
        go false is = past ms kind is ∙ there

    comes : (ks : List VerdictKind) (ms : Members) → HasKey key true ks
        → text_at key (fold (with_verdicts (report_under o r)) ms ks) ≡ compact_text (list_of verdict_data (under key r.verdicts))
    comes [] ms has = cc
    comes (kind ∷ ks) ms has = go (bytes_eq key (row_of kind).key) refl has (λ e. comes ks (with_verdicts (report_under o r) ms kind) e)
      where
        go : (b : Bool) → bytes_eq key (row_of kind).key ≡ b → (b || list_any (λ (k : VerdictKind). bytes_eq key (row_of k).key) ks) ≡ true
            → (HasKey key true ks → text_at key (fold (with_verdicts (report_under o r)) (with_verdicts (report_under o r) ms kind) ks)
            ≡ compact_text (list_of verdict_data (under key r.verdicts)))
            → text_at key (fold (with_verdicts (report_under o r)) (with_verdicts (report_under o r) ms kind) ks)
            ≡ compact_text (list_of verdict_data (under key r.verdicts))
        go true is e later = stays ks (with_verdicts (report_under o r) ms kind) (met ms kind is)
        go false is e later = later e

-- two reports that list the same points and judge the same
module _ (t : FileTree) (o : Options) (r s : Report)
    (words : AllByRecursion (λ x. AreWords (live_names (globals_named t.parts) (labels_of t) x)) (sites_of (resolve t))) (lr : Lists t r) (ls : Lists t s)
    (gr : AllByRecursion (GoodPoint o.domain) r.points) (gs : AllByRecursion (GoodPoint o.domain) s.points) (same_options : r.options ≡ s.options) where
  -- what is judged, by the tree of the first
  abbrev what : List Subject
  what = subjects r.options lr.tree t

  first_judged : AreJudged (labels_of t) what r.verdicts
  first_judged = lr.verdicts lr.tree lr.is_graph

  second_judged : AreJudged (labels_of t) what s.verdicts
  second_judged = subst (λ (x : Options). AreJudged (labels_of t) (subjects x lr.tree t) s.verdicts) (sym same_options) (ls.verdicts lr.tree lr.is_graph)

  points_told : (u v : List ℕ) → compact_text (list_of (point_data o.domain) r.points) ++ u ≡ compact_text (list_of (point_data o.domain) s.points) ++ v
      → (r.points ≡ s.points) × (u ≡ v)
  points_told u v e =
      points_same o.domain (globals_named t.parts) (labels_of t) false 1 (sites_of (resolve t)) r.points s.points u v words lr.points ls.points gr gs (rest_same e)

  points_apart : Apart (list_of (point_data o.domain) r.points) (list_of (point_data o.domain) s.points)
  points_apart u v cu cv e = let told = points_told u v e in (ap (λ (ps : List PointReport). compact_text (list_of (point_data o.domain) ps)) told.0, told.1)

  judged_told : (key u v : List ℕ)
      → compact_text (list_of verdict_data (under key r.verdicts)) ++ u ≡ compact_text (list_of verdict_data (under key s.verdicts)) ++ v
      → (under key r.verdicts ≡ under key s.verdicts) × (u ≡ v)
  judged_told key u v e =
      verdicts_same (labels_of t) false (on key what) (under key r.verdicts) (under key s.verdicts) u v
      (judged_under (labels_of t) key what r.verdicts first_judged) (judged_under (labels_of t) key what s.verdicts second_judged) (rest_same e)

  judged_apart : (key : List ℕ) → Apart (list_of verdict_data (under key r.verdicts)) (list_of verdict_data (under key s.verdicts))
  judged_apart key u v cu cv e = let told = judged_told key u v e in (ap (λ (vs : List Verdict). compact_text (list_of verdict_data vs)) told.0, told.1)

  one_alike : (ms ns : Members) (kind : VerdictKind) → Alike ms ns → Alike (with_verdicts (report_under o r) ms kind) (with_verdicts (report_under o s) ns kind)
  one_alike ms ns kind alike =
      let key = (row_of kind).key in
      let same : list_any (is_under key) r.verdicts ≡ list_any (is_under key) s.verdicts =
      listed_alike (labels_of t) key what r.verdicts s.verdicts first_judged second_judged in
      let other = λ (b : Bool). if (row_of kind).stands o b then put key (list_of verdict_data (under key s.verdicts)) ns else ns in
      subst (λ (b : Bool). Alike (with_verdicts (report_under o r) ms kind) (other b)) same (go ((row_of kind).stands o (list_any (is_under key) r.verdicts)))
    where
      go : (b : Bool) → Alike (if b then put (row_of kind).key (list_of verdict_data (under (row_of kind).key r.verdicts)) ms else ms)
          (if b then put (row_of kind).key (list_of verdict_data (under (row_of kind).key s.verdicts)) ns else ns)
      go true = put_alike (row_of kind).key _ _ (judged_apart (row_of kind).key) ms ns alike
      go false = alike

  all_alike : (ks : List VerdictKind) (ms ns : Members) → Alike ms ns
      → Alike (fold (with_verdicts (report_under o r)) ms ks) (fold (with_verdicts (report_under o s)) ns ks)
  all_alike [] ms ns alike = alike
  all_alike (kind ∷ ks) ms ns alike = all_alike ks _ _ (one_alike ms ns kind alike)

  fixed_alike : Alike (fixed_members (report_under o r)) (fixed_members (report_under o s))
  fixed_alike = (
    refl,
    same_apart (options_data o),
    (refl, flags_apart r.flagged s.flagged, (refl, points_apart, (refl, numbers_apart _ _, (refl, numbers_apart _ _, tt)))),
  )

  told_at : report_json (report_under o r) ≡ report_json (report_under o s) → (key : List ℕ) → text_at key (members_of o r) ≡ text_at key (members_of o s)
  told_at e =
      object_same (members_of o r) (members_of o s) (10 ∷ []) (10 ∷ []) (all_alike kinds (fixed_members (report_under o r)) (fixed_members (report_under o s)) fixed_alike)
      (rest_same e)

  -- at a key of no kind
  fixed_at : report_json (report_under o r) ≡ report_json (report_under o s) → (key : List ℕ) → HasKey key false kinds
      → text_at key (fixed_members (report_under o r)) ≡ text_at key (fixed_members (report_under o s))
  fixed_at e key none =
      sym (kept o r key kinds (fixed_members (report_under o r)) none) ∙ told_at e key ∙ kept o s key kinds (fixed_members (report_under o s)) none

  verdicts_at : report_json (report_under o r) ≡ report_json (report_under o s) → (key : List ℕ) → HasKey key true kinds
      → under key r.verdicts ≡ under key s.verdicts
  verdicts_at e key has = go (list_any (is_under key) r.verdicts) refl
    where
      same : list_any (is_under key) s.verdicts ≡ list_any (is_under key) r.verdicts
      same = listed_alike (labels_of t) key what s.verdicts r.verdicts second_judged first_judged

      go : (b : Bool) → list_any (is_under key) r.verdicts ≡ b → under key r.verdicts ≡ under key s.verdicts
      go false none = none_under key r.verdicts none ∙ sym (none_under key s.verdicts (same ∙ none))
      go true some =
          let text = sym (comes o r key some kinds (fixed_members (report_under o r)) has) ∙ told_at e key
          ∙ comes o s key (same ∙ some) kinds (fixed_members (report_under o s)) has in
          (judged_told key [] [] (ap (λ (t : List ℕ). t ++ []) text)).0

  one_json_of : (k l : ℕ) → IsSmallFlag r.flagged → IsSmallFlag s.flagged → IsFlag k r.flagged → IsFlag l s.flagged
      → report_json (report_under o r) ≡ report_json (report_under o s)
      → (r.flagged ≡ s.flagged) × (r.points ≡ s.points) × (r.verdicts ≡ s.verdicts)
  one_json_of k l small_r small_s flag_r flag_s e =
      let flag = flag_same k l r.flagged s.flagged small_r small_s flag_r flag_s (fixed_at e (codes "flagged") refl) in
      let points = (points_told [] [] (ap (λ (text : List ℕ). text ++ []) (fixed_at e (codes "points") refl))).0 in
      let verdicts = told_by_keys (labels_of t) what r.verdicts s.verdicts first_judged second_judged
      (λ kind. verdicts_at e (row_of kind).key (among_kinds kind)) in
      (flag, points, verdicts)

-- of a language whose texts are texts of the grammar
pub one_source_json : (L : Language) → ((t : FileTree) (z : Pieces) → L t z → Spells t z) → (r s : Report) → OneSourceJson L r s
one_source_json L spelled r s o source one a b readable_r readable_s e =
    let listed_s = subst (λ t. Lists t s) (one b.tree a.tree b.accepted a.accepted) b.lists in
    let here : report_json (report_under o r) ≡ report_json (report_under o s) =
    ap (λ x. report_json (report_under x r)) (sym a.options) ∙ e ∙ ap (λ x. report_json (report_under x s)) b.options in
    let same = one_json_of a.tree o r s (accepted_words L spelled source a.tree a.accepted) a.lists listed_s (good_points o r.points a.parts readable_r.points)
    (good_points o s.points b.parts readable_s.points) (a.options ∙ sym b.options) (length r.points) (length s.points) readable_r.flag readable_s.flag a.flag
    b.flag here in
    report_by r s (a.options ∙ sym b.options) same.0 same.1 same.2
