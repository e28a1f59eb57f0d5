-- One text, one report.
use Rattle.std.proofs.Common.{◌≡◌, ℕ, suc, ◌<◌, ◌^◌, nat_eq, Bool, false, List, [], ◌∷◌, ◌++◌, length, codes, refl, ap, sym, ◌∙◌, subst, arith, append_assoc, Option, Some, None}
use Rattle.std.proofs.{lemmas.Bool.eqb-false, lemmas.List.append_cancel_left}
use Rattle.std.specs.{Fmt.decimal, List.AllByRecursion, List.flat_map, Prelude.get_or}
use Rattle.lra_report.specs.Crates.lra_program.Sites.{Site, sites_of}
use Rattle.lra_report.specs.Crates.lra_syntax.Labels.{Labelled, labels_of, label_at, label_place}
use Rattle.lra_resolution_spec.specs.{LiveNames.live_names, LiveNames.globals_named, Resolve.resolve, ShownNames.shown_names}
use Rattle.lra_report.specs.Listing.{calls_on, listed_point, Subject, subjects, listed_verdict, AreListed, AreJudged}
use Rattle.lra_report.specs.ReportText.{place_text, path_text, heading_text, options_text, flag_text, state_text, point_text, verdict_text, counts_line, report_text}
use Rattle.lra_report.specs.Spelled.{IsReadablePart, IsReadablePoint, IsSmallFlag, AreWords, OneText}
use Rattle.lra_report.specs.{Report.PointReport, Report.Verdict, Report.Report, VerdictKinds.row_of, VerdictKinds.outcome_text}
use Rattle.lra_row_text.specs.Texts.{text_line}
use Rattle.lra_report.proofs.{Fronts.first_same, Fronts.rest_same, Fronts.both_same, GeneratorTexts.value_pieces}
use Rattle.lra_report.proofs.{NameTexts.are_shown, Numbers.IsShort, Numbers.decimal_same, Outcomes.outcome_same, StateTexts.letter, StateTexts.line_pieces, StateTexts.state_same}
use Rattle.lra_options.specs.declared.options.Options.{Options}

-- points -------------------------------------------------------------------------

points_letter : (ps : List PointReport) (u : List ℕ) → letter u ≡ 0 → letter (flat_map point_text ps ++ u) ≡ 0
points_letter [] u h = h
points_letter (p ∷ ps) u h = refl

points_same : (outside : List (List ℕ)) (ls : List Labelled) (number : ℕ) (sites : List Site) (ps qs : List PointReport) (u v : List ℕ) →
    AllByRecursion (λ s. AreWords (live_names outside ls s)) sites → AreListed outside ls number sites ps → AreListed outside ls number sites qs →
    AllByRecursion IsReadablePoint ps → AllByRecursion IsReadablePoint qs → letter u ≡ 0 → letter v ≡ 0 → flat_map point_text ps ++ u ≡ flat_map point_text qs ++ v → (ps ≡ qs) × (u ≡ v)
points_same outside ls number [] [] [] u v hw lp lq hp hq lu lv e = (refl, e)
points_same outside ls number [] [] (q ∷ qs) u v hw lp lq hp hq lu lv e = absurd lq
points_same outside ls number [] (p ∷ ps) qs u v hw lp lq hp hq lu lv e = absurd lp
points_same outside ls number (s ∷ sites) [] qs u v hw lp lq hp hq lu lv e = absurd lp
points_same outside ls number (s ∷ sites) (p ∷ ps) [] u v hw lp lq hp hq lu lv e = absurd lq
points_same outside ls number (s ∷ sites) (p ∷ ps) (q ∷ qs) u v hw lp lq hp hq lu lv e =
    let names = shown_names (live_names outside ls s) in
    let head = text_line (heading_text (codes "point") number (path_text (calls_on ls s.path)) (label_place (label_at ls s.label))) in
    let rest_p = flat_map point_text ps in
    let rest_q = flat_map point_text qs in
    let text_p : point_text p ≡ head ++ state_text names p.state = ap point_text lp.0 in
    let text_q : point_text q ≡ head ++ state_text names q.state = ap point_text lq.0 in
    let here : head ++ (state_text names p.state ++ (rest_p ++ u)) ≡ head ++ (state_text names q.state ++ (rest_q ++ v)) =
    sym (ap (λ t. (t ++ rest_p) ++ u) text_p ∙ value_pieces head (state_text names p.state) rest_p u) ∙ e ∙ ap (λ t. (t ++ rest_q) ++ v) text_q ∙
    value_pieces head (state_text names q.state) rest_q v in
    let names_p : p.names ≡ names = ap (λ (x : PointReport). x.names) lp.0 in
    let names_q : q.names ≡ names = ap (λ (x : PointReport). x.names) lq.0 in
    let first = state_same names p.state q.state (rest_p ++ u) (rest_q ++ v) (are_shown (live_names outside ls s) hw.0)
    (subst (λ ns. AllByRecursion (IsReadablePart (length ns)) p.state) names_p hp.0) (subst (λ ns. AllByRecursion (IsReadablePart (length ns)) q.state) names_q hq.0)
    (points_letter ps u lu) (points_letter qs v lv) (append_cancel_left head _ _ here) in
    let further = points_same outside ls (suc number) sites ps qs u v hw.1 lp.2 lq.2 hp.1 hq.1 lu lv first.1 in
    (both_same (lp.0 ∙ ap (listed_point outside ls number s) first.0 ∙ sym lq.0) further.0, further.1)

-- verdicts -----------------------------------------------------------------------

-- a text that begins with no blank is no line of a state
plain_letter : (w u : List ℕ) → nat_eq (get_or w 0 32) 32 ≡ false → letter (w ++ u) ≡ 0
plain_letter [] u h = cc
plain_letter (a ∷ []) [] h = refl
plain_letter (a ∷ []) (b ∷ []) h = refl
plain_letter (a ∷ []) (b ∷ (c ∷ u)) h = rw h refl
plain_letter (a ∷ (b ∷ [])) [] h = refl
plain_letter (a ∷ (b ∷ [])) (c ∷ u) h = rw h refl
plain_letter (a ∷ (b ∷ (c ∷ w))) u h = rw h refl

-- what comes after the word of a verdict
behind_word : (w a d p l o r u : List ℕ) → ((((((((((w ++ a) ++ d) ++ a) ++ p) ++ a) ++ l) ++ a) ++ o) ++ 10 ∷ []) ++ r) ++ u ≡ w ++
    (a ++ (d ++ (a ++ (p ++ (a ++ (l ++ (a ++ (o ++ (10 ∷ (r ++ u))))))))))
behind_word w a d p l o r u = simp append_assoc

verdict_letter : (v : Verdict) (r u : List ℕ) → letter ((verdict_text v ++ r) ++ u) ≡ 0
verdict_letter v r u =
    let word = (row_of v.kind).word in
    ap letter (behind_word word (codes " ") (decimal v.number) v.path (place_text v.place) (outcome_text v.kind v.holds) r u)
    ∙ plain_letter word _ (row_of v.kind).begins

counts_letter : (vs ws : List Verdict) → letter (flat_map verdict_text vs ++ counts_line ws) ≡ 0
counts_letter [] ws = refl
counts_letter (v ∷ vs) ws = verdict_letter v (flat_map verdict_text vs) (counts_line ws)

verdicts_same : (ls : List Labelled) (xs : List Subject) (vs ws : List Verdict) (u w : List ℕ) → AreJudged ls xs vs → AreJudged ls xs ws →
    flat_map verdict_text vs ++ u ≡ flat_map verdict_text ws ++ w → vs ≡ ws
verdicts_same ls [] [] [] u w lv lw e = refl
verdicts_same ls [] [] (x ∷ ws) u w lv lw e = absurd lw
verdicts_same ls [] (v ∷ vs) ws u w lv lw e = absurd lv
verdicts_same ls (a ∷ xs) [] ws u w lv lw e = absurd lv
verdicts_same ls (a ∷ xs) (v ∷ vs) [] u w lv lw e = absurd lw
verdicts_same ls (a ∷ xs) (v ∷ vs) (x ∷ ws) u w lv lw e =
    let head = heading_text (row_of a.kind).word a.number (path_text (calls_on ls a.site.path)) a.place ++ codes " " in
    let told : Bool → List ℕ = outcome_text a.kind in
    let text_v : verdict_text v ≡ text_line (head ++ told v.holds) = ap verdict_text lv.0 in
    let text_x : verdict_text x ≡ text_line (head ++ told x.holds) = ap verdict_text lw.0 in
    let rest_v = flat_map verdict_text vs in
    let rest_x = flat_map verdict_text ws in
    let here : head ++ (told v.holds ++ (10 ∷ (rest_v ++ u))) ≡ head ++ (told x.holds ++ (10 ∷ (rest_x ++ w))) =
    sym (ap (λ t. (t ++ rest_v) ++ u) text_v ∙ line_pieces head (told v.holds) rest_v u) ∙ e ∙ ap (λ t. (t ++ rest_x) ++ w) text_x
    ∙ line_pieces head (told x.holds) rest_x w in
    let first = outcome_same a.kind v.holds x.holds (rest_v ++ u) (rest_x ++ w) (append_cancel_left head _ _ here) in
    both_same (lv.0 ∙ ap (listed_verdict ls a) first.0 ∙ sym lw.0) (verdicts_same ls xs vs ws u w lv.1 lw.1 first.1)

-- the flag -----------------------------------------------------------------------

small_short : (n : ℕ) → n < 2 ^ 64 → IsShort n
small_short n h = omega (arith, h)

flag_pieces : (a d u : List ℕ) → ((a ++ d) ++ 10 ∷ []) ++ u ≡ a ++ (d ++ (10 ∷ u))
flag_pieces a d u = simp append_assoc

flag_same : (f g : Option ℕ) (u v : List ℕ) → IsSmallFlag f → IsSmallFlag g → flag_text f ++ u ≡ flag_text g ++ v → (f ≡ g) × (u ≡ v)
flag_same None None u v hf hg e = (refl, append_cancel_left (text_line (codes "flagged 0")) u v e)
flag_same (Some m) (Some n) u v hf hg e =
    let at = codes "flagged at point " in
    let s = decimal_same m n (10 ∷ u) (10 ∷ v) (small_short m hf) (small_short n hg) refl refl (append_cancel_left at _ _ (sym (flag_pieces at (decimal m) u) ∙ e ∙ flag_pieces at (decimal n) v)) in
    (ap Some s.0, rest_same s.1)
flag_same None (Some n) u v hf hg e =
    absurd (eqb-false 48 97 refl (first_same (append_cancel_left (codes "flagged ") (codes "0" ++ (10 ∷ u)) (codes "at point " ++ ((decimal n ++ 10 ∷ []) ++ v)) e)))
flag_same (Some m) None u v hf hg e =
    absurd (eqb-false 97 48 refl (first_same (append_cancel_left (codes "flagged ") (codes "at point " ++ ((decimal m ++ 10 ∷ []) ++ u)) (codes "0" ++ (10 ∷ v)) e)))

-- reports ------------------------------------------------------------------------

report_pieces : (r : Report) → report_text r ≡ options_text r.options ++ (flag_text r.flagged ++ (flat_map point_text r.points ++ (flat_map verdict_text r.verdicts ++ counts_line r.verdicts)))
report_pieces r = pieces (options_text r.options) (flag_text r.flagged) (flat_map point_text r.points) (flat_map verdict_text r.verdicts) (counts_line r.verdicts)
  where
    pieces : (a b c d e : List ℕ) → (((a ++ b) ++ c) ++ d) ++ e ≡ a ++ (b ++ (c ++ (d ++ e)))
    pieces a b c d e = simp append_assoc

pub report_by : (r s : Report) → r.options ≡ s.options → r.flagged ≡ s.flagged → r.points ≡ s.points → r.verdicts ≡ s.verdicts → r ≡ s
report_by r s o f p v =
    ap (λ x. record { options = x; flagged = r.flagged; points = r.points; verdicts = r.verdicts }) o
    ∙ ap (λ x. record { options = s.options; flagged = x; points = r.points; verdicts = r.verdicts }) f
    ∙ ap (λ x. record { options = s.options; flagged = s.flagged; points = x; verdicts = r.verdicts }) p
    ∙ ap (λ x. record { options = s.options; flagged = s.flagged; points = s.points; verdicts = x }) v

pub one_report : (r s : Report) → OneText r s
one_report r s t words listed_r listed_s options hr hs e =
    let tail : Report → List ℕ = λ x. flag_text x.flagged ++ (flat_map point_text x.points ++ (flat_map verdict_text x.verdicts ++ counts_line x.verdicts)) in
    let here : options_text s.options ++ tail r ≡ options_text s.options ++ tail s = ap (λ o. options_text o ++ tail r) (sym options) ∙ sym (report_pieces r) ∙ e ∙ report_pieces s in
    let flags = flag_same r.flagged s.flagged _ _ hr.flag hs.flag (append_cancel_left (options_text s.options) (tail r) (tail s) here) in
    let points = points_same (globals_named t.parts) (labels_of t) 1 (sites_of (resolve t)) r.points s.points _ _ words listed_r.points listed_s.points hr.points hs.points
    (counts_letter r.verdicts r.verdicts) (counts_letter s.verdicts s.verdicts) flags.1 in
    let g = listed_r.tree in
    let judged_s = subst (λ (o : Options). AreJudged (labels_of t) (subjects o g t) s.verdicts) (sym options) (listed_s.verdicts g listed_r.is_graph) in
    let verdicts = verdicts_same (labels_of t) (subjects r.options g t) r.verdicts s.verdicts _ _ (listed_r.verdicts g listed_r.is_graph) judged_s points.1 in
    report_by r s options flags.0 points.0 verdicts
