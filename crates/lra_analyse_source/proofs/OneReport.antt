-- Two answers to one source without a flag are the same report.
use Rattle.std.proofs.Common.{◌≡◌, ◌∙◌, ◌++◌, ℕ, zero, suc, ℤ, List, [], ◌∷◌, map, Option, None, Some, Bool, true, false, arith, refl, sym, ap, subst, inl, inr}
use Rattle.std.proofs.{lemmas.List.Elements.Contains-append_cases, lemmas.Option.none-some, lemmas.Option.same_Some}
use Rattle.std.specs.{List.Contains, List.flat_map, Prelude.◌⊎◌, Prelude.option_map, Prelude.slice_get}
use Rattle.lra_analyse_source.proofs.Crates.lra_analysis_spec.OneAccess.{one_asked_inside}
use Rattle.lra_analyse_source.proofs.Crates.lra_linear_spec.Membership.{contains_head, contains_tail, contains_none}
use Rattle.lra_analyse_source.proofs.Crates.{lra_analysis_spec.OneIteration.defined_single, lra_analysis_spec.OneJudgement.one_asked, lra_analysis_spec.OneTree.one_tree, lra_report.OneText.report_by}
use Rattle.lra_analyse_source.specs.Crates.lra_operations.CheckedOperations.{OpAtPoint, AgreesOnOps, AgreesOnOverflows, AgreesOnAccesses, accessing_ops, ops_where}
use Rattle.lra_analyse_source.specs.Crates.lra_report.Listing.{AreListed, Subject, subjects, AreJudged, Lists, listed_point, listed_verdict}
use Rattle.lra_analyse_source.specs.Crates.lra_report.Report.{Invariant, PointReport, Report, Verdict}
use Rattle.lra_analyse_source.specs.Crates.lra_report.declared.verdict_kinds.VerdictKind.TheVariants.{Assertion, Fit, Access}
use Rattle.lra_analyse_source.specs.Crates.{lra_analysis_spec.Accesses.OpInside, lra_analysis_spec.Accesses.JudgesAccesses, lra_analysis_spec.Analysis.ExactIteration, lra_analysis_spec.Fits.OpFits}
use Rattle.lra_analyse_source.specs.Crates.{lra_analysis_spec.Fits.JudgesIf, lra_analysis_spec.Judging.AnswerAtPoint, lra_analysis_spec.Judging.Finds, lra_analysis_spec.Operations.exact_operations}
use Rattle.lra_analyse_source.specs.Crates.{lra_analysis_spec.Operations.lossy_operations, lra_analysis_spec.Plan.plan_of, lra_base.declared.refusals.Place.Place, lra_box.Laws.box_single}
use Rattle.lra_analyse_source.specs.Crates.{lra_box.Laws.box_base, lra_domain.Abstraction.Abstraction, lra_domain.Laws.SingleLaws, lra_domain.Laws.BaseLaws, lra_domain.declared.Exactness.Exactness}
use Rattle.lra_analyse_source.specs.Crates.{lra_octagon.Laws.octagon_base, lra_octagon.Single.octagon_single, lra_operations.Tree.Node, lra_powerset.Abstraction.set_abstraction}
use Rattle.lra_analyse_source.specs.Crates.{lra_powerset.Content.SetContent, lra_powerset.Content.SetHead, lra_powerset.Single.set_single, lra_program.Accesses.op_accesses_any}
use Rattle.lra_analyse_source.specs.Crates.{lra_program.Accesses.OpOutOfBounds, lra_program.Overflow.op_computes, lra_program.Overflow.OpOverflows, lra_program.Program.Program, lra_program.Sites.Site}
use Rattle.lra_analyse_source.specs.Crates.{lra_program.Sites.sites_of, lra_program.Step.Op, lra_program.Step.State, lra_report.declared.verdict_kinds.VerdictKind.VerdictKind}
use Rattle.lra_analyse_source.specs.Crates.{lra_resolution_spec.EntryPoint.at_main, lra_resolution_spec.LiveNames.globals_named, lra_resolution_spec.Refuse.OneAnswer, lra_resolution_spec.Resolve.resolve, lra_syntax.Grammar.Spells}
use Rattle.lra_analyse_source.specs.Crates.{lra_syntax.Labels.Labelled, lra_syntax.Labels.labels_of, lra_syntax.Trees.FileTree}
use Rattle.lra_poly_domain.specs.Laws.{polyhedron_single, polyhedron_base}
use Rattle.lra_report_build.specs.AnalysisResults.{ReportedVerdict, reported_verdict, reported_accesses, reported_all, reported_of, state_of}
use Rattle.lra_report_build.specs.Sets.{shown_set}
use Rattle.lra_options.specs.declared.options.Domain.TheVariants.{Poly, Box, Oct}
use Rattle.lra_options.specs.{declared.options.Domain.Domain, declared.options.Options.Options}
use Rattle.lra_analyse_source.proofs.{FitsHanded.unflagged_before, Found.found_of, Found.none_before, Found.one_asked_there, Handing.one_access, Handing.one_told, Numbering.numbered}
use Rattle.lra_front_end.specs.Stages.{OneConstants}
use Rattle.lra_fixpoint.proofs.OneSolution.{one_solution}
use Rattle.lra_analyse_source.specs.SourceReports.{DomainProperty, WithParts, ForDomain, ReportsAnalysis}
use Rattle.lra_analyse_source.specs.{AnalysisReport.ReportsIteration, Claims.OneUnflaggedReport}

-- the points that are listed of the same sites with the same states
same_points : (outside : List (List ℕ)) (ls : List Labelled) (n : ℕ) (T : List Site) (ps qs : List PointReport) → AreListed outside ls n T ps → AreListed outside ls n T qs
    → map state_of ps ≡ map state_of qs → ps ≡ qs
same_points outside ls n [] [] [] a b s = refl
same_points outside ls n [] [] (q ∷ qs) a b s = absurd b
same_points outside ls n [] (p ∷ ps) qs a b s = absurd a
same_points outside ls n (t ∷ T) [] qs a b s = absurd a
same_points outside ls n (t ∷ T) (p ∷ ps) [] a b s = absurd b
same_points outside ls n (t ∷ T) (p ∷ ps) (q ∷ qs) a b s =
    let one : p.state ≡ q.state = ap (λ (l : List Invariant). head_or l p.state) s in
    let head : p ≡ q = a.0 ∙ ap (listed_point outside ls n t) one ∙ sym b.0 in
    let tail : ps ≡ qs = same_points outside ls (suc n) T ps qs a.2 b.2 (ap rest_of s) in
    rw (head, tail) refl
  where
    head_or : List Invariant → Invariant → Invariant
    head_or [] d = d
    head_or (x ∷ xs) d = x

    rest_of : List Invariant → List Invariant
    rest_of [] = []
    rest_of (x ∷ xs) = xs

-- of each kind, number and which of its kind both say the same
abbrev SayOne : List ReportedVerdict → List ReportedVerdict → Type 0
SayOne vs ws = (k : VerdictKind) (n i : ℕ) (a b : Bool) → Contains vs (k, n, i, a) → Contains ws (k, n, i, b) → a ≡ b

-- the verdicts on the same subjects that say the same of each of these
same_verdicts : (ls : List Labelled) (xs : List Subject) (vs ws : List Verdict) → AreJudged ls xs vs → AreJudged ls xs ws
    → SayOne (map reported_of vs) (map reported_of ws) → vs ≡ ws
same_verdicts ls [] [] [] a b same = refl
same_verdicts ls [] [] (w ∷ ws) a b same = absurd b
same_verdicts ls [] (v ∷ vs) ws a b same = absurd a
same_verdicts ls (x ∷ xs) [] ws a b same = absurd a
same_verdicts ls (x ∷ xs) (v ∷ vs) [] a b same = absurd b
same_verdicts ls (x ∷ xs) (v ∷ vs) (w ∷ ws) a b same =
    let number : w.number ≡ v.number = ap (λ (u : Verdict). u.number) b.0 ∙ sym (ap (λ (u : Verdict). u.number) a.0) in
    let which : w.which ≡ v.which = ap (λ (u : Verdict). u.which) b.0 ∙ sym (ap (λ (u : Verdict). u.which) a.0) in
    let kind : w.kind ≡ v.kind = ap (λ (u : Verdict). u.kind) b.0 ∙ sym (ap (λ (u : Verdict). u.kind) a.0) in
    let one : v.holds ≡ w.holds = same v.kind v.number v.which v.holds w.holds (contains_head (reported_of v) (map reported_of vs))
    (subst (λ k. Contains (map reported_of (w ∷ ws)) (k, v.number, v.which, w.holds)) kind
    (subst (λ n. Contains (map reported_of (w ∷ ws)) (w.kind, n, v.which, w.holds)) number
    (subst (λ i. Contains (map reported_of (w ∷ ws)) (w.kind, w.number, i, w.holds)) which (contains_head (reported_of w) (map reported_of ws))))) in
    let head : v ≡ w = a.0 ∙ ap (listed_verdict ls x) one ∙ sym b.0 in
    let tail : vs ≡ ws = same_verdicts ls xs vs ws a.1 b.1
    (λ k n i c d p q. same k n i c d (contains_tail (reported_of v) (k, n, i, c) (map reported_of vs) p)
    (contains_tail (reported_of w) (k, n, i, d) (map reported_of ws) q)) in
    rw (head, tail) refl

-- two lists of answers by points that give no point two
abbrev AgreeBy : {A : Type 0} → List (ℕ × A) → List (ℕ × A) → Type 0
AgreeBy {A} xs ys = (q : ℕ) (a b : A) → Contains xs (q, a) → Contains ys (q, b) → a ≡ b

-- what agrees of each kind says the same of all
module _ (vs us fs gs : List (ℕ × Bool)) (ones others : List (ℕ × List (Place × Bool)))
    (one : AgreeBy vs us) (two : AgreeBy fs gs) (three : AgreeBy ones others) where
  equal : (q p n : ℕ) → n ≡ suc q → n ≡ suc p → q ≡ p
  equal q p n e f = omega (arith, e, f)

  -- verdicts of one kind and one of these lists
  same_of : (own : VerdictKind) (xs ys : List (ℕ × Bool)) → AgreeBy xs ys → (k : VerdictKind) (n i : ℕ) (a b : Bool)
      → Contains (map (reported_verdict own) xs) (k, n, i, a) → Contains (map (reported_verdict own) ys) (k, n, i, b) → a ≡ b
  same_of own xs ys agree k n i a b x y =
      let (p, mine, is, has) = one_told own xs k n i a x in
      let (q, also, same, there) = one_told own ys k n i b y in
      agree p a b has (subst (λ (l : ℕ). Contains ys (l, b)) (equal q p n same is) there)

  -- one access is reported once
  same_access : (k : VerdictKind) (n i : ℕ) (a b : Bool) → Contains (flat_map reported_accesses ones) (k, n, i, a)
      → Contains (flat_map reported_accesses others) (k, n, i, b) → a ≡ b
  same_access k n i a b x y =
      let (p, js, here, mine, number, has, first) = one_access ones k n i a x in
      let (q, ks, there, also, same, too, second) = one_access others k n i b y in
      let lists : js ≡ ks = three p js ks has (subst (λ (l : ℕ). Contains others (l, ks)) (equal q p n same number) too) in
      ap (λ (j : Place × Bool). j.1) (same_Some (here, a) (there, b) (sym first ∙ ap (λ (l : List (Place × Bool)). slice_get l i) lists ∙ second))

  -- of which kind a verdict is reported
  abbrev Rest : List (ℕ × Bool) → List (ℕ × List (Place × Bool)) → List ReportedVerdict
  Rest xs js = map (reported_verdict Fit) xs ++ flat_map reported_accesses js

  kinds_of : (xs : List (ℕ × Bool)) (js : List (ℕ × List (Place × Bool))) (k : VerdictKind) (n i : ℕ) (b : Bool)
      → Contains (Rest xs js) (k, n, i, b) → (k ≡ Fit) ⊎ (k ≡ Access)
  kinds_of xs js k n i b x = elim (Contains-append_cases (map (reported_verdict Fit) xs) (flat_map reported_accesses js) (k, n, i, b) x)
      [ inl y ↦ inl (one_told Fit xs k n i b y).1 | inr y ↦ inr (one_access js k n i b y).3 ]

  never_rest : (k : VerdictKind) → k ≡ Assertion → (k ≡ Fit) ⊎ (k ≡ Access) → ⊥
  never_rest k e (inl f) = cc
  never_rest k e (inr f) = cc

  never_both : (k : VerdictKind) → k ≡ Fit → k ≡ Access → ⊥
  never_both k e f = cc

  rest_same : SayOne (Rest fs ones) (Rest gs others)
  rest_same k n i a b x y = elim (Contains-append_cases (map (reported_verdict Fit) fs) (flat_map reported_accesses ones) (k, n, i, a) x) [
    | inl p ↦ elim (Contains-append_cases (map (reported_verdict Fit) gs) (flat_map reported_accesses others) (k, n, i, b) y) [
      | inl q ↦ same_of Fit fs gs two k n i a b p q
      | inr q ↦ absurd (never_both k (one_told Fit fs k n i a p).1 (one_access others k n i b q).3)
    ]
    | inr p ↦ elim (Contains-append_cases (map (reported_verdict Fit) gs) (flat_map reported_accesses others) (k, n, i, b) y) [
      | inl q ↦ absurd (never_both k (one_told Fit gs k n i b q).1 (one_access ones k n i a p).3)
      | inr q ↦ same_access k n i a b p q
    ]
  ]

  all_same : SayOne (reported_all vs fs ones) (reported_all us gs others)
  all_same k n i a b x y = elim (Contains-append_cases (map (reported_verdict Assertion) vs) (Rest fs ones) (k, n, i, a) x) [
    | inl p ↦ elim (Contains-append_cases (map (reported_verdict Assertion) us) (Rest gs others) (k, n, i, b) y) [
      | inl q ↦ same_of Assertion vs us one k n i a b p q
      | inr q ↦ absurd (never_rest k (one_told Assertion vs k n i a p).1 (kinds_of gs others k n i b q))
    ]
    | inr p ↦ elim (Contains-append_cases (map (reported_verdict Assertion) us) (Rest gs others) (k, n, i, b) y) [
      | inl q ↦ absurd (never_rest k (one_told Assertion us k n i b q).1 (kinds_of fs ones k n i a p))
      | inr q ↦ rest_same k n i a b p q
    ]
  ]

-- what is judged twice of the same values is one thing
module _ {V H A : Type 0} (m : Abstraction V H) (asks : Op → Bool) (Q : Op → State → Type 0) (Told : Op → V → A → Exactness → Type 0)
    (one_answer : (values : List V) (a : OpAtPoint) (x y : A) (e f : Exactness) → AnswerAtPoint (exact_operations m) Told values a x e
    → AnswerAtPoint (exact_operations m) Told values a y f → x ≡ y)
    (P : Program) (g : Node) (well : AgreesOnOps asks Q P g) (values : List V) where
  found_once : (xs ys : List (ℕ × A)) (c d : Option ℕ) → Finds (exact_operations m) Told (ops_where asks None g) values None xs c
      → Finds (exact_operations m) Told (ops_where asks None g) values None ys d → AgreeBy xs ys
  found_once xs ys c d x y q a b i j =
      let (k, among, at, is) = found_of x.found q a (subst (λ (l : List (ℕ × A)). Contains l (q, a)) x.told i) in
      let (l, also, there, same) = found_of y.found q b (subst (λ (l : List (ℕ × A)). Contains l (q, b)) y.told j) in
      let (u, one, point, judged) = x.is_asked k among in
      let (w, two, place, other) = y.is_asked l also in
      let equal : w ≡ u = one_asked_there asks Q P g well w u two one (place ∙ there ∙ sym (point ∙ at)) in
      let here : AnswerAtPoint (exact_operations m) Told values u l.answer l.exactness =
      subst (λ (z : OpAtPoint). AnswerAtPoint (exact_operations m) Told values z l.answer l.exactness) equal other in
      sym is ∙ one_answer values u k.answer l.answer k.exactness l.exactness judged here ∙ same

module _ {V H : Type 0} (m : Abstraction V H) (laws : SingleLaws m) (P : Program) (g : Node) (values : List V) where
  judged_same : AgreesOnOverflows P g → (b : Bool) (fs gs : List (ℕ × Bool)) → JudgesIf m (exact_operations m) b g values None fs None
      → JudgesIf m (exact_operations m) b g values None gs None → AgreeBy fs gs
  judged_same well true fs gs x y =
      found_once m op_computes OpOverflows (OpFits m (exact_operations m)) (one_asked m (exact_operations m) (defined_single m laws)) P g well
      values fs gs None None x y
  judged_same well false fs gs x y = λ q a c i j. absurd (contains_none (q, a) (subst (λ (l : List (ℕ × Bool)). Contains l (q, a)) x.0 i))

  accessed_same : AgreesOnAccesses P g → (ones others : List (ℕ × List (Place × Bool))) → JudgesAccesses m (exact_operations m) g values None ones None
      → JudgesAccesses m (exact_operations m) g values None others None → AgreeBy ones others
  accessed_same well ones others x y = found_once m op_accesses_any (λ op t. OpOutOfBounds op t 0) (OpInside m (exact_operations m))
      (one_asked_inside m (exact_operations m) (defined_single m laws)) P g (well 0) values ones others None None x y

one_flag : (f : Option ℕ) (told : Option ℕ) → told ≡ option_map suc f → told ≡ None → f ≡ None
one_flag None told is none = refl
one_flag (Some q) told is none = absurd (none-some _ (sym none ∙ is))

-- if nothing is flagged last, nothing is before
module _ {V H : Type 0} (m : Abstraction V H) {shown : V → Invariant} {o : Options} {constants : List ℤ} {P : Program} {r : Report}
    (x : ReportsIteration m shown o constants P r) (none : x.last ≡ None) where
  pub unflagged_behind : x.overflow_flag ≡ None
  unflagged_behind = none_before (lossy_operations m) (OpInside m (lossy_operations m)) (accessing_ops None x.tree) x.values x.overflow_flag x.inside x.last
      x.accessed none

  pub unflagged_first : x.flagged ≡ None
  unflagged_first = unflagged_before m (lossy_operations m) o.fits x.tree x.values x.flagged x.fitting x.overflow_flag unflagged_behind x.judged

-- two reports that show the written iteration of one program show the same states, and the same of each assertion, of
-- what fits and of each access
pub record SayTheSame (r s : Report) : Type 0 where
  pub states : map state_of r.points ≡ map state_of s.points
  pub verdicts : SayOne (map reported_of r.verdicts) (map reported_of s.verdicts)

pub one_analysis : {V H : Type 0} (m : Abstraction V H) → SingleLaws m → (shown : V → Invariant) (o : Options) (constants : List ℤ) (P : Program) (r s : Report) →
    ReportsIteration m shown o constants P r
    → ReportsIteration m shown o constants P s
    → r.flagged ≡ None → s.flagged ≡ None → SayTheSame r s
one_analysis {V} m laws shown o constants P r s a b e f =
    let plan = plan_of o constants in
    let tree : b.tree ≡ a.tree = one_tree P b.tree a.tree b.is_graph a.is_graph in
    let first_none = one_flag a.last r.flagged a.flag e in
    let second_none = one_flag b.last s.flagged b.flag f in
    let first : ExactIteration m plan P a.tree a.result = a.written (unflagged_first m a first_none) in
    let second : ExactIteration m plan P a.tree b.result =
    subst (λ (g : Node). ExactIteration m plan P g b.result) tree (b.written (unflagged_first m b second_none)) in
    let one = one_solution m laws plan P a.tree a.result b.result a.values b.values a.verdicts b.verdicts a.flagged b.flagged (numbered P a.tree a.is_graph) first second a.solves b.solves in
    let fits : AgreeBy a.fitting b.fitting = judged_same m laws P a.tree a.values a.asks o.fits a.fitting b.fitting
    (a.judged_written (unflagged_behind m a first_none))
    (subst (λ (vs : List V). JudgesIf m (exact_operations m) o.fits a.tree vs None b.fitting None) (sym one.0)
    (subst (λ (g : Node). JudgesIf m (exact_operations m) o.fits g b.values None b.fitting None) tree (b.judged_written (unflagged_behind m b second_none)))) in
    let accesses : AgreeBy a.inside b.inside = accessed_same m laws P a.tree a.values a.accesses a.inside b.inside (a.accessed_written first_none)
    (subst (λ (vs : List V). JudgesAccesses m (exact_operations m) a.tree vs None b.inside None) (sym one.0)
    (subst (λ (g : Node). JudgesAccesses m (exact_operations m) g b.values None b.inside None) tree (b.accessed_written second_none))) in
    record {
      states = a.states ∙ ap (map shown) one.0 ∙ sym b.states;
      verdicts = λ k n i c d x y.
          all_same a.verdicts b.verdicts a.fitting b.fitting a.inside b.inside one.1 fits accesses k n i c d
          (subst (λ (l : List ReportedVerdict). Contains l (k, n, i, c)) a.proved x) (subst (λ (l : List ReportedVerdict). Contains l (k, n, i, d)) b.proved y);
    }

-- what follows of two things that are said of each domain with one value of each definition follows of those that are said
-- over the options
module _ (a b : DomainProperty) (X : Type 0) (follows : (V H : Type 0) (m : Abstraction V H) (shown : V → Invariant) → SingleLaws m → a V H m shown → b V H m shown → X) where
  by_number : (n : ℕ) (V H : Type 0) (m : Abstraction V H) (shown : V → Invariant) → SingleLaws m → BaseLaws m → WithParts n a V H m shown → WithParts n b V H m shown → X
  by_number zero V H m shown l p h k = follows V H m shown l h k
  by_number (suc zero) V H m shown l p h k = follows V H m shown l h k
  by_number (suc (suc n)) V H m shown l p h k = follows (SetContent V) (SetHead V H) (set_abstraction m) (shown_set shown) (set_single m l p) h k

  by_domain : (d : Domain) (n : ℕ) → ForDomain d (WithParts n a) → ForDomain d (WithParts n b) → X
  by_domain Poly n h k = by_number n _ _ _ _ polyhedron_single polyhedron_base h k
  by_domain Box n h k = by_number n _ _ _ _ box_single box_base h k
  by_domain Oct n h k = by_number n _ _ _ _ octagon_single octagon_base h k

pub one_unflagged : OneAnswer Spells → OneConstants → OneUnflaggedReport
one_unflagged one one_list o source r s x y e f =
    let t = x.report.tree in
    let ks = x.constants in
    let same_constants : y.constants ≡ ks = one_list source y.constants ks y.own x.own in
    let tree : y.report.tree ≡ t = (one at_main source).0 y.report.tree t y.report.accepted x.report.accepted in
    let there : ReportsAnalysis o y.constants (resolve t) s = subst (λ (u : FileTree). ReportsAnalysis o y.constants (resolve u) s) tree y.analysed in
    let other : ReportsAnalysis o ks (resolve t) s = subst (λ (zs : List ℤ). ReportsAnalysis o zs (resolve t) s) same_constants there in
    let same : SayTheSame r s = by_domain (λ V H m shown. ReportsIteration m shown o ks (resolve t) r) (λ V H m shown. ReportsIteration m shown o ks (resolve t) s) (SayTheSame r s)
    (λ V H m shown l a b. one_analysis m l shown o ks (resolve t) r s a b e f) o.domain o.parts x.analysed other in
    let lists : Lists t s = subst (λ (u : FileTree). Lists u s) tree y.report.lists in
    let points : r.points ≡ s.points = same_points (globals_named t.parts) (labels_of t) 1 (sites_of (resolve t)) r.points s.points x.report.lists.points lists.points same.states in
    let g = lists.tree in
    let options : r.options ≡ s.options = x.report.options ∙ sym y.report.options in
    let other_judged = subst (λ (z : Options). AreJudged (labels_of t) (subjects z g t) s.verdicts) (sym options) (lists.verdicts g lists.is_graph) in
    let verdicts : r.verdicts ≡ s.verdicts = same_verdicts (labels_of t)
    (subjects r.options g t) r.verdicts s.verdicts (x.report.lists.verdicts g lists.is_graph) other_judged same.verdicts in
    report_by r s (x.report.options ∙ sym y.report.options) (e ∙ sym f) points verdicts
