-- A report that lists a program's points, says what the iteration found, and shows values as they are, is right, and is
-- a report of its source.
use Rattle.std.proofs.Common.{◌≡◌, ℕ, zero, suc, ℤ, ◌≤◌, ◌<◌, List, [], ◌∷◌, length, Option, Some, None, Bool, true, false, ◌++◌, map, inl, inr, refl, sym, ap, ◌∙◌, subst, arith}
use Rattle.std.proofs.{lemmas.List.Elements.Contains-append_cases, lemmas.Option.none-some, lemmas.Option.same_Some, lemmas.Option.slice_get-map}
use Rattle.std.specs.{List.AllByRecursion, List.Contains, List.flat_map, Prelude.slice_get, Prelude.option_map, Prelude.IsTrue}
use Rattle.lra_analyse_source.proofs.Crates.{lra_analysis_spec.Caps.solved_capped, lra_linear_spec.ListPlaces.contains_at, lra_linear_spec.Membership.contains_none}
use Rattle.lra_analyse_source.specs.Crates.lra_resolution_spec.EntryPoint.{at_main}
use Rattle.lra_analyse_source.specs.Crates.lra_report.Listing.{AreListed, Subject, subject, subjects_of, fits_asked, computes_at, computing_from, accesses_at, accesses_from, subjects, Lists, IsFlag}
use Rattle.lra_analyse_source.specs.Crates.lra_report.Listing.{AreParts, IsReportOf}
use Rattle.lra_analyse_source.specs.Crates.lra_report.Report.{Invariant, InvariantHolds, PointReport, Verdict, Report, IsInvariant, IsRight, IsSound}
use Rattle.lra_analyse_source.specs.Crates.lra_report.declared.verdict_kinds.VerdictKind.TheVariants.{Assertion, Fit}
use Rattle.lra_analyse_source.specs.Crates.{lra_analysis_spec.Accesses.OpInside, lra_analysis_spec.Fits.OpFits, lra_analysis_spec.Fits.JudgesIf, lra_analysis_spec.Operations.lossy_operations}
use Rattle.lra_analyse_source.specs.Crates.{lra_analysis_spec.Plan.plan_of, lra_base.declared.refusals.Place.Place, lra_domain.Abstraction.Abstraction, lra_domain.Laws.Laws}
use Rattle.lra_analyse_source.specs.Crates.{lra_operations.Agree.point_of, lra_operations.Agree.Agrees, lra_operations.CheckedOperations.computing_ops, lra_operations.CheckedOperations.accessing_ops}
use Rattle.lra_analyse_source.specs.Crates.{lra_program.Accesses.AccessesOutOfBounds, lra_program.Assertions.assertions_from, lra_program.Overflow.Overflows, lra_program.Run.At, lra_program.Run.Fails}
use Rattle.lra_analyse_source.specs.Crates.{lra_program.Sites.Site, lra_program.Sites.sites_of, lra_report.Parts.ShowsPart, lra_report.VerdictKinds.Breaks}
use Rattle.lra_analyse_source.specs.Crates.{lra_report.declared.verdict_kinds.VerdictKind.VerdictKind, lra_resolution_spec.LiveNames.globals_named, lra_resolution_spec.Refuse.Accepts}
use Rattle.lra_analyse_source.specs.Crates.{lra_resolution_spec.Resolve.resolve, lra_syntax.Grammar.Spells, lra_syntax.Labels.Labelled, lra_syntax.Labels.labels_of, lra_syntax.Trees.FileTree}
use Rattle.lra_options.specs.{declared.options.Domain.Domain, declared.options.Options.Options}
use Rattle.lra_report_build.specs.AnalysisResults.{ReportedVerdict, reported_verdict, reported_accesses, reported_all, reported_of}
use Rattle.lra_analyse_source.specs.AnalysisReport.{ReportsIteration}
use Rattle.lra_analyse_source.proofs.Handing.{as_many, one_access, one_told, value_dims}
use Rattle.lra_analyse_source.proofs.Sound.{value_there, proved_holds, IsListed, listed_all, IsOn, judged_all, SiteAt, assertion_site, computing_site, access_site, get_either}
use Rattle.lra_analyse_source.proofs.{AccessesHold.inside_holds, FitsHold.fitting_holds, Flags.IsBelow, Flags.graph_below, Flags.iteration_below, Found.flagged_below, Numbering.numbered}
use Rattle.lra_fixpoint.proofs.Counting.{iteration_fails_once}
use Rattle.lra_front_end.proofs.{Named.shown_as_many, OneAnswer.heads, OneAnswer.tails}

-- lists --------------------------------------------------------------------------------------------------------------

map_at : {A B C : Type 0} (f : A → C) (g : B → C) (xs : List A) (ys : List B) → map f xs ≡ map g ys → (k : ℕ) (x : A) → slice_get xs k ≡ Some x → (y : B) × (slice_get ys k ≡ Some y) × (f x ≡ g y)
map_at f g [] ys e k x there = absurd (none-some x there)
map_at f g (a ∷ xs) [] e k x there = absurd (not_empty (f a) (map f xs) e)
  where
    not_empty : {C : Type 0} (c : C) (cs : List C) → c ∷ cs ≡ [] → ⊥
    not_empty c cs e = cc
map_at f g (a ∷ xs) (b ∷ ys) e zero x there = (b, refl, ap f (sym (same_Some a x there)) ∙ heads (f a) (g b) (map f xs) (map g ys) e)
map_at f g (a ∷ xs) (b ∷ ys) e (suc k) x there = map_at f g xs ys (tails (f a) (g b) (map f xs) (map g ys) e) k x there

-- what stands in a list of images is one of them
slice_get_of_map : {A B : Type 0} (f : A → B) (xs : List A) (k : ℕ) (y : B) → slice_get (map f xs) k ≡ Some y → (x : A) × (slice_get xs k ≡ Some x) × (y ≡ f x)
slice_get_of_map f [] k y there = absurd (none-some y there)
slice_get_of_map f (x ∷ xs) zero y there = (x, refl, sym (same_Some (f x) y there))
slice_get_of_map f (x ∷ xs) (suc k) y there = slice_get_of_map f xs k y there

pub listed_length : (outside : List (List ℕ)) (ls : List Labelled) (number : ℕ) (ss : List Site) (ps : List PointReport) → AreListed outside ls number ss ps → length ps ≡ length ss
listed_length o ls n [] [] l = refl
listed_length o ls n [] (p ∷ ps) l = absurd l
listed_length o ls n (s ∷ ss) [] l = absurd l
listed_length o ls n (s ∷ ss) (p ∷ ps) l = ap suc (listed_length o ls (suc n) ss ps l.2)

-- reports ------------------------------------------------------------------------------------------------------------

module _ {V H : Type 0} (m : Abstraction V H) (laws : Laws m) (shown : V → Invariant) (settings : Options) (constants : List ℤ) (t : FileTree) (r : Report) (lists : Lists t r)
    (x : ReportsIteration m shown settings constants (resolve t) r) (agrees : Agrees (resolve t) x.tree) where
  -- the value at a listed point, by whose state it is shown
  value_of : (k : ℕ) (p : PointReport) → slice_get r.points k ≡ Some p → (v : V) × (slice_get x.values k ≡ Some v) × (p.state ≡ shown v)
  value_of k p listed = map_at (λ (q : PointReport). q.state) shown r.points x.values x.states k p listed

  invariant : (k : ℕ) (s : Site) (p : PointReport) → slice_get (sites_of (resolve t)) k ≡ Some s → slice_get r.points k ≡ Some p → IsListed (globals_named t.parts) (labels_of t) s p
      → IsInvariant (resolve t) p
  invariant k s p there listed (is, names) store at =
      let (v, found, has, long) = value_there V H m laws (plan_of settings constants) (resolve t) x.globals x.tree x.result x.derived agrees x.values x.verdicts x.flagged x.solves k s store there
      (subst (λ y. At (resolve t) y store) is at) in
      let (w, found', state) = value_of k p listed in
      let same : v ≡ w = same_Some v w (sym found ∙ found') in
      subst (λ (y : Invariant). InvariantHolds y store) (sym (state ∙ ap shown (sym same))) ((x.are_shown v (contains_at x.values k v found)).holds store has)

  -- a verdict on an assertion
  asserted : (q : ℕ) (s : Site) (so : Bool) → slice_get (sites_of (resolve t)) q ≡ Some s → Contains x.verdicts (q, so) → IsTrue so → Fails (resolve t)
      (point_of s) → ⊥
  asserted q s so site found holds fails =
      proved_holds V H m laws (plan_of settings constants) (resolve t) x.globals x.tree x.result x.derived agrees x.values x.verdicts x.flagged x.solves
      (iteration_fails_once (lossy_operations m) (plan_of settings constants) (resolve t) x.tree x.result (numbered (resolve t) x.tree x.is_graph) x.derived) q
      s so
      site found holds fails

  -- on what is computed
  fitting : (q : ℕ) (s : Site) (so : Bool) → slice_get (sites_of (resolve t)) q ≡ Some s → Contains x.fitting (q, so) → IsTrue so → Overflows (resolve t)
      (point_of s) → ⊥
  fitting q s so site found holds over = by settings.fits x.judged
    where
      by : (b : Bool) → JudgesIf m (lossy_operations m) b x.tree x.values x.flagged x.fitting x.overflow_flag → ⊥
      by true judges =
          fitting_holds V H m laws (plan_of settings constants) (resolve t) x.globals x.tree x.result x.derived agrees x.values x.verdicts x.flagged x.solves
          x.asks
          x.fitting x.overflow_flag judges q s so site found holds over
      by false none = contains_none (q, so) (subst (λ (fs : List (ℕ × Bool)). Contains fs (q, so)) none.0 found)

  -- on an access
  accessed : (q : ℕ) (s : Site) (js : List (Place × Bool)) (n : ℕ) (place : Place) → slice_get (sites_of (resolve t)) q ≡ Some s → Contains x.inside (q, js)
      → slice_get js n ≡ Some (place, true) → AccessesOutOfBounds (resolve t) (point_of s) n → ⊥
  accessed q s js n place site found inner strays =
      inside_holds V H m laws (plan_of settings constants) (resolve t) x.globals x.tree x.result x.derived agrees x.values x.verdicts x.flagged x.solves
      x.accesses x.inside x.overflow_flag x.last x.accessed q s js n place site found inner strays

  -- each verdict is reported of one that was found, of its kind, its number and which of its kind it is
  told_there : (k : ℕ) (v : Verdict) → slice_get r.verdicts k ≡ Some v → Contains (reported_all x.verdicts x.fitting x.inside) (reported_of v)
  told_there k v listed = subst (λ (ts : List ReportedVerdict). Contains ts (reported_of v)) x.proved
      (contains_at (map reported_of r.verdicts) k (reported_of v) (slice_get-map reported_of r.verdicts k ∙ ap (option_map reported_of) listed))

  less : (p q : ℕ) → suc q ≡ suc p → p ≡ q
  less p q e = omega (arith, e)

  right_beside : (kind : VerdictKind) (q : ℕ) (s : Site) (n : ℕ) (so : Bool) → slice_get (sites_of (resolve t)) q ≡ Some s
      → Contains (map (reported_verdict Fit) x.fitting ++ flat_map reported_accesses x.inside) (kind, suc q, n, so) → IsTrue so
      → Breaks kind (resolve t) (point_of s) n → ⊥
  right_beside kind q s n so site told_so holds breaks =
      elim (Contains-append_cases (map (reported_verdict Fit) x.fitting) (flat_map reported_accesses x.inside) (kind, suc q, n, so) told_so) [
        | inl a ↦
            let (p, own, here, found) = one_told Fit x.fitting kind (suc q) n so a in
            fitting q s so site (subst (λ (i : ℕ). Contains x.fitting (i, so)) (less p q here) found) holds
            (subst (λ (k : VerdictKind). Breaks k (resolve t) (point_of s) n) own breaks)
        | inr b ↦
            let (p, js, place, own, here, found, inner) = one_access x.inside kind (suc q) n so b in
            accessed q s js n place site (subst (λ (i : ℕ). Contains x.inside (i, js)) (less p q here) found)
            (inner ∙ ap (λ (c : Bool). Some (place, c)) holds)
            (subst (λ (k : VerdictKind). Breaks k (resolve t) (point_of s) n) own breaks)
      ]

  right_of : (kind : VerdictKind) (q : ℕ) (s : Site) (n : ℕ) (so : Bool) → slice_get (sites_of (resolve t)) q ≡ Some s
      → Contains (reported_all x.verdicts x.fitting x.inside) (kind, suc q, n, so) → IsTrue so
      → Breaks kind (resolve t) (point_of s) n → ⊥
  right_of kind q s n so site told_so holds breaks =
      elim (Contains-append_cases (map (reported_verdict Assertion) x.verdicts) (map (reported_verdict Fit) x.fitting ++ flat_map reported_accesses x.inside)
      (kind, suc q, n, so) told_so) [
        | inl a ↦
            let (p, own, here, found) = one_told Assertion x.verdicts kind (suc q) n so a in
            asserted q s so site (subst (λ (i : ℕ). Contains x.verdicts (i, so)) (less p q here) found) holds
            (subst (λ (k : VerdictKind). Breaks k (resolve t) (point_of s) n) own breaks)
        | inr b ↦ right_beside kind q s n so site b holds breaks
      ]

  -- the site of a subject, by its number
  abbrev SubjectSite : Subject → Type 0
  SubjectSite s = (q : ℕ) × (s.number ≡ suc q) × (slice_get (sites_of (resolve t)) q ≡ Some s.site)

  sited : (s : Subject) (y : ℕ × Site) → s.number ≡ y.0 → s.site ≡ y.1 → SiteAt 1 (sites_of (resolve t)) y → SubjectSite s
  sited s y number site (q, is, there) = (q, number ∙ is ∙ omega arith, there ∙ ap (λ (u : Site). Some u) (sym site))

  asked_site : (b : Bool) (j : ℕ) (s : Subject) → slice_get (fits_asked (labels_of t) b x.tree (sites_of (resolve t))) j ≡ Some s → SubjectSite s
  asked_site true j s there =
      let (y, found, is) = slice_get_of_map (λ (p : ℕ × Site). subject (labels_of t) Fit p.0 p.1)
      (computing_from (computes_at x.tree) 0 (sites_of (resolve t))) j s there in
      sited s y (ap (λ (u : Subject). u.number) is) (ap (λ (u : Subject). u.site) is) (computing_site (computes_at x.tree) 0 (sites_of (resolve t)) j y found)
  asked_site false j s there = absurd (none-some s there)

  subject_site : (k : ℕ) (s : Subject) → slice_get (subjects r.options x.tree t) k ≡ Some s → SubjectSite s
  subject_site k s there = elim (get_either (subjects_of (labels_of t) Assertion (assertions_from 1 (sites_of (resolve t))))
      (fits_asked (labels_of t) r.options.fits x.tree (sites_of (resolve t)) ++ accesses_from (accesses_at x.tree) 0 (sites_of (resolve t))) k s there) [
        | inl a ↦
            let (y, found, is) = slice_get_of_map (λ (p : ℕ × Site). subject (labels_of t) Assertion p.0 p.1)
            (assertions_from 1 (sites_of (resolve t))) k s a in
            sited s y (ap (λ (u : Subject). u.number) is) (ap (λ (u : Subject). u.site) is) (assertion_site 1 (sites_of (resolve t)) k y found)
        | inr (j, b) ↦ elim (get_either (fits_asked (labels_of t) r.options.fits x.tree (sites_of (resolve t)))
            (accesses_from (accesses_at x.tree) 0 (sites_of (resolve t))) j s b) [
              | inl c ↦ asked_site r.options.fits j s c
              | inr (i, d) ↦ sited s (s.number, s.site) refl refl (access_site (accesses_at x.tree) 0 (sites_of (resolve t)) i s d)
            ]
      ]

  right : (k : ℕ) (s : Subject) (v : Verdict) → slice_get (subjects r.options x.tree t) k ≡ Some s → slice_get r.verdicts k ≡ Some v → IsOn s v → IsRight
      (resolve t) v
  right k s v there listed on holds breaks =
      let (q, number, site) = subject_site k s there in
      right_of v.kind q s.site v.which v.holds site
      (subst (λ (n : ℕ). Contains (reported_all x.verdicts x.fitting x.inside) (v.kind, n, v.which, v.holds)) (on.number ∙ number)
      (told_there k v listed)) holds
      (subst (λ z. Breaks v.kind (resolve t) z v.which) on.point breaks)

  pub sound : IsSound (resolve t) r
  sound = record {
    invariants = listed_all (IsInvariant (resolve t)) (globals_named t.parts) (labels_of t) 1 (sites_of (resolve t)) r.points lists.points invariant;
    verdicts = judged_all (IsRight (resolve t)) (labels_of t) (subjects r.options x.tree t) r.verdicts (lists.verdicts x.tree x.is_graph) right;
  }

  is_flag : (count : ℕ) (o : Option ℕ) → IsBelow count o → IsFlag count (option_map suc o)
  is_flag count None h = tt
  is_flag count (Some q) h = (omega arith, omega arith)

  -- what is flagged by what is judged stands at a point, too
  option_below : (n : ℕ) (f : Option ℕ) → ((q : ℕ) → f ≡ Some q → q < n) → IsBelow n f
  option_below n None low = tt
  option_below n (Some q) low = low q refl

  below_option : (n : ℕ) (f : Option ℕ) → IsBelow n f → (q : ℕ) → f ≡ Some q → q < n
  below_option n f h q e = subst (λ (y : Option ℕ). IsBelow n y) e h

  many_there : (n : ℕ) → n ≡ length (sites_of (resolve t)) → length x.values ≡ n
  many_there n is =
      as_many m (plan_of settings constants) (resolve t) x.tree x.result x.values x.verdicts x.flagged x.is_graph x.derived x.solves ∙ sym is

  behind_there : (n : ℕ) → n ≡ length (sites_of (resolve t)) → IsBelow n x.flagged → IsBelow n x.overflow_flag
  behind_there n is below = by settings.fits x.judged
    where
      by : (b : Bool) → JudgesIf m (lossy_operations m) b x.tree x.values x.flagged x.fitting x.overflow_flag → IsBelow n x.overflow_flag
      by true judges = option_below n x.overflow_flag
          (flagged_below (lossy_operations m) (OpFits m (lossy_operations m)) (computing_ops None x.tree) x.values x.flagged x.fitting x.overflow_flag
          judges n (many_there n is) (below_option n x.flagged below))
      by false none = subst (IsBelow n) (sym none.1) below

  last_there : (n : ℕ) → n ≡ length (sites_of (resolve t)) → IsBelow n x.overflow_flag → IsBelow n x.last
  last_there n is below =
      option_below n x.last (flagged_below (lossy_operations m) (OpInside m (lossy_operations m)) (accessing_ops None x.tree) x.values x.overflow_flag x.inside
      x.last x.accessed n (many_there n is) (below_option n x.overflow_flag below))

  flag_there : IsFlag (length r.points) r.flagged
  flag_there =
      let low : 0 < length (sites_of (resolve t)) = omega (arith, x.is_graph.all) in
      let below = iteration_below V H (lossy_operations m) (length (sites_of (resolve t))) (plan_of settings constants) (resolve t) x.tree x.result low (graph_below (resolve t) x.tree x.is_graph)
      x.derived in
      let long : length r.points ≡ length (sites_of (resolve t)) = listed_length (globals_named t.parts) (labels_of t) 1 (sites_of (resolve t)) r.points lists.points in
      let there : IsBelow (length r.points) x.flagged = subst (λ (n : ℕ). IsBelow n x.flagged) (sym long)
      (subst (λ (o : Option ℕ). IsBelow (length (sites_of (resolve t))) o) (sym x.solves.is_flagged) below) in
      subst (λ (o : Option ℕ). IsFlag (length r.points) o) (sym x.flag)
      (is_flag (length r.points) x.last (last_there (length r.points) long (behind_there (length r.points) long there)))

  -- no more parts than the value's cap, each over the variables that are named
  parts_are : (o : Options) → o.domain ≡ settings.domain → 1 ≤ settings.parts → settings.parts ≤ o.parts
      → (k : ℕ) (s : Site) (p : PointReport) → slice_get (sites_of (resolve t)) k ≡ Some s → slice_get r.points k ≡ Some p
      → IsListed (globals_named t.parts) (labels_of t) s p → AreParts o p
  parts_are o same some room k s p there listed (is, names) =
      let (v, found, state) = value_of k p listed in
      let here = contains_at x.values k v found in
      let one = x.are_shown v here in
      let capped = solved_capped m laws (plan_of settings constants) some (resolve t) x.tree x.result x.values x.verdicts x.flagged x.derived x.solves v here in
      let cap : length (m.parts v) ≤ settings.parts = laws.capped_parts v settings.parts capped in
      let few : length (shown v) ≤ o.parts = let many = one.as_many in omega (arith, many, cap, room) in
      let dims : m.dims v ≡ s.live = value_dims m (plan_of settings constants) (resolve t) x.tree x.result x.values x.verdicts x.flagged x.is_graph x.derived x.solves laws k v s found there in
      let named : m.dims v ≡ length p.names = dims ∙ sym (ap length names ∙ shown_as_many t k s there) in
      record {
        few = subst (λ (y : Invariant). length y ≤ o.parts) (sym state) few;
        tell = subst (λ (y : Invariant). AllByRecursion (ShowsPart o.domain (length p.names)) y) (sym state)
            (subst (λ (d : Domain). AllByRecursion (ShowsPart d (length p.names)) (shown v)) (sym same) (subst (λ (n : ℕ). AllByRecursion (ShowsPart settings.domain n) (shown v)) named one.tell));
      }

  pub is_report : (o : Options) (source : List ℕ) → o.domain ≡ settings.domain → 1 ≤ settings.parts → settings.parts ≤ o.parts → r.options ≡ o → Accepts at_main Spells source t
      → IsReportOf Spells o source r
  is_report o source same some room options accepted = record {
    options = options;
    tree = t;
    accepted = accepted;
    lists = lists;
    parts = listed_all (AreParts o) (globals_named t.parts) (labels_of t) 1 (sites_of (resolve t)) r.points lists.points (parts_are o same some room);
    sound = sound;
    flag = flag_there;
  }
