-- What is listed of threads grows, one more at a time.
use Rattle.std.proofs.Common.{◌≡◌, ◌∙◌, ◌<◌, ◌+◌, ◌^◌, ◌⊎◌, ℕ, zero, suc, List, [], ◌∷◌, ◌++◌, length, map, take, get_or, inl, inr, refl, sym, ap, subst, append_assoc, add-one, arith}
use Rattle.std.proofs.{Math.Seq.take-suc, lemmas.List.length-append, lemmas.List.length-map, lemmas.List.length-take-le, lemmas.List.map-append, lemmas.Option.none-some, lemmas.Option.same_Some}
use Rattle.std.specs.{List.AllByRecursion, List.Contains, List.flat_map, List.sum_by, Prelude.All, Prelude.Err, Prelude.IfOk, Prelude.Ok, Prelude.Result, Prelude.Some, Prelude.slice_get}
use Rattle.lra_threads_source.proofs.Crates.lra_linear_spec.Membership.{contains_head, contains_tail}
use Rattle.lra_threads_source.specs.Crates.lra_report_build.AnalysisResults.{AreInvariants, access_verdicts_at, state_of, verdict_at}
use Rattle.lra_threads_source.specs.Crates.{lra_base.AccessVerdicts.reported_view, lra_box.Abstraction.box_abstraction, lra_box.Content.BoxContent, lra_fixpoint.Lives.AreWide}
use Rattle.lra_threads_source.specs.Crates.{lra_operations.declared.tree.InlinedProgram.InlinedProgram, lra_options.declared.options.Domain.TheVariants.Box, lra_program.Sites.Site}
use Rattle.lra_threads_source.specs.Crates.{lra_report_build.Shown.AreShown, lra_report_build.Shown.shown_state, lra_report_build.declared.listing.Findings.Findings}
use Rattle.lra_threads_source.specs.Crates.{lra_resolution_spec.LiveNames.globals_named, lra_syntax.Labels.Labelled, lra_syntax.Labels.labels_of, lra_syntax.Trees.FileTree}
use Rattle.lra_report.specs.Report.{Invariant, PointReport}
use Rattle.lra_report.specs.{Listing.AreListed, Listing.HasWidth, declared.verdict_kinds.VerdictKind.TheVariants.Assertion, declared.verdict_kinds.VerdictKind.TheVariants.Fit}
use Rattle.lra_analyse_source.proofs.Handing.{image_of}
use Rattle.lra_threads_analysis.specs.{Found.sites_in, Found.thread_values, declared.found.ThreadResult.ThreadResult}
use Rattle.lra_threads_source.specs.Listed.{AreListedAlone, ShowsPoints, one_by_one, points_before, reported_points}
use Rattle.lra_threads_source.specs.Stages.{AreGraphsOf, judged_alone, points_in}
use Rattle.lra_threads_source.proofs.{InTurn.first_more, PointNumbers.before_same, PointNumbers.few_points}

-- one more, changed
pub pushed : {A B : Type 0} (view : A → B) (change : B → B) (start listed new taken : List A) (x y : A)
    → map view listed ≡ map view start ++ map change (map view taken) → new ≡ listed ++ y ∷ [] → view y ≡ change (view x)
    → map view new ≡ map view start ++ map change (map view (taken ++ x ∷ []))
pushed {A} {B} view change start listed new taken x y so push is =
    ap (map view) push ∙ map-append view listed (y ∷ []) ∙ ap (λ (bs : List B). bs ++ view y ∷ []) so
    ∙ append_assoc (map view start) (map change (map view taken)) (view y ∷ [])
    ∙ ap (λ (b : B). map view start ++ (map change (map view taken) ++ b ∷ [])) is
    ∙ ap (λ (bs : List B). map view start ++ bs)
    (sym (ap (map change) (map-append view taken (x ∷ [])) ∙ map-append change (map view taken) (view x ∷ [])))

-- what is asked of all is so of the next
pub next_so : {A : Type 0} (P : A → Type 0) (xs : List A) (n : ℕ) (x : A) → All P xs → n < length xs → x ≡ get_or xs n x → P x
next_so P xs n x all low is = subst P (sym is) (all n x low)

-- the states that are listed
pub states_listed : (sites : List Site) (values : List BoxContent) (states : List Invariant) → AreWide box_abstraction sites values →
    length values ≡ length sites
    → AreShown box_abstraction Box (shown_state box_abstraction) values → states ≡ map (shown_state box_abstraction) values → AreInvariants sites states
states_listed sites values states wide many shown are = record {
  as_many = ap length are ∙ length-map values (shown_state box_abstraction) ∙ many;
  wide = λ q s state site there.
      let (v, value, is) = image_of (shown_state box_abstraction) values q state (ap (λ (l : List Invariant). slice_get l q) (sym are) ∙ there) in
      subst (λ (x : Invariant). AllByRecursion (HasWidth s.live) x) is
      (subst (λ (n : ℕ). AllByRecursion (HasWidth n) (shown_state box_abstraction v)) (wide q v value s site)
      (shown v (value_among values q v value)).wide);
}
  where
    value_among : (vs : List BoxContent) (q : ℕ) (v : BoxContent) → slice_get vs q ≡ Some v → Contains vs v
    value_among [] q v there = absurd (none-some v there)
    value_among (u ∷ vs) zero v there = subst (Contains (u ∷ vs)) (same_Some u v there) (contains_head u vs)
    value_among (u ∷ vs) (suc q) v there = contains_tail u v vs (value_among vs q v there)

last_cases : {A : Type 0} (xs : List A) (x : A) (j : ℕ) (y : A) → slice_get (xs ++ x ∷ []) j ≡ Some y
    → ((j < length xs) × (slice_get xs j ≡ Some y)) ⊎ ((j ≡ length xs) × (x ≡ y))
last_cases [] x zero y there = inr (refl, same_Some x y there)
last_cases [] x (suc j) y there = absurd (none-some y there)
last_cases (z ∷ xs) x zero y there = inl (omega arith, there)
last_cases (z ∷ xs) x (suc j) y there = elim (last_cases xs x j y there) [
  | inl (low, here) ↦ inl (omega (arith, low), here)
  | inr (end, same) ↦ inr (omega (arith, end), same)
]

-- what is so at each place of two lists is so with one more in both
both_more : {A B : Type 0} (So : ℕ → A → B → Type 0) (xs : List A) (ys : List B) (x : A) (y : B) → length ys ≡ length xs
    → ((j : ℕ) (a : A) (b : B) → slice_get xs j ≡ Some a → slice_get ys j ≡ Some b → So j a b) → So (length xs) x y
    → (j : ℕ) (a : A) (b : B) → slice_get (xs ++ x ∷ []) j ≡ Some a → slice_get (ys ++ y ∷ []) j ≡ Some b → So j a b
both_more So xs ys x y many each last j a b one two = elim (last_cases xs x j a one) [
  | inl (low, here) ↦ elim (last_cases ys y j b two) [
    | inl (also, there) ↦ each j a b here there
    | inr (end, same) ↦ absurd (omega (arith, low, end, many))
  ]
  | inr (end, same) ↦ elim (last_cases ys y j b two) [
    | inl (low, there) ↦ absurd (omega (arith, low, end, many))
    | inr (also, is) ↦ subst (So j a) is (subst (λ (c : _). So j c y) same (subst (λ (n : ℕ). So n x y) (sym end) last))
  ]
]

-- the points of one thread more
pub shows_more : (t : FileTree) (found : List ThreadResult) (k : ℕ) (one : ThreadResult) (points more ps : List PointReport)
    → ShowsPoints t (take k found) points → k < length found → one ≡ get_or found k one → AreListedAlone t k one ps
    → more ≡ points ++ reported_points t k ps → ShowsPoints t (take (k + 1) found) more
shows_more t found k one points more ps shows low is alone same =
    let long : length (take k found) ≡ k = length-take-le k found (omega (arith, low)) in
    let many : length shows.alone ≡ length (take k found) = shows.as_many in
    let longer : take (k + 1) found ≡ take k found ++ one ∷ [] =
    ap (λ (n : ℕ). take n found) (add-one k) ∙ take-suc found k one low ∙ ap (λ (z : ThreadResult). take k found ++ z ∷ []) (sym is) in
    subst (λ (fs : List ThreadResult). ShowsPoints t fs more) (sym longer) (record {
      alone = shows.alone ++ ps ∷ [];
      as_many = length-append shows.alone (ps ∷ []) ∙ (let both = length-append (take k found) (one ∷ []) in omega (arith, many, both));
      are_listed = both_more (AreListedAlone t) (take k found) shows.alone one ps many shows.are_listed
          (subst (λ (n : ℕ). AreListedAlone t n one ps) (sym long) alone);
      all = same ∙ ap (λ (l : List PointReport). l ++ reported_points t k ps) shows.all
          ∙ ap (λ (n : ℕ). one_by_one (reported_points t) 0 shows.alone ++ reported_points t n ps) (sym (many ∙ long))
          ∙ sym (first_more (reported_points t) shows.alone ps);
    })

-- of a result that is there
pub if_ok : {X E : Type 0} (A B : X → Type 0) → ((x : X) → A x → B x) → (r : Result X E) → IfOk r A → IfOk r B
if_ok A B so (Ok x) a = so x a
if_ok A B so (Err e) a = tt

module _ (t : FileTree) (graphs : List InlinedProgram) (are : AreGraphsOf t graphs) (k : ℕ) (graph : InlinedProgram) (there : slice_get graphs k ≡ Some graph)
  where
    -- the points of a thread as they are listed alone
    pub listed_alone : (found : ThreadResult) (names : List (List ℕ)) (ls : List Labelled) (sites : List Site) (points : List PointReport) (states : List Invariant)
        → names ≡ globals_named t.parts → ls ≡ labels_of t → sites ≡ sites_in graph → AreListed names ls 1 sites points → map state_of points ≡ states
        → states ≡ map (shown_state box_abstraction) (thread_values found) → AreShown box_abstraction Box (shown_state box_abstraction) (thread_values found)
        → AreListedAlone t k found points
    listed_alone found names ls sites points states named labelled same listed stated shown are_shown = record {
      listed = subst (λ (ss : List Site). AreListed (globals_named t.parts) (labels_of t) 1 ss points) (same ∙ are.sites k graph there)
          (subst (λ (l : List Labelled). AreListed (globals_named t.parts) l 1 sites points) labelled
          (subst (λ (ns : List (List ℕ)). AreListed ns ls 1 sites points) named listed));
      states = stated ∙ shown;
      are_shown = are_shown;
    }

    -- a number and a path alone can come after those before
    pub room : (before n : ℕ) → before ≡ sum_by points_in (take k graphs) → n ≡ points_in graph → before + n < 2 ^ 32
    room before n is many = let few = few_points t graphs are k graph there in omega (arith, is, many, few)

    pub verdicts_alone : (ls : List Labelled) (sites : List Site) (found : Findings) → ls ≡ labels_of t → sites ≡ sites_in graph
        → map (verdict_at ls sites Assertion) found.assertions.now ++ (map (verdict_at ls sites Fit) found.fitting.now ++
        flat_map (access_verdicts_at ls sites) (map reported_view found.inside.now)) ≡ judged_alone t k found
    verdicts_alone ls sites found labelled same =
        ap (λ (l : List Labelled). map (verdict_at l sites Assertion) found.assertions.now ++ (map (verdict_at l sites Fit) found.fitting.now ++
        flat_map (access_verdicts_at l sites) (map reported_view found.inside.now))) labelled
        ∙ ap (λ (ss : List Site). map (verdict_at (labels_of t) ss Assertion) found.assertions.now ++ (map (verdict_at (labels_of t) ss Fit) found.fitting.now ++
        flat_map (access_verdicts_at (labels_of t) ss) (map reported_view found.inside.now))) (same ∙ are.sites k graph there)

-- after the points of the threads before
pub turned : {A : Type 0} (t : FileTree) (graphs : List InlinedProgram) (are : AreGraphsOf t graphs) (k before thread : ℕ) (change : ℕ → ℕ → A → A) (xs ys old new : List A)
    → before ≡ sum_by points_in (take k graphs) → thread ≡ suc k → xs ≡ ys → new ≡ old ++ map (change before thread) xs
    → new ≡ old ++ map (change (points_before t k) (suc k)) ys
turned {A} t graphs are k before thread change xs ys old new is number same all =
    all ∙ ap (λ (n : ℕ). old ++ map (change n thread) xs) (is ∙ before_same t graphs are k)
    ∙ ap (λ (n : ℕ). old ++ map (change (points_before t k) n) xs) number
    ∙ ap (λ (zs : List A). old ++ map (change (points_before t k) (suc k)) zs) same
