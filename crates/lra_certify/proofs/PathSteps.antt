-- Paths and assertions whose lines are written one after the other.
use Rattle.std.proofs.Common.{◌≡◌, ◌≤◌, ◌<◌, ◌+◌, ◌-◌, ◌++◌, ◌∷◌, [], ℕ, List, length, drop, map, Option, Some, None, Result, Ok, Err, refl, ap, sym, ◌∙◌, subst, arith, add-one, append_assoc}
use Rattle.std.proofs.Common.{append-nil, IfErr, OnOk, IsErrAnd, slice_index_or, Vec, ◌⊎◌, inl, inr, drop-cons, get_or}
use Rattle.std.proofs.{lemmas.List.map-append, lemmas.List.Elements.Contains-append_left, lemmas.List.Elements.Contains-get_or, lemmas.Result.err_from_is_err_and}
use Rattle.std.specs.{Borrow.Bor, Global.Global, List.Contains, List.flat_map, List.range_with_len, Prelude.slice_get}
use Rattle.lra_certify.proofs.Crates.lra_linear_spec.Membership.{contains_head, contains_cases, contains_none, map_has, map_from}
use Rattle.lra_certify.proofs.Crates.{lra_certificate_spec.CertificatesKept.range_has, lra_path_segments.Lists.flat_map_has}
use Rattle.lra_certify.specs.Crates.lra_certificate_spec.CertificateText.{edge_text, assert_text, evidence_text, listed_text}
use Rattle.lra_certify.specs.Crates.lra_certificate_spec.Certificates.{Evidence, none, ListedAssertion, state_from, state_to}
use Rattle.lra_certify.specs.Crates.lra_path_disjuncts.TableDisjuncts.{all_done, lists_done}
use Rattle.lra_certify.specs.Crates.lra_path_segments.Segments.{Goal, comes_to, violates}
use Rattle.lra_certify.specs.Crates.{lra_certificate_spec.Judged.RowsAtPoint, lra_domain.Actions.Action, lra_domain.declared.changes.Change.Change, lra_linear_spec.Descriptions.LinearRow}
use Rattle.lra_certify.specs.Crates.{lra_paths.Paths.Path, lra_paths.Paths.path_by, lra_paths.Sources.to_goal, lra_paths.declared.sources.Source.Source, lra_row_text.Texts.text_line}
use Rattle.lra_verify.specs.{EdgeViews.sites_in, EdgeViews.states_in, EdgeViews.actions_out_of, EdgeViews.actions_by, EdgeViews.live_by, declared.annotated.AnnotatedProgram.AnnotatedProgram}
use Rattle.lra_verify.proofs.EdgeSteps.{lists_next, lists_end, numbers_next, numbers_end}
use Rattle.lra_certify.specs.PathEvidence.{IsEvidenceFrom, IsEvidenceFor, StrainsFrom, StrainsAlong, StopsIn}
use Rattle.lra_certify.specs.WrittenPaths.{paths_to, paths_from, all_paths, violating_paths, AllAreInductive, edge_lines, violation_lines, AddsPaths, FoundOn, StrainsOn, IsInfeasibleEvidence}
use Rattle.lra_certify.specs.WrittenPaths.{StrainsDead, AddsDead, AllDead, DeadLeft, SomeDeadStops, SomePathStops, SomeStops, IfStopped, PathsLeft, IsListed, AddsListed, AssertionStops, ListedLeft}
use Rattle.lra_certify.specs.declared.failures.StrainedAt.TheVariants.{Edge, Assertion}
use Rattle.std.specs.List.{AllZip}
use Rattle.lra_certify.specs.{Each.each_text, Failures.failed_at, InductiveRows.IsInductiveAlong, InductiveRows.IsInductiveFrom, PathFactViews.AddsEvidence, PathFactViews.IfStrained}
use Rattle.lra_certify.specs.{WrittenPaths.ListStops, declared.failures.CertifyFailure.CertifyFailure, declared.failures.PathFailure.PathFailure, declared.failures.StrainedAt.StrainedAt}
use Rattle.lra_certify.specs.declared.failures.PathFailure.TheVariants as of_path
use Rattle.lra_certify.specs.declared.failures.CertifyFailure.TheVariants as of_program
use Rattle.lra_certify.proofs.EachSteps.{adds_one, stops_one, left_all, left_next, left_stops, left_end, stops_has}

-- ---- exits
-- an exit by the error of a call
pub exit_with : {X E : Type 0} (P : E → Type 0) (x : Result X E) (e : E) → IsErrAnd x (λ y. y ≡ e) → P e → IfErr x P
exit_with P x e is h = let p = err_from_is_err_and x is in rw (p.1, p.2) h

pub strained_weaker : (X Y : Type 0) (e : PathFailure) → (X → Y) → IfStrained X e → IfStrained Y e
strained_weaker X Y of_path.Strained f h = f h
strained_weaker X Y of_path.Memory f h = h

pub stopped_weaker : (P Q : StrainedAt → Type 0) (e : CertifyFailure) → ((at : StrainedAt) → P at → Q at) → IfStopped P e → IfStopped Q e
stopped_weaker P Q (of_program.TooMany p) f h = absurd h
stopped_weaker P Q (of_program.Strained at) f h = f at h
stopped_weaker P Q of_program.Memory f h = h

-- ---- one path
module _ (w : AnnotatedProgram) (path : Path) where
  abbrev rows_from : RowsAtPoint
  rows_from = state_from (states_in w) path.source

  abbrev rows_to : RowsAtPoint
  rows_to = state_to (states_in w) path.goal

  abbrev live : ℕ
  live = live_by (sites_in w) path.source

  stays_here : AllAreInductive w (path ∷ []) → IsInductiveAlong (sites_in w) (states_in w) path
  stays_here h = h path (contains_head path [])

  -- from a source that isn't empty
  pub stays_on : (n : ℕ) (from to : RowsAtPoint) → n ≡ live → from ≡ rows_from → to ≡ rows_to → AllAreInductive w (path ∷ []) →
      IsInductiveFrom n path.actions from to
  stays_on n from to e f t h =
      subst (λ (k : ℕ). IsInductiveFrom k path.actions from to) (sym e)
      (subst (λ (s : RowsAtPoint). IsInductiveFrom live path.actions s to) (sym f)
      (subst (λ (s : RowsAtPoint). IsInductiveFrom live path.actions rows_from s) (sym t) (stays_here h)))

  pub found_on : (n : ℕ) (from to : RowsAtPoint) (evidence : Evidence) → n ≡ live → from ≡ rows_from → to ≡ rows_to → FoundOn n path.actions from to evidence →
      IsEvidenceFor (sites_in w) (states_in w) path evidence
  found_on n from to evidence e f t h =
      subst (λ (s : RowsAtPoint). IsEvidenceFrom live path rows_from s evidence) t
      (subst (λ (s : RowsAtPoint). IsEvidenceFrom live path s to evidence) f (subst (λ (k : ℕ). IsEvidenceFrom k path from to evidence) e (h path refl)))

  pub strains_on : (n : ℕ) (from to : RowsAtPoint) → n ≡ live → from ≡ rows_from → to ≡ rows_to → StrainsOn n path.actions from to →
      StrainsAlong (sites_in w) (states_in w) path
  strains_on n from to e f t h =
      subst (λ (s : RowsAtPoint). StrainsFrom live path rows_from s) t
      (subst (λ (s : RowsAtPoint). StrainsFrom live path s to) f (subst (λ (k : ℕ). StrainsFrom k path from to) e (h path refl)))

  -- from an empty one nothing is said
  pub nothing_found : None ≡ rows_from → IsEvidenceFor (sites_in w) (states_in w) path none
  nothing_found e = subst (λ (s : RowsAtPoint). IsEvidenceFrom live path s rows_to none) e refl

  pub adds_path : (evidence : Evidence) (old middle new : List ℕ) → IsEvidenceFor (sites_in w) (states_in w) path evidence →
      middle ≡ old ++ text_line (edge_text path) →
      new ≡ middle ++ evidence_text evidence → AddsPaths w edge_lines (path ∷ []) old new
  adds_path evidence old middle new found first e =
      adds_one (IsEvidenceFor (sites_in w) (states_in w)) edge_lines path evidence old new found
      (e ∙ ap (λ (t : List ℕ). t ++ evidence_text evidence) first ∙ append_assoc old (text_line (edge_text path)) (evidence_text evidence))

  pub path_stops : StrainsAlong (sites_in w) (states_in w) path → SomePathStops w (path ∷ [])
  path_stops h = (path, stops_one (IsEvidenceFor (sites_in w) (states_in w)) edge_lines (StrainsAlong (sites_in w) (states_in w)) path h)

-- ---- which path stops
stops_at : (w : AnnotatedProgram) (p : ℕ) (goal : Goal) (path : Path) → StopsIn (sites_in w) (states_in w) (paths_to w p goal) path →
    (path.source ≡ p) × (path.goal ≡ goal)
stops_at w p goal path h =
    let from = map_from (path_by p goal) (actions_by w p goal) path
    (stops_has (IsEvidenceFor (sites_in w) (states_in w)) (StrainsAlong (sites_in w) (states_in w)) (paths_to w p goal) path h) in
    (ap (λ (x : Path). x.source) (sym from.2), ap (λ (x : Path). x.goal) (sym from.2))

pub edge_stops : (w : AnnotatedProgram) (p q : ℕ) → SomePathStops w (paths_to w p (comes_to q)) → SomeStops w (paths_to w p (comes_to q)) (Edge p q)
edge_stops w p q (path, h) = (path, stops_at w p (comes_to q) path h, h)

pub failed_edge : (w : AnnotatedProgram) (p q : ℕ) (e : PathFailure) → IfStrained (SomePathStops w (paths_to w p (comes_to q))) e →
    IfStopped (SomeStops w (paths_to w p (comes_to q))) (failed_at (Edge p q) e)
failed_edge w p q of_path.Strained h = edge_stops w p q h
failed_edge w p q of_path.Memory h = tt

-- ---- paths that stay, out of a longer list
pub stay_first : (w : AnnotatedProgram) (xs us all : List Path) → all ≡ xs ++ us → AllAreInductive w all → AllAreInductive w xs
stay_first w xs us all e h = λ path k. h path (subst (λ (l : List Path). Contains l path) (sym e) (Contains-append_left xs us path k))

-- ---- to where an assertion is false
none_each : (w : AnnotatedProgram) (p q : ℕ) (lists : List (List Action)) → None ≡ state_from (states_in w) p →
    AddsPaths w violation_lines (map (path_by p (violates q)) lists) [] []
none_each w p q [] e = record { found = []; are = tt; text = refl }
none_each w p q (steps ∷ lists) e =
    let rest = none_each w p q lists e in
    record { found = none ∷ rest.found; are = (nothing_found w (path_by p (violates q) steps) e, rest.are); text = rest.text }

pub none_denied : (w : AnnotatedProgram) (p q : ℕ) (text : List ℕ) → None ≡ state_from (states_in w) p →
    AddsPaths w violation_lines (paths_to w p (violates q)) text text
none_denied w p q text e =
    let all = none_each w p q (actions_by w p (violates q)) e in
    record { found = all.found; are = all.are; text = sym (append-nil text) ∙ ap (λ (t : List ℕ). text ++ t) all.text }

module _ (w : AnnotatedProgram) (p q n : ℕ) (rows : List LinearRow) (is : n ≡ live_by (sites_in w) p) (from : Some rows ≡ state_from (states_in w) p) where
  denied_each : (lists : List (List Action)) (found : List Evidence) → AllZip (IsInfeasibleEvidence n rows) lists found →
      AllZip (IsEvidenceFor (sites_in w) (states_in w)) (map (path_by p (violates q)) lists) found
  denied_each [] [] h = tt
  denied_each [] (e ∷ es) h = absurd h
  denied_each (steps ∷ lists) [] h = absurd h
  denied_each (steps ∷ lists) (e ∷ es) h =
      (found_on w (path_by p (violates q) steps) n (Some rows) None e is from refl h.0, denied_each lists es h.1)

  denied_text : (lists : List (List Action)) (found : List Evidence) → each_text (λ steps evidence. evidence_text evidence) lists found ≡
      each_text violation_lines (map (path_by p (violates q)) lists) found
  denied_text [] found = refl
  denied_text (steps ∷ lists) [] = refl
  denied_text (steps ∷ lists) (e ∷ es) = ap (λ (t : List ℕ). evidence_text e ++ t) (denied_text lists es)

  pub denied_adds : (lists : List (List Action)) (old new : List ℕ) → lists ≡ actions_by w p (violates q) → AddsDead n rows lists old new →
      AddsPaths w violation_lines (paths_to w p (violates q)) old new
  denied_adds lists old new e h =
      subst (λ (l : List (List Action)). AddsPaths w violation_lines (map (path_by p (violates q)) l) old new) e (record {
        found = h.found;
        are = denied_each lists h.found h.are;
        text = h.text ∙ ap (λ (t : List ℕ). old ++ t) (denied_text lists h.found);
      })

  pub denied_stops : (lists : List (List Action)) → lists ≡ actions_by w p (violates q) → SomeDeadStops n rows lists →
      SomePathStops w (paths_to w p (violates q))
  denied_stops lists e (steps, h) =
      subst (λ (l : List (List Action)). SomePathStops w (map (path_by p (violates q)) l)) e (
        path_by p (violates q) steps,
        record {
          before = map (path_by p (violates q)) h.before;
          behind = map (path_by p (violates q)) h.behind;
          is = ap (λ (l : List (List Action)). map (path_by p (violates q)) l) h.is ∙ map-append (path_by p (violates q)) h.before (steps ∷ h.behind);
          found = h.found;
          are = denied_each h.before h.found h.are;
          bad = strains_on w (path_by p (violates q) steps) n (Some rows) None is from refl h.bad;
        },
      )

-- ---- each path of a list stays

module _ (w : AnnotatedProgram) where
  pub stay_to : (p q : ℕ) → q < length w.sites.now → AllAreInductive w (paths_from w p) → AllAreInductive w (paths_to w p (comes_to q))
  stay_to p q h stay = λ path k.
      stay path (flat_map_has (λ r. paths_to w p (comes_to r)) (range_with_len 0 (length w.sites.now)) q path
      (range_has 0 (length w.sites.now) q (omega arith) (omega (arith, h))) k)

  pub stay_from : (p : ℕ) → p < length w.sources.now → AllAreInductive w (all_paths w) → AllAreInductive w (paths_from w p)
  stay_from p h stay = λ path k.
      stay path (flat_map_has (paths_from w) (range_with_len 0 (length w.sources.now)) p path
      (range_has 0 (length w.sources.now) p (omega arith) (omega (arith, h))) k)

  pub stay_denied : (q p : ℕ) → p < length w.sources.now → AllAreInductive w (violating_paths w q) → AllAreInductive w (paths_to w p (violates q))
  stay_denied q p h stay = λ path k.
      stay path (flat_map_has (λ r. paths_to w r (violates q)) (range_with_len 0 (length w.sources.now)) p path
      (range_has 0 (length w.sources.now) p (omega arith) (omega (arith, h))) k)

  pub stay_path : (f : List Action → Path) (lists : List (List Action)) (steps : List Action) → Contains lists steps → AllAreInductive w (map f lists) →
      AllAreInductive w (f steps ∷ [])
  stay_path f lists steps k stay = λ path h.
      subst (λ (x : Path). IsInductiveAlong (sites_in w) (states_in w) x) (only (f steps) path (contains_cases (f steps) path [] h))
      (stay (f steps) (map_has f lists steps k))
    where
      only : (x path : Path) → (x ≡ path) ⊎ Contains [] path → x ≡ path
      only x path (inl e) = e
      only x path (inr h) = absurd (contains_none path h)

-- a path of a list, as the code goes along it
pub list_has : (paths : List (Vec (Bor Change) Global)) (i : ℕ) (p : Vec (Bor Change) Global) (steps : List Action) → i < length paths →
    p ≡ slice_index_or paths i p →
    steps ≡ all_done p.items → Contains (lists_done paths) steps
list_has paths i p steps h is e =
    subst (λ (s : List Action). Contains (lists_done paths) s) (sym e)
    (map_has (λ v. all_done v.items) paths p (subst (λ (v : Vec (Bor Change) Global). Contains paths v) (sym is) (Contains-get_or paths i p h)))

-- ---- one after the other
module _ (w : AnnotatedProgram) (show : Path → Evidence → List ℕ) (xs us rest all : List Path) (is : rest ≡ xs ++ us) (now start : List ℕ)
    (left : PathsLeft w show rest all now start) where
  pub paths_next : (next : List ℕ) → AddsPaths w show xs now next → PathsLeft w show us all next start
  paths_next next h =
      left_next (IsEvidenceFor (sites_in w) (states_in w)) show (StrainsAlong (sites_in w) (states_in w)) xs us rest all is now start left next h

  stops_all : (path : Path) → StopsIn (sites_in w) (states_in w) xs path → StopsIn (sites_in w) (states_in w) all path
  stops_all path h = left_stops (IsEvidenceFor (sites_in w) (states_in w)) show (StrainsAlong (sites_in w) (states_in w)) xs us rest all is now start left path
      h

  pub paths_stop : {X : Type 0} (r : Result X PathFailure) (e : PathFailure) → IsErrAnd r (λ y. y ≡ e) → IfStrained (SomePathStops w xs) e →
      IfErr r (IfStrained (SomePathStops w all))
  paths_stop r e out h =
      exit_with (IfStrained (SomePathStops w all)) r e out
      (strained_weaker (SomePathStops w xs) (SomePathStops w all) e (λ x. (x.0, stops_all x.0 x.1)) h)

  pub ways_stop : {X : Type 0} (r : Result X CertifyFailure) (e : CertifyFailure) → IsErrAnd r (λ y. y ≡ e) → IfStopped (SomeStops w xs) e →
      IfErr r (IfStopped (SomeStops w all))
  ways_stop r e out h =
      exit_with (IfStopped (SomeStops w all)) r e out
      (stopped_weaker (SomeStops w xs) (SomeStops w all) e (λ at x. (x.0, x.1, stops_all x.0 x.2)) h)

pub paths_begin : (w : AnnotatedProgram) (show : Path → Evidence → List ℕ) (all : List Path) (start : List ℕ) → PathsLeft w show all all start start
paths_begin w show all start = left_all (IsEvidenceFor (sites_in w) (states_in w)) show (StrainsAlong (sites_in w) (states_in w)) all start

pub paths_end : (w : AnnotatedProgram) (show : Path → Evidence → List ℕ) (rest all : List Path) (now start : List ℕ) → rest ≡ [] →
    PathsLeft w show rest all now start →
    AddsPaths w show all start now
paths_end w show rest all now start nil left =
    left_end (IsEvidenceFor (sites_in w) (states_in w)) show (StrainsAlong (sites_in w) (states_in w)) rest all now start nil left

-- the numbers of sources, and of points
pub numbers_flat : (f : ℕ → List Path) (i n : ℕ) → i < n → flat_map f (range_with_len i (n - i)) ≡ f i ++ flat_map f (range_with_len (i + 1) (n - (i + 1)))
numbers_flat f i n h = ap (λ (l : List ℕ). flat_map f l) (numbers_next i n h)

pub no_numbers : (f : ℕ → List Path) (i n : ℕ) → n ≤ i → flat_map f (range_with_len i (n - i)) ≡ []
no_numbers f i n h = ap (λ (l : List ℕ). flat_map f l) (numbers_end i n h)

-- the paths of a list
pub paths_flat : (f : List Action → Path) (paths : List (Vec (Bor Change) Global)) (i : ℕ) (p : Vec (Bor Change) Global) (steps : List Action) →
    i < length paths →
    p ≡ slice_index_or paths i p → steps ≡ all_done p.items → map f (lists_done (drop i paths)) ≡ (f steps ∷ []) ++ map f (lists_done (drop (i + 1) paths))
paths_flat f paths i p steps h is e =
    ap (λ (l : List (List Action)). map f l) (lists_next paths i p h is) ∙
    ap (λ (s : List Action). f s ∷ map f (lists_done (drop (i + 1) paths))) (sym e)

pub no_paths : (f : List Action → Path) (paths : List (Vec (Bor Change) Global)) (i : ℕ) → length paths ≤ i → map f (lists_done (drop i paths)) ≡ []
no_paths f paths i h = ap (λ (l : List (List Action)). map f l) (lists_end paths i h)

-- ---- to where an assertion is false: of a source, and of all
pub dead_one : (n : ℕ) (rows : List LinearRow) (steps : List Action) (old new : List ℕ) → AddsEvidence (FoundOn n steps (Some rows) None) old new →
    AddsDead n rows (steps ∷ []) old new
dead_one n rows steps old new h = adds_one (IsInfeasibleEvidence n rows) (λ s evidence. evidence_text evidence) steps h.evidence old new h.is h.text

module _ (n : ℕ) (rows : List LinearRow) where
  pub dead_begin : (all : List (List Action)) (start : List ℕ) → DeadLeft n rows all all start start
  dead_begin all start = left_all (IsInfeasibleEvidence n rows) (λ s evidence. evidence_text evidence) (StrainsDead n rows) all start

  pub dead_end : (rest all : List (List Action)) (now start : List ℕ) → rest ≡ [] → DeadLeft n rows rest all now start → AddsDead n rows all start now
  dead_end rest all now start nil left =
      left_end (IsInfeasibleEvidence n rows) (λ s evidence. evidence_text evidence) (StrainsDead n rows) rest all now start nil left

  module _ (steps : List Action) (us rest all : List (List Action)) (is : rest ≡ steps ∷ us) (now start : List ℕ)
      (left : DeadLeft n rows rest all now start) where
    pub dead_next : (next : List ℕ) → AddsEvidence (FoundOn n steps (Some rows) None) now next → DeadLeft n rows us all next start
    dead_next next h =
        left_next (IsInfeasibleEvidence n rows) (λ s evidence. evidence_text evidence) (StrainsDead n rows) (steps ∷ []) us rest all is now start left next
        (dead_one n rows steps now next h)

    pub dead_stop : {X : Type 0} (r : Result X PathFailure) (e : PathFailure) → IsErrAnd r (λ y. y ≡ e) →
        IfStrained (StrainsOn n steps (Some rows) None) e → IfErr r (IfStrained (SomeDeadStops n rows all))
    dead_stop r e out h =
        exit_with (IfStrained (SomeDeadStops n rows all)) r e out
        (strained_weaker (StrainsOn n steps (Some rows) None) (SomeDeadStops n rows all) e
        (λ x. (
          steps,
          left_stops (IsInfeasibleEvidence n rows) (λ s evidence. evidence_text evidence) (StrainsDead n rows) (steps ∷ []) us rest all is now start left steps
              (stops_one (IsInfeasibleEvidence n rows) (λ s evidence. evidence_text evidence) (StrainsDead n rows) steps x),
        )) h)

-- ---- assertions
denial_texts : (Is : Path → Evidence → Type 0) (paths : List Path) (found : List Evidence) → AllZip Is paths found → each_text violation_lines paths found ≡
    flat_map evidence_text found
denial_texts Is [] [] h = refl
denial_texts Is [] (e ∷ es) h = absurd h
denial_texts Is (path ∷ paths) [] h = absurd h
denial_texts Is (path ∷ paths) (e ∷ es) h = ap (λ (t : List ℕ). evidence_text e ++ t) (denial_texts Is paths es h.1)

module _ (w : AnnotatedProgram) where
  abbrev list_text : ℕ → ListedAssertion → List ℕ
  list_text q one = listed_text one

  pub one_listed : (q : ℕ) (old first new : List ℕ) → first ≡ old ++ text_line (assert_text q) → AddsPaths w violation_lines (violating_paths w q) first new →
      AddsListed w (q ∷ []) old new
  one_listed q old first new a h =
      let one : ListedAssertion = record { number = q; evidence = h.found } in
      adds_one (IsListed w) list_text q one old new (refl, h.are)
      (h.text ∙ ap (λ (t : List ℕ). first ++ t) (denial_texts (IsEvidenceFor (sites_in w) (states_in w)) (violating_paths w q) h.found h.are) ∙
      ap (λ (t : List ℕ). t ++ flat_map evidence_text h.found) a ∙ append_assoc old (text_line (assert_text q)) (flat_map evidence_text h.found))

  pub failed_assertion : (q : ℕ) (e : PathFailure) → IfStrained (SomePathStops w (violating_paths w q)) e →
      IfStopped (ListStops w (q ∷ [])) (failed_at (Assertion q) e)
  failed_assertion q of_path.Strained h = (q, refl, stops_one (IsListed w) list_text (AssertionStops w) q h)
  failed_assertion q of_path.Memory h = tt

  pub listed_begin : (proved start : List ℕ) → ListedLeft w proved proved start start
  listed_begin proved start = left_all (IsListed w) list_text (AssertionStops w) proved start

  pub listed_end : (rest all now start : List ℕ) → rest ≡ [] → ListedLeft w rest all now start → AddsListed w all start now
  listed_end rest all now start nil left = left_end (IsListed w) list_text (AssertionStops w) rest all now start nil left

  module _ (q : ℕ) (us rest all : List ℕ) (is : rest ≡ q ∷ us) (now start : List ℕ) (left : ListedLeft w rest all now start) where
    pub listed_next : (next : List ℕ) → AddsListed w (q ∷ []) now next → ListedLeft w us all next start
    listed_next next h = left_next (IsListed w) list_text (AssertionStops w) (q ∷ []) us rest all is now start left next h

    pub listed_stop : {X : Type 0} (r : Result X CertifyFailure) (e : CertifyFailure) → IsErrAnd r (λ y. y ≡ e) → IfStopped (ListStops w (q ∷ [])) e →
        IfErr r (IfStopped (ListStops w all))
    listed_stop r e out h =
        exit_with (IfStopped (ListStops w all)) r e out
        (stopped_weaker (ListStops w (q ∷ [])) (ListStops w all) e
        (λ at x. (x.0, x.1, left_stops (IsListed w) list_text (AssertionStops w) (q ∷ []) us rest all is now start left x.0 x.2)) h)

-- numbers one after the other
pub list_next : (xs : List ℕ) (i : ℕ) → i < length xs → drop i xs ≡ get_or xs i 0 ∷ drop (i + 1) xs
list_next xs i h = drop-cons xs i 0 h ∙ ap (λ (j : ℕ). get_or xs i 0 ∷ drop j xs) (sym (add-one i))

pub number_has : (xs : List ℕ) (i : ℕ) → i < length xs → Contains xs (get_or xs i 0)
number_has xs i h = Contains-get_or xs i 0 h

-- the first path that is left of a list
pub list_first : (paths : List (Vec (Bor Change) Global)) (i : ℕ) (p : Vec (Bor Change) Global) (steps : List Action) → i < length paths →
    p ≡ slice_index_or paths i p → steps ≡ all_done p.items → lists_done (drop i paths) ≡ steps ∷ lists_done (drop (i + 1) paths)
list_first paths i p steps h is e =
    lists_next paths i p h is ∙ ap (λ (s : List Action). s ∷ lists_done (drop (i + 1) paths)) (sym e)

-- ---- a path from a source that isn't empty, as its lines are reported
module _ (w : AnnotatedProgram) (path : Path) (n : ℕ) (from to : RowsAtPoint) (live_is : n ≡ live_by (sites_in w) path.source)
    (from_is : from ≡ state_from (states_in w) path.source) (to_is : to ≡ state_to (states_in w) path.goal) where
  pub path_adds : {X : Type 0} (old middle new : List ℕ) → middle ≡ old ++ text_line (edge_text path) → (r : Result X PathFailure) →
      OnOk r (AddsEvidence (FoundOn n path.actions from to) middle new) → OnOk r (AddsPaths w edge_lines (path ∷ []) old new)
  path_adds old middle new first (Ok x) h =
      adds_path w path h.evidence old middle new (found_on w path n from to h.evidence live_is from_is to_is h.is) first h.text
  path_adds old middle new first (Err e) h = tt

  pub path_strained : {X : Type 0} (r : Result X PathFailure) → IfErr r (IfStrained (StrainsOn n path.actions from to)) →
      IfErr r (IfStrained (SomePathStops w (path ∷ [])))
  path_strained (Ok x) h = tt
  path_strained (Err e) h =
      strained_weaker (StrainsOn n path.actions from to) (SomePathStops w (path ∷ [])) e
      (λ s. path_stops w path (strains_on w path n from to live_is from_is to_is s)) h

-- ---- the paths that a source's table has for a goal
pub led_lists : (w : AnnotatedProgram) (p : ℕ) (goal : Goal) (s : Source) (lists : List (List Action)) → slice_get w.sources.now p ≡ Some s →
    lists ≡ to_goal s.entries.items s.segments.items goal → lists ≡ actions_by w p goal
led_lists w p goal s lists got led = led ∙ ap (λ (o : Option Source). actions_out_of o goal) (sym got)

-- ---- to where an assertion is false, from a source that isn't empty, as it is handed on
module _ (w : AnnotatedProgram) (p q n : ℕ) (rows : List LinearRow) (is : n ≡ live_by (sites_in w) p) (from : Some rows ≡ state_from (states_in w) p)
    (lists : List (List Action)) (led : lists ≡ actions_by w p (violates q)) where
  pub denied_stay : AllAreInductive w (paths_to w p (violates q)) → AllDead n rows lists
  denied_stay stay = λ steps k.
      let path = path_by p (violates q) steps in
      stays_on w path n (Some rows) None is from refl
      (stay_path w (path_by p (violates q)) (actions_by w p (violates q)) steps (subst (λ (l : List (List Action)). Contains l steps) led k) stay)

  pub denied_told : {X : Type 0} (old new : List ℕ) (r : Result X PathFailure) → OnOk r (AddsDead n rows lists old new) →
      OnOk r (AddsPaths w violation_lines (paths_to w p (violates q)) old new)
  denied_told old new (Ok x) h = denied_adds w p q n rows is from lists old new led h
  denied_told old new (Err e) h = tt

  pub denied_failed : {X : Type 0} (r : Result X PathFailure) → IfErr r (IfStrained (SomeDeadStops n rows lists)) →
      IfErr r (IfStrained (SomePathStops w (paths_to w p (violates q))))
  denied_failed (Ok x) h = tt
  denied_failed (Err e) h =
      strained_weaker (SomeDeadStops n rows lists) (SomePathStops w (paths_to w p (violates q))) e (denied_stops w p q n rows is from lists led) h
