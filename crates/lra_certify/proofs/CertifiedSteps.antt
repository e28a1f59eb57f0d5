-- What has been written of the points, paths and listed assertions of a program is the text of its certificate.
use Rattle.std.proofs.Common.{◌≡◌, ◌⊎◌, inl, inr, ◌<◌, ◌+◌, ◌++◌, ◌∷◌, [], ℕ, zero, suc, true, List, length, map, Some, None, refl, ap, sym, ◌∙◌, subst, arith}
use Rattle.std.proofs.{lemmas.List.length-map, lemmas.List.Elements.All-contains, lemmas.List.Elements.Contains-append_cases, lemmas.Option.none-some}
use Rattle.std.specs.{List.Contains, List.All, List.AllByRecursion, List.flat_map, List.range_with_len, Prelude.slice_get}
use Rattle.lra_certify.proofs.Crates.lra_linear_spec.Membership.{contains_none, contains_head, contains_tail, contains_cases, map_from, all_from}
use Rattle.lra_certify.specs.Crates.lra_certificate_spec.CertificateText.{edges_text, listed_text, states_text, end_text}
use Rattle.lra_certify.specs.Crates.lra_certificate_spec.Certificates.{Evidence, none, infeasible, implies, ListedAssertion, live_at_source, state_from, state_to, CertifiesFrom, CertifiesPaths}
use Rattle.lra_certify.specs.Crates.lra_certificate_spec.Certificates.{CertifiesAssertion, ShowsNoClaim, Ascend, AreStates, IsWritable}
use Rattle.lra_certify.specs.Crates.lra_paths.Paths.{Path, path_by, paths_between, paths_of, violations_of, sources_of, points_of, actions_between, live_at, AreFewPaths}
use Rattle.lra_certify.specs.Crates.{lra_certificate_spec.Judged.RowsAtPoint, lra_domain.Actions.Action, lra_operations.Tree.Node, lra_operations.TreeViews.site_view, lra_path_segments.Segments.Goal}
use Rattle.lra_certify.specs.Crates.{lra_path_segments.Segments.comes_to, lra_path_segments.Segments.violates, lra_program.Program.Program, lra_program.Sites.Site, lra_program.Sites.sites_of}
use Rattle.lra_verify.specs.EdgeViews.{IsAnnotatedProgram, sites_in, states_in, actions_by, live_by}
use Rattle.lra_verify.specs.{SourceViews.LeadAs, declared.annotated.AnnotatedProgram.AnnotatedProgram}
use Rattle.lra_certify.specs.Certified.{AscendStrictly, AreListable, IsListedFound, IsCertified, AssertionStops, StopsAt, IsFailure}
use Rattle.lra_certify.specs.WrittenPaths.{paths_to, paths_from, all_paths, violating_paths, AllAreInductive, AllAssertionsInductive, edge_lines, SomeStops, IfStopped, IsListed, ListStops, AddsBody}
use Rattle.lra_certify.specs.WrittenPaths.{StopsListing, BodyStops, AddsPaths, AddsListed}
use Rattle.std.specs.List.{AllZip}
use Rattle.lra_certify.specs.{Each.Stops, Each.each_text, InductiveRows.IsInductiveAlong, InductiveRows.MustBeShown, InductiveRows.AreInductiveRows, Lines.HasPointRows}
use Rattle.lra_certify.specs.{PathEvidence.IsEvidenceFrom, PathEvidence.IsEvidenceFor, PathEvidence.StrainsAlong, PathEvidence.StopsIn, declared.failures.CertifyFailure.CertifyFailure}
use Rattle.lra_certify.specs.{declared.failures.StrainedAt.StrainedAt, declared.failures.StrainedAt.TheVariants.Edge, declared.failures.StrainedAt.TheVariants.Assertion}
use Rattle.lra_certify.specs.declared.failures.CertifyFailure.TheVariants as of_program
use Rattle.lra_certify.specs.WrittenPaths as written
use Rattle.lra_certify.proofs.{EachSteps.each_weaker, EachSteps.stops_has, PathSteps.stopped_weaker, TextSteps.are_states}

-- ---- lists of lists
abbrev IsFrom : {A B : Type 0} → (A → List B) → List A → B → Type 0
IsFrom {A} {B} f xs y = (x : A) × Contains xs x × Contains (f x) y

first_or : {A B : Type 0} (f : A → List B) (x : A) (xs : List A) (y : B) → (Contains (flat_map f xs) y → IsFrom f xs y) →
    Contains (f x) y ⊎ Contains (flat_map f xs) y → IsFrom f (x ∷ xs) y
first_or f x xs y rest (inl h) = (x, contains_head x xs, h)
first_or f x xs y rest (inr h) = let r = rest h in (r.0, contains_tail x r.0 xs r.1, r.2)

pub flat_from : {A B : Type 0} (f : A → List B) (xs : List A) (y : B) → Contains (flat_map f xs) y → IsFrom f xs y
flat_from f [] y k = absurd (contains_none y k)
flat_from f (x ∷ xs) y k = first_or f x xs y (flat_from f xs y) (Contains-append_cases (f x) (flat_map f xs) y k)

pub flat_numbers : {B : Type 0} (f h : ℕ → List B) (a n : ℕ) → ((i : ℕ) → i < a + n → f i ≡ h i) →
    flat_map f (range_with_len a n) ≡ flat_map h (range_with_len a n)
flat_numbers f h a zero e = refl
flat_numbers {B = B} f h a (suc n) e =
    ap (λ (l : List B). l ++ flat_map f (range_with_len (a + 1) n)) (e a (omega arith)) ∙
    ap (λ (l : List B). h a ++ l) (flat_numbers f h (a + 1) n (λ i k. e i (omega (arith, k))))

first_below : (a n i : ℕ) → (Contains (range_with_len (a + 1) n) i → i < a + 1 + n) → (a ≡ i) ⊎ Contains (range_with_len (a + 1) n) i → i < a + suc n
first_below a n i rest (inl e) = omega (arith, e)
first_below a n i rest (inr h) = let l = rest h in omega (arith, l)

pub in_range_below : (a n i : ℕ) → Contains (range_with_len a n) i → i < a + n
in_range_below a zero i k = absurd (contains_none i k)
in_range_below a (suc n) i k = first_below a n i (in_range_below (a + 1) n i) (contains_cases a i (range_with_len (a + 1) n) k)

-- ---- evidence that is found meets what it has to
meets_from : (live : ℕ) (path : Path) (from to : RowsAtPoint) (evidence : Evidence) → IsEvidenceFrom live path from to evidence →
    CertifiesFrom live path from to evidence
meets_from live path None to evidence h = h
meets_from live path (Some rows) to evidence h = h.meets

meets_at : (P : Program) (p : ℕ) (path : Path) (from to : RowsAtPoint) (evidence : Evidence) → IsEvidenceFrom (live_by (sites_of P) p) path from to evidence →
    CertifiesFrom (live_at_source P p) path from to evidence
meets_at P zero path from to evidence h = meets_from 0 path from to evidence h
meets_at P (suc q) path from to evidence h = meets_from (live_at P q) path from to evidence h

writable_from : (live : ℕ) (path : Path) (from to : RowsAtPoint) (evidence : Evidence) → IsEvidenceFrom live path from to evidence → IsWritable evidence
writable_from live path None to evidence h = subst (λ (e : Evidence). IsWritable e) (sym h) tt
writable_from live path (Some rows) to evidence h = h.numbers

-- a target where nothing comes has no claims
claimless : (live : ℕ) (path : Path) (from to : RowsAtPoint) (evidence : Evidence) → to ≡ None → IsEvidenceFrom live path from to evidence →
    ShowsNoClaim evidence
claimless live path None to evidence e h = subst (λ (x : Evidence). ShowsNoClaim x) (sym h) tt
claimless live path (Some rows) to none e h = tt
claimless live path (Some rows) to (infeasible m) e h = tt
claimless live path (Some rows) to (implies ms) e h = never (subst (λ (s : RowsAtPoint). IsEvidenceFrom live path (Some rows) s (implies ms)) e h)
  where
    never : IsEvidenceFrom live path (Some rows) None (implies ms) → ⊥
    never h = h.first

module _ (P : Program) (g : Node) (states : List RowsAtPoint) where
  abbrev Meant : Path → Evidence → Type 0
  Meant = IsEvidenceFor (sites_of P) states

  meets_all : (paths : List Path) (found : List Evidence) → AllZip Meant paths found → CertifiesPaths P g states paths found
  meets_all [] [] h = tt
  meets_all [] (e ∷ es) h = absurd h
  meets_all (path ∷ paths) [] h = absurd h
  meets_all (path ∷ paths) (e ∷ es) h = (
    meets_at P path.source path (state_from states path.source) (state_to states path.goal) e h.0,
    meets_all paths es h.1,
  )

  writable_all : (paths : List Path) (found : List Evidence) → AllZip Meant paths found → AllByRecursion IsWritable found
  writable_all [] [] h = tt
  writable_all [] (e ∷ es) h = absurd h
  writable_all (path ∷ paths) [] h = absurd h
  writable_all (path ∷ paths) (e ∷ es) h = (
    writable_from (live_by (sites_of P) path.source) path (state_from states path.source) (state_to states path.goal) e h.0,
    writable_all paths es h.1,
  )

  claimless_all : (q : ℕ) (paths : List Path) (found : List Evidence) → ((path : Path) → Contains paths path → path.goal ≡ violates q) →
      AllZip Meant paths found →
      AllByRecursion ShowsNoClaim found
  claimless_all q [] [] goals h = tt
  claimless_all q [] (e ∷ es) goals h = absurd h
  claimless_all q (path ∷ paths) [] goals h = absurd h
  claimless_all q (path ∷ paths) (e ∷ es) goals h = (
    claimless (live_by (sites_of P) path.source) path (state_from states path.source) (state_to states path.goal) e
        (ap (state_to states) (goals path (contains_head path paths))) h.0,
    claimless_all q paths es (λ other k. goals other (contains_tail path other paths k)) h.1,
  )

  denial_goal : (q : ℕ) (path : Path) → Contains (violations_of P g q) path → path.goal ≡ violates q
  denial_goal q path k =
      let source = flat_from (λ (p : ℕ). paths_between P g p (violates q)) (sources_of P) path k in
      let steps = map_from (path_by source.0 (violates q)) (actions_between P g source.0 (violates q)) path source.2 in
      ap (λ (x : Path). x.goal) (sym steps.2)

  abbrev Listing : ℕ → ListedAssertion → Type 0
  Listing = IsListedFound P g states

  listed_meets : (q : ℕ) (one : ListedAssertion) (site : Site) → slice_get (sites_of P) q ≡ Some site → site.asserts ≡ true → Listing q one →
      CertifiesAssertion P g states one
  listed_meets q one site there asserts (number, found) =
      record {
        site = site;
        there = subst (λ (n : ℕ). slice_get (sites_of P) n ≡ Some site) (sym number) there;
        asserts = asserts;
        paths = subst (λ (n : ℕ). CertifiesPaths P g states (violations_of P g n) one.evidence) (sym number)
            (meets_all (violations_of P g q) one.evidence found);
        no_claims = claimless_all q (violations_of P g q) one.evidence (denial_goal q) found;
      }

  all_listed : (proved : List ℕ) (listed : List ListedAssertion) →
      ((q : ℕ) → Contains proved q → (s : Site) × (slice_get (sites_of P) q ≡ Some s) × (s.asserts ≡ true)) → AllZip Listing proved listed →
      AllByRecursion (CertifiesAssertion P g states) listed × AllByRecursion (λ one. AllByRecursion IsWritable one.evidence) listed
  all_listed [] [] assert h = (tt, tt)
  all_listed [] (one ∷ more) assert h = absurd h
  all_listed (q ∷ proved) [] assert h = absurd h
  all_listed (q ∷ proved) (one ∷ more) assert h =
      let site = assert q (contains_head q proved) in
      let rest = all_listed proved more (λ n k. assert n (contains_tail q n proved k)) h.1 in
      ((listed_meets q one site.0 site.1 site.2 h.0, rest.0), (writable_all (violations_of P g q) one.evidence h.0.1, rest.1))

  ascend_all : (proved : List ℕ) (listed : List ListedAssertion) → AscendStrictly proved → AllZip Listing proved listed → Ascend listed
  ascend_all [] [] a h = tt
  ascend_all [] (one ∷ more) a h = absurd h
  ascend_all (q ∷ proved) [] a h = absurd h
  ascend_all (q ∷ []) (one ∷ []) a h = tt
  ascend_all (q ∷ []) (one ∷ two ∷ more) a h = absurd h.1
  ascend_all (q ∷ r ∷ proved) (one ∷ []) a h = absurd h.1
  ascend_all (q ∷ r ∷ proved) (one ∷ two ∷ more) a h =
      let first = h.0.0 in let second = h.1.0.0 in let low = a.0 in
      (omega (arith, first, second, low), ascend_all (r ∷ proved) (two ∷ more) a.1 h.1)

-- ---- texts
edges_same : (paths : List Path) (found : List Evidence) → each_text edge_lines paths found ≡ edges_text paths found
edges_same [] found = refl
edges_same (path ∷ paths) [] = refl
edges_same (path ∷ paths) (e ∷ es) = ap (λ (t : List ℕ). edge_lines path e ++ t) (edges_same paths es)

listed_same : (Is : ℕ → ListedAssertion → Type 0) (proved : List ℕ) (listed : List ListedAssertion) → AllZip Is proved listed →
    each_text (λ q one. listed_text one) proved listed ≡
    flat_map listed_text listed
listed_same Is [] [] h = refl
listed_same Is [] (one ∷ more) h = absurd h
listed_same Is (q ∷ proved) [] h = absurd h
listed_same Is (q ∷ proved) (one ∷ more) h = ap (λ (t : List ℕ). listed_text one ++ t) (listed_same Is proved more h.1)

-- ---- a program
module _ (P : Program) (g : Node) (w : AnnotatedProgram) (ways : IsAnnotatedProgram w) (sites : sites_in w ≡ sites_of P) (lead : LeadAs P g w.sources.now) where
  abbrev states : List RowsAtPoint
  states = states_in w

  points_many : length w.sites.now ≡ length (sites_of P)
  points_many = sym (length-map w.sites.now site_view) ∙ ap length sites

  sources_many : length w.sources.now ≡ suc (length (sites_of P))
  sources_many = ways.sources ∙ ap suc points_many

  between : (p : ℕ) (goal : Goal) → p < length w.sources.now → paths_to w p goal ≡ paths_between P g p goal
  between p goal h = ap (λ (l : List (List Action)). map (path_by p goal) l) (lead p goal h)

  from_is : (p : ℕ) → p < length w.sources.now → paths_from w p ≡ flat_map (λ q. paths_between P g p (comes_to q)) (points_of P)
  from_is p h =
      flat_numbers (λ q. paths_to w p (comes_to q)) (λ q. paths_between P g p (comes_to q)) 0 (length w.sites.now) (λ q k. between p (comes_to q) h) ∙
      ap (λ (n : ℕ). flat_map (λ q. paths_between P g p (comes_to q)) (range_with_len 0 n)) points_many

  pub all_is : all_paths w ≡ paths_of P g
  all_is =
      flat_numbers (paths_from w) (λ p. flat_map (λ q. paths_between P g p (comes_to q)) (points_of P)) 0 (length w.sources.now)
      (λ p k. from_is p (omega (arith, k))) ∙
      ap (λ (n : ℕ). flat_map (λ p. flat_map (λ q. paths_between P g p (comes_to q)) (points_of P)) (range_with_len 0 n)) sources_many

  pub denied_is : (q : ℕ) → violating_paths w q ≡ violations_of P g q
  denied_is q =
      flat_numbers (λ p. paths_to w p (violates q)) (λ p. paths_between P g p (violates q)) 0 (length w.sources.now)
      (λ p k. between p (violates q) (omega (arith, k))) ∙
      ap (λ (n : ℕ). flat_map (λ p. paths_between P g p (violates q)) (range_with_len 0 n)) sources_many

  -- found and strained of the program
  found_is : (paths : List Path) (found : List Evidence) → AllZip (IsEvidenceFor (sites_in w) states) paths found →
      AllZip (IsEvidenceFor (sites_of P) states) paths found
  found_is paths found h = subst (λ (s : List Site). AllZip (IsEvidenceFor s states) paths found) sites h

  listed_is : (q : ℕ) (one : ListedAssertion) → IsListed w q one → IsListedFound P g states q one
  listed_is q one (number, found) = (
    number,
    subst (λ (l : List Path). AllZip (IsEvidenceFor (sites_of P) states) l one.evidence) (denied_is q)
        (found_is (violating_paths w q) one.evidence found),
  )

  stops_is : (paths all : List Path) (path : Path) → paths ≡ all → StopsIn (sites_in w) states paths path → StopsIn (sites_of P) states all path
  stops_is paths all path e h = subst (λ (l : List Path). StopsIn (sites_of P) states l path) e
      (subst (λ (s : List Site). StopsIn s states paths path) sites h)

  edges_is : (found : List Evidence) → AllZip (IsEvidenceFor (sites_in w) states) (all_paths w) found →
      AllZip (IsEvidenceFor (sites_of P) states) (paths_of P g) found
  edges_is found h = subst (λ (l : List Path). AllZip (IsEvidenceFor (sites_of P) states) l found) all_is (found_is (all_paths w) found h)

  -- the text
  all_certified : (proved bytes : List ℕ) → AreListable (sites_of P) proved → AddsBody w proved [] bytes → IsCertified P g states proved bytes
  all_certified proved bytes listable h =
      let edges = edges_is h.edges.found h.edges.are in
      let listed = each_weaker (IsListed w) (IsListedFound P g states) listed_is proved h.listed.found h.listed.are in
      let all = all_listed P g states proved h.listed.found listable.assert listed in
      record {
        paths = h.edges.found;
        asserted = h.listed.found;
        meets = λ source. record {
          states = subst (λ (s : List Site). AreStates s states) sites h.states;
          paths = meets_all P g states (paths_of P g) h.edges.found edges;
          listed = all.0;
          ascend = ascend_all P g states proved h.listed.found listable.ascend listed;
          numbers = writable_all P g states (paths_of P g) h.edges.found edges;
          listed_numbers = all.1;
        };
        text = λ source. h.text ∙ ap (λ (t : List ℕ). t ++ end_text)
            (h.listed.text ∙ ap (λ (t : List ℕ). t ++ each_text (λ q one. listed_text one) proved h.listed.found)
            (h.edges.text ∙ ap (λ (t : List ℕ). states_text 1 states ++ t)
            (ap (λ (l : List Path). each_text edge_lines l h.edges.found) all_is ∙ edges_same (paths_of P g) h.edges.found)) ∙
            ap (λ (t : List ℕ). (states_text 1 states ++ edges_text (paths_of P g) h.edges.found) ++ t)
            (listed_same (IsListed w) proved h.listed.found h.listed.are));
        paths_first = edges;
        asserted_first = listed;
      }

  pub certified : (proved old bytes : List ℕ) → old ≡ [] → AreListable (sites_of P) proved → AddsBody w proved old bytes → IsCertified P g states proved bytes
  certified proved old bytes nothing listable h =
      all_certified proved bytes listable (subst (λ (t : List ℕ). AddsBody w proved t bytes) nothing h)

  -- the first path that exceeds a limit
  assertion_is : (proved : List ℕ) (q : ℕ) → Stops (IsListed w) (written.AssertionStops w) proved q →
      Stops (IsListedFound P g states) (AssertionStops P g states) proved q
  assertion_is proved q h = record {
    before = h.before;
    behind = h.behind;
    is = h.is;
    found = h.found;
    are = each_weaker (IsListed w) (IsListedFound P g states) listed_is h.before h.found h.are;
    bad = (h.bad.0, stops_is (violating_paths w q) (violations_of P g q) h.bad.0 (denied_is q) h.bad.1);
  }

  comes_goal : (path : Path) → Contains (all_paths w) path → (q : ℕ) × (path.goal ≡ comes_to q)
  comes_goal path k =
      let source = flat_from (paths_from w) (range_with_len 0 (length w.sources.now)) path k in
      let point = flat_from (λ q. paths_to w source.0 (comes_to q)) (range_with_len 0 (length w.sites.now)) path source.2 in
      let steps = map_from (path_by source.0 (comes_to point.0)) (actions_by w source.0 (comes_to point.0)) path point.2 in
      (point.0, ap (λ (x : Path). x.goal) (sym steps.2))

  edge_stops_at : (proved : List ℕ) (at : StrainedAt) → SomeStops w (all_paths w) at → StopsAt P g states proved at
  edge_stops_at proved (Edge p q) (path, (source, goal), h) =
      record { path = path; source = source; goal = goal; stops = stops_is (all_paths w) (paths_of P g) path all_is h }
  edge_stops_at proved (Assertion q) (path, goal, h) =
      let comes = comes_goal path (stops_has (IsEvidenceFor (sites_in w) states) (StrainsAlong (sites_in w) states) (all_paths w) path h) in
      absurd (other_goals comes.0 q (sym comes.1 ∙ goal))
    where
      other_goals : (p q : ℕ) → comes_to p ≡ violates q → ⊥
      other_goals p q e = cc

  listing_stops_at : (proved : List ℕ) (at : StrainedAt) → StopsListing w proved at → StopsAt P g states proved at
  listing_stops_at proved at h =
      let one = h.stops in
      subst (λ (x : StrainedAt). StopsAt P g states proved x) (sym one.1)
      (record { evidence = h.evidence; edges = edges_is h.evidence h.edges; stops = assertion_is proved one.0 one.2 })

  stops_at : (proved : List ℕ) (at : StrainedAt) → BodyStops w proved at → StopsAt P g states proved at
  stops_at proved at (inl h) = edge_stops_at proved at h
  stops_at proved at (inr h) = listing_stops_at proved at h

  pub body_fails : AreFewPaths P g → (proved : List ℕ) (e : CertifyFailure) → IfStopped (BodyStops w proved) e → IsFailure P g states proved e
  body_fails few proved (of_program.TooMany p) h = absurd h
  body_fails few proved (of_program.Strained at) h = (few, stops_at proved at h)
  body_fails few proved of_program.Memory h = tt

  -- what is asked
  stays_is : (proved : List ℕ) (p : ℕ) (goal : Goal) (path : Path) → AreInductiveRows P g states proved → p < length w.sources.now →
      MustBeShown (length (sites_of P)) proved goal →
      Contains (paths_to w p goal) path → IsInductiveAlong (sites_in w) states path
  stays_is proved p goal path stay low asked k =
      let steps = map_from (path_by p goal) (actions_between P g p goal) path (subst (λ (l : List Path). Contains l path) (between p goal low) k) in
      subst (λ (s : List Site). IsInductiveAlong s states path) (sym sites)
      (subst (λ (x : Path). IsInductiveAlong (sites_of P) states x) steps.2
      (stay p goal steps.0 (let n = sources_many in omega (arith, n, low)) asked steps.1))

  pub all_stay : (proved : List ℕ) → AreInductiveRows P g states proved → AllAreInductive w (all_paths w)
  all_stay proved stay = λ path k.
      let source = flat_from (paths_from w) (range_with_len 0 (length w.sources.now)) path k in
      let point = flat_from (λ q. paths_to w source.0 (comes_to q)) (range_with_len 0 (length w.sites.now)) path source.2 in
      let low = in_range_below 0 (length w.sources.now) source.0 source.1 in
      let few = in_range_below 0 (length w.sites.now) point.0 point.1 in
      let n = points_many in
      stays_is proved source.0 (comes_to point.0) path stay (omega (arith, low)) (omega (arith, few, n)) point.2

  pub all_denied : (proved : List ℕ) → AreInductiveRows P g states proved → AllAssertionsInductive w proved
  all_denied proved stay = λ q listed path k.
      let source = flat_from (λ p. paths_to w p (violates q)) (range_with_len 0 (length w.sources.now)) path k in
      let low = in_range_below 0 (length w.sources.now) source.0 source.1 in
      stays_is proved source.0 (violates q) path stay (omega (arith, low)) listed source.2

-- ---- all lines, as they are written
pub body_added : (w : AnnotatedProgram) (proved old first second third new : List ℕ) → IsAnnotatedProgram w → All HasPointRows w.states.now →
    first ≡ old ++ states_text 1 (states_in w) → AddsPaths w edge_lines (all_paths w) first second → AddsListed w proved second third →
    new ≡ third ++ end_text → AddsBody w proved old new
body_added w proved old first second third new ways fit points edges listed last = record {
  middle = second;
  last = third;
  states = are_states (sites_in w) w.states.now (ways.states ∙ sym (length-map w.sites.now site_view)) ways.dims
      (λ o k. All-contains HasPointRows w.states.now o fit k);
  edges = subst (λ (t : List ℕ). AddsPaths w edge_lines (all_paths w) t second) points edges;
  listed = listed;
  text = last;
}

pub sources_stop : (w : AnnotatedProgram) (proved : List ℕ) (e : CertifyFailure) → IfStopped (SomeStops w (all_paths w)) e → IfStopped (BodyStops w proved) e
sources_stop w proved e h = stopped_weaker (SomeStops w (all_paths w)) (BodyStops w proved) e (λ at x. inl x) h

pub listing_stops : (w : AnnotatedProgram) (proved first second : List ℕ) (e : CertifyFailure) → AddsPaths w edge_lines (all_paths w) first second →
    IfStopped (ListStops w proved) e → IfStopped (BodyStops w proved) e
listing_stops w proved first second e edges h =
    stopped_weaker (ListStops w proved) (BodyStops w proved) e (λ at x. inr (record { evidence = edges.found; edges = edges.are; stops = x })) h

-- the numbers of assertions are those of points
slice_get_below : {A : Type 0} (xs : List A) (i : ℕ) (x : A) → slice_get xs i ≡ Some x → i < length xs
slice_get_below [] i x e = absurd (none-some x e)
slice_get_below (y ∷ ys) zero x e = omega arith
slice_get_below (y ∷ ys) (suc i) x e = let h = slice_get_below ys i x e in omega (arith, h)

pub listable_below : (sites : List Site) (n : ℕ) (proved : List ℕ) → length sites ≡ n → AreListable sites proved → All (λ q. q < n) proved
listable_below sites n proved e h =
    all_from (λ (q : ℕ). q < n) proved (λ q k. let one = h.assert q k in let low = slice_get_below sites q one.0 one.1 in omega (arith, low, e))
