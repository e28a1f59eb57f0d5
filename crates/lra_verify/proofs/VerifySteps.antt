-- The lines of a program, reported source by source, are those of the definition.
use Rattle.std.proofs.Common.{◌≡◌, ◌≤◌, ◌<◌, ◌^◌, ℤ, ◌+◌, ◌++◌, ◌∷◌, [], ℕ, zero, suc, List, length, map, Bool, true, false, Option, Some, None, Ok, refl, ap, sym, ◌∙◌, subst, arith, ◌⊎◌, inl, inr}
use Rattle.std.proofs.{Common.leb, lemmas.Bool.Decides.leb_tells, lemmas.List.length-map, lemmas.Option.slice_get-get_or, lemmas.Option.slice_get-map}
use Rattle.std.specs.{List.flat_map, List.range_with_len, List.All, Prelude.if◌then◌else◌, Prelude.slice_get, Prelude.◌&&◌, Prelude.option_map, Prelude.get_or}
use Rattle.lra_verify.specs.Crates.lra_certificate_spec.Certificates.{live_at_source, state_from, state_to}
use Rattle.lra_verify.specs.Crates.lra_certificate_spec.Judged.{Left, Judged, RowsAtPoint, then_judged, judged_states, judged_path, judged_paths, violation_from, judged_violations, judged_listed}
use Rattle.lra_verify.specs.Crates.lra_certificate_spec.Judged.{after_line, is_next_line, line_on, one_more, counted}
use Rattle.lra_verify.specs.Crates.lra_systems.LinearSystems.{LinearSystem, rows_by_kind}
use Rattle.lra_verify.specs.Crates.{lra_certificate_spec.CertificateText.assert_text, lra_certificate_spec.Lines.judged_in_turn, lra_certificate_spec.Lines.left_at, lra_domain.Actions.Action}
use Rattle.lra_verify.specs.Crates.{lra_front_end.Claims.AreFew, lra_linear_spec.Kinds.is_equality, lra_linear_spec.declared.ConKind.ConKind, lra_path_disjuncts.Disjuncts.greatest_paths}
use Rattle.lra_verify.specs.Crates.{lra_path_disjuncts.Tables.IsTable, lra_path_segments.Segments.Goal, lra_path_segments.Segments.comes_to, lra_path_segments.Segments.violates}
use Rattle.lra_verify.specs.Crates.{lra_program.Program.Program, lra_program.Sites.Site, lra_program.Sites.sites_of, lra_program.declared.program.GlobalVariable.GlobalVariable}
use Rattle.lra_operations.specs.declared.tree.Site as declared
use Rattle.lra_verify.proofs.Crates.lra_path_disjuncts.TableSteps.{get_left, get_seam}
use Rattle.lra_verify.specs.EdgeViews.{edge_by, dead_by, sites_in, states_in, actions_out_of, actions_by, live_by, step_by, paths_to_by, IsAnnotatedProgram, source_by, sources_by, violation_by}
use Rattle.lra_verify.specs.EdgeViews.{violations_by, listed_by, rest_by}
use Rattle.lra_verify.specs.{PointViews.HaveDims, SourceViews.AreSources, SourceViews.LeadAs, declared.annotated.AnnotatedProgram.AnnotatedProgram}
use Rattle.lra_operations.specs.{Tree.Node, TreeViews.site_view}
use Rattle.lra_paths.specs.Paths.{Path, path_by, paths_between, paths_of, violations_of, sources_of, points_of, actions_between, actions_between_in, AreFewIn, AreFewPaths, HasTooManyIn}
use Rattle.lra_paths.specs.{Paths.HasTooManyPaths, Sources.to_goal, Sources.AreFewTo, declared.sources.Source.Source}
use Rattle.lra_certificate_lines.specs.{LineViews.IsFault, declared.refusals.VerifyError.VerifyError}
use Rattle.lra_verify.specs.Crates.lra_certificate_spec.Judged as judged
use Rattle.lra_certificate_lines.proofs.{ShowSteps.turn_both, ShowSteps.turn_same, JudgedLines.then_ok, JudgedLines.then_err, JudgedLines.then_same, JudgedLines.fault_through}
use Rattle.lra_verify.proofs.EdgeSteps.{dead_same}

-- ---- in turn, over lists of lists and over numbers
turn_map : {A B : Type 0} (f : B → Left → Judged Left) (h : A → B) (xs : List A) (l : Left) → judged_in_turn f (map h xs) l ≡ judged_in_turn (λ x. f (h x)) xs l
turn_map f h [] l = refl
turn_map f h (x ∷ xs) l =
    then_same (f (h x) l) (λ m. judged_in_turn f (map h xs) m) (λ m. judged_in_turn (λ y. f (h y)) xs m) (λ m. turn_map f h xs m)

turn_flat : {A B : Type 0} (f : B → Left → Judged Left) (h : A → List B) (xs : List A) (l : Left) → judged_in_turn f (flat_map h xs) l ≡
    judged_in_turn (λ x. judged_in_turn f (h x)) xs l
turn_flat f h [] l = refl
turn_flat f h (x ∷ xs) l =
    turn_both f (h x) (flat_map h xs) l ∙
    then_same (judged_in_turn f (h x) l) (λ m. judged_in_turn f (flat_map h xs) m) (λ m. judged_in_turn (λ y. judged_in_turn f (h y)) xs m)
    (λ m. turn_flat f h xs m)

turn_numbers : (f g : ℕ → Left → Judged Left) (a n : ℕ) → ((i : ℕ) → i < a + n → (l : Left) → f i l ≡ g i l) → (l : Left) →
    judged_in_turn f (range_with_len a n) l ≡ judged_in_turn g (range_with_len a n) l
turn_numbers f g a zero h l = refl
turn_numbers f g a (suc n) h l =
    ap (λ (j : Judged Left). then_judged j (λ m. judged_in_turn f (range_with_len (a + 1) n) m)) (h a (omega arith) l) ∙
    then_same (g a l) (λ m. judged_in_turn f (range_with_len (a + 1) n) m) (λ m. judged_in_turn g (range_with_len (a + 1) n) m)
    (λ m. turn_numbers f g (a + 1) n (λ i k. h i (omega (arith, k))) m)

-- ---- the paths of a program
module _ (P : Program) (g : Node) (states : List RowsAtPoint) where
  paths_are : (paths : List Path) (l : Left) → judged_paths P g states paths l ≡ judged_in_turn (judged_path P g states) paths l
  paths_are [] l = refl
  paths_are (path ∷ paths) l =
      then_same (judged_path P g states path l) (λ m. judged_paths P g states paths m) (λ m. judged_in_turn (judged_path P g states) paths m)
      (λ m. paths_are paths m)

  abbrev denied : Path → Left → Judged Left
  denied path l = violation_from (live_at_source P path.source) path (state_from states path.source) l

  denials_are : (paths : List Path) (l : Left) → judged_violations P g states paths l ≡ judged_in_turn denied paths l
  denials_are [] l = refl
  denials_are (path ∷ paths) l =
      then_same (denied path l) (λ m. judged_violations P g states paths m) (λ m. judged_in_turn denied paths m) (λ m. denials_are paths m)

live_same : (P : Program) (p : ℕ) → live_by (sites_of P) p ≡ live_at_source P p
live_same P zero = refl
live_same P (suc q) = refl

module _ (P : Program) (g : Node) (w : AnnotatedProgram) (ways : IsAnnotatedProgram w) (sites : sites_in w ≡ sites_of P) (lead : LeadAs P g w.sources.now) where
  many : length w.sites.now ≡ length (sites_of P)
  many = sym (length-map w.sites.now site_view) ∙ ap length sites

  live_is : (p : ℕ) → live_by (sites_in w) p ≡ live_at_source P p
  live_is p = ap (λ (s : List Site). live_by s p) sites ∙ live_same P p

  step_is : (p q : ℕ) (steps : List Action) (l : Left) → step_by w p q steps l ≡ judged_path P g (states_in w) (path_by p (comes_to q) steps) l
  step_is p q steps l =
      ap (λ (live : ℕ). edge_by live (state_from (states_in w) p) (state_to (states_in w) (comes_to q)) (path_by p (comes_to q) steps) l) (live_is p)

  way_is : (p : ℕ) → p < length w.sources.now → (q : ℕ) (l : Left) → paths_to_by w p q l ≡
      judged_in_turn (judged_path P g (states_in w)) (paths_between P g p (comes_to q)) l
  way_is p h q l =
      turn_same (step_by w p q) (λ steps. judged_path P g (states_in w) (path_by p (comes_to q) steps)) (step_is p q) (actions_by w p (comes_to q)) l ∙
      ap (λ (xs : List (List Action)). judged_in_turn (λ steps. judged_path P g (states_in w) (path_by p (comes_to q) steps)) xs l) (lead p (comes_to q) h) ∙
      sym (turn_map (judged_path P g (states_in w)) (path_by p (comes_to q)) (actions_between P g p (comes_to q)) l)

  source_is : (p : ℕ) → p < length w.sources.now → (l : Left) → source_by w p l ≡
      judged_in_turn (judged_path P g (states_in w)) (flat_map (λ q. paths_between P g p (comes_to q)) (points_of P)) l
  source_is p h l =
      ap (λ (n : ℕ). judged_in_turn (paths_to_by w p) (range_with_len 0 n) l) many ∙
      turn_same (paths_to_by w p) (λ q. judged_in_turn (judged_path P g (states_in w)) (paths_between P g p (comes_to q))) (way_is p h) (points_of P) l ∙
      sym (turn_flat (judged_path P g (states_in w)) (λ q. paths_between P g p (comes_to q)) (points_of P) l)

  all_sources : length w.sources.now ≡ suc (length (sites_of P))
  all_sources = ways.sources ∙ ap suc many

  sources_are : (l : Left) → sources_by w l ≡ judged_paths P g (states_in w) (paths_of P g) l
  sources_are l =
      turn_numbers (source_by w) (λ p. judged_in_turn (judged_path P g (states_in w)) (flat_map (λ q. paths_between P g p (comes_to q)) (points_of P)))
      0 (length w.sources.now) (λ p h m. source_is p (omega (arith, h)) m) l ∙
      ap (λ (n : ℕ). judged_in_turn (λ p. judged_in_turn (judged_path P g (states_in w)) (flat_map (λ q. paths_between P g p (comes_to q)) (points_of P)))
      (range_with_len 0 n) l) all_sources ∙
      sym (turn_flat (judged_path P g (states_in w)) (λ p. flat_map (λ q. paths_between P g p (comes_to q)) (points_of P)) (sources_of P) l) ∙
      sym (paths_are P g (states_in w) (paths_of P g) l)

  -- to where an assertion is false
  dead_is : (p q : ℕ) (steps : List Action) (l : Left) → dead_by (live_by (sites_in w) p) (state_from (states_in w) p) steps l ≡
      denied P g (states_in w) (path_by p (violates q) steps) l
  dead_is p q steps l = ap (λ (live : ℕ). dead_by live (state_from (states_in w) p) steps l) (live_is p) ∙ by (state_from (states_in w) p)
    where
      by : (from : RowsAtPoint) → dead_by (live_at_source P p) from steps l ≡ violation_from (live_at_source P p) (path_by p (violates q) steps) from l
      by None = refl
      by (Some rows) = dead_same (live_at_source P p) rows steps p (violates q) l

  denial_is : (q p : ℕ) → p < length w.sources.now → (l : Left) → violation_by w q p l ≡
      judged_in_turn (denied P g (states_in w)) (paths_between P g p (violates q)) l
  denial_is q p h l =
      turn_same (dead_by (live_by (sites_in w) p) (state_from (states_in w) p)) (λ steps. denied P g (states_in w) (path_by p (violates q) steps))
      (dead_is p q) (actions_by w p (violates q)) l ∙
      ap (λ (xs : List (List Action)). judged_in_turn (λ steps. denied P g (states_in w) (path_by p (violates q) steps)) xs l) (lead p (violates q) h) ∙
      sym (turn_map (denied P g (states_in w)) (path_by p (violates q)) (actions_between P g p (violates q)) l)

  all_denied : (q : ℕ) (l : Left) → violations_by w q l ≡ judged_violations P g (states_in w) (violations_of P g q) l
  all_denied q l =
      turn_numbers (violation_by w q) (λ p. judged_in_turn (denied P g (states_in w)) (paths_between P g p (violates q))) 0 (length w.sources.now)
      (λ p h m. denial_is q p (omega (arith, h)) m) l ∙
      ap (λ (n : ℕ). judged_in_turn (λ p. judged_in_turn (denied P g (states_in w)) (paths_between P g p (violates q))) (range_with_len 0 n) l) all_sources ∙
      sym (turn_flat (denied P g (states_in w)) (λ p. paths_between P g p (violates q)) (sources_of P) l) ∙
      sym (denials_are P g (states_in w) (violations_of P g q) l)

  listed_is : (q : ℕ) (sites : List Site) (l : Left) → listed_by (violations_by w) q sites l ≡ judged_listed P g (states_in w) q sites l
  listed_is q [] l = refl
  listed_is q (site ∷ more) l =
      by (site.asserts && is_next_line (assert_text q) (line_on l.pieces)) (λ m. listed_is (suc q) more m)
    where
      by : (b : Bool) → ((m : Left) → listed_by (violations_by w) (suc q) more m ≡ judged_listed P g (states_in w) (suc q) more m) →
          (if b then then_judged (violations_by w q (after_line l)) (λ next. one_more (listed_by (violations_by w) (suc q) more next))
          else listed_by (violations_by w) (suc q) more l) ≡
          (if b then then_judged (judged_violations P g (states_in w) (violations_of P g q) (after_line l))
          (λ next. one_more (judged_listed P g (states_in w) (suc q) more next)) else judged_listed P g (states_in w) (suc q) more l)
      by true h =
          ap (λ (j : Judged Left). then_judged j (λ next. one_more (listed_by (violations_by w) (suc q) more next))) (all_denied q (after_line l)) ∙
          then_same (judged_violations P g (states_in w) (violations_of P g q) (after_line l))
          (λ next. one_more (listed_by (violations_by w) (suc q) more next)) (λ next. one_more (judged_listed P g (states_in w) (suc q) more next))
          (λ m. ap one_more (h m))
      by false h = h l

  -- all lines after the points
  pub rest_is : (l : Left) → rest_by w l ≡ then_judged (judged_paths P g (states_in w) (paths_of P g) l)
      (λ m. then_judged (judged_listed P g (states_in w) 0 (sites_of P) m) (λ x. counted (length (sites_of P)) x))
  rest_is l =
      ap (λ (j : Judged Left). then_judged j (λ m. then_judged (listed_by (violations_by w) 0 (sites_in w) m) (λ x. counted (length w.sites.now) x)))
      (sources_are l) ∙
      then_same (judged_paths P g (states_in w) (paths_of P g) l)
      (λ m. then_judged (listed_by (violations_by w) 0 (sites_in w) m) (λ x. counted (length w.sites.now) x))
      (λ m. then_judged (judged_listed P g (states_in w) 0 (sites_of P) m) (λ x. counted (length (sites_of P)) x)) after
    where
      after : (m : Left) → then_judged (listed_by (violations_by w) 0 (sites_in w) m) (λ x. counted (length w.sites.now) x) ≡
          then_judged (judged_listed P g (states_in w) 0 (sites_of P) m) (λ x. counted (length (sites_of P)) x)
      after m =
          ap (λ (j : Judged (ℕ × Left)). then_judged j (λ x. counted (length w.sites.now) x)) (listed_is 0 (sites_in w) m) ∙
          ap (λ (s : List Site). then_judged (judged_listed P g (states_in w) 0 s m) (λ x. counted (length w.sites.now) x)) sites ∙
          ap (λ (n : ℕ). then_judged (judged_listed P g (states_in w) 0 (sites_of P) m) (λ x. counted n x)) many

-- ---- sources, one after the other
module _ (F : ℕ → Goal → List (List Action)) where
  pub leads_pushed : (old : List Source) (s : Source) (n : ℕ) → length old ≡ n →
      ((p : ℕ) (goal : Goal) → p < n → actions_out_of (slice_get old p) goal ≡ F p goal) →
      ((goal : Goal) → to_goal s.entries.items s.segments.items goal ≡ F n goal) →
      (p : ℕ) (goal : Goal) → p < n + 1 → actions_out_of (slice_get (old ++ s ∷ []) p) goal ≡ F p goal
  leads_pushed old s n e so_far this p goal h = by (leb_tells n p)
    where
      by : ((leb n p ≡ true) × (n ≤ p)) ⊎ ((leb n p ≡ false) × (p < n)) → actions_out_of (slice_get (old ++ s ∷ []) p) goal ≡ F p goal
      by (inl past) =
          let after = past.1 in
          let same : p ≡ length old = omega (arith, after, h, e) in
          ap (λ (o : Option Source). actions_out_of o goal) (ap (slice_get (old ++ s ∷ [])) same ∙ get_seam old s []) ∙ this goal ∙
          ap (λ (k : ℕ). F k goal) (let k : n ≡ p = omega (arith, after, h) in k)
      by (inr early) =
          let before = early.1 in
          ap (λ (o : Option Source). actions_out_of o goal) (get_left old (s ∷ []) p (omega (arith, before, e))) ∙ so_far p goal before

pub sources_few : (globals : List GlobalVariable) (sites : List Site) (g : Node) (sources : List Source) → length sources ≡ suc (length sites) →
    ((p : ℕ) (goal : Goal) → p ≤ length sites → actions_out_of (slice_get sources p) goal ≡ actions_between_in globals sites g p goal) →
    AreFewIn globals sites g → All (λ s. AreFewTo s.entries.items s.segments.items) sources
sources_few globals sites g sources n leads few = λ k d h goal.
    let low : k ≤ length sites = omega (arith, h, n) in
    subst (λ (xs : List (List Action)). length xs ≤ greatest_paths)
    (sym (leads k goal low) ∙ ap (λ (o : Option Source). actions_out_of o goal) (slice_get-get_or sources k d h)) (few k low goal)

-- ---- all lines after the source
module _ (P : Program) (g : Node) (w : AnnotatedProgram) (ways : IsAnnotatedProgram w) (sites : sites_in w ≡ sites_of P) (lead : LeadAs P g w.sources.now) where
  abbrev behind_points : List RowsAtPoint × Left → Judged (ℕ × ℕ)
  behind_points r = then_judged (judged_paths P g r.0 (paths_of P g) r.1)
      (λ m. then_judged (judged_listed P g r.0 0 (sites_of P) m) (λ x. counted (length (sites_of P)) x))

  pub lines_are_judged : (bytes : List ℕ) (l : Left) → judged_states 1 (sites_in w) (left_at bytes 0) ≡ Ok (states_in w, l) →
      rest_by w l ≡ judged.judged P g bytes
  lines_are_judged bytes l took =
      rest_is P g w ways sites lead l ∙
      sym (ap (λ (s : List Site). then_judged (judged_states 1 s (left_at bytes 0)) behind_points) (sym sites) ∙
      then_ok (judged_states 1 (sites_in w) (left_at bytes 0)) behind_points (states_in w, l) took)

pub points_fault : (P : Program) (g : Node) (all : List Site) (bytes : List ℕ) (e : VerifyError) → all ≡ sites_of P →
    IsFault (judged_states 1 all (left_at bytes 0)) e → IsFault (judged.judged P g bytes) e
points_fault P g all bytes e same = fault_through (judged_states 1 all (left_at bytes 0)) (judged.judged P g bytes) e
    (λ r is. then_err (judged_states 1 (sites_of P) (left_at bytes 0)) (λ (x : List RowsAtPoint × Left).
    then_judged (judged_paths P g x.0 (paths_of P g) x.1)
    (λ m. then_judged (judged_listed P g x.0 0 (sites_of P) m) (λ y. counted (length (sites_of P)) y))) r
    (ap (λ (s : List Site). judged_states 1 s (left_at bytes 0)) (sym same) ∙ is))

-- ---- a program is ready to be judged
pub ways_ready : (w : AnnotatedProgram) (states : List (Option (LinearSystem ConKind))) → w.start.now.rows ≡ [] → w.start.now.dims ≡ 0 → w.states.now ≡ states →
    length states ≡ length w.sites.now → HaveDims (sites_in w) states → AreSources (length w.sites.now) w.sources.now →
    length w.sites.now < 2 ^ 31 → All (λ s. s.live < 2 ^ 31) w.sites.now → IsAnnotatedProgram w
ways_ready w states none no_dims said count dims sources short live = record {
  states = ap (λ (x : List (Option (LinearSystem ConKind))). length x) said ∙ count;
  sources = sources.count;
  many = short;
  tables = sources.tables;
  few = sources.few;
  start_rows = ap (λ (x : List (List ℤ)). rows_by_kind is_equality x w.start.now.kinds) none;
  start_dims = no_dims;
  dims = subst (λ (x : List (Option (LinearSystem ConKind))). HaveDims (sites_in w) x) (sym said) dims;
  live = live;
}

-- ---- the sources of a program, and what is found of its paths
module _ (g : Node) (globals : List GlobalVariable) (sites : List declared.Site) (items sources : List Source) (same : sources ≡ items)
    (count : length items ≡ suc (length sites))
    (leads : (p : ℕ) (goal : Goal) → p ≤ length sites → actions_out_of (slice_get items p) goal ≡ actions_between_in globals (map site_view sites) g p goal)
  where
    pub sources_ready : (given : List GlobalVariable) (all seen : List declared.Site) → globals ≡ given → sites ≡ all → seen ≡ all →
        All (λ s. IsTable s.entries.items) items → AreFewIn given (map site_view all) g → AreSources (length seen) sources
    sources_ready given all seen of_globals of_sites is tables few =
        let here : AreFewIn globals (map site_view sites) g =
        subst (λ (gs : List GlobalVariable). AreFewIn gs (map site_view sites) g) (sym of_globals)
        (subst (λ (xs : List declared.Site). AreFewIn given (map site_view xs) g) (sym of_sites) few) in
        let ready : AreSources (length seen) items = record {
          count = count ∙ ap (λ (xs : List declared.Site). suc (length xs)) (of_sites ∙ sym is);
          tables = tables;
          few = sources_few globals (map site_view sites) g items (count ∙ ap suc (sym (length-map sites site_view)))
              (λ p goal low. leads p goal (subst (λ (n : ℕ). p ≤ n) (length-map sites site_view) low)) here;
        } in
        subst (λ (xs : List Source). AreSources (length seen) xs) (sym same) ready

    pub lead_ready : (P : Program) → globals ≡ P.globals → map site_view sites ≡ sites_of P → LeadAs P g sources
    lead_ready P of_globals of_sites = subst (λ (xs : List Source). LeadAs P g xs) (sym same) (λ p goal h.
        leads p goal (omega (arith, h, count)) ∙ ap (λ (gs : List GlobalVariable). actions_between_in gs (map site_view sites) g p goal) of_globals ∙
        ap (λ (xs : List Site). actions_between_in P.globals xs g p goal) of_sites)

module _ (P : Program) (g : Node) (globals : List GlobalVariable) (sites : List Site) (of_globals : globals ≡ P.globals)
    (of_sites : sites ≡ sites_of P) where
  pub few_ready : AreFewIn globals sites g → AreFewPaths P g
  few_ready few =
      subst (λ (gs : List GlobalVariable). AreFewIn gs (sites_of P) g) of_globals
      (subst (λ (xs : List Site). AreFewIn globals xs g) of_sites few)

  pub many_ready : (q n : ℕ) → q ≡ n → HasTooManyIn globals sites g q → HasTooManyPaths P g n
  many_ready q n is many =
      subst (HasTooManyPaths P g) is
      (subst (λ (gs : List GlobalVariable). HasTooManyIn gs (sites_of P) g q) of_globals
      (subst (λ (xs : List Site). HasTooManyIn globals xs g q) of_sites many))

-- ---- few variables live at each point
pub live_few : (all : List declared.Site) (T : List Site) → map site_view all ≡ T → AreFew T → All (λ s. s.live < 2 ^ 31) all
live_few all T e few = λ k d h.
    let s = slice_get-get_or all k d h in
    let got = ap (λ (x : List Site). slice_get x k) (sym e) ∙ slice_get-map site_view all k ∙ ap (option_map site_view) s in
    let low = few k (site_view (get_or all k d)) got in
    omega (arith, low)
