-- What is found by going back has each store with which a run is at a point from which it goes on to fail: from the
-- failing assertion back, from each point to the one before it.
use Rattle.std.proofs.Common.{◌≡◌, ◌≢◌, ℕ, zero, suc, ℤ, List, [], ◌∷◌, Option, None, Some, refl, sym, ◌∙◌, subst}
use Rattle.std.proofs.lemmas.Option.{same_Some, none-some}
use Rattle.std.specs.Prelude.{slice_get}
use Rattle.lra_back_sound.specs.Crates.lra_operations.Agree.{IsInlinedTree, point_of}
use Rattle.lra_back_sound.specs.Crates.lra_program.Run.{Fails, IsFailing, IsOn, Point, Reaches, Steps, label_on, start}
use Rattle.lra_back_sound.specs.Crates.lra_program.Traces.{NoChange, Becomes, TraceEvent, RunSegment, TracedSteps, with_visit, visit}
use Rattle.lra_back_sound.specs.Crates.{lra_domain.Abstraction.Abstraction, lra_domain.Backward.BackwardAbstraction, lra_domain.Gammas.InGamma, lra_domain.Laws.Laws, lra_domain.Moves.SomeLeads}
use Rattle.lra_back_sound.specs.Crates.{lra_operations.Tree.Node, lra_path_segments.Segments.comes_to, lra_paths.Covers.PathsCover, lra_paths.Paths.actions_between, lra_program.Program.Program}
use Rattle.lra_back_sound.specs.Crates.{lra_program.Sites.Site, lra_program.Sites.sites_of, lra_program.Step.Config, lra_program.Step.next, lra_program.WellFormed.IsWellFormed}
use Rattle.lra_back_sound.proofs.Crates.{lra_inline_sound.Agreement.trees_agree, lra_inline_sound.DistinctSites.distinct_sites, lra_paths.LawsOfPaths.all_paths_cover}
use Rattle.lra_back.specs.BackwardAnalysis.{AreWide, BackwardAnalysis, FailsFrom, NothingLeftAtStart, PathsFit}
use Rattle.lra_back.specs.Operations.{lossy_back_operations}
use Rattle.lra_back_sound.specs.FailingRuns.{CoverFailingRuns, HoldsAtPoints, BackwardIsSound}
use Rattle.lra_back_sound.proofs.FoundStores.{IsHeld, found_has, held_before, held_denied}

-- one step more
steps_on : (P : Program) (n : ℕ) (c d e : Config) → Steps P n c d → next P d ≡ Some e → Steps P (suc n) c e
steps_on P zero c d e same step = (e, subst (λ x. next P x ≡ Some e) (sym same) step, refl)
steps_on P (suc n) c d e (between, first, rest) step = (between, first, steps_on P n between d e rest step)

reaches_next : (P : Program) (c d : Config) → Reaches P c → next P c ≡ Some d → Reaches P d
reaches_next P c d run step = record {
  draws = run.draws;
  words = run.words;
  length = suc run.length;
  steps = steps_on P run.length (start P run.draws) c d run.steps step;
}

module _ (P : Program) (g : Node) (well : IsWellFormed P) (is : IsInlinedTree P g) (held : ℕ → List ℤ → Type 0) (p : ℕ) (asserts : Site)
    (assertion : slice_get (sites_of P) p ≡ Some asserts)
    -- held is what a path leads from, and where the assertion fails
    (before : (c : Config) (q r : ℕ) (s t : Site) (behind : List ℤ) → slice_get (sites_of P) q ≡ Some s → slice_get (sites_of P) r ≡ Some t → Reaches P c
    → IsOn c (point_of s) → SomeLeads (actions_between P g (suc q) (comes_to r)) c.state.store behind → held r behind → held q c.state.store)
    (denied : (c : Config) → Reaches P c → IsOn c (point_of asserts) → IsFailing c.items c.here c.state → held p c.state.store) where
  cover : PathsCover P g
  cover = all_paths_cover P g well is

  -- at one point of the program
  one_number : (c : Config) (q r : ℕ) (s t : Site) → slice_get (sites_of P) q ≡ Some s → slice_get (sites_of P) r ≡ Some t → IsOn c (point_of s)
      → IsOn c (point_of t) → q ≡ r
  one_number c q r s t at there on too =
      distinct_sites P well q r s t at there (sym on.path ∙ too.path) (same_Some s.label t.label (sym on.label ∙ too.label))

  -- from the configuration on, the first point, whose store is held: where it is itself at a point, its own
  record Ahead (c : Config) : Type 0 where
    pub there : Config
    pub number : ℕ
    pub site : Site
    pub at : slice_get (sites_of P) number ≡ Some site
    pub reached : Reaches P there
    pub on : IsOn there (point_of site)
    pub steps : ℕ
    pub quiet : (xs : List (TraceEvent Point)) → TracedSteps NoChange P steps c xs there xs
    pub holds : held number there.state.store
    pub here : (q : ℕ) (s : Site) → slice_get (sites_of P) q ≡ Some s → IsOn c (point_of s) → held q c.state.store

  -- at this point
  ahead_at : (c : Config) (q : ℕ) (s : Site) → slice_get (sites_of P) q ≡ Some s → Reaches P c → IsOn c (point_of s) → held q c.state.store → Ahead c
  ahead_at c q s at run on own = record {
    there = c;
    number = q;
    site = s;
    at = at;
    reached = run;
    on = on;
    steps = 0;
    quiet = λ xs. (refl, refl);
    holds = own;
    here = λ r t there too. subst (λ n. held n c.state.store) (one_number c q r s t at there on too) own;
  }

  module _ (c d : Config) (run : Reaches P c) (step : next P c ≡ Some d) (ahead : Ahead d) where
    becomes : (o : Option ℕ) → Becomes NoChange o c.state c.state
    becomes None = refl
    becomes (Some label) = refl

    ahead_off : label_on c.items ≡ None → Ahead c
    ahead_off off = record {
      there = ahead.there;
      number = ahead.number;
      site = ahead.site;
      at = ahead.at;
      reached = ahead.reached;
      on = ahead.on;
      steps = suc ahead.steps;
      quiet = λ xs. (
        c.state,
        d,
        becomes (label_on c.items),
        step,
        subst (λ o. TracedSteps NoChange P ahead.steps d (with_visit o c.here.path c.state xs) ahead.there xs) (sym off) (ahead.quiet xs),
      );
      holds = ahead.holds;
      here = λ q s at on. absurd (none-some s.label (sym off ∙ on.label));
    }

    piece_on : (label : ℕ) (q : Point) → label_on c.items ≡ Some label → record { path = c.here.path; label = label } ≡ q →
        RunSegment NoChange P q c ahead.there
    piece_on label q on same =
        let point : Point = record { path = c.here.path; label = label } in
        subst (λ (r : Point). RunSegment NoChange P r c ahead.there) same (
          record { label = on; path = refl },
          suc ahead.steps,
          λ xs. (
            c.state,
            d,
            becomes (label_on c.items),
            step,
            subst (λ o. TracedSteps NoChange P ahead.steps d (with_visit o c.here.path c.state xs) ahead.there (visit point c.state ∷ xs)) (sym on)
                (ahead.quiet (visit point c.state ∷ xs)),
          ),
        )

    ahead_on : (label : ℕ) → label_on c.items ≡ Some label → Ahead c
    ahead_on label on =
        let point : Point = record { path = c.here.path; label = label } in
        let top : IsOn c point = record { label = on; path = refl } in
        let (q, s, at, same) = (trees_agree P g (distinct_sites P well) is).others point c.state.store (c, run, top, refl) in
        let here : IsOn c (point_of s) = subst (λ (r : Point). IsOn c r) same top in
        ahead_at c q s at run here (before c q ahead.number s ahead.site ahead.there.state.store at ahead.at run here
        (cover.goes c ahead.there q ahead.number s ahead.site at ahead.at run (piece_on label (point_of s) on same) ahead.on) ahead.holds)

    ahead_by : (o : Option ℕ) → label_on c.items ≡ o → Ahead c
    ahead_by None off = ahead_off off
    ahead_by (Some label) on = ahead_on label on

  -- from a configuration whose run goes on to fail
  ahead_of : (n : ℕ) (c failing : Config) → Reaches P c → Steps P n c failing → IsOn failing (point_of asserts)
      → IsFailing failing.items failing.here failing.state → Ahead c
  ahead_of zero c failing run same on fails =
      let top : IsOn c (point_of asserts) = subst (λ (x : Config). IsOn x (point_of asserts)) (sym same) on in
      ahead_at c p asserts assertion run top
      (denied c run top (subst (λ (x : Config). IsFailing x.items x.here x.state) (sym same) fails))
  ahead_of (suc n) c failing run (d, step, rest) on fails =
      ahead_by c d run step (ahead_of n d failing (reaches_next P c d run step) rest on fails) (label_on c.items) refl

  pub held_where_fails : (r : Site) (q : ℕ) (store : List ℤ) → slice_get (sites_of P) q ≡ Some r → FailsFrom P (point_of asserts) (point_of r) store
      → held q store
  held_where_fails r q store at f = subst (λ s. held q s) f.store_is
      ((ahead_of f.count f.there f.failing f.reached f.steps f.on_assertion f.fails).here q r at f.on)

  -- a point to which a path from the start leads, with the store of a run there
  pub record FirstHeld : Type 0 where
    pub number : ℕ
    pub site : Site
    pub at : slice_get (sites_of P) number ≡ Some site
    pub there : Config
    pub reached : Reaches P there
    pub on : IsOn there (point_of site)
    pub leads : SomeLeads (actions_between P g 0 (comes_to number)) [] there.state.store
    pub holds : held number there.state.store

  pub first_held : Fails P (point_of asserts) → FirstHeld
  first_held (failing, run, on, fails) =
      let begins : Reaches P (start P run.draws) = record { draws = run.draws; words = run.words; length = 0; steps = refl } in
      let ahead = ahead_of run.length (start P run.draws) failing begins run.steps on fails in record {
        number = ahead.number;
        site = ahead.site;
        at = ahead.at;
        there = ahead.there;
        reached = ahead.reached;
        on = ahead.on;
        leads = cover.starts run.draws ahead.steps ahead.there ahead.number ahead.site ahead.at (ahead.quiet []) ahead.on;
        holds = ahead.holds;
      }

-- over a domain ------------------------------------------------------------------------------------------------------------

module _ {V H : Type 0} (m : Abstraction V H) (b : BackwardAbstraction V) (laws : Laws m) (P : Program) (g : Node) (forward values : List V) (f flag : Option ℕ)
    (p : ℕ)
    (well : IsWellFormed P) (is : IsInlinedTree P g) (fit : PathsFit P.globals (sites_of P) g) (wide : AreWide m (sites_of P) forward)
    (holds : HoldsAtPoints m P forward)
    (z : BackwardAnalysis (lossy_back_operations m b) P.globals (sites_of P) g forward f p values flag) where
  abbrev Held : ℕ → List ℤ → Type 0
  Held q s = IsHeld m b laws P.globals (sites_of P) g forward f p values flag z q s

  before_held : (c : Config) (q r : ℕ) (s t : Site) (behind : List ℤ) → slice_get (sites_of P) q ≡ Some s → slice_get (sites_of P) r ≡ Some t → Reaches P c
      → IsOn c (point_of s) → SomeLeads (actions_between P g (suc q) (comes_to r)) c.state.store behind → Held r behind → Held q c.state.store
  before_held c q r s t behind at there run on led own =
      let (x, value, has) = holds q s c.state.store at (c, run, on, refl) in
      held_before m b laws P.globals (sites_of P) g forward f p values flag z wide fit q r s t x c.state.store behind at there value has led own

  denied_held : (s : Site) → slice_get (sites_of P) p ≡ Some s → (c : Config) → Reaches P c → IsOn c (point_of s) → IsFailing c.items c.here c.state
      → Held p c.state.store
  denied_held s at c run on fails =
      let (x, value, has) = holds p s c.state.store at (c, run, on, refl) in
      held_denied m b laws P.globals (sites_of P) g forward f p values flag z wide s x c.state.store c.state.store at value has
      ((all_paths_cover P g well is).violated c p s at run on fails)

  found_at : (q : ℕ) (s : Site) (c : Config) → slice_get (sites_of P) q ≡ Some s → Reaches P c → IsOn c (point_of s) → Held q c.state.store
      → (v : V) × (slice_get values q ≡ Some v) × InGamma m v c.state.store
  found_at q s c at run on own =
      let (x, value, has) = holds q s c.state.store at (c, run, on, refl) in
      found_has m b laws P.globals (sites_of P) g forward f p values flag z q x c.state.store value has own

  found_stores : (s r : Site) (q : ℕ) (store : List ℤ) → slice_get (sites_of P) p ≡ Some s → slice_get (sites_of P) q ≡ Some r
      → FailsFrom P (point_of s) (point_of r) store → (v : V) × (slice_get values q ≡ Some v) × InGamma m v store
  found_stores s r q store at there fails =
      let own = held_where_fails P g well is Held p s at before_held (denied_held s at) r q store there fails in
      subst (λ (t : List ℤ). (v : V) × (slice_get values q ≡ Some v) × InGamma m v t) fails.store_is
      (found_at q r fails.there there fails.reached fails.on (subst (λ t. Held q t) (sym fails.store_is) own))

  nothing_leads : (q : ℕ) (s t : List ℤ) → SomeLeads (actions_between P g 0 (comes_to q)) s t → actions_between P g 0 (comes_to q) ≢ []
  nothing_leads q s t led none = subst (λ paths. SomeLeads paths s t) none led

  never_fails : (s : Site) → slice_get (sites_of P) p ≡ Some s → NothingLeftAtStart m P.globals (sites_of P) g values → Fails P (point_of s) → ⊥
  never_fails s at empty fails =
      let one = first_held P g well is Held p s at before_held (denied_held s at) fails in
      let (v, value, has) = found_at one.number one.site one.there one.at one.reached one.on one.holds in
      laws.partless v has.0 (empty one.number v value (nothing_leads one.number [] one.there.state.store one.leads)) one.there.state.store has.1

  hold_where_runs_fail : CoverFailingRuns m P g p values
  hold_where_runs_fail = record { stores = found_stores; proved = never_fails }

pub traced_sound : {V H : Type 0} (m : Abstraction V H) (b : BackwardAbstraction V) → Laws m → BackwardIsSound m b
traced_sound m b laws P g forward values f flag p well is fit wide holds z =
    hold_where_runs_fail m b laws P g forward values f flag p well is fit wide holds z
