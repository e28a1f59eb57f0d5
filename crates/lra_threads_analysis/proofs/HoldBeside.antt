-- What the rounds of threads end with holds of all that the threads do beside each other.
use Rattle.std.proofs.Common.{◌≡◌, ◌∙◌, ◌<◌, ℕ, ℤ, List, length, Some, Bool, true, refl, sym, ap, subst}
use Rattle.std.proofs.lemmas.Option.{same_Some}
use Rattle.std.specs.{List.Contains, Prelude.slice_get}
use Rattle.lra_threads_analysis.proofs.Crates.{lra_inline_sound.Agreement.traces_agree, lra_inline_sound.CheckedOperations.trees_agree_on_accesses, lra_inline_sound.DistinctSites.distinct_sites}
use Rattle.lra_threads_analysis.proofs.Crates.{lra_inline_sound.NextOperations.strays, lra_interference_sound.ByTrees.interleaved_by_trees, lra_linear_spec.Membership.map_from}
use Rattle.lra_threads_analysis.proofs.Crates.{lra_linear_spec.Membership.map_has, lra_operations.TraceUses.renamed, lra_operations.TraceUses.goes_named}
use Rattle.lra_threads_analysis.specs.Crates.lra_interference_sound.WritesAgree.{TreeWrites, TreesWriteWithin}
use Rattle.lra_threads_analysis.specs.Crates.lra_interleavings.Interleavings.{thread_program, AtThread, FailsThread, OutOfBoundsThread}
use Rattle.lra_threads_analysis.specs.Crates.lra_operations.Traces.{Stop, to_point, to_failure, stopped}
use Rattle.lra_threads_analysis.specs.Crates.lra_operations.TracesAgree.{KeepsWidth, point_at, TreeRunsUpTo, TracesAgree}
use Rattle.lra_threads_analysis.specs.Crates.{lra_analysis_spec.Analysis.IsUnreachable, lra_base.declared.refusals.Place.Place, lra_box.Abstraction.box_abstraction, lra_box.Content.BoxContent}
use Rattle.lra_threads_analysis.specs.Crates.{lra_box.Laws.box_laws, lra_domain.Interference.Interference, lra_fixpoint.Tables.note_view, lra_fixpoint.UnderInterference.begins}
use Rattle.lra_threads_analysis.specs.Crates.{lra_fixpoint.UnderInterference.RunsUnder, lra_interleavings.ThreadModular.NextOpIsThere, lra_interleavings.ThreadModular.IsThreadModular}
use Rattle.lra_threads_analysis.specs.Crates.{lra_operations.Agree.point_of, lra_operations.TreeViews.node_view, lra_operations.declared.tree.InlinedProgram.InlinedProgram}
use Rattle.lra_threads_analysis.specs.Crates.{lra_program.Accesses.OpOutOfBounds, lra_program.Program.Function, lra_program.Program.Program, lra_program.Run.Point, lra_program.Sites.Site}
use Rattle.lra_threads_analysis.specs.Crates.{lra_program.Sites.sites_of, lra_program.Step.State, lra_program.Traces.Trace, lra_program.Traces.Arrives, lra_program.Traces.ViolatesAssertion}
use Rattle.lra_threads_fixpoint.specs.{Interference.threads_interference, Rounds.ThreadsFixpoint}
use Rattle.lra_threads_analysis.specs.Found.{thread_values, verdicts_of, notes_of, access_verdicts_of, write_in, writes_in, thread_finding}
use Rattle.lra_threads_analysis.specs.Interleaved.{IsThread, AreThreads, HoldsInterleaved, ThreadsHold}
use Rattle.lra_threads_analysis.specs.{Holding.HoldsInRound, Holding.AllHold, Written.HasWritten, declared.found.ThreadResult.ThreadResult}
use Rattle.lra_threads_analysis.proofs.Allowed.{BecomesAmong, all_allowed, keeps_width}
use Rattle.lra_threads_analysis.proofs.{ChecksUnder.asks_among, Held.held_among, InsideHolds.inside_holds, NamedWrites.gives_named, NotesWritten.notes_written}

-- what is noted is a write
gift_listed : (found : ThreadResult) (q x : ℕ) (v : BoxContent) → Contains (notes_of found) (q, x, v) → Contains (writes_in found) (x, v)
gift_listed found q x v among =
    let (note, listed, is) = map_from note_view found.noted.notes.items (q, x, v) among in
    subst (λ (g : ℕ × BoxContent). Contains (writes_in found) g) (ap (λ (n : ℕ × ℕ × BoxContent). (n.1, n.2)) is)
    (map_has write_in found.noted.notes.items note listed)

module _ (P : Program) (fs : List Function) (graphs : List InlinedProgram) (end : ThreadsFixpoint ThreadResult) (are : AreThreads P fs graphs)
    (all : AllHold P.globals graphs end) where
  -- what others may do to the k-th thread's state
  abbrev may : ℕ → State → State → Type 0
  may = BecomesAmong (length P.globals) end.table

  abbrev beside : ℕ → Interference BoxContent
  beside k = threads_interference (length P.globals) k end.table

  abbrev Within : ℕ → ℕ → ℤ → Type 0
  Within = HasWritten end.table

  keeps : (k : ℕ) → KeepsWidth (may k)
  keeps = keeps_width (length P.globals) end.table

  -- one thread by its tree -----------------------------------------------------------------------------------------------

  -- of the k-th thread
  abbrev InRound : ℕ → Function → Type 0
  InRound k f = (graph : InlinedProgram) × (t : IsThread P f graph) × HoldsInRound (thread_program P f) k graph t.tree end

  in_round : (k : ℕ) (f : Function) → slice_get fs k ≡ Some f → InRound k f
  in_round k f at = let (graph, there, t) = are k f at in (graph, t, all.each (thread_program P f) k graph t.tree refl there t.opens)

  -- what its tree gives is in its intervals
  gift_written : (k : ℕ) (f : Function) (r : InRound k f) (draws : List ℤ) (q x : ℕ) (z : ℤ) (a : Trace Point)
      → TreeWrites (may k) (thread_program P f) r.1.tree draws q x a → x < length P.globals → slice_get a.state.store x ≡ Some z → Within k x z
  gift_written k f (graph, t, round) draws q x z a gives low at =
      let own = thread_program P f in
      let found = round.found in
      let (d, goes, named) = gives_named (point_at (sites_of own)) (λ n. n) (may k) t.tree (begins own draws) q x a gives in
      let (v, among, has) = round.holds.gives q x draws d low goes in
      let gift = gift_listed found q x v among in
      let here : slice_get d.state.store x ≡ Some z = subst (λ (b : Trace Point). slice_get b.state.store x ≡ Some z) named at in
      notes_written thread_finding (length P.globals) end.found end.table all.within k found round.is_found x v d.state.store z low gift has here

  trees : TreesWriteWithin P fs Within may
  trees k f at =
      let r = in_round k f at in
      (r.1.tree, r.1.is_graph, λ draws q x z a. gift_written k f r draws q x z a)

  -- so each thread runs as one among others
  woven : IsThreadModular P fs Within may
  woven = interleaved_by_trees P fs Within may (all_allowed P fs end.table) keeps trees

  -- a thread's runs and those of its tree --------------------------------------------------------------------------------

  module _ (k q : ℕ) (f : Function) (s : Site) (at : slice_get fs k ≡ Some f) (site : slice_get (sites_of (thread_program P f)) q ≡ Some s)
      (graph : InlinedProgram) (t : IsThread P f graph) where
    abbrev own : Program
    own = thread_program P f

    trails : TracesAgree (may k) own t.tree
    trails = traces_agree (may k) (keeps k) own t.tree (distinct_sites own t.well) t.is_graph

    -- the function of a run is the thread's
    same_function : (h : Function) → slice_get fs k ≡ Some h → h ≡ f
    same_function h there = same_Some h f (sym there ∙ at)

    -- a run of the tree, by the numbers of points
    abbrev Followed : List ℤ → Stop → Trace Point → Type 0
    Followed draws z a = (d : Trace ℕ) × RunsUnder (beside k) own t.tree draws z d × (a ≡ renamed (point_at (sites_of own)) d)

    followed : (draws : List ℤ) (z : Stop) (a : Trace Point) → TreeRunsUpTo (may k) own t.tree draws z a → Followed draws z a
    followed draws z a goes = goes_named (point_at (sites_of own)) (λ n. n) (may k) t.tree (begins own draws) (stopped z) a goes

    arrives : (h : Function) (draws : List ℤ) (a : Trace Point) → slice_get fs k ≡ Some h → Arrives (may k) (thread_program P h) draws (point_of s) a
        → Followed draws (to_point q) a
    arrives h draws a there run =
        followed draws (to_point q) a ((trails.comes q s draws a site).0
        (subst (λ (g : Function). Arrives (may k) (thread_program P g) draws (point_of s) a) (same_function h there) run))

    denies : (h : Function) (draws : List ℤ) (a : Trace Point) → slice_get fs k ≡ Some h → ViolatesAssertion (may k) (thread_program P h) draws (point_of s) a
        → Followed draws (to_failure q) a
    denies h draws a there run =
        followed draws (to_failure q) a ((trails.fails q s draws a site).0
        (subst (λ (g : Function). ViolatesAssertion (may k) (thread_program P g) draws (point_of s) a) (same_function h there) run))

    -- what becomes of where a run stands
    abbrev Stands : State → Type 0
    Stands u = (draws : List ℤ) × (d : Trace ℕ) × RunsUnder (beside k) own t.tree draws (to_point q) d × may k d.state u

    stands_by : (h : Function) (draws : List ℤ) (a : Trace Point) (u : State) → slice_get fs k ≡ Some h
        → Arrives (may k) (thread_program P h) draws (point_of s) a → may k a.state u → Stands u
    stands_by h draws a u there run becomes =
        let (d, goes, named) = arrives h draws a there run in
        (draws, d, goes, subst (λ (b : Trace Point). may k b.state u) named becomes)

    stands_at : (store : List ℤ) → AtThread P fs k (point_of s) store → (u : State) × Stands u × (u.store ≡ store)
    stands_at store stands =
        let (a, u, among, becomes, same) = woven.stands k (point_of s) store stands in
        (u, stands_by among.function among.draws a u among.is_thread among.does becomes, same)

    module _ (round : HoldsInRound own k graph t.tree end) where
      abbrev found : ThreadResult
      found = round.found

      is_own : (other : ThreadResult) → slice_get end.found k ≡ Some other → other ≡ found
      is_own other there = same_Some other found (sym there ∙ round.is_found)

      store_held : (store : List ℤ) → AtThread P fs k (point_of s) store
          → (v : BoxContent) × (slice_get (thread_values found) q ≡ Some v) × box_abstraction.gamma v store × (box_abstraction.dims v ≡ length store)
      store_held store stands =
          let (u, (draws, d, goes, becomes), same) = stands_at store stands in
          let (v, there, has, wide) = round.holds.stores q draws d u goes becomes in
          (v, there, subst (λ (ys : List ℤ). box_abstraction.gamma v ys) same has, wide ∙ ap length same)

      never_fails : Contains (verdicts_of found) (q, true) → FailsThread P fs k (point_of s) → ⊥
      never_fails listed fails =
          let (a, among) = woven.fails k (point_of s) fails in
          let (d, goes, named) = denies among.function among.draws a among.is_thread among.does in
          round.holds.proved q among.draws d listed goes

      never_there : (v : BoxContent) (store : List ℤ) → slice_get (thread_values found) q ≡ Some v → IsUnreachable box_abstraction v
          → AtThread P fs k (point_of s) store → ⊥
      never_there v store there none stands =
          let (u, (draws, d, goes, becomes), same) = stands_at store stands in
          round.holds.unreached q v draws d there none goes

      -- a run that strays there asks, of the state that others left, what the tree asks there
      asked_outside : (n : ℕ) (h : Function) (draws : List ℤ) (a : Trace Point) → slice_get fs k ≡ Some h
          → NextOpIsThere (may k) (λ op u. OpOutOfBounds op u n) (thread_program P h) draws (point_of s) a → (js : List (Place × Bool)) (place : Place)
          → Contains (access_verdicts_of found) (q, js) → slice_get js n ≡ Some (place, true) → ⊥
      asked_outside n h draws a there run js place listed inner =
          let mine = subst (λ (g : Function). NextOpIsThere (may k) (λ op u. OpOutOfBounds op u n) (thread_program P g) draws (point_of s) a)
          (same_function h there) run in
          let distinct = distinct_sites own t.well in
          let b = asks_among (may k) (keeps k) (λ x y becomes. becomes.draws) (strays n) own t.tree distinct t.is_graph q s draws a site mine in
          let (steps, c, xs, walk, on, becomes, asks, met) = mine in
          let (drawn, d, goes, left) = stands_by f draws (record { state = c.state; events = xs }) a.state at (steps, c, walk, on, refl) becomes in
          let (plan, solved) = round.solved in
          let (v, value, held) = held_among (beside k) box_abstraction box_laws plan own t.well.globals t.tree (node_view graph.tree) t.opens
          (thread_values found) (notes_of found) (verdicts_of found) found.noted.solution.flagged solved q drawn d a.state goes left in
          inside_holds t.tree (trees_agree_on_accesses own t.tree distinct t.is_graph n).once box_abstraction box_laws (thread_values found) round.inside.0
          (access_verdicts_of found) _ round.inside.1 q js n place listed inner b.asked v a.state b.among b.there value held b.holds

      never_strays : (js : List (Place × Bool)) (n : ℕ) (place : Place) → Contains (access_verdicts_of found) (q, js)
          → slice_get js n ≡ Some (place, true) → OutOfBoundsThread P fs k (point_of s) n → ⊥
      never_strays js n place listed inner strays_there =
          let (a, among) = woven.strays k (point_of s) n strays_there in
          asked_outside n among.function among.draws a among.is_thread among.does js place listed inner

  -- all of them ----------------------------------------------------------------------------------------------------------

  pub hold_beside : HoldsInterleaved P fs end
  hold_beside = record {
    stores = λ k q f s store at site stands. let (graph, t, round) = in_round k f at in
        let (v, there, has, wide) = store_held k q f s at site graph t round store stands in
        (round.found, round.is_found, v, there, has, wide);
    proved = λ k q f s found at site there listed fails. let (graph, t, round) = in_round k f at in
        never_fails k q f s at site graph t round
        (subst (λ (x : ThreadResult). Contains (verdicts_of x) (q, true)) (is_own k q f s at site graph t round found there) listed) fails;
    unreached = λ k q f s store found v at site there is none stands. let (graph, t, round) = in_round k f at in
        never_there k q f s at site graph t round v store
        (subst (λ (x : ThreadResult). slice_get (thread_values x) q ≡ Some v) (is_own k q f s at site graph t round found there) is) none stands;
    inside = λ k q f s found js n place at site there listed inner strays_there. let (graph, t, round) = in_round k f at in
        never_strays k q f s at site graph t round js n place
        (subst (λ (x : ThreadResult). Contains (access_verdicts_of x) (q, js)) (is_own k q f s at site graph t round found there) listed) inner strays_there;
    gives = woven.within;
  }

pub threads_hold : ThreadsHold
threads_hold P fs graphs end are all = hold_beside P fs graphs end are all
