-- Step by step, for all threads at once: what a thread has done beside the others it has done in a run among others.
use Rattle.std.proofs.Common.{◌≡◌, ◌≢◌, ℕ, zero, suc, ℤ, ◌≤◌, ◌<◌, List, [], ◌∷◌, ◌++◌, length, map, take, drop, set, Option, Some, None, inl, inr, refl, sym, ap, ◌∙◌, subst, arith}
use Rattle.std.proofs.lemmas.List.{length-map, length-take-le, take_all, take-append-drop, length-append}
use Rattle.std.proofs.{Math.Seq.take-append_seam, lemmas.Bool.cases_eq, lemmas.Option.same_Some, lemmas.Option.none-some, lemmas.Option.slice_get_within}
use Rattle.std.specs.{List.AllByRecursion, Prelude.slice_get, Prelude.slice_set, Prelude.IsTrue}
use Rattle.lra_program.specs.{Accesses.IsOutOfBounds, Program.Function, Program.Program, Run.begun, Run.start, Run.label_on, Run.Point, Run.IsOn, Run.IsFailing, Step.State, Step.Config}
use Rattle.lra_program.specs.{Traces.TraceEvent, Traces.visit, Traces.Trace, Traces.NoChange, Traces.TracedSteps, Value.is_word, declared.program.GlobalVariable.GlobalVariable}
use Rattle.lra_interleavings.specs.Interleavings.{thread_program, Thread, Threads, seen_by, sees, own_of, left_by, ended, LeadsOn, RunsThere, IsAtFirst, AreBegun, Interleaves, begins, moves, StandsAt}
use Rattle.lra_interleavings.specs.Interleavings.{ThreadWritesValue}
use Rattle.lra_interleavings.specs.ThreadModular.{RepeatedWrites, none, OthersWrite, OthersInterfere, AreAllowed, WritesThere, ThreadWritesUnder, WriteWithin, ArrivesUnder, ViolatesUnder}
use Rattle.lra_interleavings.specs.ThreadModular.{OutOfBoundsUnder, IsThreadModular, ThreadsAreModular, TestedThreadsAreModular}
use Rattle.lra_interleavings.proofs.RunSegments.{Comes, piece, given, quiet_of, quiet_walk, still, changes_on, changes_width, changes_before, changes_for}
use Rattle.lra_interleavings.proofs.{MachineSteps.IsDeep, Operations.set_there}

module _ {A : Type 0} where
  set_elsewhere : (xs : List A) (k q : ℕ) (x : A) → k ≢ q → slice_get (set xs k x) q ≡ slice_get xs q
  set_elsewhere [] k q x n = refl
  set_elsewhere (y ∷ ys) zero zero x n = absurd (n refl)
  set_elsewhere (y ∷ ys) zero (suc q) x n = refl
  set_elsewhere (y ∷ ys) (suc k) zero x n = refl
  set_elsewhere (y ∷ ys) (suc k) (suc q) x n = set_elsewhere ys k q x (λ e. n (ap suc e))

take_first : (n : ℕ) (a b : List ℤ) → length a ≡ n → take n (a ++ b) ≡ a
take_first n a b e = subst (λ m. take m (a ++ b) ≡ a) e (take-append_seam a b)

module _ (P : Program) (fs : List Function) (Within : ℕ → ℕ → ℤ → Type 0) (may : ℕ → State → State → Type 0)
    (allowed : AreAllowed P fs Within may) (only : WriteWithin P fs Within may) where
  abbrev Width : ℕ
  Width = length P.globals

  abbrev Others : ℕ → ℕ → ℤ → Type 0
  Others = OthersWrite P fs Within

  -- the thread stands where a run among others has come, up to what these have done since
  record IsAmong (w : Threads) (k : ℕ) (f : Function) (t : Thread) : Type 0 where
    pub draws : List ℤ
    pub words : AllByRecursion (λ z. IsTrue (is_word z)) draws
    pub config : Config
    pub met : List (TraceEvent Point)
    pub comes : Comes (may k) (thread_program P f) draws config met
    pub label : ℕ
    pub on : label_on config.items ≡ Some label
    pub long : Width ≤ length config.state.store
    pub deep : IsDeep Width config.items
    pub own : t ≡ own_of Width config
    pub globals : RepeatedWrites Width (Others k) (take Width config.state.store) w.globals

  module _ (w : Threads) (k : ℕ) (f : Function) (t : Thread) (a : IsAmong w k f t) where
    same_thread : (Q : Thread → Type 0) → Q t → Q (own_of Width a.config)
    same_thread Q q = subst Q a.own q

    width_is : length w.globals ≡ Width
    width_is = changes_width Width (Others k) (take Width a.config.state.store) w.globals a.globals ∙ length-take-le Width a.config.state.store a.long

    abbrev Seen : State
    Seen = seen_by w (own_of Width a.config)

    seen_long : Width ≤ length Seen.store
    seen_long =
        let sum = length-append w.globals (drop Width a.config.state.store) in
        let width = width_is in
        omega (arith, sum, width)

    seen_first : take Width Seen.store ≡ w.globals
    seen_first = take_first Width w.globals (drop Width a.config.state.store) width_is

    has_changed : may k a.config.state Seen
    has_changed =
        let s = a.config.state.store in
        let fits : Width ≤ length (take Width s) = rw (length-take-le Width s a.long) (omega arith) in
        let all : RepeatedWrites Width (Others k) (take Width s ++ drop Width s) (w.globals ++ drop Width s) =
        changes_before Width (Others k) (drop Width s) (take Width s) w.globals fits a.globals in
        allowed k a.config.state Seen (record {
          store = subst (λ (b : List ℤ). RepeatedWrites Width (Others k) b (w.globals ++ drop Width s)) (take-append-drop Width s) all;
          waiting = refl;
          draws = refl;
        })

  -- what a thread gives is as was said
  gives_within : (k : ℕ) (f : Function) → slice_get fs k ≡ Some f → (draws : List ℤ) → AllByRecursion (λ z. IsTrue (is_word z)) draws
      → (x : ℕ) (z : ℤ) (a : Trace Point) → WritesThere (may k) (thread_program P f) draws x a → x < Width → slice_get a.state.store x ≡ Some z → Within k x z
  gives_within k f is draws words x z a g less v =
      only k x z a (record { function = f; is_thread = is; draws = draws; words = words; does = g }) less v

  -- the step of a thread: where it has come, and what the globals have become
  record HasMoved (w : Threads) (k : ℕ) (f : Function) (d : Config) : Type 0 where
    pub draws : List ℤ
    pub words : AllByRecursion (λ z. IsTrue (is_word z)) draws
    pub met : List (TraceEvent Point)
    pub comes : Comes (may k) (thread_program P f) draws d met
    pub long : Width ≤ length d.state.store
    pub deep : IsDeep Width d.items
    pub changes : RepeatedWrites Width (Within k) w.globals (take Width d.state.store)

  moved : (w : Threads) (k : ℕ) (f : Function) (t : Thread) → RunsThere P fs w k f t → IsAmong w k f t → (m : ℕ) (p : Point) (d : Config)
      → LeadsOn (thread_program P f) m p (sees w t) d → HasMoved w k f d
  moved w k f t r a m p d lead =
      let c = a.config in
      let here = same_thread w k f t a (λ (u : Thread). LeadsOn (thread_program P f) m p (sees w u) d) lead in
      let all = piece (may k) (thread_program P f) a.draws Width (Within k) (gives_within k f r.function a.draws a.words) c a.met a.comes a.label a.on
      (Seen w k f t a) (has_changed w k f t a) (seen_long w k f t a) a.deep m p d here in
      record {
        draws = a.draws;
        words = a.words;
        met = all.0;
        comes = all.1.comes;
        long = all.1.long;
        deep = all.1.deep;
        changes = subst (λ (b : List ℤ). RepeatedWrites Width (Within k) b (take Width d.state.store)) (seen_first w k f t a) all.1.changes;
      }

  -- the threads after a step
  own_step : (w : Threads) (j : ℕ) (f : Function) (d : Config) (p : Point) → HasMoved w j f d → IsOn d p → IsAmong (left_by P w j d) j f (own_of Width d)
  own_step w j f d p h on = record {
    draws = h.draws;
    words = h.words;
    config = d;
    met = h.met;
    comes = h.comes;
    label = p.label;
    on = on.label;
    long = h.long;
    deep = h.deep;
    own = refl;
    globals = none (take Width d.state.store);
  }

  other_step : (w : Threads) (j : ℕ) (g : Function) (d : Config) (k : ℕ) (f : Function) (t : Thread) → j ≢ k → slice_get fs j ≡ Some g → HasMoved w j g d
      → IsAmong w k f t
      → IsAmong (left_by P w j d) k f t
  other_step w j g d k f t apart is h a = record {
    draws = a.draws;
    words = a.words;
    config = a.config;
    met = a.met;
    comes = a.comes;
    label = a.label;
    on = a.on;
    long = a.long;
    deep = a.deep;
    own = a.own;
    globals = changes_on Width (Others k) (take Width a.config.state.store) w.globals (take Width d.state.store) a.globals
        (changes_for Width (Within j) (Others k) w.globals (take Width d.state.store)
        (λ x z within. record { giver = j; function = g; is_thread = is; is_other = apart; within = within }) h.changes);
  }

  with_globals : (w v : Threads) (k : ℕ) (f : Function) (t : Thread) → v.globals ≡ w.globals → IsAmong w k f t → IsAmong v k f t
  with_globals w v k f t same a = record {
    draws = a.draws;
    words = a.words;
    config = a.config;
    met = a.met;
    comes = a.comes;
    label = a.label;
    on = a.on;
    long = a.long;
    deep = a.deep;
    own = a.own;
    globals = subst (λ (b : List ℤ). RepeatedWrites Width (Others k) (take Width a.config.state.store) b) (sym same) a.globals;
  }

  -- the one that moved, found where it is
  found : (w : Threads) (j : ℕ) (g : Function) (u : Thread) (k : ℕ) (f : Function) (t : Thread) (v : Threads) → slice_get v.threads j ≡ Some (Some u)
      → slice_get fs j ≡ Some g
      → j ≡ k → RunsThere P fs v k f t → IsAmong v j g u → IsAmong v k f t
  found w j g u k f t v there is same r a =
      let function : g ≡ f = same_Some g f (sym is ∙ subst (λ (i : ℕ). slice_get fs i ≡ Some f) (sym same) r.function) in
      let some : Some u ≡ Some t = same_Some (Some u) (Some t) (sym there ∙ subst (λ (i : ℕ). slice_get v.threads i ≡ Some (Some t)) (sym same) r.thread) in
      let thread : u ≡ t = same_Some u t some in
      subst (λ (i : ℕ). IsAmong v i f t) same (subst (λ (h : Function). IsAmong v j h t) function (subst (λ (y : Thread). IsAmong v j g y) thread a))

  -- among threads of which one is replaced, the others are as before
  elsewhere : (w v : Threads) (j k : ℕ) (f : Function) (t : Thread) (y : Option Thread) → v.threads ≡ slice_set w.threads j y → j ≢ k
      → RunsThere P fs v k f t → RunsThere P fs w k f t
  elsewhere w v j k f t y is apart r = record {
    function = r.function;
    thread = sym (set_elsewhere w.threads j k y apart) ∙ subst (λ (ts : List (Option Thread)). slice_get ts k ≡ Some (Some t)) is r.thread;
  }

  abbrev AllAmong : Threads → Type 0
  AllAmong w = (k : ℕ) (f : Function) (t : Thread) → RunsThere P fs w k f t → IsAmong w k f t

  going : (w : Threads) (j : ℕ) (d : Config) (g : Function) (u : Thread) (p : Point) → RunsThere P fs w j g u → HasMoved w j g d → IsOn d p → AllAmong w
      → AllAmong (left_by P w j d)
  going w j d g u p r h on all k f t there = elim (cases_eq j k) [
    | inl same ↦ found w j g (own_of Width d) k f t (left_by P w j d)
        (set_there w.threads j (Some (own_of Width d)) (slice_get_within w.threads j (Some u) r.thread)) r.function same there (own_step w j g d p h on)
    | inr apart ↦ other_step w j g d k f t apart r.function h (all k f t (elsewhere w (left_by P w j d) j k f t (Some (own_of Width d)) refl apart there))
  ]

  ending : (w : Threads) (j : ℕ) (u : Thread) → slice_get w.threads j ≡ Some (Some u) → AllAmong w → AllAmong (ended w j)
  ending w j u is all k f t there = elim (cases_eq j k) [
    | inl same ↦ absurd (gone same)
    | inr apart ↦ with_globals w (ended w j) k f t refl (all k f t (elsewhere w (ended w j) j k f t None refl apart there))
  ]
    where
      gone : j ≡ k → ⊥
      gone same =
          let at : slice_get (ended w j).threads j ≡ Some None = set_there w.threads j None (slice_get_within w.threads j (Some u) is) in
          let here : slice_get (ended w j).threads j ≡ Some (Some t) = subst (λ (i : ℕ). slice_get (ended w j).threads i ≡ Some (Some t))
          (sym same) there.thread in
          none-some t (same_Some None (Some t) (sym at ∙ here))

  -- at first nothing has been given
  first_globals : (f : Function) (draws : List ℤ) → take Width (begun (thread_program P f) draws).store ≡ map (λ (x : GlobalVariable). x.value) P.globals
  first_globals f draws =
      let width = length-map P.globals (λ (x : GlobalVariable). x.value) in
      take_all Width (map (λ (x : GlobalVariable). x.value) P.globals) (omega (arith, width))

  at_first : (w : Threads) (k : ℕ) (f : Function) (t : Thread) → w.globals ≡ map (λ (x : GlobalVariable). x.value) P.globals → IsAtFirst P fs f t
      → IsAmong w k f t
  at_first w k f t globals a =
      let Q = thread_program P f in
      let quiet = quiet_of Q a.steps (start Q a.draws) a.config [] [] a.walks (omega arith) in
      let width = length-map P.globals (λ (x : GlobalVariable). x.value) in
      let rests = still Q Width a.steps (start Q a.draws) a.config (omega (arith, width)) (omega arith, tt) refl quiet in
      let same : take Width a.config.state.store ≡ w.globals = rests.same ∙ first_globals f a.draws ∙ sym globals in
      record {
        draws = a.draws;
        words = a.words;
        config = a.config;
        met = [];
        comes = (a.steps, quiet_walk Q (may k) a.steps (start Q a.draws) a.config [] quiet);
        label = a.point.label;
        on = a.arrives.label;
        long = rests.long;
        deep = rests.deep;
        own = a.own;
        globals = subst (λ (b : List ℤ). RepeatedWrites Width (Others k) (take Width a.config.state.store) b) same (none (take Width a.config.state.store));
      }

  begun_so : (w : Threads) → AreBegun P fs w → AllAmong w
  begun_so w b k f t r =
      let one = b.first k f r.function in
      let some : Some one.0 ≡ Some t = same_Some (Some one.0) (Some t) (sym one.1 ∙ r.thread) in
      let thread : one.0 ≡ t = same_Some one.0 t some in
      subst (λ (u : Thread). IsAmong w k f u) thread (at_first w k f one.0 b.globals one.2)

  all_among : (w : Threads) → Interleaves P fs w → AllAmong w
  all_among w (begins v b) = begun_so w b
  all_among w (moves u v j before (inl goes)) =
      let all = all_among u before in
      let r = goes.runs in
      let h = moved u j goes.function goes.thread r (all j goes.function goes.thread r) goes.steps goes.from goes.config goes.leads in
      subst AllAmong (sym goes.after) (going u j goes.config goes.function goes.thread goes.to r h goes.arrives all)
  all_among w (moves u v j before (inr stops)) = subst AllAmong (sym stops.after) (ending u j stops.thread stops.runs.thread (all_among u before))

  -- what is said of threads ------------------------------------------------------------------------------------------

  module _ (k : ℕ) (p : Point) (w : Threads) (f : Function) (t : Thread) (st : StandsAt P fs k p w f t) where
    among : IsAmong w k f t
    among = all_among w st.reached k f t st.runs

    is_on : IsOn among.config p
    is_on =
        let at = same_thread w k f t among (λ (u : Thread). IsOn (sees w u) p) st.on in
        record { label = at.label; path = at.path }

    same_seen : seen_by w t ≡ Seen w k f t among
    same_seen = ap (seen_by w) among.own

    stands_there : ArrivesUnder P fs Within may k p (record { state = among.config.state; events = among.met })
    stands_there = record {
      function = f;
      is_thread = st.runs.function;
      draws = among.draws;
      words = among.words;
      does = (among.comes.0, among.config, among.comes.1, is_on, refl);
    }

    abbrev PastIt : Trace Point
    PastIt = record { state = Seen w k f t among; events = visit p among.config.state ∷ among.met }

    fails_there : IsFailing t.items t.here (seen_by w t) → ViolatesUnder P fs Within may k p PastIt
    fails_there false_there = record {
      function = f;
      is_thread = st.runs.function;
      draws = among.draws;
      words = among.words;
      does = (
        among.comes.0,
        among.config,
        among.met,
        among.comes.1,
        is_on,
        has_changed w k f t among,
        same_thread w k f t among (λ (u : Thread). IsFailing u.items u.here (seen_by w u)) false_there,
        refl,
      );
    }

    strays_there : (n : ℕ) → IsOutOfBounds (thread_program P f) n t.items t.here (seen_by w t) → OutOfBoundsUnder P fs Within may k p n PastIt
    strays_there n outside = record {
      function = f;
      is_thread = st.runs.function;
      draws = among.draws;
      words = among.words;
      does = (
        among.comes.0,
        among.config,
        among.met,
        among.comes.1,
        is_on,
        has_changed w k f t among,
        same_thread w k f t among (λ (u : Thread). IsOutOfBounds (thread_program P f) n u.items u.here (seen_by w u)) outside,
        refl,
      );
    }

  gives_there : (k x : ℕ) (z : ℤ) → ThreadWritesValue P fs k x z →
      (a : Trace Point) × ThreadWritesUnder P fs Within may k x a × (slice_get a.state.store x ≡ Some z)
  gives_there k x z g =
      let f = g.goes.function in
      let t = g.goes.thread in
      let r = g.goes.runs in
      let w = g.before in
      let a : IsAmong w k f t = all_among w g.reached k f t r in
      let Q = thread_program P f in
      let s = Seen w k f t a in
      let first = same_thread w k f t a (λ (u : Thread). TracedSteps NoChange Q g.done (sees w u) [] g.config g.met) g.first in
      let rest = same_thread w k f t a (λ (u : Thread). TracedSteps NoChange Q (suc g.left) g.config g.met g.goes.config (visit g.goes.from (seen_by w u) ∷ []))
      g.rest in
      let (b, there, is) = given (may k) Q a.draws Width (Within k) (gives_within k f r.function a.draws a.words) a.config a.met a.comes a.label a.on
      s (has_changed w k f t a) (seen_long w k f t a) a.deep x g.state g.done g.left g.goes.from g.config g.goes.config g.met first rest g.gives in (
        b,
        record { function = f; is_thread = r.function; draws = a.draws; words = a.words; does = there },
        ap (λ (u : State). slice_get u.store x) is ∙ g.value,
      )

  pub woven : IsThreadModular P fs Within may
  woven = record {
    stands = λ k p store at. let (w, f, t, st, same) = at in (
      record { state = (among k p w f t st).config.state; events = (among k p w f t st).met },
      Seen w k f t (among k p w f t st),
      stands_there k p w f t st,
      has_changed w k f t (among k p w f t st),
      ap (λ (u : State). u.store) (sym (same_seen k p w f t st)) ∙ same,
    );
    fails = λ k p at. let (w, f, t, st, false_there) = at in (PastIt k p w f t st, fails_there k p w f t st false_there);
    strays = λ k p n at. let (w, f, t, st, outside) = at in (PastIt k p w f t st, strays_there k p w f t st n outside);
    gives = gives_there;
    within = λ k x z g. let (a, there, is) = gives_there k x z g in only k x z a there g.global is;
  }

pub threads_are_modular : ThreadsAreModular
threads_are_modular P fs Within may allowed only = woven P fs Within may allowed only

pub tested_threads_are_interleaved : TestedThreadsAreModular
tested_threads_are_interleaved P fs within only =
    threads_are_modular P fs (λ k x z. IsTrue (within k x z)) (OthersInterfere P fs (λ k x z. IsTrue (within k x z))) (λ k s t change. change) only
