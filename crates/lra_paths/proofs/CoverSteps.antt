-- Pieces of runs go along paths, and what paths keep holds in all runs.
use Rattle.std.proofs.Common.{◌≡◌, ℕ, suc, ℤ, List, [], ◌∷◌, Some, true, length, inl, inr, refl, sym, ap, ◌∙◌, subst}
use Rattle.std.proofs.lemmas.Bool.{eq-eqb}
use Rattle.std.specs.{Cmp.Derive.both_true, List.Contains, List.flat_map, Prelude.slice_get, Prelude.nat_eq, Prelude.◌&&◌}
use Rattle.lra_paths.proofs.Crates.lra_linear_spec.Membership.{contains_none, contains_cases, filter_has}
use Rattle.lra_paths.proofs.Crates.lra_program.TraceLaws.{walk_of, walk_on}
use Rattle.lra_paths.specs.Crates.lra_path_segments.Segments.{SegmentStep, Goal, comes_to, violates, GoalSegment, Segment, enter, inside}
use Rattle.lra_paths.specs.Crates.lra_program.Run.{start, begun, Point, IsOn, Reaches, At, Fails, IsFailing}
use Rattle.lra_paths.specs.Crates.lra_program.Sites.{Site, sites_of}
use Rattle.lra_paths.specs.Crates.lra_program.Traces.{TraceEvent, visit, Trace, NoChange, TracedSteps, RunSegment}
use Rattle.lra_paths.specs.Crates.{lra_domain.Actions.Action, lra_domain.Moves.SomeLeads, lra_program.Program.Program, lra_program.Step.State, lra_program.Step.Config}
use Rattle.lra_operations.specs.{Agree.point_of, Traces.to_point, Traces.to_failure, Traces.stopped, TracesAgree.point_at, TracesAgree.point_or_none, TracesAgree.TreeRunsUpTo, Tree.Node}
use Rattle.lra_path_disjuncts.specs.Disjuncts.{written}
use Rattle.lra_paths.specs.Covers.{HasGone, along_first, along_next, PathsCover, AreInductiveAlong, HoldInAllRuns}
use Rattle.lra_paths.specs.Paths.{same_goal, live_of, live_at, from_start, first_segments, next_segments, actions_between}
use Rattle.lra_paths.proofs.{Came.came, FollowedRuns.FollowsRuns, StartSteps.start_leads}
use Rattle.lra_path_disjuncts.proofs.{SideSteps.some_left, SideSteps.some_right, WrittenSteps.written_from}

-- members ----------------------------------------------------------------------------------------------------------------

one_leads : {A : Type 0} (f : A → List (List Action)) (xs : List A) (x : A) (s t : List ℤ) → Contains xs x → SomeLeads (f x) s t → SomeLeads (flat_map f xs) s t
one_leads f [] x s t k led = absurd (contains_none x k)
one_leads f (y ∷ xs) x s t k led = elim (contains_cases y x xs k) [
  | inl e ↦ some_left s t (f y) (flat_map f xs) (subst (λ z. SomeLeads (f z) s t) (sym e) led)
  | inr d ↦ some_right s t (f y) (flat_map f xs) (one_leads f xs x s t d led)
]

same_self : (n : ℕ) → nat_eq n n ≡ true
same_self n = eq-eqb n n refl

goal_self : (goal : Goal) → same_goal goal goal ≡ true
goal_self (comes_to q) = same_self q
goal_self (violates q) = same_self q

first_leads : (P : Program) (g : Node) (ops : List SegmentStep) (goal : Goal) (s t : List ℤ) → Contains (enter g) (record { ops = ops; goal = goal }) →
    SomeLeads
    (from_start P ops) s t → SomeLeads (actions_between P g 0 goal) s t
first_leads P g ops goal s t k led =
    one_leads (λ (way : GoalSegment). from_start P way.ops) (first_segments g goal) (record { ops = ops; goal = goal }) s t
    (filter_has (λ (way : GoalSegment). same_goal way.goal goal) (enter g) (record { ops = ops; goal = goal }) k (goal_self goal)) led

next_leads : (P : Program) (g : Node) (p : ℕ) (ops : List SegmentStep) (goal : Goal) (s t : List ℤ) → Contains (inside g)
    (record { source = p; to_goal = record { ops = ops; goal = goal } })
    → SomeLeads (written (live_at P p) ops) s t → SomeLeads (actions_between P g (suc p) goal) s t
next_leads P g p ops goal s t k led =
    one_leads (λ (segment : Segment). written (live_at P p) segment.to_goal.ops) (next_segments g p goal) (record {
      source = p;
      to_goal = record {
        ops = ops;
        goal =
            goal;
      };
    }) s t
    (filter_has (λ (segment : Segment). nat_eq segment.source p && same_goal segment.to_goal.goal goal) (inside g) (record {
      source = p;
      to_goal = record {
        ops = ops;
        goal = goal;
      };
    })
    k
    (both_true (same_self p) (goal_self goal))) led

-- what was met -----------------------------------------------------------------------------------------------------------

abbrev IsNothing : List (TraceEvent Point) → Type 0
IsNothing [] = Unit {0}
IsNothing (x ∷ xs) = ⊥

abbrev point_met : Point → List (TraceEvent Point) → Point
point_met p [] = p
point_met p (visit q s ∷ xs) = q

abbrev state_met : State → List (TraceEvent Point) → State
state_met s [] = s
state_met s (visit q t ∷ xs) = t

abbrev met_before : List (TraceEvent Point) → List (TraceEvent Point)
met_before [] = []
met_before (x ∷ xs) = xs

nothing : (x : TraceEvent Point) (xs : List (TraceEvent Point)) → [] ≡ x ∷ xs → ⊥
nothing x xs e = subst IsNothing e tt

module _ (P : Program) (g : Node) (has : FollowsRuns P g) where
  abbrev T : List Site
  T = sites_of P

  -- with as many variables as live at the point
  wide : (p : ℕ) (s : Site) (draws : List ℤ) (m : State) (before : List (TraceEvent Point)) → slice_get T p ≡ Some s →
      TreeRunsUpTo NoChange P g draws (to_point p)
      (record { state = m; events = before })
      → length m.store ≡ live_at P p
  wide p s draws m before at x = has.trails.width p s draws (record { state = m; events = before }) at x ∙ sym (ap live_of at)

  -- two numbers of one point are the same
  one_number : (p q : ℕ) (r s : Site) → slice_get T p ≡ Some r → slice_get T q ≡ Some s → point_of r ≡ point_at T q → p ≡ q
  one_number p q r s at there e =
      let same : point_of r ≡ point_of s = e ∙ ap point_or_none there in
      has.distinct p q r s at there (ap (λ (x : Point). x.path) same) (ap (λ (x : Point). x.label) same)

  -- from the start ---------------------------------------------------------------------------------------------------

  from_nothing : (draws : List ℤ) (q : ℕ) (a : Trace Point) → a.events ≡ [] → HasGone (point_at T) g (record { state = begun P draws; events = [] })
      (stopped (to_point q)) a
      → SomeLeads (actions_between P g 0 (comes_to q)) [] a.state.store
  from_nothing draws q a e (along_first ops same first leads) = first_leads P g ops (comes_to q) [] a.state.store first
      (start_leads P has.globals ops draws a.state leads)
  from_nothing draws q a e (along_next p m before ops met there next leads) = absurd (nothing (visit (point_at T p) m) before (sym e ∙ met))

  starts : (draws : List ℤ) (n : ℕ) (d : Config) (q : ℕ) (s : Site) → slice_get T q ≡ Some s → TracedSteps NoChange P n (start P draws) [] d [] →
      IsOn d (point_of s)
      → SomeLeads (actions_between P g 0 (comes_to q)) [] d.state.store
  starts draws n d q s at w on =
      let a : Trace Point = record { state = d.state; events = [] } in
      from_nothing draws q a refl (came (point_at T) g (record { state = begun P draws; events = [] }) (stopped (to_point q)) a
      ((has.trails.comes q s draws a at).0 (n, d, w, on, refl)))

  -- from the point that was met last ---------------------------------------------------------------------------------

  from_last : (draws : List ℤ) (p q : ℕ) (r : Site) (m : State) (before : List (TraceEvent Point)) (a : Trace Point) → slice_get T p ≡ Some r → a.events ≡ visit
      (point_of r) m ∷ before
      → HasGone (point_at T) g (record { state = begun P draws; events = [] }) (stopped (to_point q)) a → SomeLeads (actions_between P g (suc p) (comes_to q))
      m.store a.state.store
  from_last draws p q r m before a at e (along_first ops same first leads) = absurd (nothing (visit (point_of r) m) before (sym same ∙ e))
  from_last draws p q r m before a at e (along_next p1 m1 before1 ops met there next leads) =
      let (s1, at1) = has.points p1 draws (record { state = m1; events = before1 }) there in
      let number = one_number p p1 r s1 at at1 (ap (point_met (point_of r)) (sym e ∙ met)) in
      let state = ap (state_met m) (sym e ∙ met) in
      let led = next_leads P g p1 ops (comes_to q) m1.store a.state.store next
      (written_from ops (live_at P p1) m1 a.state (wide p1 s1 draws m1 before1 at1 there) leads) in
      subst (λ n. SomeLeads (actions_between P g (suc n) (comes_to q)) m.store a.state.store) (sym number)
      (subst (λ (u : State). SomeLeads (actions_between P g (suc p1) (comes_to q)) u.store a.state.store) (sym state) led)

  goes : (c d : Config) (p q : ℕ) (r s : Site) → slice_get T p ≡ Some r → slice_get T q ≡ Some s → Reaches P c → RunSegment NoChange P (point_of r) c d → IsOn d
      (point_of s)
      → SomeLeads (actions_between P g (suc p) (comes_to q)) c.state.store d.state.store
  goes c d p q r s at there run (on, n, piece) on_next =
      let (xs, w) = walk_of P run.length (start P run.draws) c [] run.steps in
      let a : Trace Point = record { state = d.state; events = visit (point_of r) c.state ∷ xs } in
      let all = walk_on NoChange P run.length n (start P run.draws) c d [] xs (visit (point_of r) c.state ∷ xs) w (piece xs) in
      from_last run.draws p q r c.state xs a at refl
      (came (point_at T) g (record { state = begun P run.draws; events = [] }) (stopped (to_point q)) a
      ((has.trails.comes q s run.draws a there).0 (all.0, d, all.1, on_next, refl)))

  -- where an assertion is false ---------------------------------------------------------------------------------------

  from_denied : (draws : List ℤ) (q : ℕ) (s : Site) (m : State) (before : List (TraceEvent Point)) (a : Trace Point) → slice_get T q ≡ Some s → a.events ≡ visit
      (point_of s) m ∷ before
      → HasGone (point_at T) g (record { state = begun P draws; events = [] }) (stopped (to_failure q)) a → SomeLeads (actions_between P g (suc q) (violates q))
      m.store a.state.store
  from_denied draws q s m before a at e (along_first ops same first leads) = absurd (nothing (visit (point_of s) m) before (sym same ∙ e))
  from_denied draws q s m before a at e (along_next p1 m1 before1 ops met there next (u, leads, store)) =
      let (s1, at1) = has.points p1 draws (record { state = m1; events = before1 }) there in
      let number = one_number q p1 s s1 at at1 (ap (point_met (point_of s)) (sym e ∙ met)) in
      let state = ap (state_met m) (sym e ∙ met) in
      let led = next_leads P g p1 ops (violates q) m1.store u.store next (written_from ops (live_at P p1) m1 u (wide p1 s1 draws m1 before1 at1 there) leads) in
      subst (λ n. SomeLeads (actions_between P g (suc n) (violates q)) m.store a.state.store) (sym number)
      (subst (λ (v : State). SomeLeads (actions_between P g (suc p1) (violates q)) v.store a.state.store) (sym state)
      (subst (λ (t : List ℤ). SomeLeads (actions_between P g (suc p1) (violates q)) m1.store t) store led))

  -- on the trace of the run
  failing : (c : Config) (q : ℕ) (s : Site) (run : Reaches P c) → slice_get T q ≡ Some s → IsOn c (point_of s) → IsFailing c.items c.here c.state
      → (xs : List (TraceEvent Point))
      × TreeRunsUpTo NoChange P g run.draws (to_failure q) (record { state = c.state; events = visit (point_of s) c.state ∷ xs })
  failing c q s run at on false_there =
      let (xs, w) = walk_of P run.length (start P run.draws) c [] run.steps in (
        xs,
        (has.trails.fails q s run.draws (record { state = c.state; events = visit (point_of s) c.state ∷ xs }) at).0
            (run.length, c, xs, w, on, refl, false_there, refl),
      )

  denied : (c : Config) (q : ℕ) (s : Site) → slice_get T q ≡ Some s → Reaches P c → IsOn c (point_of s) → IsFailing c.items c.here c.state
      → SomeLeads (actions_between P g (suc q) (violates q)) c.state.store c.state.store
  denied c q s at run on false_there =
      let (xs, x) = failing c q s run at on false_there in
      let a : Trace Point = record { state = c.state; events = visit (point_of s) c.state ∷ xs } in
      from_denied run.draws q s c.state xs a at refl (came (point_at T) g (record { state = begun P run.draws; events = [] }) (stopped (to_failure q)) a x)

  pub paths_cover : PathsCover P g
  paths_cover = record { starts = starts; goes = goes; violated = denied }

  -- what paths keep --------------------------------------------------------------------------------------------------

  module _ (holds : Goal → List ℤ → Type 0) (k : AreInductiveAlong P g holds) where
    -- along a trace, from its end back
    kept_on : (xs : List (TraceEvent Point)) (draws : List ℤ) (q : ℕ) (a : Trace Point) → a.events ≡ xs → TreeRunsUpTo NoChange P g draws (to_point q) a →
        holds (comes_to q)
        a.state.store
    kept_on [] draws q a e x = k.first (comes_to q) a.state.store (has.points q draws a x) (from_nothing draws q a e
        (came (point_at T) g (record { state = begun P draws; events = [] }) (stopped (to_point q)) a x))
    kept_on (y ∷ xs) draws q a e x = by (came (point_at T) g (record { state = begun P draws; events = [] }) (stopped (to_point q)) a x)
        (λ p b f z. kept_on xs draws p b f z)
      where
        by : HasGone (point_at T) g (record { state = begun P draws; events = [] }) (stopped (to_point q)) a
            → ((p : ℕ) (b : Trace Point) → b.events ≡ xs → TreeRunsUpTo NoChange P g draws (to_point p) b → holds (comes_to p) b.state.store) →
            holds (comes_to q)
            a.state.store
        by (along_first ops same first leads) before = absurd (nothing y xs (sym same ∙ e))
        by (along_next p m earlier ops met there next leads) before =
            let b : Trace Point = record { state = m; events = earlier } in
            let (s, at) = has.points p draws b there in
            k.next p s (comes_to q) m.store a.state.store at (wide p s draws m earlier at there) (has.points q draws a x)
            (before p b (ap met_before (sym met ∙ e)) there)
            (next_leads P g p ops (comes_to q) m.store a.state.store next (written_from ops (live_at P p) m a.state (wide p s draws m earlier at there) leads))

    kept_denied : (draws : List ℤ) (q : ℕ) (r : Site) (a : Trace Point) → slice_get T q ≡ Some r
        → HasGone (point_at T) g (record { state = begun P draws; events = [] }) (stopped (to_failure q)) a
        → (store : List ℤ) × holds (violates q) store
    kept_denied draws q r a is (along_first ops same first (u, leads, store)) =
        (u.store, k.first (violates q) u.store (r, is) (first_leads P g ops (violates q) [] u.store first (start_leads P has.globals ops draws u leads)))
    kept_denied draws q r a is (along_next p m before ops met there next (u, leads, store)) =
        let b : Trace Point = record { state = m; events = before } in
        let (s, at) = has.points p draws b there in (
          u.store,
          k.next p s (violates q) m.store u.store at (wide p s draws m before at there) (r, is) (kept_on before draws p b refl there)
              (next_leads P g p ops (violates q) m.store u.store next (written_from ops (live_at P p) m u (wide p s draws m before at there) leads)),
        )

    comes : (q : ℕ) (s : Site) (store : List ℤ) → slice_get T q ≡ Some s → At P (point_of s) store → holds (comes_to q) store
    comes q s store at (c, run, on, same) =
        let (xs, w) = walk_of P run.length (start P run.draws) c [] run.steps in
        let a : Trace Point = record { state = c.state; events = xs } in
        subst (λ t. holds (comes_to q) t) same (kept_on xs run.draws q a refl ((has.trails.comes q s run.draws a at).0 (run.length, c, w, on, refl)))

    fails : (q : ℕ) (s : Site) → slice_get T q ≡ Some s → Fails P (point_of s) → (store : List ℤ) × holds (violates q) store
    fails q s at (c, run, on, false_there) =
        let (xs, x) = failing c q s run at on false_there in
        let a : Trace Point = record { state = c.state; events = visit (point_of s) c.state ∷ xs } in
        kept_denied run.draws q s a at (came (point_at T) g (record { state = begun P run.draws; events = [] }) (stopped (to_failure q)) a x)

    pub kept : HoldInAllRuns P holds
    kept = record { comes = comes; fails = fails }
