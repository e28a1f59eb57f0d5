-- A tree's run if nothing changes the state at points is one without its list, and the other way round.
use Rattle.std.proofs.Common.{◌≡◌, ℕ, zero, suc, ◌∷◌, List, Bool, Some, true, false, ◌||◌, inl, inr, refl, ap, subst}
use Rattle.lra_operations.specs.Crates.{lra_base.CaseLabels.is_same_case, lra_base.declared.case_labels.CaseLabel.CaseLabel}
use Rattle.lra_program.specs.{Program.Cond, Step.State, Step.run_op, Step.test, Traces.TraceEvent, Traces.visit, Traces.Trace, Traces.NoChange}
use Rattle.lra_operations.specs.Traces.{by_jump, to_point, to_failure, to_end, stopped, RunsUpTo, ArmsRunUpTo, VisitsAndTests, TrailRounds}
use Rattle.lra_operations.specs.Tree.{Exit, normal, jump, Node, empty, probe, point, act, check, seq, choose, iterate, catch, leave, select, Arms, no_arms, entry, arm, LoopRounds, Completes}
use Rattle.lra_operations.specs.Tree.{ArmsComplete, ReachesPoint, ArmsReachPoint, FailsAt, ArmsFail}

same_exit : {j k : Exit} → by_jump j ≡ by_jump k → j ≡ k
same_exit e = cc

module _ {A : Type 0} (name : ℕ → A) where
  tests_alone : (q base : ℕ) (c : Cond) (b : Bool) (x y : Trace A) → VisitsAndTests name NoChange q base c b x y → run_op (test base c b) x.state ≡ Some y.state
  tests_alone q base c b x y (m, (e, i), (f, j)) = subst (λ s. run_op (test base c b) s ≡ Some y.state) e f

  forget_rounds : (one : Trace A → Trace A → Type 0) (two : State → State → Type 0) → ((a b : Trace A) → one a b → two a.state b.state) → (n : ℕ) (a b : Trace A) → TrailRounds one n a b
      → LoopRounds two n a.state b.state
  forget_rounds one two each zero a b e = ap (λ (x : Trace A). x.state) e
  forget_rounds one two each (suc n) a b (m, r, o) = (m.state, forget_rounds one two each n a m r, each m b o)

  rounds_of : (q base : ℕ) (c : Cond) (g : Node) → ((a b : Trace A) → RunsUpTo name NoChange g a to_end b → Completes g a.state normal b.state) →
      (n : ℕ) (a b : Trace A)
      → TrailRounds (λ u v. (w : Trace A) × VisitsAndTests name NoChange q base c true u w × RunsUpTo name NoChange g w to_end v) n a b
      → LoopRounds (λ u v. (w : State) × (run_op (test base c true) u ≡ Some w) × Completes g w normal v) n a.state b.state
  rounds_of q base c g each n a b r =
      forget_rounds (λ u v. (w : Trace A) × VisitsAndTests name NoChange q base c true u w × RunsUpTo name NoChange g w to_end v)
      (λ u v. (w : State) × (run_op (test base c true) u ≡ Some w) × Completes g w normal v) (λ u v o. (o.0.state, tests_alone q base c true u o.0 o.1, each o.0 v o.2)) n a b r

  -- forgetting -------------------------------------------------------------------------------------------------------

  mutual
    pub ends_of : (g : Node) (a b : Trace A) → RunsUpTo name NoChange g a to_end b → Completes g a.state normal b.state
    ends_of empty a b e = ap (λ (x : Trace A). x.state) e
    ends_of (probe here what) a b e = ap (λ (x : Trace A). x.state) e
    ends_of (point q) a b (e, i) = e
    ends_of (act q op) a b (e, i) = e
    ends_of (check q base c) a b (e, i) = e
    ends_of (seq g h) a b (m, x, y) = (m.state, ends_of g a m x, ends_of h m b y)
    ends_of (choose q base c g h) a b (inl (m, (e, i), x)) = inl (m.state, e, ends_of g m b x)
    ends_of (choose q base c g h) a b (inr (m, (e, i), x)) = inr (m.state, e, ends_of h m b x)
    ends_of (iterate q base c g) a b (n, m, r, x) = (n, m.state, rounds_of q base c g (ends_of g) n a m r, tests_alone q base c false m b x)
    ends_of (catch q k g) a b (inl x) = inl (ends_of g a b x)
    ends_of (catch q k g) a b (inr x) = inr (jumps_of g k a b x)
    ends_of (leave n k) a b x = absurd x
    ends_of (select q base e arms) a b (l, m, (s, i), x) = (l, m.state, s, arms_end_of l false arms m b x)

    arms_end_of : (l : CaseLabel) (met : Bool) (arms : Arms) (a b : Trace A) → ArmsRunUpTo name NoChange l met arms a to_end b
        → ArmsComplete l met arms a.state normal b.state
    arms_end_of l met no_arms a b e = ap (λ (x : Trace A). x.state) e
    arms_end_of l met (entry k arms) a b x = arms_end_of l (met || is_same_case l k) arms a b x
    arms_end_of l false (arm g arms) a b x = arms_end_of l false arms a b x
    arms_end_of l true (arm g arms) a b (m, x, y) = (m.state, ends_of g a m x, arms_end_of l true arms m b y)

    pub jumps_of : (g : Node) (j : Exit) (a b : Trace A) → RunsUpTo name NoChange g a (stopped (by_jump j)) b → Completes g a.state (jump j) b.state
    jumps_of empty j a b x = absurd x
    jumps_of (probe here what) j a b x = absurd x
    jumps_of (point q) j a b (x, e) = absurd x
    jumps_of (act q op) j a b x = absurd x
    jumps_of (check q base c) j a b x = absurd x.0
    jumps_of (seq g h) j a b (inl x) = inl (jumps_of g j a b x)
    jumps_of (seq g h) j a b (inr (m, x, y)) = inr (m.state, ends_of g a m x, jumps_of h j m b y)
    jumps_of (choose q base c g h) j a b (inl (m, (e, i), x)) = inl (m.state, e, jumps_of g j m b x)
    jumps_of (choose q base c g h) j a b (inr (m, (e, i), x)) = inr (m.state, e, jumps_of h j m b x)
    jumps_of (iterate q base c g) j a b (n, m, r, inl (x, e)) = absurd x
    jumps_of (iterate q base c g) j a b (n, m, r, inr (w, t, x)) = (n, m.state, w.state, rounds_of q base c g (ends_of g) n a m r, tests_alone q base c true m w t, jumps_of g j w b x)
    jumps_of (catch q k g) j a b (d, x) = (λ e. d (ap by_jump e), jumps_of g j a b x)
    jumps_of (leave n k) j a b (e, i) = (same_exit e, ap (λ (x : Trace A). x.state) i)
    jumps_of (select q base e arms) j a b (l, m, (s, i), x) = (l, m.state, s, arms_jump_of l false arms j m b x)

    arms_jump_of : (l : CaseLabel) (met : Bool) (arms : Arms) (j : Exit) (a b : Trace A) → ArmsRunUpTo name NoChange l met arms a (stopped (by_jump j)) b
        → ArmsComplete l met arms a.state (jump j) b.state
    arms_jump_of l met no_arms j a b x = absurd x
    arms_jump_of l met (entry k arms) j a b x = arms_jump_of l (met || is_same_case l k) arms j a b x
    arms_jump_of l false (arm g arms) j a b x = arms_jump_of l false arms j a b x
    arms_jump_of l true (arm g arms) j a b (inl x) = inl (jumps_of g j a b x)
    arms_jump_of l true (arm g arms) j a b (inr (m, x, y)) = inr (m.state, ends_of g a m x, arms_jump_of l true arms j m b y)

  mutual
    pub comes_of : (g : Node) (p : ℕ) (a b : Trace A) → RunsUpTo name NoChange g a (stopped (to_point p)) b → ReachesPoint g a.state p b.state
    comes_of empty p a b x = absurd x
    comes_of (probe here what) p a b x = absurd x
    comes_of (point q) p a b (e, i) = (e, ap (λ (x : Trace A). x.state) i)
    comes_of (act q op) p a b x = absurd x
    comes_of (check q base c) p a b x = absurd x.0
    comes_of (seq g h) p a b (inl x) = inl (comes_of g p a b x)
    comes_of (seq g h) p a b (inr (m, x, y)) = inr (m.state, ends_of g a m x, comes_of h p m b y)
    comes_of (choose q base c g h) p a b (inl (m, (e, i), x)) = inl (m.state, e, comes_of g p m b x)
    comes_of (choose q base c g h) p a b (inr (m, (e, i), x)) = inr (m.state, e, comes_of h p m b x)
    comes_of (iterate q base c g) p a b (n, m, r, inl (e, i)) = (n, m.state, rounds_of q base c g (ends_of g) n a m r, inl (e, ap (λ (x : Trace A). x.state) i))
    comes_of (iterate q base c g) p a b (n, m, r, inr (w, t, x)) =
        (n, m.state, rounds_of q base c g (ends_of g) n a m r, inr (w.state, tests_alone q base c true m w t, comes_of g p w b x))
    comes_of (catch q k g) p a b (d, x) = comes_of g p a b x
    comes_of (leave n k) p a b (e, i) = absurd cc
    comes_of (select q base e arms) p a b (l, m, (s, i), x) = (l, m.state, s, arms_come_of l false arms p m b x)

    arms_come_of : (l : CaseLabel) (met : Bool) (arms : Arms) (p : ℕ) (a b : Trace A) → ArmsRunUpTo name NoChange l met arms a (stopped (to_point p)) b
        → ArmsReachPoint l met arms a.state p b.state
    arms_come_of l met no_arms p a b x = absurd x
    arms_come_of l met (entry k arms) p a b x = arms_come_of l (met || is_same_case l k) arms p a b x
    arms_come_of l false (arm g arms) p a b x = arms_come_of l false arms p a b x
    arms_come_of l true (arm g arms) p a b (inl x) = inl (comes_of g p a b x)
    arms_come_of l true (arm g arms) p a b (inr (m, x, y)) = inr (m.state, ends_of g a m x, arms_come_of l true arms p m b y)

  mutual
    pub fails_of : (g : Node) (p : ℕ) (a b : Trace A) → RunsUpTo name NoChange g a (stopped (to_failure p)) b → FailsAt g a.state p
    fails_of empty p a b x = absurd x
    fails_of (probe here what) p a b x = absurd x
    fails_of (point q) p a b (x, e) = absurd x
    fails_of (act q op) p a b x = absurd x
    fails_of (check q base c) p a b (e, i, t, x) = (e, t, x)
    fails_of (seq g h) p a b (inl x) = inl (fails_of g p a b x)
    fails_of (seq g h) p a b (inr (m, x, y)) = inr (m.state, ends_of g a m x, fails_of h p m b y)
    fails_of (choose q base c g h) p a b (inl (m, (e, i), x)) = inl (m.state, e, fails_of g p m b x)
    fails_of (choose q base c g h) p a b (inr (m, (e, i), x)) = inr (m.state, e, fails_of h p m b x)
    fails_of (iterate q base c g) p a b (n, m, r, inl (x, e)) = absurd x
    fails_of (iterate q base c g) p a b (n, m, r, inr (w, t, x)) =
        (n, m.state, rounds_of q base c g (ends_of g) n a m r, w.state, tests_alone q base c true m w t, fails_of g p w b x)
    fails_of (catch q k g) p a b (d, x) = fails_of g p a b x
    fails_of (leave n k) p a b (e, i) = absurd cc
    fails_of (select q base e arms) p a b (l, m, (s, i), x) = (l, m.state, s, arms_fail_of l false arms p m b x)

    arms_fail_of : (l : CaseLabel) (met : Bool) (arms : Arms) (p : ℕ) (a b : Trace A) → ArmsRunUpTo name NoChange l met arms a (stopped (to_failure p)) b
        → ArmsFail l met arms a.state p
    arms_fail_of l met no_arms p a b x = absurd x
    arms_fail_of l met (entry k arms) p a b x = arms_fail_of l (met || is_same_case l k) arms p a b x
    arms_fail_of l false (arm g arms) p a b x = arms_fail_of l false arms p a b x
    arms_fail_of l true (arm g arms) p a b (inl x) = inl (fails_of g p a b x)
    arms_fail_of l true (arm g arms) p a b (inr (m, x, y)) = inr (m.state, ends_of g a m x, arms_fail_of l true arms p m b y)

  -- and with what is met ---------------------------------------------------------------------------------------------

  abbrev with : State → List (TraceEvent A) → Trace A
  with t xs = record { state = t; events = xs }

  abbrev tested : ℕ → Trace A → State → Trace A
  tested q a t = with t (visit (name q) a.state ∷ a.events)

  test_alone : (q base : ℕ) (c : Cond) (b : Bool) (a : Trace A) (t : State) → run_op (test base c b) a.state ≡ Some t → VisitsAndTests name NoChange q base c b a (tested q a t)
  test_alone q base c b a t e = (tested q a a.state, (refl, refl), (e, refl))

  recall_rounds : (one : State → State → Type 0) (two : Trace A → Trace A → Type 0) → ((a : Trace A) (t : State) → one a.state t → (xs : List (TraceEvent A)) × two a (with t xs)) → (n : ℕ)
      (a : Trace A) (t : State) → LoopRounds one n a.state t → (xs : List (TraceEvent A)) × TrailRounds two n a (with t xs)
  recall_rounds one two each zero a t e = (a.events, rw e refl)
  recall_rounds one two each (suc n) a t (m, r, o) =
      let before = recall_rounds one two each n a m r in
      let after = each (with m before.0) t o in
      (after.0, (with m before.0, before.1, after.1))

  goes_rounds : (q base : ℕ) (c : Cond) (g : Node) → ((a : Trace A) (t : State) → Completes g a.state normal t → (xs : List (TraceEvent A)) × RunsUpTo name NoChange g a to_end (with t xs)) →
      (n : ℕ) (a : Trace A) (t : State)
      → LoopRounds (λ u v. (w : State) × (run_op (test base c true) u ≡ Some w) × Completes g w normal v) n a.state t
      → (xs : List (TraceEvent A))
      × TrailRounds (λ u v. (w : Trace A) × VisitsAndTests name NoChange q base c true u w × RunsUpTo name NoChange g w to_end v) n a (with t xs)
  goes_rounds q base c g each n a t r = recall_rounds (λ u v. (w : State) × (run_op (test base c true) u ≡ Some w) × Completes g w normal v)
      (λ u v. (w : Trace A) × VisitsAndTests name NoChange q base c true u w × RunsUpTo name NoChange g w to_end v)
      (λ u v o. let x = each (tested q u o.0) v o.2 in (x.0, (tested q u o.0, test_alone q base c true u o.0 o.1, x.1))) n a t r

  mutual
    pub goes_on : (g : Node) (a : Trace A) (t : State) → Completes g a.state normal t →
        (xs : List (TraceEvent A)) × RunsUpTo name NoChange g a to_end (with t xs)
    goes_on empty a t e = (a.events, rw e refl)
    goes_on (probe here what) a t e = (a.events, rw e refl)
    goes_on (point q) a t e = (visit (name q) a.state ∷ a.events, (e, refl))
    goes_on (act q op) a t e = (a.events, (e, refl))
    goes_on (check q base c) a t e = (a.events, (e, refl))
    goes_on (seq g h) a t (m, x, y) =
        let one = goes_on g a m x in
        let two = goes_on h (with m one.0) t y in
        (two.0, (with m one.0, one.1, two.1))
    goes_on (choose q base c g h) a t (inl (m, e, x)) = let r = goes_on g (with m a.events) t x in (r.0, inl (with m a.events, (e, refl), r.1))
    goes_on (choose q base c g h) a t (inr (m, e, x)) = let r = goes_on h (with m a.events) t x in (r.0, inr (with m a.events, (e, refl), r.1))
    goes_on (iterate q base c g) a t (n, m, r, e) =
        let rounds = goes_rounds q base c g (goes_on g) n a m r in
        (visit (name q) m ∷ rounds.0, (n, with m rounds.0, rounds.1, test_alone q base c false (with m rounds.0) t e))
    goes_on (catch q k g) a t (inl x) = let r = goes_on g a t x in (r.0, inl r.1)
    goes_on (catch q k g) a t (inr x) = let r = jumps_on g k a t x in (r.0, inr r.1)
    goes_on (leave n k) a t x = absurd x
    goes_on (select q base e arms) a t (l, m, s, x) = let r = arms_go_on l false arms (with m a.events) t x in (r.0, (l, with m a.events, (s, refl), r.1))

    arms_go_on : (l : CaseLabel) (met : Bool) (arms : Arms) (a : Trace A) (t : State) → ArmsComplete l met arms a.state normal t
        → (xs : List (TraceEvent A)) × ArmsRunUpTo name NoChange l met arms a to_end (with t xs)
    arms_go_on l met no_arms a t e = (a.events, rw e refl)
    arms_go_on l met (entry k arms) a t x = arms_go_on l (met || is_same_case l k) arms a t x
    arms_go_on l false (arm g arms) a t x = arms_go_on l false arms a t x
    arms_go_on l true (arm g arms) a t (m, x, y) =
        let one = goes_on g a m x in
        let two = arms_go_on l true arms (with m one.0) t y in
        (two.0, (with m one.0, one.1, two.1))

    pub jumps_on : (g : Node) (j : Exit) (a : Trace A) (t : State) → Completes g a.state (jump j) t → (xs : List (TraceEvent A)) × RunsUpTo name NoChange g a (stopped (by_jump j)) (with t xs)
    jumps_on empty j a t x = absurd x
    jumps_on (probe here what) j a t x = absurd x
    jumps_on (point q) j a t x = absurd x
    jumps_on (act q op) j a t x = absurd x
    jumps_on (check q base c) j a t x = absurd x
    jumps_on (seq g h) j a t (inl x) = let r = jumps_on g j a t x in (r.0, inl r.1)
    jumps_on (seq g h) j a t (inr (m, x, y)) =
        let one = goes_on g a m x in
        let two = jumps_on h j (with m one.0) t y in
        (two.0, inr (with m one.0, one.1, two.1))
    jumps_on (choose q base c g h) j a t (inl (m, e, x)) = let r = jumps_on g j (with m a.events) t x in (r.0, inl (with m a.events, (e, refl), r.1))
    jumps_on (choose q base c g h) j a t (inr (m, e, x)) = let r = jumps_on h j (with m a.events) t x in (r.0, inr (with m a.events, (e, refl), r.1))
    jumps_on (iterate q base c g) j a t (n, m, w, r, e, x) =
        let rounds = goes_rounds q base c g (goes_on g) n a m r in
        let last = jumps_on g j (tested q (with m rounds.0) w) t x in
        (last.0, (n, with m rounds.0, rounds.1, inr (tested q (with m rounds.0) w, test_alone q base c true (with m rounds.0) w e, last.1)))
    jumps_on (catch q k g) j a t (d, x) = let r = jumps_on g j a t x in (r.0, (λ e. d (same_exit e), r.1))
    jumps_on (leave n k) j a t (e, i) = (a.events, (ap by_jump e, rw i refl))
    jumps_on (select q base e arms) j a t (l, m, s, x) = let r = arms_jump_on l false arms j (with m a.events) t x in
        (r.0, (l, with m a.events, (s, refl), r.1))

    arms_jump_on : (l : CaseLabel) (met : Bool) (arms : Arms) (j : Exit) (a : Trace A) (t : State) → ArmsComplete l met arms a.state (jump j) t
        → (xs : List (TraceEvent A)) × ArmsRunUpTo name NoChange l met arms a (stopped (by_jump j)) (with t xs)
    arms_jump_on l met no_arms j a t x = absurd x
    arms_jump_on l met (entry k arms) j a t x = arms_jump_on l (met || is_same_case l k) arms j a t x
    arms_jump_on l false (arm g arms) j a t x = arms_jump_on l false arms j a t x
    arms_jump_on l true (arm g arms) j a t (inl x) = let r = jumps_on g j a t x in (r.0, inl r.1)
    arms_jump_on l true (arm g arms) j a t (inr (m, x, y)) =
        let one = goes_on g a m x in
        let two = arms_jump_on l true arms j (with m one.0) t y in
        (two.0, inr (with m one.0, one.1, two.1))

  mutual
    pub comes_on : (g : Node) (p : ℕ) (a : Trace A) (t : State) → ReachesPoint g a.state p t
        → (xs : List (TraceEvent A)) × RunsUpTo name NoChange g a (stopped (to_point p)) (with t xs)
    comes_on empty p a t x = absurd x
    comes_on (probe here what) p a t x = absurd x
    comes_on (point q) p a t (e, i) = (a.events, (e, rw i refl))
    comes_on (act q op) p a t x = absurd x
    comes_on (check q base c) p a t x = absurd x
    comes_on (seq g h) p a t (inl x) = let r = comes_on g p a t x in (r.0, inl r.1)
    comes_on (seq g h) p a t (inr (m, x, y)) =
        let one = goes_on g a m x in
        let two = comes_on h p (with m one.0) t y in
        (two.0, inr (with m one.0, one.1, two.1))
    comes_on (choose q base c g h) p a t (inl (m, e, x)) = let r = comes_on g p (with m a.events) t x in (r.0, inl (with m a.events, (e, refl), r.1))
    comes_on (choose q base c g h) p a t (inr (m, e, x)) = let r = comes_on h p (with m a.events) t x in (r.0, inr (with m a.events, (e, refl), r.1))
    comes_on (iterate q base c g) p a t (n, m, r, inl (e, i)) =
        let rounds = goes_rounds q base c g (goes_on g) n a m r in
        (rounds.0, (n, with m rounds.0, rounds.1, inl (e, rw i refl)))
    comes_on (iterate q base c g) p a t (n, m, r, inr (w, e, x)) =
        let rounds = goes_rounds q base c g (goes_on g) n a m r in
        let last = comes_on g p (tested q (with m rounds.0) w) t x in
        (last.0, (n, with m rounds.0, rounds.1, inr (tested q (with m rounds.0) w, test_alone q base c true (with m rounds.0) w e, last.1)))
    comes_on (catch q k g) p a t x = let r = comes_on g p a t x in (r.0, (λ e. cc, r.1))
    comes_on (leave n k) p a t x = absurd x
    comes_on (select q base e arms) p a t (l, m, s, x) = let r = arms_come_on l false arms p (with m a.events) t x in
        (r.0, (l, with m a.events, (s, refl), r.1))

    arms_come_on : (l : CaseLabel) (met : Bool) (arms : Arms) (p : ℕ) (a : Trace A) (t : State) → ArmsReachPoint l met arms a.state p t
        → (xs : List (TraceEvent A)) × ArmsRunUpTo name NoChange l met arms a (stopped (to_point p)) (with t xs)
    arms_come_on l met no_arms p a t x = absurd x
    arms_come_on l met (entry k arms) p a t x = arms_come_on l (met || is_same_case l k) arms p a t x
    arms_come_on l false (arm g arms) p a t x = arms_come_on l false arms p a t x
    arms_come_on l true (arm g arms) p a t (inl x) = let r = comes_on g p a t x in (r.0, inl r.1)
    arms_come_on l true (arm g arms) p a t (inr (m, x, y)) =
        let one = goes_on g a m x in
        let two = arms_come_on l true arms p (with m one.0) t y in
        (two.0, inr (with m one.0, one.1, two.1))

  mutual
    pub fails_on : (g : Node) (p : ℕ) (a : Trace A) → FailsAt g a.state p → (b : Trace A) × RunsUpTo name NoChange g a (stopped (to_failure p)) b
    fails_on empty p a x = absurd x
    fails_on (probe here what) p a x = absurd x
    fails_on (point q) p a x = absurd x
    fails_on (act q op) p a x = absurd x
    fails_on (check q base c) p a (e, t, x) = (a, (e, refl, t, x))
    fails_on (seq g h) p a (inl x) = let r = fails_on g p a x in (r.0, inl r.1)
    fails_on (seq g h) p a (inr (m, x, y)) =
        let one = goes_on g a m x in
        let two = fails_on h p (with m one.0) y in
        (two.0, inr (with m one.0, one.1, two.1))
    fails_on (choose q base c g h) p a (inl (m, e, x)) = let r = fails_on g p (with m a.events) x in (r.0, inl (with m a.events, (e, refl), r.1))
    fails_on (choose q base c g h) p a (inr (m, e, x)) = let r = fails_on h p (with m a.events) x in (r.0, inr (with m a.events, (e, refl), r.1))
    fails_on (iterate q base c g) p a (n, m, r, w, e, x) =
        let rounds = goes_rounds q base c g (goes_on g) n a m r in
        let last = fails_on g p (tested q (with m rounds.0) w) x in
        (last.0, (n, with m rounds.0, rounds.1, inr (tested q (with m rounds.0) w, test_alone q base c true (with m rounds.0) w e, last.1)))
    fails_on (catch q k g) p a x = let r = fails_on g p a x in (r.0, (λ e. cc, r.1))
    fails_on (leave n k) p a x = absurd x
    fails_on (select q base e arms) p a (l, m, s, x) = let r = arms_fail_on l false arms p (with m a.events) x in (r.0, (l, with m a.events, (s, refl), r.1))

    arms_fail_on : (l : CaseLabel) (met : Bool) (arms : Arms) (p : ℕ) (a : Trace A) → ArmsFail l met arms a.state p
        → (b : Trace A) × ArmsRunUpTo name NoChange l met arms a (stopped (to_failure p)) b
    arms_fail_on l met no_arms p a x = absurd x
    arms_fail_on l met (entry k arms) p a x = arms_fail_on l (met || is_same_case l k) arms p a x
    arms_fail_on l false (arm g arms) p a x = arms_fail_on l false arms p a x
    arms_fail_on l true (arm g arms) p a (inl x) = let r = fails_on g p a x in (r.0, inl r.1)
    arms_fail_on l true (arm g arms) p a (inr (m, x, y)) =
        let one = goes_on g a m x in
        let two = arms_fail_on l true arms p (with m one.0) y in
        (two.0, inr (with m one.0, one.1, two.1))
