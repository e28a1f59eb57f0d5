-- Laws for the use of trees' traces: points by other names, and what was met before.
use Rattle.std.proofs.Common.{◌≡◌, ℕ, zero, suc, List, [], ◌∷◌, ◌++◌, map, Bool, true, false, ◌||◌, inl, inr, refl, sym, ap, ◌∙◌, subst, append_assoc}
use Rattle.lra_operations.specs.Crates.{lra_base.CaseLabels.is_same_case, lra_base.declared.case_labels.CaseLabel.CaseLabel}
use Rattle.lra_program.specs.{Program.Expr, Program.Cond, Step.State, Step.Op, Step.test, Traces.TraceEvent, Traces.visit, Traces.Trace}
use Rattle.lra_operations.specs.Traces.{by_jump, RunExtent, to_end, stopped, RunsUpTo, ArmsRunUpTo, Finds, VisitsAndTests, TrailRounds, Performs, VisitsPoint}
use Rattle.lra_operations.specs.Tree.{Node, empty, probe, point, act, check, seq, choose, iterate, catch, leave, select, Arms, no_arms, entry, arm}

-- points by other names ------------------------------------------------------------------------------------------------

abbrev pub renamed_met : {A B : Type 0} → (A → B) → TraceEvent A → TraceEvent B
renamed_met f (visit p s) = visit (f p) s

abbrev pub renamed : {A B : Type 0} → (A → B) → Trace A → Trace B
renamed f a = record { state = a.state; events = map (renamed_met f) a.events }

module _ {A B : Type 0} (f : A → B) (name : ℕ → A) (may : State → State → Type 0) where
  abbrev G : Node → Trace A → RunExtent → Trace A → Type 0
  G = RunsUpTo name may

  abbrev R : Node → Trace B → RunExtent → Trace B → Type 0
  R = RunsUpTo (λ q. f (name q)) may

  abbrev Turn : ℕ → ℕ → Cond → Node → Trace A → Trace A → Type 0
  Turn q base c g u v = (w : Trace A) × VisitsAndTests name may q base c true u w × G g w to_end v

  abbrev RenamedTurn : ℕ → ℕ → Cond → Node → Trace B → Trace B → Type 0
  RenamedTurn q base c g u v = (w : Trace B) × VisitsAndTests (λ q. f (name q)) may q base c true u w × R g w to_end v

  passes_renamed : (q : ℕ) (a b : Trace A) → VisitsPoint name may q a b → VisitsPoint (λ q. f (name q)) may q (renamed f a) (renamed f b)
  passes_renamed q a b (m, e) = (m, ap (map (renamed_met f)) e)

  tests_renamed : (q base : ℕ) (c : Cond) (w : Bool) (a b : Trace A) → VisitsAndTests name may q base c w a b → VisitsAndTests (λ q. f (name q)) may q base c w (renamed f a) (renamed f b)
  tests_renamed q base c w a b (m, x, (o, e)) = (renamed f m, passes_renamed q a m x, (o, ap (map (renamed_met f)) e))

  turns_renamed : (q base : ℕ) (c : Cond) (g : Node) → ((a b : Trace A) → G g a to_end b → R g (renamed f a) to_end (renamed f b)) → (n : ℕ) (a b : Trace A) → TrailRounds (Turn q base c g) n a b
      → TrailRounds (RenamedTurn q base c g) n (renamed f a) (renamed f b)
  turns_renamed q base c g each zero a b e = ap (renamed f) e
  turns_renamed q base c g each (suc n) a b (m, r, (w, t, x)) = (renamed f m, turns_renamed q base c g each n a m r, (renamed f w, tests_renamed q base c true m w t, each w b x))

  -- a trace by the one names is one by the others
  mutual
    pub goes_renamed : (g : Node) (a : Trace A) (u : RunExtent) (b : Trace A) → G g a u b → R g (renamed f a) u (renamed f b)
    goes_renamed empty a to_end b e = ap (renamed f) e
    goes_renamed (probe here what) a to_end b e = ap (renamed f) e
    goes_renamed empty a (stopped z) b x = absurd x
    goes_renamed (probe here what) a (stopped z) b x = absurd x
    goes_renamed (point q) a to_end b x = passes_renamed q a b x
    goes_renamed (point q) a (stopped z) b (i, e) = (i, ap (renamed f) e)
    goes_renamed (act q op) a to_end b (o, e) = (o, ap (map (renamed_met f)) e)
    goes_renamed (act q op) a (stopped z) b x = absurd x
    goes_renamed (check q base c) a to_end b (o, e) = (o, ap (map (renamed_met f)) e)
    goes_renamed (check q base c) a (stopped z) b (i, e, t, o) = (i, ap (renamed f) e, t, o)
    goes_renamed (seq g h) a to_end b (m, x, y) = (renamed f m, goes_renamed g a to_end m x, goes_renamed h m to_end b y)
    goes_renamed (seq g h) a (stopped z) b (inl x) = inl (goes_renamed g a (stopped z) b x)
    goes_renamed (seq g h) a (stopped z) b (inr (m, x, y)) = inr (renamed f m, goes_renamed g a to_end m x, goes_renamed h m (stopped z) b y)
    goes_renamed (choose q base c g h) a u b (inl (m, (o, e), x)) = inl (renamed f m, (o, ap (map (renamed_met f)) e), goes_renamed g m u b x)
    goes_renamed (choose q base c g h) a u b (inr (m, (o, e), x)) = inr (renamed f m, (o, ap (map (renamed_met f)) e), goes_renamed h m u b x)
    goes_renamed (iterate q base c g) a to_end b (n, m, r, t) =
        (n, renamed f m, turns_renamed q base c g (λ a b x. goes_renamed g a to_end b x) n a m r, tests_renamed q base c false m b t)
    goes_renamed (iterate q base c g) a (stopped z) b (n, m, r, inl (i, e)) =
        (n, renamed f m, turns_renamed q base c g (λ a b x. goes_renamed g a to_end b x) n a m r, inl (i, ap (renamed f) e))
    goes_renamed (iterate q base c g) a (stopped z) b (n, m, r, inr (w, t, x)) = (
      n,
      renamed f m,
      turns_renamed q base c g (λ a b x. goes_renamed g a to_end b x) n a m r,
      inr
          (renamed f w, tests_renamed q base c true m w t, goes_renamed g w (stopped z) b x),
    )
    goes_renamed (catch q k g) a to_end b (inl x) = inl (goes_renamed g a to_end b x)
    goes_renamed (catch q k g) a to_end b (inr x) = inr (goes_renamed g a (stopped (by_jump k)) b x)
    goes_renamed (catch q k g) a (stopped z) b (d, x) = (d, goes_renamed g a (stopped z) b x)
    goes_renamed (leave n k) a to_end b x = absurd x
    goes_renamed (leave n k) a (stopped z) b (i, e) = (i, ap (renamed f) e)
    goes_renamed (select q base e arms) a u b (l, m, (s, i), x) = (l, renamed f m, (s, ap (map (renamed_met f)) i), arms_renamed l false arms m u b x)

    arms_renamed : (l : CaseLabel) (met : Bool) (arms : Arms) (a : Trace A) (u : RunExtent) (b : Trace A) → ArmsRunUpTo name may l met arms a u b
        → ArmsRunUpTo (λ q. f (name q)) may l met arms (renamed f a) u (renamed f b)
    arms_renamed l met no_arms a to_end b e = ap (renamed f) e
    arms_renamed l met no_arms a (stopped z) b x = absurd x
    arms_renamed l met (entry k arms) a u b x = arms_renamed l (met || is_same_case l k) arms a u b x
    arms_renamed l false (arm g arms) a u b x = arms_renamed l false arms a u b x
    arms_renamed l true (arm g arms) a to_end b (m, x, y) = (renamed f m, goes_renamed g a to_end m x, arms_renamed l true arms m to_end b y)
    arms_renamed l true (arm g arms) a (stopped z) b (inl x) = inl (goes_renamed g a (stopped z) b x)
    arms_renamed l true (arm g arms) a (stopped z) b (inr (m, x, y)) = inr
        (renamed f m, goes_renamed g a to_end m x, arms_renamed l true arms m (stopped z) b y)

  -- the other way: a run by the others is one by the ones --------------------------------------------------------------

  -- the trace in the ones' names
  abbrev Named : Node → Trace A → RunExtent → Trace B → Type 0
  Named g a u b = (d : Trace A) × G g a u d × (b ≡ renamed f d)

  tests_named : (q base : ℕ) (c : Cond) (w : Bool) (a : Trace A) (b : Trace B) → VisitsAndTests (λ q. f (name q)) may q base c w (renamed f a) b →
      (d : Trace A) × VisitsAndTests name may q base c w a d × (b ≡ renamed f d)
  tests_named q base c w a b (m, (x, i), (o, e)) = (
    record { state = b.state; events = visit (name q) a.state ∷ a.events },
    (record { state = m.state; events = visit (name q) a.state ∷ a.events }, (x, refl), (o, refl)),
    ap (λ xs. let t : Trace B = record { state = b.state; events = xs } in t) (e ∙ i),
  )

  turns_named : (q base : ℕ) (c : Cond) (g : Node) → ((a : Trace A) (b : Trace B) → R g (renamed f a) to_end b → Named g a to_end b) → (n : ℕ) (a : Trace A) (b : Trace B)
      → TrailRounds (RenamedTurn q base c g) n (renamed f a) b → (d : Trace A) × TrailRounds (Turn q base c g) n a d × (b ≡ renamed f d)
  turns_named q base c g each zero a b e = (a, refl, e)
  turns_named q base c g each (suc n) a b (m, r, (w, t, x)) =
      let (d, y, i) = turns_named q base c g each n a m r in
      let (v, t', j) = tests_named q base c true d w (subst (λ z. VisitsAndTests (λ q. f (name q)) may q base c true z w) i t) in
      let (e, x', k) = each v b (subst (λ z. R g z to_end b) j x) in
      (e, (d, y, (v, t', x')), k)

  performed_named : (op : Op) (a : Trace A) (b : Trace B) → Performs op (renamed f a) b → (d : Trace A) × Performs op a d × (b ≡ renamed f d)
  performed_named op a b (o, e) =
      (record { state = b.state; events = a.events }, (o, refl), ap (λ xs. let t : Trace B = record { state = b.state; events = xs } in t) e)

  mutual
    pub goes_named : (g : Node) (a : Trace A) (u : RunExtent) (b : Trace B) → R g (renamed f a) u b → Named g a u b
    goes_named empty a to_end b e = (a, refl, e)
    goes_named (probe here what) a to_end b e = (a, refl, e)
    goes_named empty a (stopped z) b x = absurd x
    goes_named (probe here what) a (stopped z) b x = absurd x
    goes_named (point q) a to_end b (m, e) = (
      record { state = b.state; events = visit (name q) a.state ∷ a.events },
      (m, refl),
      ap (λ xs. let t : Trace B = record { state = b.state; events = xs } in t) e,
    )
    goes_named (point q) a (stopped z) b (i, e) = (a, (i, refl), e)
    goes_named (act q op) a to_end b x = performed_named op a b x
    goes_named (act q op) a (stopped z) b x = absurd x
    goes_named (check q base c) a to_end b x = performed_named (test base c true) a b x
    goes_named (check q base c) a (stopped z) b (i, e, t, o) = (a, (i, refl, t, o), e)
    goes_named (seq g h) a to_end b (m, x, y) =
        let (d, x', i) = goes_named g a to_end m x in
        let (e, y', j) = goes_named h d to_end b (subst (λ v. R h v to_end b) i y) in
        (e, (d, x', y'), j)
    goes_named (seq g h) a (stopped z) b (inl x) = let (d, x', i) = goes_named g a (stopped z) b x in (d, inl x', i)
    goes_named (seq g h) a (stopped z) b (inr (m, x, y)) =
        let (d, x', i) = goes_named g a to_end m x in
        let (e, y', j) = goes_named h d (stopped z) b (subst (λ v. R h v (stopped z) b) i y) in
        (e, inr (d, x', y'), j)
    goes_named (choose q base c g h) a u b (inl (m, o, x)) =
        let (d, o', i) = performed_named (test base c true) a m o in
        let (e, x', j) = goes_named g d u b (subst (λ v. R g v u b) i x) in
        (e, inl (d, o', x'), j)
    goes_named (choose q base c g h) a u b (inr (m, o, x)) =
        let (d, o', i) = performed_named (test base c false) a m o in
        let (e, x', j) = goes_named h d u b (subst (λ v. R h v u b) i x) in
        (e, inr (d, o', x'), j)
    goes_named (iterate q base c g) a to_end b (n, m, r, t) =
        let (d, r', i) = turns_named q base c g (λ a b x. goes_named g a to_end b x) n a m r in
        let (e, t', j) = tests_named q base c false d b (subst (λ v. VisitsAndTests (λ q. f (name q)) may q base c false v b) i t) in
        (e, (n, d, r', t'), j)
    goes_named (iterate q base c g) a (stopped z) b (n, m, r, inl (p, e)) =
        let (d, r', i) = turns_named q base c g (λ a b x. goes_named g a to_end b x) n a m r in
        (d, (n, d, r', inl (p, refl)), e ∙ i)
    goes_named (iterate q base c g) a (stopped z) b (n, m, r, inr (w, t, x)) =
        let (d, r', i) = turns_named q base c g (λ a b x. goes_named g a to_end b x) n a m r in
        let (e, t', j) = tests_named q base c true d w (subst (λ v. VisitsAndTests (λ q. f (name q)) may q base c true v w) i t) in
        let (v, x', k) = goes_named g e (stopped z) b (subst (λ y. R g y (stopped z) b) j x) in
        (v, (n, d, r', inr (e, t', x')), k)
    goes_named (catch q k g) a to_end b (inl x) = let (d, x', i) = goes_named g a to_end b x in (d, inl x', i)
    goes_named (catch q k g) a to_end b (inr x) = let (d, x', i) = goes_named g a (stopped (by_jump k)) b x in (d, inr x', i)
    goes_named (catch q k g) a (stopped z) b (n, x) = let (d, x', i) = goes_named g a (stopped z) b x in (d, (n, x'), i)
    goes_named (leave n k) a to_end b x = absurd x
    goes_named (leave n k) a (stopped z) b (i, e) = (a, (i, refl), e)
    goes_named (select q base e arms) a u b (l, m, (s, i), x) =
        let d : Trace A = record { state = m.state; events = a.events } in
        let same : m ≡ renamed f d = ap (λ xs. let t : Trace B = record { state = m.state; events = xs } in t) i in
        let (v, x', j) = arms_named l false arms d u b (subst (λ w. ArmsRunUpTo (λ q. f (name q)) may l false arms w u b) same x) in
        (v, (l, d, (s, refl), x'), j)

    arms_named : (l : CaseLabel) (met : Bool) (arms : Arms) (a : Trace A) (u : RunExtent) (b : Trace B)
        → ArmsRunUpTo (λ q. f (name q)) may l met arms (renamed f a) u b
        → (d : Trace A) × ArmsRunUpTo name may l met arms a u d × (b ≡ renamed f d)
    arms_named l met no_arms a to_end b e = (a, refl, e)
    arms_named l met no_arms a (stopped z) b x = absurd x
    arms_named l met (entry k arms) a u b x = arms_named l (met || is_same_case l k) arms a u b x
    arms_named l false (arm g arms) a u b x = arms_named l false arms a u b x
    arms_named l true (arm g arms) a to_end b (m, x, y) =
        let (d, x', i) = goes_named g a to_end m x in
        let (e, y', j) = arms_named l true arms d to_end b (subst (λ v. ArmsRunUpTo (λ q. f (name q)) may l true arms v to_end b) i y) in
        (e, (d, x', y'), j)
    arms_named l true (arm g arms) a (stopped z) b (inl x) = let (d, x', i) = goes_named g a (stopped z) b x in (d, inl x', i)
    arms_named l true (arm g arms) a (stopped z) b (inr (m, x, y)) =
        let (d, x', i) = goes_named g a to_end m x in
        let (e, y', j) = arms_named l true arms d (stopped z) b (subst (λ v. ArmsRunUpTo (λ q. f (name q)) may l true arms v (stopped z) b) i y) in
        (e, inr (d, x', y'), j)

-- what was met before --------------------------------------------------------------------------------------------------

module _ {A : Type 0} (name : ℕ → A) (may : State → State → Type 0) where
  abbrev with : State → List (TraceEvent A) → Trace A
  with t xs = record { state = t; events = xs }

  -- the relation holds whatever was met before, and something new is met
  abbrev pub Onward : (Trace A → Trace A → Type 0) → Trace A → Trace A → Type 0
  Onward X a b = (new : List (TraceEvent A)) × (b.events ≡ new ++ a.events) × ((zs : List (TraceEvent A)) → X (with a.state zs) (with b.state (new ++ zs)))

  onward_then : (X Y Z : Trace A → Trace A → Type 0) → ((a m b : Trace A) → X a m → Y m b → Z a b) → (a m b : Trace A) → Onward X a m → Onward Y m b → Onward Z a b
  onward_then X Y Z f a m b (new, e, x) (newer, i, y) =
      let joined : (zs : List (TraceEvent A)) → newer ++ (new ++ zs) ≡ (newer ++ new) ++ zs = λ zs. sym (append_assoc newer new zs) in (
        newer ++ new,
        i ∙ ap (λ v. newer ++ v) e ∙ joined a.events,
        λ zs. f (with a.state zs) (with m.state (new ++ zs)) (with b.state ((newer ++ new) ++ zs)) (x zs) (subst (λ v. Y (with m.state (new ++ zs)) (with b.state v)) (joined zs) (y (new ++ zs))),
      )

  onward_as : (X Z : Trace A → Trace A → Type 0) → ((a b : Trace A) → X a b → Z a b) → (a b : Trace A) → Onward X a b → Onward Z a b
  onward_as X Z f a b (new, e, x) = (new, e, λ zs. f (with a.state zs) (with b.state (new ++ zs)) (x zs))

  stays_onward : (a b : Trace A) → b ≡ a → Onward (λ a b. b ≡ a) a b
  stays_onward a b e = ([], ap (λ (t : Trace A). t.events) e, λ zs. ap (λ (t : Trace A). with t.state zs) e)

  performs_onward : (op : Op) (a b : Trace A) → Performs op a b → Onward (Performs op) a b
  performs_onward op a b (o, e) = ([], e, λ zs. (o, refl))

  tests_onward : (q base : ℕ) (c : Cond) (w : Bool) (a b : Trace A) → VisitsAndTests name may q base c w a b → Onward (VisitsAndTests name may q base c w) a b
  tests_onward q base c w a b (m, (x, e), (o, i)) = (visit (name q) a.state ∷ [], i ∙ e, λ zs. (with m.state (visit (name q) a.state ∷ zs), (x, refl), (o, refl)))

  rounds_onward : (one : Trace A → Trace A → Type 0) → ((a b : Trace A) → one a b → Onward one a b) → (n : ℕ) (a b : Trace A) → TrailRounds one n a b → Onward (TrailRounds one n) a b
  rounds_onward one each zero a b e = stays_onward a b e
  rounds_onward one each (suc n) a b (m, r, x) =
      onward_then (TrailRounds one n) one (TrailRounds one (suc n)) (λ a m b y z. (m, y, z)) a m b (rounds_onward one each n a m r) (each m b x)

  abbrev Turning : ℕ → ℕ → Cond → Node → Trace A → Trace A → Type 0
  Turning q base c g u v = (w : Trace A) × VisitsAndTests name may q base c true u w × RunsUpTo name may g w to_end v

  turns_onward : (q base : ℕ) (c : Cond) (g : Node) → ((a b : Trace A) → RunsUpTo name may g a to_end b → Onward (λ a b. RunsUpTo name may g a to_end b) a b) → (n : ℕ) (a b : Trace A)
      → TrailRounds (Turning q base c g) n a b → Onward (TrailRounds (Turning q base c g) n) a b
  turns_onward q base c g each n a b r = rounds_onward (Turning q base c g) (λ u v o. onward_then (VisitsAndTests name may q base c true) (λ a b. RunsUpTo name may g a to_end b) (Turning q base c g)
      (λ a m b y z. (m, y, z)) u o.0 v (tests_onward q base c true u o.0 o.1) (each o.0 v o.2)) n a b r

  finds_onward : (base : ℕ) (e : Expr) (arms : Arms) (l : CaseLabel) (a b : Trace A) → Finds base e arms a l b → Onward (λ a b. Finds base e arms a l b) a b
  finds_onward base e arms l a b (s, i) = ([], i, λ zs. (s, refl))

  -- what is met doesn't depend on what was met before
  mutual
    pub goes_onward : (g : Node) (a : Trace A) (u : RunExtent) (b : Trace A) → RunsUpTo name may g a u b → Onward (λ a b. RunsUpTo name may g a u b) a b
    goes_onward empty a to_end b e = stays_onward a b e
    goes_onward (probe here what) a to_end b e = stays_onward a b e
    goes_onward empty a (stopped z) b x = absurd x
    goes_onward (probe here what) a (stopped z) b x = absurd x
    goes_onward (point q) a to_end b (m, e) = (visit (name q) a.state ∷ [], e, λ zs. (m, refl))
    goes_onward (point q) a (stopped z) b (i, e) = onward_as (λ a b. b ≡ a) (λ a b. RunsUpTo name may (point q) a (stopped z) b) (λ a b y. (i, y)) a b
        (stays_onward a b e)
    goes_onward (act q op) a to_end b x = performs_onward op a b x
    goes_onward (act q op) a (stopped z) b x = absurd x
    goes_onward (check q base c) a to_end b x = performs_onward (test base c true) a b x
    goes_onward (check q base c) a (stopped z) b (i, e, t, o) = ([], ap (λ (t : Trace A). t.events) e, λ zs. (i, ap (λ (t : Trace A). with t.state zs) e, t, o))
    goes_onward (seq g h) a to_end b (m, x, y) = onward_then (λ a b. RunsUpTo name may g a to_end b) (λ a b. RunsUpTo name may h a to_end b)
        (λ a b. RunsUpTo name may (seq g h) a to_end b)
        (λ a m b y z. (m, y, z)) a m b (goes_onward g a to_end m x) (goes_onward h m to_end b y)
    goes_onward (seq g h) a (stopped z) b (inl x) = onward_as (λ a b. RunsUpTo name may g a (stopped z) b) (λ a b. RunsUpTo name may (seq g h) a (stopped z) b)
        (λ a b y. inl y) a b
        (goes_onward g a (stopped z) b x)
    goes_onward (seq g h) a (stopped z) b (inr (m, x, y)) =
        onward_then (λ a b. RunsUpTo name may g a to_end b) (λ a b. RunsUpTo name may h a (stopped z) b) (λ a b. RunsUpTo name may (seq g h) a (stopped z) b)
        (λ a m b y z. inr (m, y, z)) a m b (goes_onward g a to_end m x) (goes_onward h m (stopped z) b y)
    goes_onward (choose q base c g h) a u b (inl (m, o, x)) =
        onward_then (Performs (test base c true)) (λ a b. RunsUpTo name may g a u b) (λ a b. RunsUpTo name may (choose q base c g h) a u b)
        (λ a m b y z. inl (m, y, z)) a m b (performs_onward (test base c true) a m o) (goes_onward g m u b x)
    goes_onward (choose q base c g h) a u b (inr (m, o, x)) =
        onward_then (Performs (test base c false)) (λ a b. RunsUpTo name may h a u b) (λ a b. RunsUpTo name may (choose q base c g h) a u b)
        (λ a m b y z. inr (m, y, z)) a m b (performs_onward (test base c false) a m o) (goes_onward h m u b x)
    goes_onward (iterate q base c g) a to_end b (n, m, r, t) =
        onward_then (TrailRounds (Turning q base c g) n) (VisitsAndTests name may q base c false) (λ a b. RunsUpTo name may (iterate q base c g) a to_end b)
        (λ a m b y z. (n, m, y, z)) a m b (turns_onward q base c g (λ a b x. goes_onward g a to_end b x) n a m r) (tests_onward q base c false m b t)
    goes_onward (iterate q base c g) a (stopped z) b (n, m, r, inl (i, e)) =
        onward_then (TrailRounds (Turning q base c g) n) (λ a b. b ≡ a) (λ a b. RunsUpTo name may (iterate q base c g) a (stopped z) b)
        (λ a m b y x. (n, m, y, inl (i, x))) a m b (turns_onward q base c g (λ a b x. goes_onward g a to_end b x) n a m r) (stays_onward m b e)
    goes_onward (iterate q base c g) a (stopped z) b (n, m, r, inr (w, t, x)) =
        onward_then (TrailRounds (Turning q base c g) n)
        (λ a b. (w : Trace A) × VisitsAndTests name may q base c true a w × RunsUpTo name may g w (stopped z) b)
        (λ a b. RunsUpTo name may (iterate q base c g) a (stopped z) b)
        (λ a m b y x. (n, m, y, inr x)) a m b (turns_onward q base c g (λ a b x. goes_onward g a to_end b x) n a m r)
        (onward_then (VisitsAndTests name may q base c true) (λ a b. RunsUpTo name may g a (stopped z) b)
        (λ a b. (w : Trace A) × VisitsAndTests name may q base c true a w
        × RunsUpTo name may g w (stopped z) b)
        (λ a m b y z. (m, y, z)) m w b (tests_onward q base c true m w t) (goes_onward g w (stopped z) b x))
    goes_onward (catch q k g) a to_end b (inl x) =
        onward_as (λ a b. RunsUpTo name may g a to_end b) (λ a b. RunsUpTo name may (catch q k g) a to_end b) (λ a b y. inl y) a b (goes_onward g a to_end b x)
    goes_onward (catch q k g) a to_end b (inr x) =
        onward_as (λ a b. RunsUpTo name may g a (stopped (by_jump k)) b) (λ a b. RunsUpTo name may (catch q k g) a to_end b) (λ a b y. inr y) a b
        (goes_onward g a (stopped (by_jump k)) b x)
    goes_onward (catch q k g) a (stopped z) b (d, x) =
        onward_as (λ a b. RunsUpTo name may g a (stopped z) b) (λ a b. RunsUpTo name may (catch q k g) a (stopped z) b) (λ a b y. (d, y)) a b
        (goes_onward g a (stopped z) b x)
    goes_onward (leave n k) a to_end b x = absurd x
    goes_onward (leave n k) a (stopped z) b (i, e) =
        onward_as (λ a b. b ≡ a) (λ a b. RunsUpTo name may (leave n k) a (stopped z) b) (λ a b y. (i, y)) a b (stays_onward a b e)
    goes_onward (select q base e arms) a u b (l, m, t, x) =
        onward_then (λ a b. Finds base e arms a l b) (λ a b. ArmsRunUpTo name may l false arms a u b) (λ a b. RunsUpTo name may (select q base e arms) a u b)
        (λ a m b y z. (l, m, y, z)) a m b (finds_onward base e arms l a m t) (arms_onward l false arms m u b x)

    arms_onward : (l : CaseLabel) (met : Bool) (arms : Arms) (a : Trace A) (u : RunExtent) (b : Trace A) → ArmsRunUpTo name may l met arms a u b
        → Onward (λ a b. ArmsRunUpTo name may l met arms a u b) a b
    arms_onward l met no_arms a to_end b e = stays_onward a b e
    arms_onward l met no_arms a (stopped z) b x = absurd x
    arms_onward l met (entry k arms) a u b x = arms_onward l (met || is_same_case l k) arms a u b x
    arms_onward l false (arm g arms) a u b x = arms_onward l false arms a u b x
    arms_onward l true (arm g arms) a to_end b (m, x, y) =
        onward_then (λ a b. RunsUpTo name may g a to_end b) (λ a b. ArmsRunUpTo name may l true arms a to_end b)
        (λ a b. ArmsRunUpTo name may l true (arm g arms) a to_end b)
        (λ a m b y z. (m, y, z)) a m b (goes_onward g a to_end m x) (arms_onward l true arms m to_end b y)
    arms_onward l true (arm g arms) a (stopped z) b (inl x) =
        onward_as (λ a b. RunsUpTo name may g a (stopped z) b) (λ a b. ArmsRunUpTo name may l true (arm g arms) a (stopped z) b) (λ a b y. inl y) a b
        (goes_onward g a (stopped z) b x)
    arms_onward l true (arm g arms) a (stopped z) b (inr (m, x, y)) =
        onward_then (λ a b. RunsUpTo name may g a to_end b) (λ a b. ArmsRunUpTo name may l true arms a (stopped z) b)
        (λ a b. ArmsRunUpTo name may l true (arm g arms) a (stopped z) b)
        (λ a m b y z. inr (m, y, z)) a m b (goes_onward g a to_end m x) (arms_onward l true arms m (stopped z) b y)
