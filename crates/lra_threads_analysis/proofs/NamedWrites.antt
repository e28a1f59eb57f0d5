-- What a tree's run gives on a trace with other names of its points, it gives on one with the points' own names.
use Rattle.std.proofs.Common.{◌≡◌, ℕ, zero, suc, Bool, true, false, ◌||◌, inl, inr, refl, ap, subst}
use Rattle.lra_threads_analysis.specs.Crates.lra_operations.Tree.{Node, empty, probe, point, act, check, seq, choose, iterate, catch, leave, select, Arms, no_arms, entry, arm}
use Rattle.lra_threads_analysis.specs.Crates.{lra_base.CaseLabels.is_same_case, lra_base.declared.case_labels.CaseLabel.CaseLabel, lra_operations.Traces.to_end, lra_operations.Traces.RunsUpTo}
use Rattle.lra_threads_analysis.specs.Crates.{lra_operations.Traces.TrailRounds, lra_program.Program.Cond, lra_program.Step.State, lra_program.Step.test, lra_program.Traces.Trace}
use Rattle.lra_threads_analysis.proofs.Crates.lra_operations.TraceUses.{renamed, goes_named}
use Rattle.lra_threads_analysis.specs.Crates.lra_analysis_spec.Instrumented as opened

-- past a loop's point and its test; and once round it
abbrev tested : ℕ → ℕ → Cond → Node
tested q base c = seq (point q) (act q (test base c true))

abbrev once : ℕ → ℕ → Cond → Node → Node
once q base c g = seq (tested q base c) g

module _ {A B : Type 0} (f : A → B) (name : ℕ → A) (may : State → State → Type 0) where
  abbrev R : Node → Trace B → Trace B → Type 0
  R g a b = RunsUpTo (λ q. f (name q)) may g a to_end b

  abbrev Given : Node → Trace B → ℕ → ℕ → Trace B → Type 0
  Given g a p x b = opened.WritesVariable (λ q. f (name q)) may g a p x b

  abbrev GivenArms : CaseLabel → Bool → Arms → Trace B → ℕ → ℕ → Trace B → Type 0
  GivenArms l met arms a p x b = opened.ArmsWriteVariable (λ q. f (name q)) may l met arms a p x b

  -- the trace in the points' own names
  abbrev Named : (Trace A → Type 0) → Trace B → Type 0
  Named G b = (d : Trace A) × G d × (b ≡ renamed f d)

  rounds_named : (one : Trace A → Trace A → Type 0) (two : Trace B → Trace B → Type 0)
      → ((a : Trace A) (b : Trace B) → two (renamed f a) b → Named (one a) b)
      → (n : ℕ) (a : Trace A) (b : Trace B) → TrailRounds two n (renamed f a) b → Named (TrailRounds one n a) b
  rounds_named one two each zero a b e = (a, refl, e)
  rounds_named one two each (suc n) a b (m, r, o) =
      let (d, r', i) = rounds_named one two each n a m r in
      let (e, o', j) = each d b (subst (λ v. two v b) i o) in
      (e, (d, r', o'), j)

  mutual
    pub gives_named : (g : Node) (a : Trace A) (p x : ℕ) (b : Trace B) → Given g (renamed f a) p x b → Named (λ d. opened.WritesVariable name may g a p x d) b
    gives_named empty a p x b y = absurd y
    gives_named (point q) a p x b y = absurd y
    gives_named (probe here what) a p x b y = absurd y
    gives_named (act q op) a p x b (i, gift, o) = let (d, o', e) = goes_named f name may (act q op) a to_end b o in (d, (i, gift, o'), e)
    gives_named (check q base c) a p x b y = absurd y
    gives_named (seq g h) a p x b (inl y) = let (d, y', i) = gives_named g a p x b y in (d, inl y', i)
    gives_named (seq g h) a p x b (inr (m, o, y)) =
        let (d, o', i) = goes_named f name may g a to_end m o in
        let (e, y', j) = gives_named h d p x b (subst (λ v. Given h v p x b) i y) in
        (e, inr (d, o', y'), j)
    gives_named (choose q base c g h) a p x b (inl (m, o, y)) =
        let (d, o', i) = goes_named f name may (act q (test base c true)) a to_end m o in
        let (e, y', j) = gives_named g d p x b (subst (λ v. Given g v p x b) i y) in
        (e, inl (d, o', y'), j)
    gives_named (choose q base c g h) a p x b (inr (m, o, y)) =
        let (d, o', i) = goes_named f name may (act q (test base c false)) a to_end m o in
        let (e, y', j) = gives_named h d p x b (subst (λ v. Given h v p x b) i y) in
        (e, inr (d, o', y'), j)
    gives_named (iterate q base c g) a p x b (n, m, r, w, t, y) =
        let (d, r', i) = rounds_named (λ u v. RunsUpTo name may (once q base c g) u to_end v) (R (once q base c g))
        (λ u v z. goes_named f name may (once q base c g) u to_end v z) n a m r in
        let (e, t', j) = goes_named f name may (tested q base c) d to_end w (subst (λ v. R (tested q base c) v w) i t) in
        let (s, y', k) = gives_named g e p x b (subst (λ v. Given g v p x b) j y) in
        (s, (n, d, r', e, t', y'), k)
    gives_named (catch q k g) a p x b y = gives_named g a p x b y
    gives_named (leave n k) a p x b y = absurd y
    gives_named (select q base e arms) a p x b (l, m, (s, i), y) =
        let d : Trace A = record { state = m.state; events = a.events } in
        let same : m ≡ renamed f d = ap (λ xs. let t : Trace B = record { state = m.state; events = xs } in t) i in
        let (v, y', j) = arms_named l false arms d p x b (subst (λ w. GivenArms l false arms w p x b) same y) in
        (v, (l, d, (s, refl), y'), j)

    arms_named : (l : CaseLabel) (met : Bool) (arms : Arms) (a : Trace A) (p x : ℕ) (b : Trace B) → GivenArms l met arms (renamed f a) p x b
        → Named (λ d. opened.ArmsWriteVariable name may l met arms a p x d) b
    arms_named l met no_arms a p x b y = absurd y
    arms_named l met (entry k arms) a p x b y = arms_named l (met || is_same_case l k) arms a p x b y
    arms_named l false (arm g arms) a p x b y = arms_named l false arms a p x b y
    arms_named l true (arm g arms) a p x b (inl y) = let (d, y', i) = gives_named g a p x b y in (d, inl y', i)
    arms_named l true (arm g arms) a p x b (inr (m, o, y)) =
        let (d, o', i) = goes_named f name may g a to_end m o in
        let (e, y', j) = arms_named l true arms d p x b (subst (λ v. GivenArms l true arms v p x b) i y) in
        (e, inr (d, o', y'), j)
