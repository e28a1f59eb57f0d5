-- A program with its calls written out, as a tree of operations, and the runs of such a tree.
-- Points are numbered from 0 here; a report's numbers are one more.
use Rattle.std.specs.Prelude.{◌≡◌, ◌≢◌, ℕ, zero, suc, ℤ, List, [], ◌∷◌, Some, Bool, true, false, ◌||◌, ◌⊎◌}
use Rattle.lra_operations.specs.Crates.lra_base.CaseLabels.{is_same_case, goal_of}
use Rattle.lra_operations.specs.Crates.lra_base.declared.case_labels.CaseLabel.{CaseLabel}
use Rattle.lra_operations.specs.declared.probes.Probe.{Probe}
use Rattle.lra_program.specs.Step.{State, environment_at, Op, run_op, test}
use Rattle.lra_program.specs.{Program.Expr, Program.Cond, Value.value_of}

-- why a tree is left before its end: by `break`, `continue`, `return`
pub data Exit : Type 0 where
  broken : Exit
  continued : Exit
  returned : Exit

-- how a tree is left
pub data Completion : Type 0 where
  normal : Completion
  jump : Exit → Completion

mutual
  -- the first number of an operation is that of the point to which it belongs; a condition, and an expression, stands
  -- with the `base` of its call
  pub data Node : Type 0 where
    empty : Node
    point : ℕ → Node
    -- what is done there beside the program's own operations: no run of the tree sees it
    probe : ℕ → Probe → Node
    -- a least change of the state
    act : ℕ → Op → Node
    -- an assertion: a test with a verdict
    check : ℕ → ℕ → Cond → Node
    -- the one, then the other
    seq : Node → Node → Node
    -- the tree for a true condition, then the tree for a false one
    choose : ℕ → ℕ → Cond → Node → Node → Node
    -- a loop: its point stands before the test, at each round
    iterate : ℕ → ℕ → Cond → Node → Node
    -- jumps of this kind come out after it
    catch : ℕ → Exit → Node → Node
    -- the tree is left; so many variables live where the jump's statement stands, before what it cuts
    leave : ℕ → Exit → Node
    -- a value is computed, and the arms run that come after the label to which it goes, one after the other
    select : ℕ → ℕ → Expr → Arms → Node

  -- labels, and the trees that come after them, in text order
  pub data Arms : Type 0 where
    no_arms : Arms
    entry : CaseLabel → Arms → Arms
    arm : Node → Arms → Arms

abbrev pub entries_of : Arms → List CaseLabel
entries_of no_arms = []
entries_of (entry l arms) = l ∷ entries_of arms
entries_of (arm a arms) = entries_of arms

-- the expression's value, if it has one, goes to this label; the second state is after its draws
abbrev pub Selects : ℕ → Expr → Arms → State → CaseLabel → State → Type 0
Selects base e arms s l t = (z : ℤ) × (value_of e (environment_at base s) s.draws ≡ Some (z, t.draws)) ×
    (t ≡ record s { draws = t.draws }) × (l ≡ goal_of z (entries_of arms))

-- n rounds lead from the first state to the second
abbrev pub LoopRounds : (State → State → Type 0) → ℕ → State → State → Type 0
LoopRounds one zero s t = t ≡ s
LoopRounds one (suc n) s t = (m : State) × LoopRounds one n s m × one m t

abbrev mutual
  -- a run of the tree from the first state ends so, with the second
  pub Completes : Node → State → Completion → State → Type 0
  Completes empty s normal t = t ≡ s
  Completes (probe here what) s normal t = t ≡ s
  Completes empty s (jump j) t = ⊥
  Completes (probe here what) s (jump j) t = ⊥
  Completes (point q) s normal t = t ≡ s
  Completes (point q) s (jump j) t = ⊥
  Completes (act q op) s normal t = run_op op s ≡ Some t
  Completes (act q op) s (jump j) t = ⊥
  Completes (check q base c) s normal t = run_op (test base c true) s ≡ Some t
  Completes (check q base c) s (jump j) t = ⊥
  Completes (seq a b) s normal t = (m : State) × Completes a s normal m × Completes b m normal t
  Completes (seq a b) s (jump j) t =
      Completes a s (jump j) t ⊎ ((m : State) × Completes a s normal m × Completes b m (jump j) t)
  Completes (choose q base c a b) s h t =
      ((m : State) × (run_op (test base c true) s ≡ Some m) × Completes a m h t) ⊎
      ((m : State) × (run_op (test base c false) s ≡ Some m) × Completes b m h t)
  Completes (iterate q base c a) s normal t =
      (n : ℕ) × (m : State) ×
      LoopRounds (λ u v. (w : State) × (run_op (test base c true) u ≡ Some w) × Completes a w normal v) n s m ×
      (run_op (test base c false) m ≡ Some t)
  Completes (iterate q base c a) s (jump j) t =
      (n : ℕ) × (m : State) × (w : State) ×
      LoopRounds (λ u v. (w : State) × (run_op (test base c true) u ≡ Some w) × Completes a w normal v) n s m ×
      (run_op (test base c true) m ≡ Some w) × Completes a w (jump j) t
  Completes (catch q k a) s normal t = Completes a s normal t ⊎ Completes a s (jump k) t
  Completes (catch q k a) s (jump j) t = (j ≢ k) × Completes a s (jump j) t
  Completes (leave n k) s normal t = ⊥
  Completes (leave n k) s (jump j) t = (j ≡ k) × (t ≡ s)
  Completes (select q base e arms) s h t =
      (l : CaseLabel) × (m : State) × Selects base e arms s l m × ArmsComplete l false arms m h t

  -- of arms, by the label to which the value goes, and whether it was met: those before it are passed over
  pub ArmsComplete : CaseLabel → Bool → Arms → State → Completion → State → Type 0
  ArmsComplete l met no_arms s normal t = t ≡ s
  ArmsComplete l met no_arms s (jump j) t = ⊥
  ArmsComplete l met (entry k arms) s h t = ArmsComplete l (met || is_same_case l k) arms s h t
  ArmsComplete l false (arm a arms) s h t = ArmsComplete l false arms s h t
  ArmsComplete l true (arm a arms) s normal t =
      (m : State) × Completes a s normal m × ArmsComplete l true arms m normal t
  ArmsComplete l true (arm a arms) s (jump j) t = Completes a s (jump j) t ⊎
      ((m : State) × Completes a s normal m × ArmsComplete l true arms m (jump j) t)

abbrev mutual
  -- a run of the tree from the first state reaches the point with the second
  pub ReachesPoint : Node → State → ℕ → State → Type 0
  ReachesPoint empty s p t = ⊥
  ReachesPoint (probe here what) s p t = ⊥
  ReachesPoint (point q) s p t = (p ≡ q) × (t ≡ s)
  ReachesPoint (act q op) s p t = ⊥
  ReachesPoint (check q base c) s p t = ⊥
  ReachesPoint (seq a b) s p t = ReachesPoint a s p t ⊎ ((m : State) × Completes a s normal m × ReachesPoint b m p t)
  ReachesPoint (choose q base c a b) s p t =
      ((m : State) × (run_op (test base c true) s ≡ Some m) × ReachesPoint a m p t) ⊎
      ((m : State) × (run_op (test base c false) s ≡ Some m) × ReachesPoint b m p t)
  ReachesPoint (iterate q base c a) s p t =
      (n : ℕ) × (m : State) ×
      LoopRounds (λ u v. (w : State) × (run_op (test base c true) u ≡ Some w) × Completes a w normal v) n s m ×
      (((p ≡ q) × (t ≡ m)) ⊎ ((w : State) × (run_op (test base c true) m ≡ Some w) × ReachesPoint a w p t))
  ReachesPoint (catch q k a) s p t = ReachesPoint a s p t
  ReachesPoint (leave n k) s p t = ⊥
  ReachesPoint (select q base e arms) s p t =
      (l : CaseLabel) × (m : State) × Selects base e arms s l m × ArmsReachPoint l false arms m p t

  pub ArmsReachPoint : CaseLabel → Bool → Arms → State → ℕ → State → Type 0
  ArmsReachPoint l met no_arms s p t = ⊥
  ArmsReachPoint l met (entry k arms) s p t = ArmsReachPoint l (met || is_same_case l k) arms s p t
  ArmsReachPoint l false (arm a arms) s p t = ArmsReachPoint l false arms s p t
  ArmsReachPoint l true (arm a arms) s p t = ReachesPoint a s p t ⊎
      ((m : State) × Completes a s normal m × ArmsReachPoint l true arms m p t)

abbrev mutual
  -- a run of the tree from the state reaches the point, and the assertion there is false
  pub FailsAt : Node → State → ℕ → Type 0
  FailsAt empty s p = ⊥
  FailsAt (probe here what) s p = ⊥
  FailsAt (point q) s p = ⊥
  FailsAt (act q op) s p = ⊥
  FailsAt (check q base c) s p = (p ≡ q) × (t : State) × (run_op (test base c false) s ≡ Some t)
  FailsAt (seq a b) s p = FailsAt a s p ⊎ ((m : State) × Completes a s normal m × FailsAt b m p)
  FailsAt (choose q base c a b) s p =
      ((m : State) × (run_op (test base c true) s ≡ Some m) × FailsAt a m p) ⊎
      ((m : State) × (run_op (test base c false) s ≡ Some m) × FailsAt b m p)
  FailsAt (iterate q base c a) s p =
      (n : ℕ) × (m : State) ×
      LoopRounds (λ u v. (w : State) × (run_op (test base c true) u ≡ Some w) × Completes a w normal v) n s m ×
      (w : State) × (run_op (test base c true) m ≡ Some w) × FailsAt a w p
  FailsAt (catch q k a) s p = FailsAt a s p
  FailsAt (leave n k) s p = ⊥
  FailsAt (select q base e arms) s p =
      (l : CaseLabel) × (m : State) × Selects base e arms s l m × ArmsFail l false arms m p

  pub ArmsFail : CaseLabel → Bool → Arms → State → ℕ → Type 0
  ArmsFail l met no_arms s p = ⊥
  ArmsFail l met (entry k arms) s p = ArmsFail l (met || is_same_case l k) arms s p
  ArmsFail l false (arm a arms) s p = ArmsFail l false arms s p
  ArmsFail l true (arm a arms) s p = FailsAt a s p ⊎ ((m : State) × Completes a s normal m × ArmsFail l true arms m p)
