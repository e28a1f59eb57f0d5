-- Runs of trees with what they meet. `name` is what a point's number stands for in a trace; whenever the run is at a
-- point the state may change, as `may` says.
use Rattle.std.specs.Prelude.{◌≡◌, ◌≢◌, ℕ, zero, suc, ◌∷◌, Bool, Some, true, false, ◌||◌, ◌⊎◌}
use Rattle.lra_operations.specs.Crates.lra_base.CaseLabels.{is_same_case}
use Rattle.lra_operations.specs.Crates.lra_base.declared.case_labels.CaseLabel.{CaseLabel}
use Rattle.lra_program.specs.Step.{State, Op, run_op, test}
use Rattle.lra_program.specs.{Program.Expr, Program.Cond, Traces.Trace, Traces.visit}
use Rattle.lra_operations.specs.Tree.{Exit, Node, empty, probe, point, act, check, seq, choose, iterate, catch, leave}
use Rattle.lra_operations.specs.Tree.{select, Arms, no_arms, entry, arm, Selects}

-- why a run is followed no further: it leaves the tree by a jump, stands at a point, or fails the assertion there
pub data Stop : Type 0 where
  by_jump : Exit → Stop
  to_point : ℕ → Stop
  to_failure : ℕ → Stop

pub data RunExtent : Type 0 where
  to_end : RunExtent
  stopped : Stop → RunExtent

abbrev pub StopsAtPoint : ℕ → Stop → Type 0
StopsAtPoint q (by_jump j) = ⊥
StopsAtPoint q (to_point p) = p ≡ q
StopsAtPoint q (to_failure p) = ⊥

abbrev pub StopsAtFailure : ℕ → Stop → Type 0
StopsAtFailure q (by_jump j) = ⊥
StopsAtFailure q (to_point p) = ⊥
StopsAtFailure q (to_failure p) = p ≡ q

-- n rounds lead from the first to the second
abbrev pub TrailRounds : {A : Type 0} → (Trace A → Trace A → Type 0) → ℕ → Trace A → Trace A → Type 0
TrailRounds one zero a b = b ≡ a
TrailRounds {A} one (suc n) a b = (m : Trace A) × TrailRounds one n a m × one m b

-- a least change meets nothing
abbrev pub Performs : {A : Type 0} → Op → Trace A → Trace A → Type 0
Performs op a b = (run_op op a.state ≡ Some b.state) × (b.events ≡ a.events)

-- nor does the value of a `select`
abbrev pub Finds : {A : Type 0} → ℕ → Expr → Arms → Trace A → CaseLabel → Trace A → Type 0
Finds base e arms a l b = Selects base e arms a.state l b.state × (b.events ≡ a.events)

module _ {A : Type 0} (name : ℕ → A) (may : State → State → Type 0) where
  abbrev pub VisitsPoint : ℕ → Trace A → Trace A → Type 0
  VisitsPoint q a b = may a.state b.state × (b.events ≡ visit (name q) a.state ∷ a.events)

  -- past a loop's point, and its test
  abbrev pub VisitsAndTests : ℕ → ℕ → Cond → Bool → Trace A → Trace A → Type 0
  VisitsAndTests q base c wanted a b = (m : Trace A) × VisitsPoint q a m × Performs (test base c wanted) m b

  abbrev mutual
    -- a run of the tree from the first trace goes so far, with the second
    pub RunsUpTo : Node → Trace A → RunExtent → Trace A → Type 0
    RunsUpTo empty a to_end b = b ≡ a
    RunsUpTo (probe here what) a to_end b = b ≡ a
    RunsUpTo empty a (stopped z) b = ⊥
    RunsUpTo (probe here what) a (stopped z) b = ⊥
    RunsUpTo (point q) a to_end b = VisitsPoint q a b
    RunsUpTo (point q) a (stopped z) b = StopsAtPoint q z × (b ≡ a)
    RunsUpTo (act q op) a to_end b = Performs op a b
    RunsUpTo (act q op) a (stopped z) b = ⊥
    RunsUpTo (check q base c) a to_end b = Performs (test base c true) a b
    RunsUpTo (check q base c) a (stopped z) b = StopsAtFailure q z × (b ≡ a) × (t : State) ×
        (run_op (test base c false) a.state ≡ Some t)
    RunsUpTo (seq g h) a to_end b = (m : Trace A) × RunsUpTo g a to_end m × RunsUpTo h m to_end b
    RunsUpTo (seq g h) a (stopped z) b = RunsUpTo g a (stopped z) b ⊎
        ((m : Trace A) × RunsUpTo g a to_end m × RunsUpTo h m (stopped z) b)
    RunsUpTo (choose q base c g h) a u b =
        ((m : Trace A) × Performs (test base c true) a m × RunsUpTo g m u b) ⊎
        ((m : Trace A) × Performs (test base c false) a m × RunsUpTo h m u b)
    RunsUpTo (iterate q base c g) a to_end b = (n : ℕ) × (m : Trace A) ×
        TrailRounds (λ u v. (w : Trace A) × VisitsAndTests q base c true u w × RunsUpTo g w to_end v) n a m ×
        VisitsAndTests q base c false m b
    RunsUpTo (iterate q base c g) a (stopped z) b = (n : ℕ) × (m : Trace A) ×
        TrailRounds (λ u v. (w : Trace A) × VisitsAndTests q base c true u w × RunsUpTo g w to_end v) n a m ×
        ((StopsAtPoint q z × (b ≡ m)) ⊎ ((w : Trace A) × VisitsAndTests q base c true m w × RunsUpTo g w (stopped z) b))
    RunsUpTo (catch q k g) a to_end b = RunsUpTo g a to_end b ⊎ RunsUpTo g a (stopped (by_jump k)) b
    RunsUpTo (catch q k g) a (stopped z) b = (z ≢ by_jump k) × RunsUpTo g a (stopped z) b
    RunsUpTo (leave n k) a to_end b = ⊥
    RunsUpTo (leave n k) a (stopped z) b = (z ≡ by_jump k) × (b ≡ a)
    RunsUpTo (select q base e arms) a u b =
        (l : CaseLabel) × (m : Trace A) × Finds base e arms a l m × ArmsRunUpTo l false arms m u b

    pub ArmsRunUpTo : CaseLabel → Bool → Arms → Trace A → RunExtent → Trace A → Type 0
    ArmsRunUpTo l met no_arms a to_end b = b ≡ a
    ArmsRunUpTo l met no_arms a (stopped z) b = ⊥
    ArmsRunUpTo l met (entry k arms) a u b = ArmsRunUpTo l (met || is_same_case l k) arms a u b
    ArmsRunUpTo l false (arm g arms) a u b = ArmsRunUpTo l false arms a u b
    ArmsRunUpTo l true (arm g arms) a to_end b =
        (m : Trace A) × RunsUpTo g a to_end m × ArmsRunUpTo l true arms m to_end b
    ArmsRunUpTo l true (arm g arms) a (stopped z) b = RunsUpTo g a (stopped z) b ⊎
        ((m : Trace A) × RunsUpTo g a to_end m × ArmsRunUpTo l true arms m (stopped z) b)
