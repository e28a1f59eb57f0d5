-- What is kept of loops that stand inside others.
use Rattle.std.specs.{List.All, Prelude.◌≡◌, Prelude.ℕ, Prelude.Option, Prelude.None, Prelude.Some, Prelude.⊤}
use Rattle.lra_pass_results.specs.Crates.lra_domain.Interference.{Interference}
use Rattle.lra_pass_results.specs.Crates.{lra_analysis_spec.Plan.Plan, lra_domain.Abstraction.Abstraction}
use Rattle.lra_operations.specs.Tree.{Node, empty, point, probe, act, check, seq, choose, iterate, catch, leave, select}
use Rattle.lra_operations.specs.Tree.{Arms, no_arms, entry, arm}
use Rattle.lra_pass_results.specs.Outcome.{outcome_view, IsKept, IsPassed}
use Rattle.lra_pass_results.specs.declared.outcome.PassOutcome.{PassOutcome}
use Rattle.lra_pass_results.specs.{declared.loop_cache.CachedLoop.CachedLoop, declared.loop_cache.LoopCache.LoopCache}

abbrev mutual
  -- each loop of the tree is the one that has its number among these
  pub HasLoops : (ℕ → Node) → Node → Type 0
  HasLoops loops empty = ⊤
  HasLoops loops (probe here what) = ⊤
  HasLoops loops (point q) = ⊤
  HasLoops loops (act q op) = ⊤
  HasLoops loops (check q base c) = ⊤
  HasLoops loops (seq a b) = HasLoops loops a × HasLoops loops b
  HasLoops loops (choose q base c a b) = HasLoops loops a × HasLoops loops b
  HasLoops loops (iterate q base c a) = (loops q ≡ iterate q base c a) × HasLoops loops a
  HasLoops loops (catch q k a) = HasLoops loops a
  HasLoops loops (leave n k) = ⊤
  HasLoops loops (select q base e arms) = ArmsHaveLoops loops arms

  pub ArmsHaveLoops : (ℕ → Node) → Arms → Type 0
  ArmsHaveLoops loops no_arms = ⊤
  ArmsHaveLoops loops (entry l arms) = ArmsHaveLoops loops arms
  ArmsHaveLoops loops (arm a arms) = HasLoops loops a × ArmsHaveLoops loops arms

-- a loop's last pass may be given again
abbrev pub IsRecalled : {V H : Type 0} → Interference V → Abstraction V H → Plan → (ℕ → Node) → Option ℕ → CachedLoop V
    → Type 0
IsRecalled o m set loops f one = IsKept o m set (loops one.point) f one.first (outcome_view one.outcome)

-- all that is kept may be given again, whatever the loop of each number is
abbrev pub MayRecall : {V H : Type 0} → Interference V → Abstraction V H → Plan → (ℕ → Node) → Option ℕ → LoopCache V →
    Type 0
MayRecall o m set loops f memory = All (IsRecalled o m set loops f) memory.kept.items

-- what is kept may be given again for the loops of the tree
abbrev pub Remembers : {V H : Type 0} → Interference V → Abstraction V H → Plan → Node → Option ℕ → LoopCache V → Type 0
Remembers o m set g f memory = (loops : ℕ → Node) × HasLoops loops g × MayRecall o m set loops f memory

-- what could be given again before a pass of the tree, with what was flagged then, can be after it
abbrev pub StaysKept : {V H : Type 0} → Interference V → Abstraction V H → Plan → Node → Option ℕ → LoopCache V →
    Option ℕ →
    LoopCache V → Type 0
StaysKept o m set g f old f' new = (loops : ℕ → Node) → HasLoops loops g → MayRecall o m set loops f old →
    MayRecall o m set loops f' new

-- what is given, if it is, is a pass from this value
abbrev pub AreRecalled : {V H : Type 0} → Interference V → Abstraction V H → Plan → Node → Option ℕ → V →
    Option (PassOutcome V) →
    Type 0
AreRecalled o m set g f v None = ⊤
AreRecalled o m set g f v (Some r) = IsPassed o m set g f v (outcome_view r)
