-- With how many variables a tree of operations is left, and when its operations can be made of a value of so many
-- dimensions.
use Rattle.std.specs.Prelude.{◌≡◌, ◌≢◌, ℕ, ◌≤◌, ◌⊎◌, ⊤}
use Rattle.lra_operations.specs.Tree.{Exit, Node, empty, point, probe, act, check, seq, choose, iterate, catch, leave}
use Rattle.lra_operations.specs.Tree.{select, Arms, no_arms, entry, arm}
use Rattle.lra_pass_results.specs.Crates.{lra_analysis_spec.Live.live_after, lra_analysis_spec.LiveLimit.most_live}
use Rattle.lra_transfer.specs.Changes.{OpFitsDims}

abbrev mutual
  -- a jump of this kind may leave it with so many
  pub JumpsWith : Node → ℕ → Exit → ℕ → Type 0
  JumpsWith empty n k m = ⊥
  JumpsWith (probe here what) n k m = ⊥
  JumpsWith (point q) n k m = ⊥
  JumpsWith (act q op) n k m = ⊥
  JumpsWith (check q base c) n k m = ⊥
  JumpsWith (seq a b) n k m = JumpsWith a n k m ⊎ JumpsWith b (live_after a n) k m
  JumpsWith (choose q base c a b) n k m = JumpsWith a n k m ⊎ JumpsWith b n k m
  JumpsWith (iterate q base c a) n k m = JumpsWith a n k m
  JumpsWith (catch q j a) n k m = (k ≢ j) × JumpsWith a n k m
  JumpsWith (leave l j) n k m = (k ≡ j) × (m ≡ n)
  JumpsWith (select q base e arms) n k m = ArmsJumpWith arms n k m

  pub ArmsJumpWith : Arms → ℕ → Exit → ℕ → Type 0
  ArmsJumpWith no_arms n k m = ⊥
  ArmsJumpWith (entry l arms) n k m = ArmsJumpWith arms n k m
  ArmsJumpWith (arm a arms) n k m = JumpsWith a n k m ⊎ ArmsJumpWith arms n k m

-- the tree's operations have their variables, what joins has equally many, and nowhere live more than may live where
-- moves are made
abbrev mutual
  pub TreeFits : Node → ℕ → Type 0
  TreeFits empty n = ⊤
  TreeFits (probe here what) n = ⊤
  TreeFits (point q) n = ⊤
  TreeFits (act q op) n = OpFitsDims op n
  TreeFits (check q base c) n = ⊤
  TreeFits (seq a b) n = TreeFits a n × (live_after a n ≤ most_live) × TreeFits b (live_after a n)
  TreeFits (choose q base c a b) n = TreeFits a n × TreeFits b n × (live_after b n ≡ live_after a n)
  TreeFits (iterate q base c a) n = TreeFits a n × (live_after a n ≡ n)
  TreeFits (catch q k a) n = TreeFits a n × ((m : ℕ) → JumpsWith a n k m → m ≡ live_after a n)
  TreeFits (leave m k) n = m ≤ most_live
  TreeFits (select q base e arms) n = ArmsFit arms n

  -- nothing is declared in an arm
  pub ArmsFit : Arms → ℕ → Type 0
  ArmsFit no_arms n = ⊤
  ArmsFit (entry l arms) n = ArmsFit arms n
  ArmsFit (arm a arms) n = TreeFits a n × (live_after a n ≡ n) × ArmsFit arms n
