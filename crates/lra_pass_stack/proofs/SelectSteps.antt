-- How many steps the arms of a `switch` take.
use Rattle.std.proofs.Common.{Box, Global, ◌≡◌, ◌+◌, ◌<◌, ◌≤◌, ℕ, suc, List, ◌∷◌, ap, subst, ◌∙◌, arith}
use Rattle.std.proofs.{lemmas.List.Sums.sum_by-cons, lemmas.Result.IfOk-weaker}
use Rattle.std.specs.Prelude.{IfOk}
use Rattle.std.specs.Prelude as outcome_or
use Rattle.lra_pass_stack.specs.Crates.{lra_analysis_spec.Plan.Plan, lra_domain.Abstraction.Abstraction}
use Rattle.lra_operations.specs.{declared.tree.Arm.Arm, declared.tree.Arm.TheVariants.Tree, declared.tree.Node.Node}
use Rattle.lra_pass_stack.specs.declared.stack.Next as next
use Rattle.lra_pass_stack.specs.{StepsLeft.most_rounds, StepsLeft.next_left, declared.stack.SelectFrame.SelectFrame}
use Rattle.lra_pass_results.specs.Steps.{arm_steps, arms_steps, node_steps}
use Rattle.lra_pass_results.proofs.PassSteps.{tree_steps_of}

first_steps : (n : ℕ) (arms behind : List Arm) (a : Arm) → arms ≡ a ∷ behind → arms_steps n arms ≡ suc (arm_steps n a) + arms_steps n behind
first_steps n arms behind a is = ap (arms_steps n) is ∙ sum_by-cons (λ x. suc (arm_steps n x)) a behind

-- so many are left after a label
pub entry_less : (n k : ℕ) (arms behind : List Arm) (a : Arm) → arms ≡ a ∷ behind → arms_steps n arms ≤ k → arms_steps n behind ≤ k
entry_less n k arms behind a is few = let first = first_steps n arms behind a is in omega (arith, first, few)

-- and after a tree, together with the tree
pub tree_less : (n k : ℕ) (arms behind : List Arm) (a : Arm) (g : Node) → arms ≡ a ∷ behind → a ≡ Tree g → arms_steps n arms ≤ k
    → (1 + arms_steps n behind) + node_steps n g ≤ k
tree_less n k arms behind a g is here few =
    let first = first_steps n arms behind a is in
    let own = ap (arm_steps n) here ∙ tree_steps_of n g in
    omega (arith, first, own, few)

module _ {V H E : Type 0} (m : Abstraction V H) (set : Plan) (R : outcome_or.Result (next.Next V H) E) (b : ℕ) where
  pub arms_less : (n all : ℕ) → all ≡ 2 + n → IfOk R (λ x. next_left m b set x ≤ n) → IfOk R (λ x. next_left m b set x < all)
  arms_less n all is h = IfOk-weaker R (λ x. next_left m b set x ≤ n) (λ x. next_left m b set x < all) (λ x here. omega (arith, here, is)) h

  pub arms_fewer : (n k : ℕ) → n ≤ k → IfOk R (λ x. next_left m b set x ≡ n) → IfOk R (λ x. next_left m b set x ≤ k)
  arms_fewer n k few h = IfOk-weaker R (λ x. next_left m b set x ≡ n) (λ x. next_left m b set x ≤ k) (λ x here. omega (arith, here, few)) h

  pub place_falls : (p : SelectFrame V) (box : Box (SelectFrame V) Global) → p ≡ box.value
      → IfOk R (λ x. next_left m b set x ≤ arms_steps (most_rounds b set) p.behind.now)
      → IfOk R (λ x. next_left m b set x < 1 + arms_steps (most_rounds b set) box.value.behind.now)
  place_falls p box is h = subst (λ (y : SelectFrame V). IfOk R (λ x. next_left m b set x < 1 + arms_steps (most_rounds b set) y.behind.now)) is
      (IfOk-weaker R (λ x. next_left m b set x ≤ arms_steps (most_rounds b set) p.behind.now)
      (λ x. next_left m b set x < 1 + arms_steps (most_rounds b set) p.behind.now) (λ x here. omega (arith, here)) h)
