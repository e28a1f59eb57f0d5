use Rattle.std.proofs.Common.{ℕ, ◌≤◌, length}
use Rattle.lra_pass_stack.specs.Crates.lra_analysis_spec.Plan.{Plan}
use Rattle.lra_pass_results.specs.Steps.{arms_steps}
use Rattle.lra_pass_stack.proofs.SelectFrames.{OwesArms}
use Rattle.lra_pass_stack.proofs.selections.next_of_arms.Given as goal

abbrev pub invariant-arms : goal.invariant-arms
invariant-arms g l = record {
  owes : (others : g.row.F.Denot) (set : Plan) →
      OwesArms (g.F.Interfere.interference others) g.D.Domain.abstraction set l.selecting l.fn.arms l.left l.fn.so_far l.running;
  steps : (n : ℕ) → arms_steps n l.left ≤ arms_steps n l.fn.arms;
}

abbrev pub decreases-arms : goal.decreases-arms
decreases-arms g l = length l.left
