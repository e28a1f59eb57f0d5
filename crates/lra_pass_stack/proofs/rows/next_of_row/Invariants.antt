use Rattle.std.proofs.Common.{ℕ, ◌≤◌, length}
use Rattle.lra_pass_results.specs.Steps.{row_steps}
use Rattle.lra_pass_stack.proofs.RowLeaves.{OwesLess}
use Rattle.lra_pass_stack.proofs.rows.next_of_row.Given as goal

abbrev pub invariant-leaves : goal.invariant-leaves
invariant-leaves g l = record {
  owes : (others : g.row.F.Denot) →
      OwesLess (g.F.Interfere.interference others) g.D.Domain.abstraction l.plan l.fn.the_row.trees.now l.left l.last l.fn.so_far l.so_far;
  steps : (n : ℕ) → row_steps n l.left l.last ≤ row_steps n l.fn.the_row.trees.now l.last;
}

abbrev pub decreases-leaves : goal.decreases-leaves
decreases-leaves g l = length l.left
