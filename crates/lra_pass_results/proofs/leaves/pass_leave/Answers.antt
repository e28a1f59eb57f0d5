-- Goals of `pass_leave`: a jump.
use Rattle.lra_pass_results.specs.Crates.lra_domain.Interference.{no_interference}
use Rattle.lra_operations.specs.TreeViews.{exit_view}
use Rattle.lra_pass_results.proofs.LeafSteps.{jumps_further}
use Rattle.lra_pass_results.proofs.leaves.pass_leave.Goals as goal

pub returns : goal.returns
returns g c = jumps_further no_interference g.D.Domain.abstraction c.args.plan.now c.args.so_far.now c.args.live (exit_view c.args.exit)
    c.in_ok-nothing.nothing c.jump.new.self (rw c.parts.ensures at c.in_ok-nothing.ensures.defined, c.in_ok-nothing.ensures.formed) c.in_ok-nothing.ensures.dims c.in_ok-jump.ensures
