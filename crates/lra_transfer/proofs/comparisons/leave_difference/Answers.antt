-- Goals of `leave_difference`: what a comparison leaves of the value; all of it if nothing is seen of the difference.
use Rattle.std.proofs.Common.{refl}
use Rattle.lra_transfer.specs.Crates.lra_analysis_spec.MovesOf.{split_moves, comparison_moves}
use Rattle.lra_transfer.specs.Crates.{lra_analysis_spec.Operations.lossy_operations, lra_base.OperatorViews.comparison_view}
use Rattle.lra_transfer.proofs.Crates.lra_analysis_spec.Takes.{stay_takes}
use Rattle.lra_transfer.proofs.{CompareSteps.split_as, SideSteps.leaves_as}
use Rattle.lra_transfer.proofs.comparisons.leave_difference.Goals as goal

pub returns-in-Unseen-clause-leaves : goal.returns-in-Unseen-clause-leaves
returns-in-Unseen-clause-leaves g c =
    rw c.in-Unseen.is ((stay_takes (lossy_operations g.D.Domain.abstraction) c.args.value.now c.args.before c.args.value.now c.args.before).0 (refl, refl))

pub returns-in_default-clause-leaves : goal.returns-in_default-clause-leaves
returns-in_default-clause-leaves g c =
    let n = g.D.Domain.abstraction.dims c.args.value.now in
    let op = comparison_view c.args.op in
    let s = c.args.seen.now in
    leaves_as g.D.Domain.abstraction c.leave_seen.result c.args.value.now c.args.before c.leave_seen.new.value (split_moves n op s) (comparison_moves n op s)
    (split_as n op s c.in_default.not-Unseen) c.leave_seen.ensures.leaves
