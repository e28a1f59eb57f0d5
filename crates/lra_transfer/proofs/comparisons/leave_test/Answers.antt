-- Goals of `leave_test`: what the comparison's test leaves of the value, by what is seen of its difference.
use Rattle.std.proofs.Common.{refl}
use Rattle.lra_transfer.specs.Crates.lra_analysis_spec.Operations.{lossy_operations}
use Rattle.lra_transfer.proofs.Crates.lra_analysis_spec.Takes.{stay_takes}
use Rattle.lra_transfer.proofs.comparisons.leave_test.Goals as goal

pub leave_linear-requires-clause-width : goal.leave_linear-requires-clause-width
leave_linear-requires-clause-width g c = rw c.in-Linear.is at c.requires.width

pub leave_divided-requires-clause-divides : goal.leave_divided-requires-clause-divides
leave_divided-requires-clause-divides g c =
    let fits = rw c.in-Divided.is at c.requires.width in
    fits.0

pub leave_divided-requires-clause-width : goal.leave_divided-requires-clause-width
leave_divided-requires-clause-width g c =
    let fits = rw c.in-Divided.is at c.requires.width in
    fits.1

pub returns-in-Unseen-clause-leaves : goal.returns-in-Unseen-clause-leaves
returns-in-Unseen-clause-leaves g c =
    rw c.in-Unseen.is ((stay_takes (lossy_operations g.D.Domain.abstraction) c.args.value.now c.args.before c.args.value.now c.args.before).0 (refl, refl))

pub returns-in-Linear-clause-leaves : goal.returns-in-Linear-clause-leaves
returns-in-Linear-clause-leaves g c = rw c.in-Linear.is c.leave_linear.ensures.leaves

pub returns-in-Divided-clause-leaves : goal.returns-in-Divided-clause-leaves
returns-in-Divided-clause-leaves g c = rw c.in-Divided.is c.leave_divided.ensures.leaves
