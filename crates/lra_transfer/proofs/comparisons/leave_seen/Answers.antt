-- Goals of `leave_seen`: what a comparison leaves of the value, by what is seen of its difference.
use Rattle.lra_transfer.proofs.comparisons.leave_seen.Goals as goal

pub returns-in-Differs-clause-leaves : goal.returns-in-Differs-clause-leaves
returns-in-Differs-clause-leaves g c = rw c.in-Differs.is c.leave_differs.ensures.leaves
