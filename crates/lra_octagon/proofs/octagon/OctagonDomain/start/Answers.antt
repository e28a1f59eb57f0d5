-- Goals of `OctagonDomain::start`.
use Rattle.lra_octagon.proofs.TransferLemmas.{rank_fits}
use Rattle.lra_octagon.proofs.octagon.OctagonDomain.start.Goals as goal

pub returns-clause-fits : goal.returns-clause-fits
returns-clause-fits c = rank_fits c.first.inside.dims _ c.first.invariant.0 (rw c.in_ok-copy_bounds.ensures c.first.invariant.2)
