-- Goals of `BoxesDomain::start`.
use Rattle.lra_box.proofs.BoundLemmas.{rank_fits}
use Rattle.lra_box.proofs.boxes.BoxesDomain.start.Goals as goal

pub returns-clause-fits : goal.returns-clause-fits
returns-clause-fits c = rank_fits _ c.first.invariant.0 (rw c.in_ok-copy_bounds.ensures c.first.invariant.1)
