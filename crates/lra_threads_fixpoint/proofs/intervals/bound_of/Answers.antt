-- Goals of `bound_of`: the bounds that a box reports are in range.
use Rattle.lra_threads_fixpoint.proofs.FitLemmas.{bound_fits}
use Rattle.lra_threads_fixpoint.proofs.intervals.bound_of.Goals as goal

pub returns-then-x-dims-clause-fits : goal.returns-then-x-dims-clause-fits
returns-then-x-dims-clause-fits c = rw c.bound.ensures.bound (bound_fits c.args.x c.args.value.now c.is_empty.ensures.formed)
