-- Goals of `Intervals::none`.
use Rattle.std.proofs.Common.{subst, sym}
use Rattle.lra_threads_fixpoint.specs.Intervals.{RowFits}
use Rattle.lra_threads_fixpoint.proofs.FitLemmas.{none_fits}
use Rattle.lra_threads_fixpoint.proofs.intervals.Intervals.none.Goals as goal

pub invariant_of-result : goal.invariant_of-result
invariant_of-result c = subst RowFits (sym c.in_ok-nothing.ensures) (none_fits c.args.globals)
