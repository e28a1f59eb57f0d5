-- Goals of `Intervals::grow`: bounds stay in range.
use Rattle.std.proofs.Common.{subst, sym}
use Rattle.lra_threads_fixpoint.specs.Intervals.{RowFits}
use Rattle.lra_threads_fixpoint.proofs.FitLemmas.{grown_fits}
use Rattle.lra_threads_fixpoint.proofs.intervals.Intervals.grow.Goals as goal

pub invariant_of-self : goal.invariant_of-self
invariant_of-self c =
    let other = subst RowFits (sym c.deref.ensures.value) c.other.invariant in
    subst RowFits (sym c.grow_all.ensures) (grown_fits c.args.growth c.self.inside.all.items c.deref.result.now c.self.invariant other)
