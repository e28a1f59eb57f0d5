-- Goals of `Intervals::take`: bounds stay in range.
use Rattle.std.proofs.Common.{subst, sym}
use Rattle.lra_threads_fixpoint.specs.{Intervals.RowFits, declared.growth.Growth.TheVariants.Join}
use Rattle.lra_threads_fixpoint.proofs.FitLemmas.{updated_fits}
use Rattle.lra_threads_fixpoint.proofs.intervals.Intervals.take.Goals as goal

pub invariant_of-self : goal.invariant_of-self
invariant_of-self c =
    subst RowFits (sym c.grow_at.ensures) (updated_fits Join c.args.x c.bound_of.result c.self.inside.all.items c.bound_of.ensures.fits c.self.invariant)
