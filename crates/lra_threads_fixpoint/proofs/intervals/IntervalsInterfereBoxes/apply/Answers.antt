-- Goals of `apply`: the intervals come in at their places, one by one.
use Rattle.std.proofs.Common.{◌∙◌, ap, subst}
use Rattle.lra_box.specs.Content.{BoxContent}
use Rattle.lra_threads_fixpoint.specs.Intervals.{RowFits}
use Rattle.lra_threads_fixpoint.proofs.AbsorbLemmas.{fits_get, step_kept, all_kept, row_admits, row_dims}
use Rattle.lra_threads_fixpoint.proofs.intervals.IntervalsInterfereBoxes.apply.Goals as goal

pub admit_at-requires-clause-fits : goal.admit_at-requires-clause-fits
admit_at-requires-clause-fits c = fits_get _ _ c.globals.x c.deref-interval-items.ensures.value c.self.invariant

pub globals-preserved : goal.globals-preserved
globals-preserved c =
    let kept = step_kept c.globals.x _ _ _ c.globals.value _ c.deref-interval-items.ensures.value c.self.invariant c.globals-test.true
    c.globals.invariant.formed c.admit_at.ensures c.globals.invariant.rest in
    record { formed = kept.0; rest = kept.1 }

pub returns-clause-admits : goal.returns-clause-admits
returns-clause-admits c =
    row_admits c.args.self.now c.args.value.now c.globals.value (subst RowFits c.self.view_is c.self.invariant) c.is_empty.ensures.formed
    (all_kept c.globals.x _ _ _ _ _ c.deref-interval-items.ensures.value c.self.view_is c.globals-test.false c.globals.invariant.rest)

pub returns-clause-dims : goal.returns-clause-dims
returns-clause-dims c =
    ap (λ (v : BoxContent). v.dims)
    (all_kept c.globals.x _ _ c.args.self.now _ c.globals.value c.deref-interval-items.ensures.value c.self.view_is
    c.globals-test.false c.globals.invariant.rest)
    ∙ row_dims 0 c.args.self.now c.args.value.now
