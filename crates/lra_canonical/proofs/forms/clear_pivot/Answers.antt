-- Goals of `clear_pivot`: the rows with 0 at the line's pivot.
use Rattle.std.proofs.{Common.arith, Common.List, Common.ℤ, Common.subst, lemmas.Result.err_from_is_err_and}
use Rattle.lra_canonical.specs.Reduced.{IsCleared, IsClearingExcess}
use Rattle.lra_canonical.proofs.EchelonSteps.{cleared_more, cleared_passes}
use Rattle.lra_canonical.proofs.forms.clear_pivot.Goals as goal

pub returns-in_err-next-clause-excess : goal.returns-in_err-next-clause-excess
returns-in_err-next-clause-excess c =
    let p = err_from_is_err_and c.from_residual-in_err-next.result c.from_residual-in_err-next.ensures.1 in
    let f = cleared_passes c.args.line.now c.args.rows.now c.loop-row.out.items c.loop-row.row-index c.row-item.result c.in_err-next.field-0.0
    (omega (arith, c.loop-row-test.true)) c.row-item.is c.loop-row.invariant (subst
    (λ (x : List ℤ). IsClearingExcess c.args.line.now x c.in_err-next.field-0.0) c.in_ok-copy.ensures c.in_err-next.ensures.excess) in
    rw (p.1, p.2) f

pub loop-row-preserved : goal.loop-row-preserved
loop-row-preserved c =
    cleared_more c.args.line.now c.args.rows.now c.loop-row.out.items c.push.new.self.items c.loop-row.row-index c.row-item.result c.in_ok-next.next
    (omega (arith, c.loop-row-test.true)) c.row-item.is c.in_ok-push.ensures.items c.loop-row.invariant
    (subst (λ (x : List ℤ). IsCleared c.args.line.now x c.in_ok-next.next) c.in_ok-copy.ensures c.in_ok-next.ensures.ok)
