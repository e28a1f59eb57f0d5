-- Goals of `all_reduced`: the rows reduced by the form.
use Rattle.std.proofs.{Common.arith, Common.subst, Common.List, Common.ℤ, lemmas.Result.err_from_is_err_and}
use Rattle.lra_description_pair.specs.Crates.lra_canonical.Reduced.{IsReducedBy}
use Rattle.lra_description_pair.proofs.OwnRows.{some_excess, reduced_more, width_more}
use Rattle.lra_description_pair.proofs.own.all_reduced.Goals as goal

pub returns-in_err-reduce-clause-excess : goal.returns-in_err-reduce-clause-excess
returns-in_err-reduce-clause-excess c =
    let p = err_from_is_err_and c.from_residual-in_err-reduce.result c.from_residual-in_err-reduce.ensures.1 in
    let f = some_excess c.args.form.now c.args.rows.now c.loop-row.row-index c.row-item.result c.in_ok-reduced.reduced c.in_err-reduce.field-0.0
    (omega (arith, c.loop-row-test.true)) c.row-item.is c.in_ok-reduced.ensures c.in_err-reduce.ensures.excess in
    rw (p.1, p.2) f

pub loop-row-preserved : goal.loop-row-preserved
loop-row-preserved c =
    let x = subst (λ (y : List ℤ). IsReducedBy c.args.form.now y c.reduce.new.row) c.in_ok-reduced.ensures c.in_ok-reduce.ensures.reduced in
    record {
      reduced = reduced_more c.args.form.now c.args.rows.now c.loop-row.row-index c.row-item.result c.reduce.new.row c.loop-row.all.items c.push.new.self.items
          (omega (arith, c.loop-row-test.true)) c.row-item.is c.in_ok-push.ensures.items x c.loop-row.invariant.reduced;
      widths = width_more c.args.width c.args.form.now c.args.rows.now c.loop-row.row-index c.row-item.result c.reduce.new.row c.loop-row.all.items c.push.new.self.items
          (omega (arith, c.loop-row-test.true)) c.row-item.is c.in_ok-push.ensures.items c.requires.rows x c.loop-row.invariant.widths;
    }
