-- Goals of `reduce_by`: the row reduced by the form.
use Rattle.std.proofs.{Common.◌≡◌, Common.length, Common.rules, Common.arith, lemmas.Result.err_from_is_err_and}
use Rattle.lra_canonical.proofs.Chains.{partly_more, partly_first, partly_end, partly_chain}
use Rattle.lra_canonical.proofs.reduction.reduce_by.Goals as goal

pub loop-line-preserved : goal.loop-line-preserved
loop-line-preserved c =
    let w : length c.line-item.result ≡ length c.args.row.now = search rules in
    partly_more c.args.form.now c.loop-line.line-index c.args.row.now c.loop-line.now c.line-item.result c.in_ok-now-2.now c.requires.form
    (omega arith) c.line-item.is w c.loop-line.invariant c.in_ok-now-2.ensures.ok

pub returns-clause-reduced : goal.returns-clause-reduced
returns-clause-reduced c =
    partly_end c.args.form.now c.loop-line.line-index c.args.row.now c.loop-line.now c.lowest_terms.new.self
    (omega (arith, c.loop-line-test.false, c.loop-line.auto.line-index-end)) c.loop-line.invariant c.lowest_terms.ensures

pub returns-clause-chain : goal.returns-clause-chain
returns-clause-chain c =
    partly_chain c.args.form.now c.loop-line.line-index c.args.row.now c.loop-line.now c.lowest_terms.new.self
    (omega (arith, c.loop-line-test.false, c.loop-line.auto.line-index-end)) c.loop-line.invariant c.lowest_terms.ensures

pub returns-in_err-now-2-clause-first : goal.returns-in_err-now-2-clause-first
returns-in_err-now-2-clause-first c =
    let p = err_from_is_err_and c.from_residual-in_err-now-2.result c.from_residual-in_err-now-2.ensures.1 in
    let f = partly_first c.args.form.now c.loop-line.line-index c.args.row.now c.loop-line.now c.line-item.result c.in_err-now-2.field-0.0
    (omega (arith, c.loop-line-test.true)) c.line-item.is c.loop-line.invariant c.in_err-now-2.ensures.excess in
    rw (p.1, p.2) f
