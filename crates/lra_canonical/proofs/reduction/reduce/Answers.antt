-- Goals of `reduce`: clears the row at the pivot of each row of the echelon form and takes it in lowest terms.
use Rattle.lra_canonical.proofs.{Chains.clear_end, Chains.clear_reduced, Solutions.reduced_same, Solutions.one_reduced}
use Rattle.lra_canonical.proofs.reduction.reduce.Goals as goal

pub returns-then-is_clear-clause-reduced : goal.returns-then-is_clear-clause-reduced
returns-then-is_clear-clause-reduced c = clear_reduced c.args.form.now c.args.row.now c.lowest_terms.new.self (c.is_clear.ensures c.if-is_clear.true) c.lowest_terms.ensures

pub returns-then-is_clear-clause-same : goal.returns-then-is_clear-clause-same
returns-then-is_clear-clause-same c =
    let reduced = clear_reduced c.args.form.now c.args.row.now c.lowest_terms.new.self (c.is_clear.ensures c.if-is_clear.true) c.lowest_terms.ensures in
    reduced_same c.args.form.now c.args.row.now c.lowest_terms.new.self reduced

pub returns-then-is_clear-clause-one : goal.returns-then-is_clear-clause-one
returns-then-is_clear-clause-one c =
    let reduced = clear_reduced c.args.form.now c.args.row.now c.lowest_terms.new.self (c.is_clear.ensures c.if-is_clear.true) c.lowest_terms.ensures in
    one_reduced c.args.form.now c.args.row.now c.lowest_terms.new.self c.requires.form c.requires.widths reduced

pub returns-then-is_clear-clause-chain : goal.returns-then-is_clear-clause-chain
returns-then-is_clear-clause-chain c = clear_end c.args.form.now c.args.row.now c.lowest_terms.new.self (c.is_clear.ensures c.if-is_clear.true) c.lowest_terms.ensures

pub returns-clause-same : goal.returns-clause-same
returns-clause-same c = reduced_same c.args.form.now c.args.row.now c.in_ok-row.field-0 c.in_ok-row.ensures.reduced

pub returns-clause-one : goal.returns-clause-one
returns-clause-one c = one_reduced c.args.form.now c.args.row.now c.in_ok-row.field-0 c.requires.form c.requires.widths c.in_ok-row.ensures.reduced
