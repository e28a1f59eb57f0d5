-- Goals of `reduce_all`: reduces each of the rows by the form.
use Rattle.std.proofs.Common.{arith, ◌≡◌, ◌≤◌, ◌<◌, ◌∙◌, drop, length, subst, sym, List, ℤ, ℕ}
use Rattle.std.proofs.lemmas.Result.{err_from_is_err_and}
use Rattle.std.specs.List.{All}
use Rattle.lra_description_pair.specs.Crates.lra_canonical.Echelons.{HaveWidth}
use Rattle.lra_description_pair.specs.OwnLists.{AreReducedBy}
use Rattle.lra_description_pair.proofs.RowsReduced.{next_excess, next_reduced, next_width, partly_none, rows_reduced, rows_widths, taken_back}
use Rattle.lra_description_pair.proofs.own.reduce_all.Goals as goal

pub loop-row-init : goal.loop-row-init
loop-row-init c = partly_none c.args.width c.args.form.now c.args.rows.now.items c.deref_mut-row-items.result.now c.deref_mut-row-items.ensures.value

pub reduce-requires-clause-widths : goal.reduce-requires-clause-widths
reduce-requires-clause-widths c =
    let now = c.loop-row.row-items in
    let within : c.loop-row.row-index < length now = omega (arith, c.loop-row-test.true, c.loop-row.auto.row-items) in
    let wide = next_width c.args.width c.args.form.now c.args.rows.now.items now c.loop-row.row-index c.row-item.result within c.loop-row.invariant c.requires.rows in
    subst (λ (w : ℕ). All (λ (line : List ℤ). length line ≡ w) c.args.form.now) (sym wide) c.requires.form_widths

pub reduce-requires-clause-wide : goal.reduce-requires-clause-wide
reduce-requires-clause-wide c =
    let now = c.loop-row.row-items in
    let within : c.loop-row.row-index < length now = omega (arith, c.loop-row-test.true, c.loop-row.auto.row-items) in
    let wide = next_width c.args.width c.args.form.now c.args.rows.now.items now c.loop-row.row-index c.row-item.result within c.loop-row.invariant c.requires.rows in
    subst (λ (w : ℕ). 0 < w) (sym wide) c.requires.wide

pub returns-in_err-reduce-clause-excess : goal.returns-in_err-reduce-clause-excess
returns-in_err-reduce-clause-excess c =
    let now = c.loop-row.row-items in
    let within : c.loop-row.row-index < length now = omega (arith, c.loop-row-test.true, c.loop-row.auto.row-items) in
    let p = err_from_is_err_and c.from_residual.result c.from_residual.ensures.1 in
    let f = next_excess c.args.width c.args.form.now c.args.rows.now.items now c.loop-row.row-index c.row-item.result within c.loop-row.invariant c.in_err-reduce.field-0.0
    c.in_err-reduce.ensures.excess in
    rw (p.1, p.2) f

pub loop-row-preserved : goal.loop-row-preserved
loop-row-preserved c =
    let now = c.loop-row.row-items in
    let within : c.loop-row.row-index < length now = omega (arith, c.loop-row-test.true, c.loop-row.auto.row-items) in
    next_reduced c.args.width c.args.form.now c.args.rows.now.items now c.loop-row.row-index c.row-item.result within c.loop-row.invariant c.reduce.new.row c.requires.rows
    c.in_ok-reduce.ensures.reduced

pub returns-clause-reduced : goal.returns-clause-reduced
returns-clause-reduced c =
    let rows = c.args.rows.now.items in
    let now = c.loop-row.row-items in
    let all : length now ≤ c.loop-row.row-index = omega (arith, c.loop-row-test.false, c.loop-row.auto.row-items) in
    subst (AreReducedBy c.args.form.now rows) (sym (taken_back c.args.rows.now.len now (drop (length now) rows) (c.loop-row.auto.row-items ∙ c.deref_mut-row-items.ensures.len)))
    (rows_reduced c.args.width c.args.form.now rows now c.loop-row.row-index all c.loop-row.invariant)

pub returns-clause-widths : goal.returns-clause-widths
returns-clause-widths c =
    let rows = c.args.rows.now.items in
    let now = c.loop-row.row-items in
    let all : length now ≤ c.loop-row.row-index = omega (arith, c.loop-row-test.false, c.loop-row.auto.row-items) in
    subst (HaveWidth c.args.width) (sym (taken_back c.args.rows.now.len now (drop (length now) rows) (c.loop-row.auto.row-items ∙ c.deref_mut-row-items.ensures.len)))
    (rows_widths c.args.width c.args.form.now rows now c.loop-row.row-index all c.loop-row.invariant)
