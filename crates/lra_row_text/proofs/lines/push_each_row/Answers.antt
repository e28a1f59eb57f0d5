-- Goals of `push_each_row`: appends the lines of all rows.
use Rattle.std.proofs.Common.{arith, get_or}
use Rattle.lra_row_text.specs.Crates.lra_linear_spec.declared.ConKind.TheVariants as con
use Rattle.lra_row_text.proofs.Lists.{drop_front, drop_at, row_step, rows_end}
use Rattle.lra_row_text.specs.{Lines.row_line, Shown.report_row}
use Rattle.lra_row_text.proofs.lines.push_each_row.Goals as goal

pub loop-index-preserved : goal.loop-index-preserved
loop-index-preserved c =
    let j = c.loop-index.index in
    let rows = c.args.rows.now in
    let kinds = c.args.kinds.now in
    row_step report_row (row_line c.args.names.now) _ _ _ rows kinds j c.index-rows-index.result (get_or kinds j con.Ge)
    c.loop-index.invariant (drop_front rows j c.index-rows-index.result c.index-rows-index.is (omega arith)) (drop_at kinds j con.Ge (omega arith)) c.in_ok-push_row.ensures

pub returns : goal.returns
returns c = rows_end report_row (row_line c.args.names.now) _ _ c.args.rows.now c.args.kinds.now c.loop-index.index c.loop-index.invariant (omega arith)
