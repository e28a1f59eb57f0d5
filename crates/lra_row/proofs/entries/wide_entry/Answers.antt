-- Goals of `wide_entry`: a u + b v in one column.
use Rattle.std.proofs.{Common.rules, Common.FitsSigned, Common.◌∙◌, Common.ap, Common.Err, lemmas.Int.to_z-of_z, lemmas.Result.err_from_is_err_and}
use Rattle.std.specs.Int.{w128}
use Rattle.lra_row.proofs.CheckedRows.{second_passes, entry_summed}
use Rattle.lra_row.proofs.entries.wide_entry.Goals as goal

pub returns-in_err-right : goal.returns-in_err-right
returns-in_err-right c =
    let fa = c.ranges.a in
    let fb = c.ranges.b in
    let fu = c.ranges.u in
    let fv = c.ranges.v in
    let p = simp to_z-of_z at c.in_ok-left.ensures in
    let q = simp to_z-of_z at c.in_err-right.ensures in
    let r = err_from_is_err_and c.from_residual-in_err-right.result c.from_residual-in_err-right.ensures.1 in
    r.1 ∙ ap Err r.2 ∙ second_passes c.args.a c.args.b c.args.u c.args.v _ _ p q

pub returns : goal.returns
returns c =
    let fa = c.ranges.a in
    let fb = c.ranges.b in
    let fu = c.ranges.u in
    let fv = c.ranges.v in
    let fl : FitsSigned w128 c.in_ok-left.left = search rules in
    let fr : FitsSigned w128 c.in_ok-right.right = search rules in
    let p = simp to_z-of_z at c.in_ok-left.ensures in
    let q = simp to_z-of_z at c.in_ok-right.ensures in
    let s = simp to_z-of_z at c.sum_of.ensures in
    entry_summed c.args.a c.args.b c.args.u c.args.v _ _ _ p q s
