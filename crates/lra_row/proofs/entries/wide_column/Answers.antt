-- Goals of `wide_column`: the sum with the product of one column.
use Rattle.std.proofs.{Common.rules, Common.FitsSigned, Common.[], Common.◌∷◌, Common.◌∙◌, Common.ap, Common.Err, Common.refl, lemmas.Int.to_z-of_z, lemmas.Result.err_from_is_err_and}
use Rattle.std.specs.Int.{w128}
use Rattle.lra_row.proofs.CheckedRows.{product_passes, column_summed}
use Rattle.lra_row.proofs.entries.wide_column.Goals as goal

pub returns-in_err-product_of : goal.returns-in_err-product_of
returns-in_err-product_of c =
    let fx = c.ranges.x in
    let fy = c.ranges.y in
    let fs = c.ranges.sum in
    let e = simp to_z-of_z at c.in_err-product_of.ensures in
    let r = err_from_is_err_and c.from_residual.result c.from_residual.ensures.1 in
    r.1 ∙ ap Err r.2 ∙ product_passes c.args.sum c.args.x c.args.y (c.args.x ∷ []) (c.args.y ∷ []) [] [] _ refl refl e

pub returns : goal.returns
returns c =
    let fx = c.ranges.x in
    let fy = c.ranges.y in
    let fs = c.ranges.sum in
    let fp : FitsSigned w128 c.in_ok-product_of.field-0 = search rules in
    let p = simp to_z-of_z at c.in_ok-product_of.ensures in
    let q = simp to_z-of_z at c.sum_of.ensures in
    column_summed c.args.sum c.args.x c.args.y _ _ p q
