-- Goals of `product_at`: the product of a row with the vector of a divisor and numerators.
use Rattle.std.proofs.{Common.FitsSigned, Common.rules, Common.pos, Common.get_or, Common.◌∙◌, Common.ap, Common.Err, lemmas.Int.to_z-of_z, lemmas.Result.err_from_is_err_and}
use Rattle.std.specs.Int.{w128}
use Rattle.lra_row.proofs.CheckedRows.{product_split, first_passes}
use Rattle.lra_row.proofs.entries.product_at.Goals as goal

pub returns : goal.returns
returns c =
    let xs = c.args.xs.now in
    let divisor = c.ranges.divisor in
    let first : FitsSigned w128 (get_or xs 0 (pos 0)) = search rules in
    let fits : FitsSigned w128 c.in_ok-constant.constant = search rules in
    let product = simp to_z-of_z at c.in_ok-constant.ensures in
    product_split xs c.args.numerators.now c.args.divisor c.in_ok-constant.constant c.product_from.result c.requires product.0 product.1 (simp to_z-of_z at c.product_from.ensures)

pub returns-in_err-constant : goal.returns-in_err-constant
returns-in_err-constant c =
    let xs = c.args.xs.now in
    let divisor = c.ranges.divisor in
    let first : FitsSigned w128 (get_or xs 0 (pos 0)) = search rules in
    let passes = simp to_z-of_z at c.in_err-constant.ensures in
    let r = err_from_is_err_and c.from_residual.result c.from_residual.ensures.1 in
    r.1 ∙ ap Err r.2 ∙ first_passes xs c.args.numerators.now c.args.divisor _ c.requires passes
