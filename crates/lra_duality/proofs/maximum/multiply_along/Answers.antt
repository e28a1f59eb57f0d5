-- Goals of `multiply_along`: the product of the form, or of its opposite, with the row.
use Rattle.std.proofs.{Common.rules, Common.FitsSigned, lemmas.Int.to_z-of_z}
use Rattle.std.specs.Int.{w128}
use Rattle.lra_linear_forms.specs.Form.{form_row}
use Rattle.lra_duality.proofs.MaximumLemmas.{opposite_fails, opposite_product, value_in_range}
use Rattle.lra_duality.proofs.maximum.multiply_along.Goals as goal

pub returns-in-None : goal.returns-in-None
returns-in-None c = opposite_fails c.args.is_opposite (form_row c.args.form.now) c.args.row.now c.in-None.ensures

pub opposite-requires : goal.opposite-requires
opposite-requires c =
    let fits : FitsSigned w128 c.in-Some.product = search rules in
    simp to_z-of_z (value_in_range (form_row c.args.form.now) c.args.row.now c.in-Some.product c.in-Some.ensures)

pub returns-then-is_opposite : goal.returns-then-is_opposite
returns-then-is_opposite c =
    let fits : FitsSigned w128 c.in-Some.product = search rules in
    let turned : FitsSigned w128 c.opposite.result = search rules in
    let value = simp to_z-of_z at c.opposite.ensures.value in
    let told = opposite_product (form_row c.args.form.now) c.args.row.now c.in-Some.product c.in-Some.ensures in
    rw (c.if-is_opposite.true, to_z-of_z w128 c.opposite.result turned, value) told
