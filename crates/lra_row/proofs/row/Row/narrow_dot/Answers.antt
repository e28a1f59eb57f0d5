-- Goals of `Row::narrow_dot`: the product with a row if both are narrow.
use Rattle.std.proofs.{Common.rules, Common.FitsSigned, Common.◌≡◌, Common.Ok, Common.sym, lemmas.Int.to_z-of_z}
use Rattle.std.specs.Int.{w128}
use Rattle.lra_linear_spec.specs.CheckedArithmetic.{checked_product}
use Rattle.lra_linear_spec.proofs.CheckedArithmetic.{checked_product_value}
use Rattle.lra_row.proofs.row.Row.narrow_dot.Goals as goal

pub returns-then-other-clause-value : goal.returns-then-other-clause-value
returns-then-other-clause-value c =
    let fp : FitsSigned w128 c.narrow_product.result = search rules in
    let e : checked_product c.args.self.now c.args.other.now ≡ Ok c.narrow_product.result = search rules in
    simp to_z-of_z (checked_product_value c.args.self.now c.args.other.now (Ok c.narrow_product.result) (sym e))
