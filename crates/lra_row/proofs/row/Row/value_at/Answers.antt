-- Goals of `Row::value_at`: the product with the vector whose column 0 is `divisor` and whose further columns are
-- `numerators`.
use Rattle.std.proofs.{Common.◌∷◌, Common.◌∙◌, Common.ap, Common.List, Common.ℤ, lemmas.Int.to_z-of_z}
use Rattle.lra_linear_spec.specs.CheckedArithmetic.{checked_product}
use Rattle.lra_linear_spec.proofs.CheckedArithmetic.{checked_product_value}
use Rattle.lra_row.proofs.row.Row.value_at.Goals as goal

pub returns-clause-value : goal.returns-clause-value
returns-clause-value c =
    let fd = c.ranges.divisor in
    let e = simp to_z-of_z at c.product_at.ensures in
    checked_product_value c.args.self.now (c.args.divisor ∷ c.args.numerators.now) _
    (e ∙ ap (λ (xs : List ℤ). checked_product xs (c.args.divisor ∷ c.args.numerators.now)) (c.as_slice.ensures ∙ c.self.view_is))
