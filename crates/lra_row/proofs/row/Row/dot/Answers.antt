-- Goals of `Row::dot`: the product with a row of the same width, or the first product or partial sum that passes.
use Rattle.std.proofs.{Common.rules, Common.FitsSigned, Common.Ok, Common.sym, lemmas.Int.to_z-of_z}
use Rattle.std.specs.Int.{w128}
use Rattle.lra_linear_spec.proofs.CheckedArithmetic.{checked_product_in_range}
use Rattle.lra_row.proofs.FirstPassing.{product_names_first}
use Rattle.lra_row.proofs.row.Row.dot.Goals as goal

pub returns-in-Some-clause-in_range : goal.returns-in-Some-clause-in_range
returns-in-Some-clause-in_range c =
    let fp : FitsSigned w128 c.in-Some.product = search rules in
    simp to_z-of_z (checked_product_in_range c.args.self.now c.args.other.now (Ok c.in-Some.product) (sym c.in-Some.ensures.exact))

pub returns-in-Some-clause-first : goal.returns-in-Some-clause-first
returns-in-Some-clause-first c = product_names_first c.args.self.now c.args.other.now (Ok c.in-Some.product) (sym c.in-Some.ensures.exact)
