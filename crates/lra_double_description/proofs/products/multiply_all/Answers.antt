-- Goals of `multiply_all`: the products with each of the rows, or the first that passes the range.
use Rattle.std.proofs.{Common.rules, Common.arith, Common.FitsSigned, lemmas.Int.to_z-of_z}
use Rattle.std.specs.Int.{w128}
use Rattle.lra_double_description.proofs.RowProducts.{product_named, products_more}
use Rattle.lra_double_description.proofs.products.multiply_all.Goals as goal

pub returns-in-Err-clause-strained : goal.returns-in-Err-clause-strained
returns-in-Err-clause-strained c =
    product_named c.args.c.now c.args.rows.now c.args.family c.loop-place.place c.index-rows-place.result c.dot.result c.in-Err.excess (omega (arith, c.loop-place-test.true)) c.index-rows-place.is
    c.dot.ensures.exact c.in-Err.is

pub loop-place-preserved : goal.loop-place-preserved
loop-place-preserved c =
    let fits : FitsSigned w128 c.in-Ok.product = search rules in
    products_more c.args.c.now c.args.rows.now c.loop-place.place c.index-rows-place.result c.in-Ok.product c.loop-place.products.items c.push.new.self.items (omega (arith, c.loop-place-test.true))
    c.index-rows-place.is c.in-Ok.ensures.value c.in-Ok.ensures.in_range (simp to_z-of_z at c.in_ok-push-in-Ok.ensures.items) c.loop-place.invariant
