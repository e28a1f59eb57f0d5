-- Goals of `multiply_words`: the product of two words.
use Rattle.std.proofs.{Common.refl, lemmas.Int.to_z-of_z}
use Rattle.lra_row.proofs.Words.{word_fits, word_product, product_fits}
use Rattle.lra_row.proofs.number.multiply_words.Goals as goal

pub overflow_mul-result : goal.overflow_mul-result
overflow_mul-result c =
    let fx = c.ranges.x in
    let fy = c.ranges.y in
    let wx = word_fits c.args.x c.requires.x_word in
    let wy = word_fits c.args.y c.requires.y_word in
    simp to_z-of_z (product_fits c.args.x c.args.y c.requires.x_word c.requires.y_word)

pub returns-clause-product : goal.returns-clause-product
returns-clause-product c =
    let fx = c.ranges.x in
    let fy = c.ranges.y in
    let wx = word_fits c.args.x c.requires.x_word in
    let wy = word_fits c.args.y c.requires.y_word in
    let fp = product_fits c.args.x c.args.y c.requires.x_word c.requires.y_word in
    simp to_z-of_z refl

pub returns-clause-bounds : goal.returns-clause-bounds
returns-clause-bounds c =
    let fx = c.ranges.x in
    let fy = c.ranges.y in
    let wx = word_fits c.args.x c.requires.x_word in
    let wy = word_fits c.args.y c.requires.y_word in
    let fp = product_fits c.args.x c.args.y c.requires.x_word c.requires.y_word in
    simp to_z-of_z (word_product c.args.x c.args.y c.requires.x_word c.requires.y_word)
