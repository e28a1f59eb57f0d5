-- Goals of `blend_entry`: a u + b v in one column.
use Rattle.std.proofs.{Common.rules, Common.FitsSigned, lemmas.Int.to_z-of_z}
use Rattle.std.specs.Int.{w128}
use Rattle.lra_row.proofs.Words.{sum_fits, entry_words}
use Rattle.lra_row.proofs.entries.blend_entry.Goals as goal

pub overflow_add-result : goal.overflow_add-result
overflow_add-result c =
    let fp : FitsSigned w128 c.multiply_words-left.result = search rules in
    let fq : FitsSigned w128 c.multiply_words.result = search rules in
    let room = simp to_z-of_z at c.has_room.ensures in
    simp to_z-of_z (sum_fits c.multiply_words-left.result c.multiply_words.result (room c.if-has_room.true) c.multiply_words.ensures.bounds)

pub returns-then-has_room : goal.returns-then-has_room
returns-then-has_room c =
    let fa = c.ranges.a in
    let fb = c.ranges.b in
    let fu = c.ranges.u in
    let fv = c.ranges.v in
    let fp : FitsSigned w128 c.multiply_words-left.result = search rules in
    let fq : FitsSigned w128 c.multiply_words.result = search rules in
    let room = simp to_z-of_z at c.has_room.ensures in
    let left = simp to_z-of_z at c.multiply_words-left.ensures.product in
    let right = simp to_z-of_z at c.multiply_words.ensures.product in
    let fs = sum_fits c.multiply_words-left.result c.multiply_words.result (room c.if-has_room.true) c.multiply_words.ensures.bounds in
    simp to_z-of_z (entry_words c.args.a c.args.b c.args.u c.args.v _ _ left right c.multiply_words-left.ensures.bounds c.multiply_words.ensures.bounds (room c.if-has_room.true))
