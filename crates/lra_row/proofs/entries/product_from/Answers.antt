-- Goals of `product_from`: the sum of `start` and the product of two rows.
use Rattle.std.proofs.Common.{rules, FitsSigned, ◌∙◌, ap, Err, to_z, ◌+ℤ◌}
use Rattle.std.proofs.{lemmas.Int.to_z-of_z, lemmas.Result.err_from_is_err_and, lemmas.Slice.Zip.Zip-more, lemmas.Slice.Zip.either_empty_from_Zip}
use Rattle.std.specs.Int.{w128}
use Rattle.lra_row.proofs.{CheckedRows.columns_end, Words.sum_fits, Words.column_word, Words.column_ok, Words.column_err}
use Rattle.lra_row.proofs.entries.product_from.Goals as goal

pub overflow_add-sum : goal.overflow_add-sum
overflow_add-sum c =
    let fp : FitsSigned w128 c.multiply_words-sum.result = search rules in
    let room = c.has_room.ensures c.if-has_room.true in
    simp to_z-of_z (sum_fits _ c.multiply_words-sum.result room c.multiply_words-sum.ensures.bounds)

pub loop-x-preserved-then-is_word-2 : goal.loop-x-preserved-then-is_word-2
loop-x-preserved-then-is_word-2 c =
    let fx : FitsSigned w128 c.in-Some.x.now = search rules in
    let fy : FitsSigned w128 c.in-Some.y.now = search rules in
    let fp : FitsSigned w128 c.multiply_words-sum.result = search rules in
    let fs = c.ranges.start in
    let room = c.has_room.ensures c.if-has_room.true in
    let fn : FitsSigned w128 (to_z w128 c.loop-x.sum-bits +ℤ c.multiply_words-sum.result) = sum_fits _ _ room c.multiply_words-sum.ensures.bounds in
    let p = simp to_z-of_z at c.multiply_words-sum.ensures.product in
    let i = simp to_z-of_z at c.loop-x.invariant in
    let n = Zip-more c.loop-x.x-iterator c.next.new.self c.next.result (c.in-Some.x, c.in-Some.y) c.in-Some.is c.next.ensures.steps in
    simp to_z-of_z (column_word _ _ _ _ _ _ _ _ n.0 n.1 p room c.multiply_words-sum.ensures.bounds ∙ i)

pub returns-in_err-sum : goal.returns-in_err-sum
returns-in_err-sum c =
    let fx : FitsSigned w128 c.in-Some.x.now = search rules in
    let fy : FitsSigned w128 c.in-Some.y.now = search rules in
    let fs = c.ranges.start in
    let i = simp to_z-of_z at c.loop-x.invariant in
    let e = simp to_z-of_z at c.in_err-sum.ensures in
    let r = err_from_is_err_and c.from_residual.result c.from_residual.ensures.1 in
    let n = Zip-more c.loop-x.x-iterator c.next.new.self c.next.result (c.in-Some.x, c.in-Some.y) c.in-Some.is c.next.ensures.steps in
    r.1 ∙ ap Err r.2 ∙ column_err _ _ _ _ _ _ _ _ n.0 n.1 e ∙ i

pub loop-x-preserved : goal.loop-x-preserved
loop-x-preserved c =
    let fx : FitsSigned w128 c.in-Some.x.now = search rules in
    let fy : FitsSigned w128 c.in-Some.y.now = search rules in
    let fn : FitsSigned w128 c.in_ok-sum.sum = search rules in
    let fs = c.ranges.start in
    let i = simp to_z-of_z at c.loop-x.invariant in
    let q = simp to_z-of_z at c.in_ok-sum.ensures in
    let n = Zip-more c.loop-x.x-iterator c.next.new.self c.next.result (c.in-Some.x, c.in-Some.y) c.in-Some.is c.next.ensures.steps in
    simp to_z-of_z (column_ok _ _ _ _ _ _ _ _ n.0 n.1 q ∙ i)

pub returns : goal.returns
returns c =
    let fs = c.ranges.start in
    let i = simp to_z-of_z at c.loop-x.invariant in
    columns_end _ _ _ (either_empty_from_Zip c.loop-x.x-iterator c.next.new.self c.next.result c.in-None.is c.next.ensures.steps) ∙ i
