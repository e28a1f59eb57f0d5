-- Goals of `narrow_product`: the product of two rows of narrow numbers.
use Rattle.std.proofs.Common.{rules, arith, FitsSigned, ◌∙◌, ◌+◌, ◌<◌, ◌^◌, ◌+ℤ◌, ap, length, sym, subst, to_z}
use Rattle.std.proofs.{lemmas.Int.to_z-of_z, lemmas.Slice.Zip.Zip-more, lemmas.Slice.Zip.either_empty_from_Zip}
use Rattle.std.specs.Int.{w128}
use Rattle.lra_row.specs.Words.{IsNarrowSum}
use Rattle.lra_row.proofs.{CheckedRows.columns_end, Narrow.narrow_word, Narrow.narrow_first, Narrow.narrow_rest, Narrow.narrow_times, Narrow.narrow_fits, Narrow.narrow_column}
use Rattle.lra_row.proofs.entries.narrow_product.Goals as goal

pub loop-x-init : goal.loop-x-init
loop-x-init c = record {
  value = search rules;
  so_far = (0, search rules, (omega arith, omega arith));
  xs_narrow = search rules;
  ys_narrow = search rules;
}

pub multiply_words-sum-requires-clause-x_word : goal.multiply_words-sum-requires-clause-x_word
multiply_words-sum-requires-clause-x_word c =
    let fx : FitsSigned w128 c.in-Some.x.now = search rules in
    let n = Zip-more c.loop-x.x-iterator c.next.new.self c.next.result (c.in-Some.x, c.in-Some.y) c.in-Some.is c.next.ensures.steps in
    simp to_z-of_z (narrow_word _ (narrow_first _ _ _ n.0 c.loop-x.invariant.xs_narrow))

pub multiply_words-sum-requires-clause-y_word : goal.multiply_words-sum-requires-clause-y_word
multiply_words-sum-requires-clause-y_word c =
    let fy : FitsSigned w128 c.in-Some.y.now = search rules in
    let n = Zip-more c.loop-x.x-iterator c.next.new.self c.next.result (c.in-Some.x, c.in-Some.y) c.in-Some.is c.next.ensures.steps in
    simp to_z-of_z (narrow_word _ (narrow_first _ _ _ n.1 c.loop-x.invariant.ys_narrow))

pub overflow_add-sum : goal.overflow_add-sum
overflow_add-sum c =
    let fx : FitsSigned w128 c.in-Some.x.now = search rules in
    let fy : FitsSigned w128 c.in-Some.y.now = search rules in
    let fp : FitsSigned w128 c.multiply_words-sum.result = search rules in
    let i = c.loop-x.invariant in
    let n = Zip-more c.loop-x.x-iterator c.next.new.self c.next.result (c.in-Some.x, c.in-Some.y) c.in-Some.is c.next.ensures.steps in
    let p = simp to_z-of_z at c.multiply_words-sum.ensures.product in
    let one = subst (IsNarrowSum 1) (sym p) (narrow_times _ _ (narrow_first _ _ _ n.0 i.xs_narrow) (narrow_first _ _ _ n.1 i.ys_narrow)) in
    let few : i.so_far.0 + 1 < 2 ^ 64 = omega (arith, i.so_far.1, ap length n.0) in
    simp to_z-of_z (narrow_fits i.so_far.0 _ _ few i.so_far.2 one)

pub loop-x-preserved : goal.loop-x-preserved
loop-x-preserved c =
    let fx : FitsSigned w128 c.in-Some.x.now = search rules in
    let fy : FitsSigned w128 c.in-Some.y.now = search rules in
    let fp : FitsSigned w128 c.multiply_words-sum.result = search rules in
    let i = c.loop-x.invariant in
    let n = Zip-more c.loop-x.x-iterator c.next.new.self c.next.result (c.in-Some.x, c.in-Some.y) c.in-Some.is c.next.ensures.steps in
    let p = simp to_z-of_z at c.multiply_words-sum.ensures.product in
    let nx = narrow_first _ _ _ n.0 i.xs_narrow in
    let ny = narrow_first _ _ _ n.1 i.ys_narrow in
    let one = subst (IsNarrowSum 1) (sym p) (narrow_times _ _ nx ny) in
    let few : i.so_far.0 + 1 < 2 ^ 64 = omega (arith, i.so_far.1, ap length n.0) in
    let fs : FitsSigned w128 (to_z w128 c.loop-x.sum-bits +ℤ c.multiply_words-sum.result) = narrow_fits i.so_far.0 _ _ few i.so_far.2 one in
    let more = narrow_column i.so_far.0 _ _ _ _ _ _ _ _ n.0 n.1 p few i.so_far.2 nx ny in
    simp to_z-of_z (record {
      value = more.0 ∙ i.value;
      so_far = (i.so_far.0 + 1, omega (arith, i.so_far.1, ap length n.0), more.1);
      xs_narrow = narrow_rest _ _ _ n.0 i.xs_narrow;
      ys_narrow = narrow_rest _ _ _ n.1 i.ys_narrow;
    })

pub returns : goal.returns
returns c = sym (columns_end _ _ _ (either_empty_from_Zip c.loop-x.x-iterator c.next.new.self c.next.result c.in-None.is c.next.ensures.steps) ∙ c.loop-x.invariant.value)
