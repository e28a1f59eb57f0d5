-- Goals of `mark_saturated`: for each of the generators, whether the row has product 0 with it.
use Rattle.std.proofs.{Common.ap, Common.arith, Common.get_or, Common.length, Common.pos, Common.sym, Common.true, Common.List, Common.ℤ, Common.[], Common.◌∙◌, Common.◌≡◌, lemmas.List.get_or_default}
use Rattle.std.specs.Ordering.{int_eq}
use Rattle.lra_duality.specs.Crates.{lra_linear_spec.Kinds.is_line, lra_linear_spec.Vectors.product}
use Rattle.lra_duality.proofs.Crates.{lra_double_description.Filling.filled_more, lra_double_description.Thirds.filled_skip}
use Rattle.lra_duality.proofs.{SaturationLemmas.filled_saturated, saturation.mark_saturated.Goals.then-saturates, saturation.mark_saturated.Goals.else-saturates}
use Rattle.lra_duality.proofs.saturation.mark_saturated.Goals as goal

pub loop-place-preserved : goal.loop-place-preserved
loop-place-preserved c =
    let row = c.args.row.now in
    let rows = c.rows-rows.result.now in
    let k = c.loop-place.place in
    let at : c.index-rows-place.result ≡ get_or rows k [] = c.index-rows-place.is ∙ get_or_default rows k c.index-rows-place.result [] c.loop-place-test.true in
    let is : c.saturates.result ≡ int_eq (product row (get_or rows k [])) (pos 0) = c.saturates.ensures ∙ ap (λ (y : List ℤ). int_eq (product row y) (pos 0)) at in
    elim c.if-saturates.branch [
      | then-saturates w ↦ rw (w.bits-is) (filled_more (λ j. int_eq (product row (get_or rows j [])) (pos 0)) (length rows) k c.loop-place.bits w.set.new.self true
          (c.loop-place-test.true) (sym w.if-saturates.true ∙ is) w.set.ensures c.loop-place.invariant)
      | else-saturates w ↦ rw (w.bits-is) (filled_skip (λ j. int_eq (product row (get_or rows j [])) (pos 0)) (length rows) k c.loop-place.bits c.saturates.result is
          w.if-saturates.false c.loop-place.invariant)
    ]

pub returns : goal.returns
returns c = filled_saturated is_line c.args.list.now c.rows-rows.result.now c.kinds-kinds.result.now c.args.row.now c.loop-place.bits c.loop-place.place c.rows-rows.ensures.rows
    c.kinds-kinds.ensures.kinds
    c.kinds-kinds.ensures.len (omega (arith, c.loop-place-test.false)) c.loop-place.invariant
