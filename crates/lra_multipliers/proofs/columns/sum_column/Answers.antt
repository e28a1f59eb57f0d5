-- Goals of `sum_column`: the sum of the rows with their factors in a column.
use Rattle.std.proofs.Common.{◌<◌, ◌*◌, rules, arith, length, ℕ, w64, Fits, FitsSigned, pos, get_or, Some, None, ◌∙◌, sym, subst, refl, to_z, List, ℤ}
use Rattle.std.proofs.lemmas.Int.{to_z-of_z}
use Rattle.std.specs.Int.{w128}
use Rattle.lra_multipliers.proofs.CheckLoops.{used_within, placed_all, placed_more}
use Rattle.lra_multipliers.proofs.columns.sum_column.Goals as goal

pub loop-place-init : goal.loop-place-init
loop-place-init c =
    let fs = c.ranges.first in
    simp to_z-of_z (record {
      so_far = placed_all c.args.first c.args.used.now c.args.factors.now c.args.rows.now c.args.column c.requires.used c.requires.count c.requires.first;
      in_range = c.requires.first;
    })

pub bounds-factors-place : goal.bounds-factors-place
bounds-factors-place c = used_within c.args.used.now c.args.factors.now c.loop-place.place-index 0 c.requires.used c.loop-place-test.true

pub offset_bounds-factors-place : goal.offset_bounds-factors-place
offset_bounds-factors-place c =
    let within = used_within c.args.used.now c.args.factors.now c.loop-place.place-index 0 c.requires.used c.loop-place-test.true in
    search rules

pub bounds-rows-place : goal.bounds-rows-place
bounds-rows-place c =
    let within = used_within c.args.used.now c.args.factors.now c.loop-place.place-index 0 c.requires.used c.loop-place-test.true in
    omega (arith, within, c.requires.count)

pub offset_bounds-rows-place : goal.offset_bounds-rows-place
offset_bounds-rows-place c =
    let within = used_within c.args.used.now c.args.factors.now c.loop-place.place-index 0 c.requires.used c.loop-place-test.true in
    let inside : get_or c.args.used.now c.loop-place.place-index 0 < length c.args.rows.now = omega (arith, within, c.requires.count) in
    search rules

pub get-requires : goal.get-requires
get-requires c =
    let within = used_within c.args.used.now c.args.factors.now c.loop-place.place-index 0 c.requires.used c.loop-place-test.true in
    let inside : get_or c.args.used.now c.loop-place.place-index 0 < length c.args.rows.now = omega (arith, within, c.requires.count) in
    subst (λ (r : List ℤ). c.args.column < length r) (sym c.index-rows-place.is)
    (c.requires.widths (get_or c.args.used.now c.loop-place.place-index 0) c.index-rows-place.result inside)

pub returns-in-None : goal.returns-in-None
returns-in-None c =
    let fs = c.ranges.first in
    let within = used_within c.args.used.now c.args.factors.now c.loop-place.place-index 0 c.requires.used c.loop-place-test.true in
    let inside : get_or c.args.used.now c.loop-place.place-index 0 < length c.args.rows.now = omega (arith, within, c.requires.count) in
    let ff : FitsSigned w128 (get_or c.args.factors.now (get_or c.args.used.now c.loop-place.place-index 0) (pos 0)) = search rules in
    let fe : FitsSigned w128 c.get.result = search rules in
    let i = simp to_z-of_z at c.loop-place.invariant.so_far in
    let e = simp to_z-of_z at c.in-None.ensures.value in
    sym (placed_more (to_z w128 c.loop-place.sum-bits) c.args.used.now c.args.factors.now c.args.rows.now c.args.column c.loop-place.place-index
    (get_or c.args.used.now c.loop-place.place-index 0) c.index-rows-place.result
    (get_or c.args.factors.now (get_or c.args.used.now c.loop-place.place-index 0) (pos 0)) c.get.result None c.loop-place-test.true refl inside
    c.index-rows-place.is refl c.get.ensures.entry e) ∙ i

pub loop-place-preserved : goal.loop-place-preserved
loop-place-preserved c =
    let fs = c.ranges.first in
    let within = used_within c.args.used.now c.args.factors.now c.loop-place.place-index 0 c.requires.used c.loop-place-test.true in
    let inside : get_or c.args.used.now c.loop-place.place-index 0 < length c.args.rows.now = omega (arith, within, c.requires.count) in
    let ff : FitsSigned w128 (get_or c.args.factors.now (get_or c.args.used.now c.loop-place.place-index 0) (pos 0)) = search rules in
    let fe : FitsSigned w128 c.get.result = search rules in
    let fn : FitsSigned w128 c.in-Some.next = search rules in
    let i = simp to_z-of_z at c.loop-place.invariant.so_far in
    let e = simp to_z-of_z at c.in-Some.ensures.value in
    simp to_z-of_z (record {
      so_far = sym (placed_more (to_z w128 c.loop-place.sum-bits) c.args.used.now c.args.factors.now c.args.rows.now c.args.column
          c.loop-place.place-index (get_or c.args.used.now c.loop-place.place-index 0) c.index-rows-place.result
          (get_or c.args.factors.now (get_or c.args.used.now c.loop-place.place-index 0) (pos 0)) c.get.result (Some c.in-Some.next)
          c.loop-place-test.true refl inside c.index-rows-place.is refl c.get.ensures.entry e) ∙ i;
      in_range = c.in-Some.ensures.in_range;
    })
