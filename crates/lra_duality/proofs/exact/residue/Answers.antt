-- Goals of `residue`: what is left of the product of two rows when it is divided by the modulus.
use Rattle.std.proofs.{Common.arith, Common.rules, Common.FitsSigned, Common.get_or, Common.pos, Common.ℕ, Common.◌<◌, Common.◌≡◌, Common.to_z, lemmas.Int.to_z-of_z, lemmas.List.get_or_default}
use Rattle.std.specs.Int.{w128}
use Rattle.lra_duality.proofs.ResidueLemmas.{not_minus_one, parts_fit, residue_more, residue_start, whole_fits}
use Rattle.lra_duality.proofs.exact.residue.Goals as goal

pub loop-place-init : goal.loop-place-init
loop-place-init c =
    let fm = c.ranges.modulus in
    simp to_z-of_z (residue_start c.args.modulus c.args.xs.now c.args.ys.now c.requires.positive)

pub overflow_mul-a : goal.overflow_mul-a
overflow_mul-a c =
    let x = get_or c.args.xs.now c.loop-place.place (pos 0) in
    let y = get_or c.args.ys.now c.loop-place.place (pos 0) in
    let fm = c.ranges.modulus in
    let fx : FitsSigned w128 x = search rules in
    let fy : FitsSigned w128 y = search rules in
    let fa : FitsSigned w128 c.rem_euclid-a.result = search rules in
    let fb : FitsSigned w128 c.rem_euclid-b.result = search rules in
    let ea = simp to_z-of_z at c.rem_euclid-a.ensures.value in
    let eb = simp to_z-of_z at c.rem_euclid-b.ensures.value in
    simp to_z-of_z (parts_fit x y c.args.modulus c.rem_euclid-a.result c.rem_euclid-b.result c.requires.positive c.requires.small ea eb)

pub overflow_add-sum : goal.overflow_add-sum
overflow_add-sum c =
    let x = get_or c.args.xs.now c.loop-place.place (pos 0) in
    let y = get_or c.args.ys.now c.loop-place.place (pos 0) in
    let fm = c.ranges.modulus in
    let fx : FitsSigned w128 x = search rules in
    let fy : FitsSigned w128 y = search rules in
    let fa : FitsSigned w128 c.rem_euclid-a.result = search rules in
    let fb : FitsSigned w128 c.rem_euclid-b.result = search rules in
    let ea = simp to_z-of_z at c.rem_euclid-a.ensures.value in
    let eb = simp to_z-of_z at c.rem_euclid-b.ensures.value in
    let i = simp to_z-of_z at c.loop-place.invariant in
    let fab = parts_fit x y c.args.modulus c.rem_euclid-a.result c.rem_euclid-b.result c.requires.positive c.requires.small ea eb in
    simp to_z-of_z (whole_fits x y c.args.modulus c.rem_euclid-a.result c.rem_euclid-b.result (to_z w128 c.loop-place.sum-bits) _ c.requires.positive c.requires.small ea eb i)

pub rem_euclid-sum-requires-clause-no_overflow : goal.rem_euclid-sum-requires-clause-no_overflow
rem_euclid-sum-requires-clause-no_overflow c =
    let fm = c.ranges.modulus in
    λ e. let f = simp to_z-of_z at e in absurd (not_minus_one c.args.modulus fm c.requires.positive f)

pub loop-place-preserved : goal.loop-place-preserved
loop-place-preserved c =
    let x = get_or c.args.xs.now c.loop-place.place (pos 0) in
    let y = get_or c.args.ys.now c.loop-place.place (pos 0) in
    let fm = c.ranges.modulus in
    let fx : FitsSigned w128 x = search rules in
    let fy : FitsSigned w128 y = search rules in
    let fa : FitsSigned w128 c.rem_euclid-a.result = search rules in
    let fb : FitsSigned w128 c.rem_euclid-b.result = search rules in
    let ft : FitsSigned w128 c.rem_euclid-sum.result = search rules in
    let ea = simp to_z-of_z at c.rem_euclid-a.ensures.value in
    let eb = simp to_z-of_z at c.rem_euclid-b.ensures.value in
    let i = simp to_z-of_z at c.loop-place.invariant in
    let fab = parts_fit x y c.args.modulus c.rem_euclid-a.result c.rem_euclid-b.result c.requires.positive c.requires.small ea eb in
    let fsab = whole_fits x y c.args.modulus c.rem_euclid-a.result c.rem_euclid-b.result (to_z w128 c.loop-place.sum-bits) _ c.requires.positive c.requires.small ea eb i in
    let et = simp to_z-of_z at c.rem_euclid-sum.ensures.value in
    simp to_z-of_z (residue_more c.args.modulus (to_z w128 c.loop-place.sum-bits) x y c.rem_euclid-a.result c.rem_euclid-b.result c.rem_euclid-sum.result c.args.xs.now c.args.ys.now c.loop-place.place
    c.requires.positive c.loop-place-test.true c.requires.widths (get_or_default c.args.xs.now c.loop-place.place (pos 0) x c.loop-place-test.true)
    (get_or_default c.args.ys.now c.loop-place.place (pos 0) y (below c.requires.widths c.loop-place-test.true)) i ea eb et)
  where
    below : {n m k : ℕ} → m ≡ n → k < m → k < n
    below e h = omega (arith, e, h)
