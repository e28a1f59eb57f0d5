-- Goals of `low_product`: the product of two rows modulo 2 ^ 64.
use Rattle.std.proofs.Common.{arith, rules, FitsSigned, get_or, pos, ℕ, ◌<◌, ◌≡◌, ◌^◌}
use Rattle.std.proofs.{lemmas.Int.ints, lemmas.Int.to_z-of_z, lemmas.List.get_or_default}
use Rattle.std.specs.Int.{w128}
use Rattle.lra_duality.proofs.ResidueLemmas.{residue_more, residue_start, wrapped}
use Rattle.lra_duality.proofs.exact.low_product.Goals as goal

pub loop-place-init : goal.loop-place-init
loop-place-init c = residue_start (pos (2 ^ 64)) c.args.xs.now c.args.ys.now (omega (arith, ints))

pub loop-place-preserved : goal.loop-place-preserved
loop-place-preserved c =
    let x = get_or c.args.xs.now c.loop-place.place (pos 0) in
    let y = get_or c.args.ys.now c.loop-place.place (pos 0) in
    let fx : FitsSigned w128 x = search rules in
    let fy : FitsSigned w128 y = search rules in
    let ea = simp to_z-of_z at c.low_word-a.ensures in
    let eb = simp to_z-of_z at c.low_word-b.ensures in
    residue_more (pos (2 ^ 64)) (pos c.loop-place.sum) x y (pos c.low_word-a.result) (pos c.low_word-b.result) _ c.args.xs.now c.args.ys.now c.loop-place.place (omega (arith, ints))
    c.loop-place-test.true c.requires (get_or_default c.args.xs.now c.loop-place.place (pos 0) x c.loop-place-test.true)
    (get_or_default c.args.ys.now c.loop-place.place (pos 0) y (below c.requires c.loop-place-test.true)) c.loop-place.invariant ea eb
    (wrapped c.loop-place.sum c.low_word-a.result c.low_word-b.result)
  where
    below : {n m k : ℕ} → m ≡ n → k < m → k < n
    below e h = omega (arith, e, h)
