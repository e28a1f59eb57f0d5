-- Goals of `adjacent_pairs`: the adjacent pairs of rays on both sides.
use Rattle.std.proofs.{Common.◌≡◌, Common.◌<◌, Common.ℕ, Common.arith, Common.length, Common.subst, Common.rules, Common.FitsSigned, Common.get_or, Common.pos, lemmas.Int.to_z-of_z}
use Rattle.std.specs.{Int.w128, List.All}
use Rattle.lra_double_description.specs.Pairs.{ArePairs}
use Rattle.lra_double_description.proofs.pairs.adjacent_pairs.Goals.{then-products-up-gt0+in_ok-push_pairs_of, else-products-up-gt0}
use Rattle.lra_double_description.proofs.{PairLists.less_said, PairLists.not_less_said, PairLists.pairs_skip_row, PairsBelow.below_inside}
use Rattle.lra_double_description.proofs.pairs.adjacent_pairs.Goals as goal

pub loop-up-preserved : goal.loop-up-preserved
loop-up-preserved c =
    let products = c.args.products.now in
    let up = c.loop-up.up in
    let fits : FitsSigned w128 (get_or products up (pos 0)) = search rules in
    elim c.if-products-up-gt0.branch [
      | then-products-up-gt0+in_ok-push_pairs_of w ↦ rw (w.pairs-is)
          (w.in_ok-push_pairs_of.ensures products (less_said (pos 0) (get_or products up (pos 0)) (simp to_z-of_z at w.if-products-up-gt0.true))
          (rw w.deref.ensures.value c.in_ok-downs.ensures) c.loop-up.invariant)
      | else-products-up-gt0 w ↦ rw (w.pairs-is) (pairs_skip_row c.args.products.now c.args.saturation.now.rows c.loop-up.up c.loop-up.pairs.items
          (not_less_said (pos 0) (get_or products up (pos 0)) (simp to_z-of_z at w.if-products-up-gt0.false)) c.loop-up.invariant)
    ]

pub push_pairs_of-requires-clause-each : goal.push_pairs_of-requires-clause-each
push_pairs_of-requires-clause-each c =
    let downs = c.in_ok-downs.downs.items in
    let inside = below_inside c.args.products.now 0 (length c.args.products.now) downs c.in_ok-downs.ensures in
    rw c.deref.ensures.value (subst (λ (n : ℕ). All (λ (down : ℕ). down < n) downs) c.requires.each inside)

pub returns : goal.returns
returns c =
    let all : c.loop-up.up ≡ length c.args.products.now = omega (arith, c.loop-up-test.false, c.loop-up.auto.up-end) in
    subst (λ (n : ℕ). ArePairs c.args.products.now c.args.saturation.now.rows n 0 c.loop-up.pairs.items) all c.loop-up.invariant
