-- Goals of `places_below`: the places of the products below 0.
use Rattle.std.proofs.{Common.◌≡◌, Common.ℕ, Common.arith, Common.length, Common.subst, Common.rules, Common.FitsSigned, Common.get_or, Common.pos, lemmas.Int.to_z-of_z}
use Rattle.std.specs.Int.{w128}
use Rattle.lra_double_description.specs.Below.{AreBelow}
use Rattle.lra_double_description.proofs.sides.places_below.Goals.{then-products-k-lt0+in_ok-push, else-products-k-lt0}
use Rattle.lra_double_description.proofs.{PairLists.less_said, PairLists.not_less_said, PairsBelow.below_start, PairsBelow.below_more, PairsBelow.below_skip}
use Rattle.lra_double_description.proofs.sides.places_below.Goals as goal

pub loop-k-init : goal.loop-k-init
loop-k-init c = below_start c.args.products.now c.new-places.result.items c.new-places.ensures.items

pub loop-k-preserved : goal.loop-k-preserved
loop-k-preserved c =
    let products = c.args.products.now in
    let k = c.loop-k.k in
    let fits : FitsSigned w128 (get_or products k (pos 0)) = search rules in
    elim c.if-products-k-lt0.branch [
      | then-products-k-lt0+in_ok-push w ↦ rw (w.places-is)
          (below_more products k c.loop-k.places.items w.push.new.self.items (less_said (get_or products k (pos 0)) (pos 0) (simp to_z-of_z at w.if-products-k-lt0.true)) w.in_ok-push.ensures.items
          c.loop-k.invariant)
      | else-products-k-lt0 w ↦ rw (w.places-is)
          (below_skip products 0 k c.loop-k.places.items (not_less_said (get_or products k (pos 0)) (pos 0) (simp to_z-of_z at w.if-products-k-lt0.false)) c.loop-k.invariant)
    ]

pub returns : goal.returns
returns c =
    let all : c.loop-k.k ≡ length c.args.products.now = omega (arith, c.loop-k-test.false, c.loop-k.auto.k-end) in
    subst (λ (n : ℕ). AreBelow c.args.products.now 0 n c.loop-k.places.items) all c.loop-k.invariant
