-- Goals of `mark_tight`: true if the product is 0, and at so many further places.
use Rattle.std.proofs.Common.{◌≡◌, ◌+◌, arith, get_or, length, pos, refl, rules, set}
use Rattle.std.specs.Ordering.{int_eq}
use Rattle.lra_double_description.proofs.Filling.{set_more, set_none, tight_end}
use Rattle.lra_double_description.proofs.saturation.mark_tight.Goals as goal

pub loop-k-init : goal.loop-k-init
loop-k-init c = set_none (λ j. int_eq (get_or c.args.products.now j (pos 0)) (pos 0)) (length c.args.products.now + c.args.further) c.in_ok-values.values c.in_ok-values.ensures

pub returns : goal.returns
returns c = tight_end c.args.products.now c.args.further c.loop-k.k c.loop-k.values (omega (arith, c.loop-k-test.false, c.loop-k.auto.k-end)) c.loop-k.invariant

pub loop-k-preserved : goal.loop-k-preserved
loop-k-preserved c =
    let products = c.args.products.now in
    let marked : c.set.new.self ≡ set c.loop-k.values c.loop-k.k (int_eq (get_or products c.loop-k.k (pos 0)) (pos 0)) = search rules in
    set_more (λ j. int_eq (get_or products j (pos 0)) (pos 0)) (length products + c.args.further) c.loop-k.k c.loop-k.values c.set.new.self (int_eq (get_or products c.loop-k.k (pos 0)) (pos 0))
    (omega (arith, c.loop-k-test.true, c.loop-k.auto.k-end)) refl marked c.loop-k.invariant
