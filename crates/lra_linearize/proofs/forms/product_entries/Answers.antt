-- Goals of `product_entries`: the products with `factor`, if all have 64 bits.
use Rattle.std.proofs.Common.{rules, ◌≡◌, ◌++◌, [], ◌∷◌, Some, map}
use Rattle.std.specs.Prelude.{◌*ℤ◌}
use Rattle.lra_base.specs.declared.number_types.NumberType.TheVariants.{Long}
use Rattle.lra_linearize.specs.Crates.lra_program.Value.{number}
use Rattle.lra_linearize.proofs.FormSteps.{so_far_next}
use Rattle.lra_linearize.proofs.forms.product_entries.Goals as goal

pub loop-number-preserved : goal.loop-number-preserved
loop-number-preserved c =
    let left : c.loop-number.left.now ≡ c.in-Some.number.now ∷ c.in-Some.behind.now = search rules in
    let pushed : c.push.new.self.items ≡ c.loop-number.products.items ++ c.in-Some-product_entry.product ∷ [] = search rules in
    let is : Some c.in-Some-product_entry.product ≡ number Long (c.args.factor.now *ℤ c.in-Some.number.now) = search rules in
    rw pushed (so_far_next (map (λ z. c.args.factor.now *ℤ z) c.args.numbers.now) c.loop-number.products.items (map (λ z. c.args.factor.now *ℤ z) c.in-Some.behind.now)
    (c.args.factor.now *ℤ c.in-Some.number.now) c.in-Some-product_entry.product (rw left at c.loop-number.invariant) is)
