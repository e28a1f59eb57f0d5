-- Goals of `sum_of`.
use Rattle.std.proofs.{Common.rules, Common.arith, Common.◌≡◌, Common.[], Common.◌∷◌, Common.◌∙◌, Common.sym, Common.FitsSigned, Common.to_z, lemmas.Int.ints, lemmas.Int.to_z-of_z}
use Rattle.std.specs.Int.{w64, w128}
use Rattle.lra_linear_forms.proofs.FormLemmas.{summing_step, product_nothing}
use Rattle.lra_linear_forms.proofs.form.sum_of.Goals as goal

pub returns-in_default-split_first-clause-value : goal.returns-in_default-split_first-clause-value
returns-in_default-split_first-clause-value c =
    let n : c.loop-factor.numbers.now ≡ [] = search rules in
    let value = rw (n, product_nothing c.loop-factor.factors.now, to_z-of_z w64 c.args.constant c.ranges.constant) at c.loop-factor.invariant.value in
    omega (arith, ints)

pub loop-factor-preserved : goal.loop-factor-preserved
loop-factor-preserved c =
    let f : c.loop-factor.factors.now ≡ c.in-Some.factor.now ∷ c.in-Some.factors_left.now = search rules in
    let n : c.loop-factor.numbers.now ≡ c.in-Some-split_first.number.now ∷ c.in-Some-split_first.numbers_left.now = search rules in
    let value = rw (f, n) at c.loop-factor.invariant.value in
    let passes = rw (f, n) at c.loop-factor.invariant.passes in
    let fit : FitsSigned w128 c.in-Some-plus_product.more = search rules in
    let step = summing_step (to_z w128 c.loop-factor.sum-bits) c.in-Some.factor.now c.in-Some-split_first.number.now c.in-Some-plus_product.more c.in-Some.factors_left.now
    c.in-Some-split_first.numbers_left.now c.in-Some-plus_product.ensures.0 (sym c.in-Some-plus_product.ensures.1) in
    rw (to_z-of_z w128 c.in-Some-plus_product.more fit) (record {
      value = sym step.0 ∙ value;
      passes = (λ h. passes.0 (step.1 h), λ h. step.2 (passes.1 h));
    })
