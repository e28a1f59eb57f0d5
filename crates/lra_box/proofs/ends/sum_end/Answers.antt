-- Goals of `sum_end`: the least or the greatest value of `constant + coefficients` over the intervals, summed from
-- the constant on in column order.
use Rattle.std.proofs.{Common.rules, Common.◌≡◌, Common.◌∷◌, Common.◌∙◌, Common.sym, Common.Some, Common.FitsSigned, Common.to_z, lemmas.Int.to_z-of_z}
use Rattle.std.specs.Int.{w128}
use Rattle.lra_box.specs.{Bounds.end_product, Sums.sum_step}
use Rattle.lra_box.proofs.ends.sum_end.Goals as goal

pub loop-factor-preserved : goal.loop-factor-preserved
loop-factor-preserved c =
    let f : c.loop-factor.factors.now ≡ c.in-Some-Some.factor.now ∷ c.in-Some-Some.factors_left.now = search rules in
    let i : c.loop-factor.intervals.now ≡ c.in-Some-Some.interval.now ∷ c.in-Some-Some.intervals_left.now = search rules in
    let rest = rw (f, i) at c.loop-factor.invariant.rest in
    let passes = rw (f, i) at c.loop-factor.invariant.passes in
    let fit : FitsSigned w128 c.in-Some-add.more = search rules in
    let product : end_product c.args.side c.in-Some-Some.factor.now c.in-Some-Some.interval.now ≡ Some c.in-Some.p = search rules in
    let step = sum_step c.args.side (to_z w128 c.loop-factor.sum-bits) c.in-Some-Some.factor.now c.in-Some.p c.in-Some-add.more c.in-Some-Some.interval.now c.in-Some-Some.factors_left.now
    c.in-Some-Some.intervals_left.now product (search rules) in
    rw (to_z-of_z w128 c.in-Some-add.more fit) (record {
      range = search rules;
      same_length = search rules;
      rest = sym step.0 ∙ rest;
      passes = λ h. passes (step.1 h);
    })
