-- Goals of `exceeds`: the comparison of the two values.
use Rattle.std.proofs.{Common.ℤ, Common.pos, Common.◌<ℤ◌, Common.sym, Common.subst, Common.arith, lemmas.Int.ints}
use Rattle.lra_duality.specs.Crates.lra_linear_spec.Vectors.{entry, product}
use Rattle.lra_duality.specs.Maxima.{directed}
use Rattle.lra_duality.proofs.BetterPoints.{stored_is, is_above, is_not_above}
use Rattle.lra_duality.proofs.maximum.exceeds.Goals as goal

pub returns-then-get-gt0-clause-above : goal.returns-then-get-gt0-clause-above
returns-then-get-gt0-clause-above c =
    let form = directed c.args.form.now c.args.is_opposite in
    let row = c.args.row.now in
    let best = c.args.best.now in
    let value = c.value_with-value.ensures in
    let best_value = c.value_with-best_value.ensures in
    let divisor = c.get-then-get-gt0.ensures in
    let best_divisor = c.get-then-get-gt0-2.ensures in
    is_above (product form row) (entry row 0) (product form best) (entry best 0) c.ratio_cmp.result c.eq.result
    (stored_is c.value_with-value.result (product form row) value.in_range value.value) (stored_is c.get-then-get-gt0.result (entry row 0) divisor.in_range divisor.entry)
    (stored_is c.value_with-best_value.result (product form best) best_value.in_range best_value.value)
    (stored_is c.get-then-get-gt0-2.result (entry best 0) best_divisor.in_range best_divisor.entry) c.ratio_cmp.ensures c.eq.ensures

pub returns-then-get-gt0-clause-not_above : goal.returns-then-get-gt0-clause-not_above
returns-then-get-gt0-clause-not_above c =
    let form = directed c.args.form.now c.args.is_opposite in
    let row = c.args.row.now in
    let best = c.args.best.now in
    let value = c.value_with-value.ensures in
    let best_value = c.value_with-best_value.ensures in
    let divisor = c.get-then-get-gt0.ensures in
    let best_divisor = c.get-then-get-gt0-2.ensures in
    λ no _. is_not_above (product form row) (entry row 0) (product form best) (entry best 0) c.ratio_cmp.result c.eq.result
    (stored_is c.value_with-value.result (product form row) value.in_range value.value) (stored_is c.get-then-get-gt0.result (entry row 0) divisor.in_range divisor.entry)
    (stored_is c.value_with-best_value.result (product form best) best_value.in_range best_value.value)
    (stored_is c.get-then-get-gt0-2.result (entry best 0) best_divisor.in_range best_divisor.entry) c.ratio_cmp.ensures c.eq.ensures no

pub returns-else-get-gt0-clause-not_above : goal.returns-else-get-gt0-clause-not_above
returns-else-get-gt0-clause-not_above c =
    λ _ above. let bad : pos 0 <ℤ c.get.result = subst (λ (z : ℤ). pos 0 <ℤ z) (sym c.get.ensures.entry) above in absurd (omega (arith, ints, bad, c.if-get-gt0.false))
