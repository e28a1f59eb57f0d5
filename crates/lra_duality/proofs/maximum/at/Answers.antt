-- Goals of `at`: the form's value at the point, in lowest terms.
use Rattle.std.proofs.{Common.rules, Common.FitsSigned, lemmas.Int.to_z-of_z, lemmas.Int.quot_is, lemmas.Int.quot_fits}
use Rattle.std.specs.Int.{w128}
use Rattle.lra_duality.specs.Crates.lra_linear_spec.Vectors.{entry, product}
use Rattle.lra_duality.specs.Maxima.{directed}
use Rattle.lra_duality.proofs.MaximumLemmas.{in_lowest_terms, quotient_above, quotient_in_range}
use Rattle.lra_duality.proofs.maximum.at.Goals as goal

pub returns-clause-greatest : goal.returns-clause-greatest
returns-clause-greatest c =
    let value = c.value_with-value.result in
    let divisor = c.get-divisor.result in
    let common = c.common_divisor-common.result in
    let fv : FitsSigned w128 value = search rules in
    let fd : FitsSigned w128 divisor = search rules in
    let fc : FitsSigned w128 common = search rules in
    let is_value = c.value_with-value.ensures.value in
    let is_divisor = c.get-divisor.ensures.entry in
    let divides = simp to_z-of_z at c.common_divisor-common.ensures.divides in
    let above = c.common_divisor-common.ensures.positive in
    in_lowest_terms (directed c.args.form.now c.args.is_opposite) value divisor (product (directed c.args.form.now c.args.is_opposite) c.args.point.now)
    (entry c.args.point.now 0) common _ _ c.args.place is_value is_divisor divides above
    c.requires.divisor (quot_is w128 value common fv fc (quot_fits w128 value common fv above))
    (quot_is w128 divisor common fd fc (quot_fits w128 divisor common fd above))

pub returns-clause-range : goal.returns-clause-range
returns-clause-range c =
    let value = c.value_with-value.result in
    let divisor = c.get-divisor.result in
    let common = c.common_divisor-common.result in
    let fv : FitsSigned w128 value = search rules in
    let fd : FitsSigned w128 divisor = search rules in
    let fc : FitsSigned w128 common = search rules in
    let divides = simp to_z-of_z at c.common_divisor-common.ensures.divides in
    let above = c.common_divisor-common.ensures.positive in (
      quotient_in_range value common _ c.value_with-value.ensures.in_range above divides.0
          (quot_is w128 value common fv fc (quot_fits w128 value common fv above)),
      quotient_in_range divisor common _ c.get-divisor.ensures.in_range above divides.1
          (quot_is w128 divisor common fd fc (quot_fits w128 divisor common fd above)),
      quotient_above divisor common _ (rw c.get-divisor.ensures.entry c.requires.divisor) above divides.1
          (quot_is w128 divisor common fd fc (quot_fits w128 divisor common fd above)),
    )
