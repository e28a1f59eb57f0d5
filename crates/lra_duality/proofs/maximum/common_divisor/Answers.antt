-- Goals of `common_divisor`: the greatest number that divides both.
use Rattle.std.proofs.{Common.rules, Common.FitsSigned, lemmas.Int.to_z-of_z}
use Rattle.std.specs.Int.{w128}
use Rattle.lra_duality.proofs.MaximumLemmas.{common_above}
use Rattle.lra_duality.proofs.maximum.common_divisor.Goals as goal

pub returns-clause-divides : goal.returns-clause-divides
returns-clause-divides c =
    let fits : FitsSigned w128 c.gcd.result = search rules in
    let fv : FitsSigned w128 c.args.value = c.ranges.value in
    let fd : FitsSigned w128 c.args.divisor = c.ranges.divisor in
    let divides = simp to_z-of_z at c.gcd.ensures.divides in
    simp to_z-of_z divides

pub returns-clause-positive : goal.returns-clause-positive
returns-clause-positive c =
    let fits : FitsSigned w128 c.gcd.result = search rules in
    let fv : FitsSigned w128 c.args.value = c.ranges.value in
    let fd : FitsSigned w128 c.args.divisor = c.ranges.divisor in
    let divides = simp to_z-of_z at c.gcd.ensures.divides in
    simp to_z-of_z (common_above c.args.value c.args.divisor c.gcd.result divides c.gcd.ensures.nonnegative
    c.requires.positive)
