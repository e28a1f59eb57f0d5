-- Goals of `push_coordinate`: appends a coordinate in lowest terms.
use Rattle.std.proofs.{Common.FitsSigned, lemmas.Int.to_z-of_z}
use Rattle.std.specs.Int.{w128}
use Rattle.lra_row_text.proofs.LowestTerms.{common_above, divisor_left, lowest_text}
use Rattle.lra_row_text.proofs.generator.push_coordinate.Goals as goal

pub quotient-requires-clause-divides : goal.quotient-requires-clause-divides
quotient-requires-clause-divides c =
    let fz = c.ranges.numerator in
    let fd = c.ranges.divisor in
    let fg : FitsSigned w128 c.gcd-common.result = record { sfits = c.gcd-common.type_inv } in
    let is = simp to_z-of_z at c.gcd-common.ensures.divides in
    simp to_z-of_z (common_above c.args.numerator c.args.divisor c.gcd-common.result c.requires.divides is c.gcd-common.ensures.nonnegative)

pub quotient-requires-2-clause-divides : goal.quotient-requires-2-clause-divides
quotient-requires-2-clause-divides c =
    let fz = c.ranges.numerator in
    let fd = c.ranges.divisor in
    let fg : FitsSigned w128 c.gcd-common.result = record { sfits = c.gcd-common.type_inv } in
    let is = simp to_z-of_z at c.gcd-common.ensures.divides in
    simp to_z-of_z (common_above c.args.numerator c.args.divisor c.gcd-common.result c.requires.divides is c.gcd-common.ensures.nonnegative)

pub push_fraction-requires : goal.push_fraction-requires
push_fraction-requires c =
    let fz = c.ranges.numerator in
    let fd = c.ranges.divisor in
    let fg : FitsSigned w128 c.gcd-common.result = record { sfits = c.gcd-common.type_inv } in
    let fq : FitsSigned w128 c.quotient-2.result = record { sfits = c.quotient-2.type_inv } in
    let is = simp to_z-of_z at c.gcd-common.ensures.divides in
    let left = simp to_z-of_z at c.quotient-2.ensures in
    rw (to_z-of_z w128 c.quotient-2.result fq, left) (divisor_left c.args.numerator c.args.divisor c.gcd-common.result c.requires.divides is c.gcd-common.ensures.nonnegative)

pub returns : goal.returns
returns c =
    let fz = c.ranges.numerator in
    let fd = c.ranges.divisor in
    let fg : FitsSigned w128 c.gcd-common.result = record { sfits = c.gcd-common.type_inv } in
    let fq : FitsSigned w128 c.quotient.result = record { sfits = c.quotient.type_inv } in
    let fr : FitsSigned w128 c.quotient-2.result = record { sfits = c.quotient-2.type_inv } in
    let is = simp to_z-of_z at c.gcd-common.ensures.divides in
    let top = simp to_z-of_z at c.quotient.ensures in
    let left = simp to_z-of_z at c.quotient-2.ensures in
    rw (← lowest_text c.args.numerator c.args.divisor c.gcd-common.result c.requires.divides is c.gcd-common.ensures.nonnegative, ← top, ← left) (simp to_z-of_z at c.push_fraction.ensures)
