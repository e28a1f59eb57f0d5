-- Goals of `divisor_of`: the greatest number that divides each entry, 0 if all are 0.
use Rattle.std.proofs.{Common.rules, Common.arith, Common.FitsSigned, Common.get_or, Common.pos, lemmas.Int.to_z-of_z}
use Rattle.std.specs.Int.{w128}
use Rattle.lra_poly_queries.proofs.Crates.lra_row.RowDivisors.{divisor_further, divisor_whole}
use Rattle.lra_poly_queries.proofs.rounding.divisor_of.Goals as goal

pub loop-number-preserved : goal.loop-number-preserved
loop-number-preserved c =
    let xs = c.args.xs.now in
    let i = c.loop-number.number-index in
    let fx : FitsSigned w128 (get_or xs i (pos 0)) = search rules in
    let fg : FitsSigned w128 c.gcd-divisor.result = search rules in
    let d = simp to_z-of_z at c.gcd-divisor.ensures.divides in
    simp to_z-of_z (divisor_further _ _ i xs (omega arith) d c.loop-number.invariant.0, c.gcd-divisor.ensures.nonnegative, c.gcd-divisor.ensures.in_range)

pub returns-clause-divisor : goal.returns-clause-divisor
returns-clause-divisor c = divisor_whole _ c.loop-number.number-index c.args.xs.now (omega arith) c.loop-number.invariant.0
