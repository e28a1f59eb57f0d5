-- Goals of `divisor_of`: the greatest number that divides each entry, 0 if all are 0.
use Rattle.std.proofs.Common.{rules, arith, FitsSigned, get_or, pos, unsigned_abs, ◌≡◌, ◌+◌, subst, to_z}
use Rattle.std.proofs.lemmas.Int.{ints, to_z-of_z}
use Rattle.std.specs.Int.{w128, IsGcd}
use Rattle.lra_row.proofs.RowDivisors.{divisor_further, divisor_whole, divisor_one}
use Rattle.lra_row.proofs.entries.divisor_of.Goals as goal

pub loop-number-preserved : goal.loop-number-preserved
loop-number-preserved c =
    let xs = c.args.xs.now in
    let i = c.loop-number.number-index in
    let fx : FitsSigned w128 (get_or xs i (pos 0)) = search rules in
    let fg : FitsSigned w128 c.gcd-divisor.result = search rules in
    let d = simp to_z-of_z at c.gcd-divisor.ensures.divides in
    simp to_z-of_z (divisor_further _ _ i xs (omega arith) d c.loop-number.invariant.0, c.gcd-divisor.ensures.nonnegative, c.gcd-divisor.ensures.in_range)

pub returns-clause-divisor : goal.returns-clause-divisor
returns-clause-divisor c = divisor_whole _ c.loop-number.number-index c.args.xs.now (omega arith) c.loop-number.invariant.0

pub returns-then-divisor-eq1-clause-divisor : goal.returns-then-divisor-eq1-clause-divisor
returns-then-divisor-eq1-clause-divisor c =
    let xs = c.args.xs.now in
    let i = c.loop-number.number-index in
    let fx : FitsSigned w128 (get_or xs i (pos 0)) = search rules in
    let fg : FitsSigned w128 c.gcd-divisor.result = search rules in
    let d = simp to_z-of_z at c.gcd-divisor.ensures.divides in
    let one : unsigned_abs c.gcd-divisor.result ≡ 1 = omega (arith, ints, c.if-divisor-eq1.true) in
    divisor_one (i + 1) xs (divisor_further _ 1 i xs (omega arith)
    (subst (λ n. IsGcd (unsigned_abs (to_z w128 c.loop-number.divisor-bits)) (unsigned_abs (get_or xs i (pos 0))) n) one d) c.loop-number.invariant.0)
