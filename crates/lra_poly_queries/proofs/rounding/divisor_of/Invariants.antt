use Rattle.std.proofs.Common.{ℕ, drop, pos, ◌≤ℤ◌, unsigned_abs}
use Rattle.lra_poly_queries.specs.Crates.lra_linear_spec.Range.{InRange}
use Rattle.lra_poly_queries.proofs.Crates.lra_row.RowDivisors.{IsGcdWith}
use Rattle.lra_poly_queries.proofs.rounding.divisor_of.Given as goal

abbrev pub invariant-loop-number : goal.invariant-loop-number
invariant-loop-number l =
    ((g : ℕ) → IsGcdWith (unsigned_abs l.divisor) (drop l.number-index l.xs) g → IsGcdWith 0 l.xs g) × (pos 0 ≤ℤ l.divisor) × InRange l.divisor
