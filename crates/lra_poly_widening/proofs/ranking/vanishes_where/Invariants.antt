use Rattle.std.proofs.Common.{◌≡◌, ℕ, ◌<◌, [], get_or}
use Rattle.lra_poly_widening.specs.Crates.lra_bits.TruthValues.{value_at}
use Rattle.lra_poly_widening.specs.Saturated.{vanishes}
use Rattle.lra_poly_widening.proofs.ranking.vanishes_where.Given as goal

abbrev pub invariant-loop-place : goal.invariant-loop-place
invariant-loop-place l = (j : ℕ) → j < l.place → value_at l.bits j ≡ vanishes l.row (get_or l.rows j [])
