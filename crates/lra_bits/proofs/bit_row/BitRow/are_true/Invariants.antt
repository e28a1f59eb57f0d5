use Rattle.std.proofs.Common.{◌≡◌, ℕ, ◌<◌, true}
use Rattle.lra_bits.specs.TruthValues.{value_at}
use Rattle.lra_bits.proofs.bit_row.BitRow.are_true.Given as goal

abbrev pub invariant-loop-k : goal.invariant-loop-k
invariant-loop-k l = (j : ℕ) → j < l.k → value_at l.self j ≡ true
