use Rattle.std.proofs.Common.{◌≡◌, ℕ, ◌<◌, ◌+◌, ◌*◌}
use Rattle.std.specs.{Int.bit_at, Prelude.◌↔◌}
use Rattle.lra_bits.specs.Matrix.{IsCommon}
use Rattle.lra_bits.proofs.sat_matrix.SatMatrix.common_word.Given as goal

abbrev pub invariant-loop-i : goal.invariant-loop-i
invariant-loop-i l = (j : ℕ) → j < 64 → (bit_at l.word j ≡ 1) ↔ IsCommon l.self l.rows l.marked l.i (l.at * 64 + j)
