use Rattle.std.proofs.Common.{◌≡◌, ◌<◌, ℕ}
use Rattle.std.specs.{Int.Bits.bit_and, Prelude.slice_index}
use Rattle.lra_bits.proofs.words.count_apart.Given as goal

abbrev pub invariant-loop-i : goal.invariant-loop-i
invariant-loop-i l = (j : ℕ) → j < l.i → bit_and (slice_index l.xs j) (slice_index l.ys j) ≡ 0
