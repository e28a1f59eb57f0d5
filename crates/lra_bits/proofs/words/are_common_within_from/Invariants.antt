use Rattle.std.proofs.Common.{◌≡◌, ◌<◌, ℕ}
use Rattle.std.specs.{Int.Bits.bit_and, Prelude.slice_index}
use Rattle.lra_bits.proofs.words.are_common_within_from.Given as goal

abbrev pub invariant-loop-i : goal.invariant-loop-i
invariant-loop-i l = (j : ℕ) → j < l.i → bit_and (bit_and (slice_index l.xs j) (slice_index l.ys j)) (slice_index l.zs j) ≡ bit_and (slice_index l.xs j) (slice_index l.ys j)
