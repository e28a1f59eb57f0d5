use Rattle.std.proofs.Common.{◌≡◌, ◌-◌, count_ones}
use Rattle.lra_bits.proofs.words.take_ones.Given as goal

abbrev pub invariant-loop-bits : goal.invariant-loop-bits
invariant-loop-bits l = l.left - count_ones l.bits ≡ l.fn.number - count_ones l.fn.word

abbrev pub decreases-loop-bits : goal.decreases-loop-bits
decreases-loop-bits l = l.left
