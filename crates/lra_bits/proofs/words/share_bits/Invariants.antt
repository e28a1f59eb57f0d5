use Rattle.std.proofs.Common.{◌≡◌, ◌-◌}
use Rattle.lra_bits.specs.Words.{common_bits}
use Rattle.lra_bits.proofs.words.share_bits.Given as goal

abbrev pub invariant-loop-i : goal.invariant-loop-i
invariant-loop-i l = l.left ≡ l.fn.least - common_bits l.xs l.ys l.i
