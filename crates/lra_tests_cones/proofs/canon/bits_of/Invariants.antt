use Rattle.std.proofs.Common.{◌≡◌, length}
use Rattle.lra_tests_cones.proofs.canon.bits_of.Given as goal

abbrev pub invariant-loop-k : goal.invariant-loop-k
invariant-loop-k l = length l.row ≡ length l.values
