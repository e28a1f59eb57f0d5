use Rattle.std.proofs.Common.{length, ◌≡◌, ◌^◌}
use Rattle.std.specs.{List.list_all, Prelude.nat_le, Prelude.unsigned_abs}
use Rattle.lra_analysis_spec.specs.Thresholds.{has_small_numbers}
use Rattle.lra_linearize.proofs.thresholds.has_small_numbers.Given as goal

abbrev pub invariant-loop-number : goal.invariant-loop-number
invariant-loop-number l = has_small_numbers l.row ≡ list_all (λ z. nat_le (unsigned_abs z) (2 ^ 31)) l.left

abbrev pub decreases-loop-number : goal.decreases-loop-number
decreases-loop-number l = length l.left
