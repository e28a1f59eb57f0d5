use Rattle.std.proofs.Common.{◌≡◌, ◌≢◌, ℕ, Some, length, slice_get, true}
use Rattle.lra_back.proofs.meets.none_settled.Given as goal

abbrev pub invariant-points : goal.invariant-points
invariant-points l = record {
  count : length l.settled.items ≡ l._point;
  none : (p : ℕ) → slice_get l.settled.items p ≢ Some true;
}
