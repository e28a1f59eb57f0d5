use Rattle.std.proofs.Common.{◌≡◌, ◌≢◌, ◌<◌, ℕ, Some, [], length, slice_get, true}
use Rattle.lra_back.specs.BackwardCalls.{task_view}
use Rattle.lra_back.proofs.tasks.Task.unsettle.Given as goal

-- of the points so far those that are marked are neither this one nor have paths to it
abbrev pub invariant-sources : goal.invariant-sources
invariant-sources g l = record {
  count : length l.settled.items ≡ length l.fn.settled.items;
  old : (q : ℕ) → slice_get l.settled.items q ≡ Some true → slice_get l.fn.settled.items q ≡ Some true;
  apart : (q : ℕ) → slice_get l.settled.items q ≡ Some true → q < l.other → q ≢ l.point;
  none : (q : ℕ) → slice_get l.settled.items q ≡ Some true → q < l.other → (task_view l.self).paths q l.point ≡ [];
}
