use Rattle.std.proofs.Common.{◌≡◌, ◌+◌, ◌*◌, ◌≤◌, drop}
use Rattle.lra_box.specs.Tables.{finite_bounds}
use Rattle.lra_box.proofs.intervals.count_bounds.Given as goal

abbrev pub invariant-loop-interval : goal.invariant-loop-interval
invariant-loop-interval l = record {
  few : l.count ≤ 2 * l.interval-index;
  rest : l.count + finite_bounds (drop l.interval-index l.bounds) ≡ finite_bounds l.bounds;
}
