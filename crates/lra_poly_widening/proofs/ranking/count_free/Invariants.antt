use Rattle.std.proofs.Common.{◌≡◌, ◌≤◌, length, take}
use Rattle.std.specs.List.{filter}
use Rattle.lra_systems.specs.LinearSystems.{constraints}
use Rattle.lra_poly_widening.specs.Rank.{held_thresholds, is_free}
use Rattle.lra_poly_widening.proofs.ranking.count_free.Given as goal

abbrev pub invariant-loop-place : goal.invariant-loop-place
invariant-loop-place l = record {
  few : l.count ≤ l.place;
  counted : l.count ≡ length (filter (is_free l.p (held_thresholds l.p (constraints l.given))) (take l.place l.p.rows));
}
