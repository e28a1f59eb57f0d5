use Rattle.std.proofs.Common.{◌≡◌, ◌++◌, drop, length}
use Rattle.lra_systems.specs.LinearSystems.{constraints}
use Rattle.lra_poly_queries.proofs.context.join_from.Given as goal

abbrev pub invariant-loop-place : goal.invariant-loop-place
invariant-loop-place l = record {
  dims : l.all.dims ≡ l.front.dims;
  given : constraints l.all ++ drop l.place (constraints l.list) ≡
      constraints l.front ++ drop l.start (constraints l.list);
  count : length l.all.kinds ≡ length l.all.rows;
}
