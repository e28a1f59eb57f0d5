use Rattle.std.proofs.Common.{◌≡◌, drop, length}
use Rattle.lra_systems.specs.LinearSystems.{constraints}
use Rattle.lra_poly_queries.proofs.SimplifiedRows.{IsSoFar}
use Rattle.lra_poly_queries.proofs.context.simplify.Given as goal

abbrev pub invariant-loop-place : goal.invariant-loop-place
invariant-loop-place l = record {
  dims : l.kept.dims ≡ l.p.dims;
  told : IsSoFar l.p l.context (constraints l.kept) (drop l.place (constraints l.list)) l.outcome;
  count : length l.kept.kinds ≡ length l.kept.rows;
}
