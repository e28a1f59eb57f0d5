use Rattle.std.proofs.Common.{◌≡◌, ◌+◌, ◌++◌, length, map, suc, take, true}
use Rattle.lra_mapped_systems.specs.Crates.{lra_linear_spec.Descriptions.rows_as, lra_linear_spec.Vectors.units, lra_linear_spec.Vectors.zeros}
use Rattle.lra_systems.specs.LinearSystems.{FitKinds, generators}
use Rattle.lra_mapped_systems.proofs.lists.with_new_lines.Given as goal

abbrev pub invariant-loop-i : goal.invariant-loop-i
invariant-loop-i l = record {
  dims : l.all.dims ≡ l.n + l.k;
  given : generators l.all ≡ generators l.fn.list ++
      rows_as true (map (λ u. zeros (suc l.n) ++ u) (take l.i (units l.k)));
  many : length l.all.rows ≡ length l.all.kinds;
  fit : FitKinds l.all.rows l.all.kinds;
}
