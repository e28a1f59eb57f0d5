use Rattle.std.proofs.Common.{◌≡◌, ◌+◌, ◌++◌, map, take}
use Rattle.lra_mapped_systems.specs.Crates.lra_linear_spec.Vectors.{zeros}
use Rattle.lra_mapped_systems.proofs.lists.lengthen_list.Given as goal

abbrev pub invariant-loop-place : goal.invariant-loop-place
invariant-loop-place l = record {
  dims : l.all.dims ≡ l.list.dims + l.k;
  rows : l.all.rows ≡ map (λ r. r ++ zeros l.k) (take l.place l.rows);
  kinds : l.all.kinds ≡ take l.place l.kinds;
}
