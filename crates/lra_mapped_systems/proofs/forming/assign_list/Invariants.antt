use Rattle.std.proofs.Common.{◌≡◌, map, suc, take}
use Rattle.lra_mapped_systems.specs.Crates.lra_linear_spec.SetOperations.{assigned}
use Rattle.lra_mapped_systems.proofs.forming.assign_list.Given as goal

abbrev pub invariant-loop-place : goal.invariant-loop-place
invariant-loop-place l = record {
  dims : l.all.dims ≡ l.list.dims;
  rows : l.all.rows ≡ map (assigned (suc l.x) l.form) (take l.place l.rows);
  kinds : l.all.kinds ≡ take l.place l.kinds;
}
