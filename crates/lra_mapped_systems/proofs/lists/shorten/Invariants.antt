use Rattle.std.proofs.Common.{◌≡◌, map, suc, take}
use Rattle.lra_mapped_systems.proofs.lists.shorten.Given as goal

abbrev pub invariant-loop-place : goal.invariant-loop-place
invariant-loop-place l = record {
  dims : l.all.dims ≡ l.n;
  rows : l.all.rows ≡ map (take (suc l.n)) (take l.place l.rows);
  kinds : l.all.kinds ≡ take l.place l.kinds;
}
