use Rattle.std.proofs.Common.{◌≡◌, length, map, take}
use Rattle.lra_poly_queries.specs.Moved.{chosen}
use Rattle.lra_poly_queries.proofs.moving.choose_list.Given as goal

abbrev pub invariant-loop-place : goal.invariant-loop-place
invariant-loop-place l = record {
  dims : l.all.dims ≡ length l.dims;
  rows : l.all.rows ≡ map (chosen l.dims) (take l.place l.rows);
  kinds : l.all.kinds ≡ take l.place l.kinds;
}
