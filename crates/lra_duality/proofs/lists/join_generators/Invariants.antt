use Rattle.std.proofs.Common.{◌≡◌, ◌++◌, take}
use Rattle.lra_duality.proofs.lists.join_generators.Given as goal

abbrev pub invariant-loop-place : goal.invariant-loop-place
invariant-loop-place l = record {
  dims : l.all.dims ≡ l.first.dims;
  rows : l.all.rows ≡ l.first.rows ++ take l.place l.given;
  kinds : l.all.kinds ≡ l.first.kinds ++ take l.place l.kinds;
}
