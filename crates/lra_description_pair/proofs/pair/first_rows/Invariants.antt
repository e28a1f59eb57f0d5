use Rattle.std.proofs.Common.{◌≡◌, take}
use Rattle.lra_description_pair.proofs.pair.first_rows.Given as goal

abbrev pub invariant-loop-place : goal.invariant-loop-place
invariant-loop-place l = record {
  dims : l.kept.dims ≡ l.list.dims;
  rows : l.kept.rows ≡ take l.place l.rows;
  kinds : l.kept.kinds ≡ take l.place l.kinds;
}
