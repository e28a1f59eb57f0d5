use Rattle.std.proofs.Common.{◌≡◌, ◌≤◌, take}
use Rattle.lra_mapped_systems.proofs.forming.first_rows.Given as goal

abbrev pub invariant-loop-place : goal.invariant-loop-place
invariant-loop-place l = record {
  dims : l.chosen.dims ≡ l.list.dims;
  rows : l.chosen.rows ≡ take l.place l.rows;
  kinds : l.chosen.kinds ≡ take l.place l.kinds;
  low : l.place ≤ l.count;
}
