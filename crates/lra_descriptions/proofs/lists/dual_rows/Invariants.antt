use Rattle.std.proofs.Common.{◌≡◌, take, map}
use Rattle.lra_descriptions.specs.ShownLists.{dual_kind}
use Rattle.lra_descriptions.proofs.lists.dual_rows.Given as goal

abbrev pub invariant-loop-place : goal.invariant-loop-place
invariant-loop-place l = record {
  dims : l.rows.dims ≡ l.given.dims;
  rows : l.rows.rows ≡ take l.place l.listed;
  kinds : l.rows.kinds ≡ map dual_kind (take l.place l.kinds);
}
