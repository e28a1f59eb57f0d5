use Rattle.std.proofs.Common.{◌≡◌, ◌++◌, take, replicate}
use Rattle.lra_descriptions.proofs.shown.push_constraints.Given as goal

abbrev pub invariant-loop-row : goal.invariant-loop-row
invariant-loop-row l = record {
  dims : l.list.dims ≡ l.fn.list.dims;
  rows : l.list.rows ≡ l.fn.list.rows ++ take l.row-index l.rows;
  kinds : l.list.kinds ≡ l.fn.list.kinds ++ replicate l.row-index l.kind;
}
